-- Stacks as what a pass adds to a specification, and the linear process on one that is plainly conditioned.
use Rattle.std.specs.Prelude.{◌≡◌, ◌≤◌, List, [], ◌∷◌, length}
use Rattle.data_theory.specs.Declarations.{Data}
use Rattle.data_theory.specs.Signature.{Sig}
use Rattle.data_theory.specs.IdData.{data_meant}
use Rattle.term_pool.specs.Pools.{PoolContents}
use Rattle.process_terms.specs.Processes.{Bound}
use Rattle.lps_core.specs.MadeTerms.{Written, StackSort, IsPlain}
use Rattle.lps_core.specs.PlainLinears.{PlainLinear}
use Rattle.greibach.specs.PlainForms.{PlainForm}
use Rattle.greibach.specs.PlainTerms.{FormIsPlain}
use Rattle.stack_encoder.specs.StackEncoding.{StackSymbols, IsStack}

-- the numbers of its sort and of its functions
abbrev pub stack_under : StackSymbols → StackSort
stack_under k = record { sort = k.names.sort; push = k.names.push; empty = k.names.empty; is_push = k.is_push; number = k.pc; columns = k.fields; rest = k.rest }

-- The later data have the sort of the stack over some columns, with all its functions. The earlier ones don't have the sort.
pub record IsAddedStack (earlier later : Data) (s : StackSort) : Type 0 where
  pub symbols : StackSymbols
  pub is : s ≡ stack_under symbols
  pub columns : List Bound
  pub stands : IsStack later symbols columns
  pub new : length earlier.sorts ≤ s.sort

-- A stack was added, and with it the linear process is plainly conditioned for each specification for which the form is. No parameter but
-- the stack is added.
pub record IsPlainOnStack (g h : Sig) (q : PoolContents) (f : PlainForm) (made : PlainLinear) : Type 0 where
  pub stack : StackSort
  pub added : IsAddedStack (data_meant g) (data_meant h) stack
  pub plain : (w : Written) → FormIsPlain h q w [] f → IsPlain h q w (stack ∷ []) [] made
