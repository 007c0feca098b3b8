-- Of which sides a product in code is the product.
use Rattle.std.specs.Prelude.{◌≡◌, ◌++◌, List, []}
use Rattle.data_theory.specs.Declarations.{Data, HaveSorts}
use Rattle.data_theory.specs.Environments.{terms_of}
use Rattle.data_theory.specs.EqualityLaws.{Grows}
use Rattle.data_theory.specs.Signature.{Sig}
use Rattle.data_theory.specs.IdData.{data_meant}
use Rattle.data_theory.specs.IdTerms.{variable_sorts}
use Rattle.data_theory.specs.IdTrees.{Tree}
use Rattle.process_terms.specs.SignatureEntries.{entries_of}
use Rattle.process_terms.specs.Theories.{Theory}
use Rattle.bisim_laws.specs.LinearProcesses.{sorts, state_of}
use Rattle.bisim_laws.specs.BaseStates.{Side}
use Rattle.bisim_laws.specs.Links.{Same, Pairs}
use Rattle.lps_core.specs.PlainLinears.{PlainLinear, linear_of, initial_of, linear_state}
use Rattle.summand_expander.specs.Product.{product, first_columns, Separate}

-- They are separate over all data that go on, the left one is the linear process l, and the right one is the same as r.
pub record HasSides (h : Sig) (us : List Tree) (l r k : PlainLinear) : Type 0 where
  pub left : Side
  pub right : Side
  pub separate : (d : Data) → Grows (data_meant h) d → Separate d (variable_sorts h) left right
  pub linear : linear_of (entries_of h us) k ≡ product left right
  pub initial : initial_of (entries_of h us) k ≡ first_columns left (initial_of (entries_of h us) l) ++ first_columns right (initial_of (entries_of h us) r)
  pub left_is : left.process ≡ linear_of (entries_of h us) l
  pub left_closed : HaveSorts (data_meant h) [] (terms_of (initial_of (entries_of h us) l)) (sorts left.process.params)
  pub right_closed : HaveSorts (data_meant h) [] (terms_of (initial_of (entries_of h us) r)) (sorts right.process.params)
  pub same : (th : Theory) → Pairs th Same (linear_state (entries_of h us) r) (state_of right.process (initial_of (entries_of h us) r))
