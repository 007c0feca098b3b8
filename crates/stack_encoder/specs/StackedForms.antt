-- What the encoder answers.
use Rattle.std.specs.Prelude.{◌≡◌, ◌+◌, ℕ, List, [], ◌∷◌, map}
use Rattle.data_theory.specs.declared.ids.VarId.{VarId}
use Rattle.data_theory.specs.declared.ids.TermId.{TermId}
use Rattle.data_theory.specs.Signature.{Sig}
use Rattle.data_theory.specs.IdTrees.{Tree, function, none}
use Rattle.term_pool.specs.HeadTrees.{trees_at}
use Rattle.term_pool.specs.Pools.{PoolContents, Extends}
use Rattle.process_terms.specs.Processes.{call}
use Rattle.process_terms.specs.Meanings.{term_at}
use Rattle.process_terms.specs.SignatureEntries.{entries_of}
use Rattle.bisim_laws.specs.BaseStates.{Columns, StackNames}
use Rattle.bisim_laws.specs.Links.{Stack}
use Rattle.lps_core.specs.GoingOn.{IsGoodOver}
use Rattle.lps_core.specs.PlainLinears.{PlainLinear, linear_of, linear_state}
use Rattle.lps_core.specs.TreeSummands.{trees_of_summand}
use Rattle.greibach.specs.Forms.{form_table}
use Rattle.greibach.specs.PlainForms.{PlainFormSummand, PlainEquation, PlainForm, form_of}
use Rattle.regular_encoder.specs.FormColumns.{column_kinds}
use Rattle.stack_encoder.specs.StackEntries.{StackIds}
use Rattle.stack_encoder.specs.AddedSort.{DeclaresStack}
use Rattle.stack_encoder.specs.StackColumns.{AreNumberedPlaces, HaveDefaults}
use Rattle.stack_encoder.specs.TreeStack.{FrameLayout, frame_tree}
use Rattle.stack_encoder.specs.WholeStack.{trees_stacked_from}

-- ---- the sort and the columns
-- The sort with its parameter is declared first. Then come the closed terms.
pub record HasItsStack (g : Sig) (p : PoolContents) (f : PlainForm) (h : Sig) (q : PoolContents) (y : StackIds) (v : VarId) (places : List (List ℕ)) (defaults : List TermId) : Type 0 where
  pub declared : Sig
  pub sort : DeclaresStack g (column_kinds g f) declared y v
  pub numbered : AreNumberedPlaces g (column_kinds g f) f.equations places
  pub values : HaveDefaults (column_kinds g f) places f declared p h q defaults

-- ---- the linear process
abbrev pub first_tree : StackIds → FrameLayout → List Tree → Tree
first_tree y l us = frame_tree y l 1 us (function y.empty none)

abbrev pub layout_over : List Tree → List (List ℕ) → List TermId → FrameLayout
layout_over ts places defaults = record { places = places; defaults = trees_at ts defaults }

-- Its one parameter is the stack, it starts with the frame of the first equation and the initial terms on the empty stack, and it has
-- the encoded summands of the equations, in their order.
pub record IsStackedForm (g : Sig) (p : PoolContents) (h : Sig) (q : PoolContents) (f : PlainForm) (made : PlainLinear) : Type 0 where
  pub symbols : StackIds
  pub stack : VarId
  pub places : List (List ℕ)
  pub defaults : List TermId
  pub between : PoolContents
  pub has : HasItsStack g p f h between symbols stack places defaults
  pub kept : Extends between.trees q.trees
  pub constants : q.constants ≡ between.constants
  pub params : made.params ≡ stack ∷ []
  pub init : trees_at q.trees made.init ≡ first_tree symbols (layout_over q.trees places defaults) (trees_at p.trees f.init) ∷ []
  pub summands : map (trees_of_summand q.trees) made.summands ≡ trees_stacked_from symbols (layout_over q.trees places defaults) stack 1 p.trees f.equations

-- over every theory that goes on from the signature, `Stack` is good for the form's start and the linear process
abbrev pub StackingIsGood : Sig → List Tree → PlainForm → PlainLinear → Type 0
StackingIsGood g ts f made =
    (k : StackNames)
    × (c : Columns)
    × IsGoodOver g (Stack (form_table (form_of (entries_of g ts) f)) k c (linear_of (entries_of g ts) made)) (call (form_table (form_of (entries_of g ts) f)) 0 (map (term_at (entries_of g ts)) f.init)) (linear_state (entries_of g ts) made)

-- ---- how many summands there are
-- one for a summand that calls, and two for each other one
abbrev pub one_or_two : List (ℕ × List TermId) → ℕ
one_or_two [] = 2
one_or_two (c ∷ cs) = 1

abbrev pub due_for : List PlainFormSummand → ℕ
due_for [] = 0
due_for (s ∷ ss) = one_or_two s.next + due_for ss

abbrev pub summands_due : List PlainEquation → ℕ
summands_due [] = 0
summands_due (q ∷ qs) = due_for q.summands + summands_due qs
