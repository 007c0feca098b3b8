-- What the encoder asks and answers.
use Rattle.std.specs.Prelude.{◌≡◌, ◌≤◌, ◌+◌, ℕ, List, [], ◌∷◌, ◌++◌, map, length, Option, Some, None, slice_get}
use Rattle.std.specs.List.{All, AllZip, Contains}
use Rattle.data_theory.specs.declared.ids.VarId.{VarId}
use Rattle.data_theory.specs.declared.ids.TermId.{TermId}
use Rattle.data_theory.specs.Signature.{Sig}
use Rattle.data_theory.specs.IdTrees.{Tree, put_tree}
use Rattle.term_pool.specs.HeadTrees.{tree_at, trees_at}
use Rattle.term_pool.specs.Pools.{PoolContents, Extends}
use Rattle.process_terms.specs.Processes.{Bound, call}
use Rattle.process_terms.specs.Meanings.{term_at}
use Rattle.process_terms.specs.SignatureEntries.{entries_of}
use Rattle.bisim_laws.specs.BaseStates.{Columns}
use Rattle.bisim_laws.specs.Links.{Regular}
use Rattle.lps_core.specs.Fitting.{sort_of_variable}
use Rattle.lps_core.specs.GoingOn.{IsGoodOver}
use Rattle.lps_core.specs.MadeTerms.{Written, StackSort, IsPlain}
use Rattle.lps_core.specs.Naming.{name_of, function_names}
use Rattle.lps_core.specs.PlainLinears.{PlainLinear, linear_of, linear_state}
use Rattle.lps_core.specs.TreeConditions.{conjunction_tree, tree_parts, trees_without_true}
use Rattle.lps_core.specs.TreeSummands.{TreeSummand, trees_of_summand, trees_of_label, put_actions, renaming_tree}
use Rattle.greibach.specs.Forms.{form_table}
use Rattle.greibach.specs.PlainForms.{PlainFormSummand, PlainEquation, PlainForm, form_of}
use Rattle.greibach.specs.PlainTerms.{FormIsPlain}
use Rattle.regular_encoder.specs.FormColumns.{HasItsColumns, layout_params}
use Rattle.regular_encoder.specs.TreeEncoding.{PlainLayout, place_at, tree_control_of, IsFormSummandIn}
use Rattle.regular_encoder.specs.WholeEncoding.{trees_encoded_from}

-- ---- what the equations ask of a pool and a layout
-- The layout has a place for the equation with this number, and each of its parameters has a column there. The numbers in its
-- summands are the pool's.
pub record IsEquationIn (ts : List Tree) (l : PlainLayout) (i : ℕ) (q : PlainEquation) : Type 0 where
  pub place : i ≤ length l.places
  pub long : length (place_at l i) ≡ length q.params
  pub summands : All (IsFormSummandIn ts l) q.summands

-- equations count from 1
abbrev pub AreEquationsFor : List Tree → PlainLayout → List PlainEquation → Type 0
AreEquationsFor ts l qs = (k : ℕ) (q : PlainEquation) → slice_get qs k ≡ Some q → IsEquationIn ts l (k + 1) q

-- ---- the linear process
-- Its parameters are the control parameter and the form's columns, it starts with the number 1 and the columns' first values, and it
-- has the encoded summands of the equations, in their order.
pub record IsEncodedForm (g : Sig) (p : PoolContents) (h : Sig) (q : PoolContents) (f : PlainForm) (made : PlainLinear) : Type 0 where
  pub layout : PlainLayout
  pub firsts : List TermId
  pub between : PoolContents
  pub columns : HasItsColumns g p f h between layout firsts
  pub kept : Extends between.trees q.trees
  pub constants : q.constants ≡ between.constants
  pub params : made.params ≡ layout_params layout
  pub init : trees_at q.trees made.init ≡ tree_control_of layout.control 1 ++ trees_at q.trees firsts
  pub summands : map (trees_of_summand q.trees) made.summands ≡ trees_encoded_from layout 1 p.trees f.equations

-- over every theory that goes on from the signature, `Regular` is good for the form's start and the linear process
abbrev pub EncodingIsGood : Sig → List Tree → PlainForm → PlainLinear → Type 0
EncodingIsGood g ts f made =
    (c : Columns)
    × IsGoodOver g (Regular (form_table (form_of (entries_of g ts) f)) c (linear_of (entries_of g ts) made)) (call (form_table (form_of (entries_of g ts) f)) 0 (map (term_at (entries_of g ts)) f.init)) (linear_state (entries_of g ts) made)

-- ---- a form of one equation
-- a condition without the parts that are `true`
abbrev pub shortened : Tree → Tree
shortened t = conjunction_tree (trees_without_true (tree_parts t))

-- the arguments of the call are the next terms; without a call there are none
abbrev pub called_with : (VarId → Tree) → List Tree → List (ℕ × List TermId) → Option (List Tree)
called_with e ts [] = None
called_with e ts (c ∷ cs) = Some (map (put_tree e) (trees_at ts c.1))

-- the summand with what is put in for the parameters, and with its condition shortened
abbrev pub kept_summand : (VarId → Tree) → List Tree → PlainFormSummand → TreeSummand
kept_summand e ts s = record {
  sums = s.sums;
  condition = shortened (put_tree e (tree_at ts s.condition));
  label = put_actions e (trees_of_label ts s.label);
  next = called_with e ts s.next;
}

-- a parameter has its name, unless that is a function's
abbrev pub KeepsItsName : Sig → Sig → VarId → VarId → Type 0
KeepsItsName g h x y = ¬ (Contains (function_names g) (name_of g x)) → name_of h y ≡ name_of g x

-- The parameters are the equation's, under their names and of their sorts, and nothing else is one. The initial terms are the form's.
-- The summands are the equation's in their order, with the new parameters in place of the old ones: nothing but the names and the
-- numbers of variables changes, and the parts `true` of conditions are left out.
pub record IsTheEquation (g : Sig) (ts : List Tree) (h : Sig) (us : List Tree) (q : PlainEquation) (init : List TermId) (made : PlainLinear) : Type 0 where
  pub names : AllZip (KeepsItsName g h) q.params made.params
  pub sorts : map (sort_of_variable h) made.params ≡ map (sort_of_variable g) q.params
  pub starts : trees_at us made.init ≡ trees_at ts init
  pub summands : map (trees_of_summand us) made.summands ≡ map (kept_summand (renaming_tree q.params made.params) ts) q.summands

abbrev pub OneEquationIsKept : Sig → List Tree → Sig → List Tree → PlainForm → PlainLinear → Type 0
OneEquationIsKept g ts h us f made = (q : PlainEquation) → f.equations ≡ q ∷ [] → IsTheEquation g ts h us q f.init made

-- ---- plain conditions
-- the parameter in front, where the form has several equations
abbrev pub added_in_front : List PlainEquation → List Bound → List Bound
added_in_front (q ∷ r ∷ qs) (x ∷ xs) = x ∷ []
added_in_front _ _ = []

-- it is plainly conditioned for each specification for which the form is
abbrev pub StaysPlain : Sig → PoolContents → PlainForm → PlainLinear → Type 0
StaysPlain h q f made = (w : Written) (stacks : List StackSort) → FormIsPlain h q w stacks f → IsPlain h q w stacks (added_in_front f.equations (linear_of (entries_of h q.trees) made).params) made
