-- The encoding over the trees of a pool, and what it means.
use Rattle.std.specs.Prelude.{◌≡◌, ◌≤◌, ◌==◌, ◌-◌, ℕ, suc, List, [], ◌∷◌, ◌++◌, map, length, cond, get_or, Option, Some, None}
use Rattle.std.specs.List.{All}
use Rattle.data_theory.specs.declared.ids.VarId.{VarId}
use Rattle.data_theory.specs.declared.ids.SortId.{SortId}
use Rattle.data_theory.specs.IdRoles.{AreRoles}
use Rattle.data_theory.specs.declared.ids.FunId.{FunId}
use Rattle.data_theory.specs.declared.ids.TermId.{TermId}
use Rattle.data_theory.specs.Terms as terms
use Rattle.data_theory.specs.Environments.{AreDistinct}
use Rattle.data_theory.specs.Signature.{Sig}
use Rattle.data_theory.specs.Complete.{IsComplete}
use Rattle.data_theory.specs.IdTables.{IsTable}
use Rattle.data_theory.specs.IdTrees.{Tree, variable, function, none, more, trees_of, put_tree}
use Rattle.data_theory.specs.IdTerms.{symbol_under, term_under, IsTreeWithin}
use Rattle.term_pool.specs.HeadTrees.{tree_at, trees_at, IsIn, AreIn}
use Rattle.process_terms.specs.SignatureEntries.{entries_of}
use Rattle.bisim_laws.specs.LinearProcesses.{variables}
use Rattle.bisim_laws.specs.BaseStates.{Columns}
use Rattle.greibach.specs.PlainForms.{PlainFormSummand, form_summand_of}
use Rattle.greibach.specs.Forms.{FormEquation}
use Rattle.lps_core.specs.TreeSummands.{TreeSummand, trees_of_label, put_actions, IsActionIn, bound_tree, numbers_of, meant_summand}
use Rattle.lps_core.specs.NumberTrees.{number_tree, equals_number}
use Rattle.lps_core.specs.TreeConditions.{tree_parts, trees_without_true, conjunction_tree}
use Rattle.stack_encoder.specs.StackEncoding.{StackSymbols, to_fields, ways, stack_summand}
use Rattle.stack_encoder.specs.StackEntries.{StackIds, StackStands, symbols_meant}

-- ---- columns go by their numbers, from 0
pub record FrameLayout : Type 0 where
  pub places : List (List ℕ)
  pub defaults : List Tree

-- equations count from 1
abbrev pub place_at : FrameLayout → ℕ → List ℕ
place_at l i = get_or l.places (i - 1) []

abbrev pub argument_tree : List ℕ → List Tree → ℕ → Tree → Tree
argument_tree [] us x d = d
argument_tree (p ∷ ps) [] x d = d
argument_tree (p ∷ ps) (u ∷ us) x d = cond (p == x) u (argument_tree ps us x d)

abbrev pub column_trees : List ℕ → List Tree → ℕ → List Tree → List Tree
column_trees place us x [] = []
column_trees place us x (d ∷ ds) = argument_tree place us x d ∷ column_trees place us (suc x) ds

abbrev pub column_numbers : ℕ → List Tree → List ℕ
column_numbers x [] = []
column_numbers x (d ∷ ds) = x ∷ column_numbers (suc x) ds

-- ---- terms over a stack
abbrev pub one_tree : FunId → Tree → Tree
one_tree f t = function f (more t none)

-- `!` by its number in the table of built-in functions
abbrev pub not_function : FunId
not_function = record { 0 = 8 }

abbrev pub frame_tree : StackIds → FrameLayout → ℕ → List Tree → Tree → Tree
frame_tree y l i us below = function y.push (trees_of (number_tree i ∷ (column_trees (place_at l i) us 0 l.defaults ++ below ∷ [])))

abbrev pub pushed_trees : StackIds → FrameLayout → (VarId → Tree) → List Tree → List (ℕ × List TermId) → Tree → Tree
pushed_trees y l e ts [] below = below
pushed_trees y l e ts (a ∷ calls) below = frame_tree y l a.0 (map (put_tree e) (trees_at ts a.1)) (pushed_trees y l e ts calls below)

-- ---- summands
pub record TreeWay : Type 0 where
  pub further : List Tree
  pub next : Option (List Tree)

abbrev pub rest_tree : StackIds → VarId → Tree
rest_tree y q = one_tree y.rest (variable q)

abbrev pub tree_way_down : StackIds → VarId → TreeWay
tree_way_down y q = record { further = one_tree y.is_push (rest_tree y q) ∷ []; next = Some (rest_tree y q ∷ []) }

abbrev pub tree_way_out : StackIds → VarId → TreeWay
tree_way_out y q = record { further = one_tree not_function (one_tree y.is_push (rest_tree y q)) ∷ []; next = None }

abbrev pub tree_way_up : StackIds → FrameLayout → VarId → (VarId → Tree) → List Tree → List (ℕ × List TermId) → TreeWay
tree_way_up y l q e ts calls = record { further = []; next = Some (pushed_trees y l e ts calls (rest_tree y q) ∷ []) }

abbrev pub tree_ways : StackIds → FrameLayout → VarId → (VarId → Tree) → List Tree → List (ℕ × List TermId) → List TreeWay
tree_ways y l q e ts [] = tree_way_down y q ∷ tree_way_out y q ∷ []
tree_ways y l q e ts (a ∷ calls) = tree_way_up y l q e ts (a ∷ calls) ∷ []

abbrev pub first_parts : StackIds → VarId → ℕ → List Tree
first_parts y q i = one_tree y.is_push (variable q) ∷ equals_number (one_tree y.pc (variable q)) i ∷ []

abbrev pub tree_stacked : StackIds → VarId → ℕ → (VarId → Tree) → List Tree → PlainFormSummand → TreeWay → TreeSummand
tree_stacked y q i e ts s w = record {
  sums = s.sums;
  condition = conjunction_tree (first_parts y q i ++ (trees_without_true (tree_parts (put_tree e (tree_at ts s.condition))) ++ w.further));
  label = put_actions e (trees_of_label ts s.label);
  next = w.next;
}

-- the parameters with the fields of the top frame
abbrev pub field_tree : StackIds → VarId → ℕ → Tree
field_tree y q x = one_tree (get_or y.fields x (record { 0 = 0 })) (variable q)

abbrev pub fields_for : StackIds → FrameLayout → VarId → ℕ → List VarId → VarId → Tree
fields_for y l q i params = bound_tree params (map (field_tree y q) (place_at l i))

-- ---- what these mean
-- the functions are the symbols of the stack
pub record MeansSymbols (g : Sig) (y : StackIds) (k : StackSymbols) : Type 0 where
  pub push : symbol_under g y.push ≡ terms.function k.names.push
  pub empty : symbol_under g y.empty ≡ terms.function k.names.empty
  pub is_push : symbol_under g y.is_push ≡ terms.function k.is_push
  pub pc : symbol_under g y.pc ≡ terms.function k.pc
  pub rest : symbol_under g y.rest ≡ terms.function k.rest
  pub fields : map (symbol_under g) y.fields ≡ map terms.function k.fields

-- the columns are those of the layout
pub record MeansFrames (g : Sig) (l : FrameLayout) (c : Columns) : Type 0 where
  pub columns : variables c.columns ≡ column_numbers 0 l.defaults
  pub places : c.places ≡ l.places
  pub defaults : c.defaults ≡ map (term_under g) l.defaults
  pub distinct : AreDistinct (variables c.columns)

pub record IsCallIn (ts : List Tree) (l : FrameLayout) (c : ℕ × List TermId) : Type 0 where
  pub from_one : 1 ≤ c.0
  pub within : c.0 ≤ length l.places
  pub args : AreIn ts c.1
  pub long : length (place_at l c.0) ≡ length c.1

pub record IsFormSummandIn (ts : List Tree) (l : FrameLayout) (s : PlainFormSummand) : Type 0 where
  pub condition : IsIn ts s.condition
  pub label : All (IsActionIn ts) s.label
  pub next : All (IsCallIn ts l) s.next

-- the summands over trees mean the encoded ones
abbrev pub StackedTreesMean : Type 0
StackedTreesMean =
    (g : Sig) (y : StackIds) (k : StackSymbols) (l : FrameLayout) (c : Columns) (v : VarId) (i : ℕ) (params : List VarId) (q : FormEquation) (ts : List Tree) (s : PlainFormSummand) → IsTable g → IsComplete g
    → MeansSymbols g y k → MeansFrames g l c → 1 ≤ i → length y.fields ≡ length l.defaults → variables q.params ≡ numbers_of params → IsFormSummandIn ts l s
    → All (λ x. suc x ≤ length l.defaults) (place_at l i)
    → IsTreeWithin g (put_tree (fields_for y l v i params) (tree_at ts s.condition))
    → map (meant_summand g) (map (tree_stacked y v i (fields_for y l v i params) ts s) (tree_ways y l v (fields_for y l v i params) ts s.next))
    ≡ map (stack_summand k c v.0 (i - 1) q (form_summand_of (entries_of g ts) s)) (ways k c v.0 (to_fields k c v.0 (i - 1) q) (form_summand_of (entries_of g ts) s).next)

-- where the entries stand, the functions are the symbols of the stack
abbrev pub StandingFunctionsAreSymbols : Type 0
StandingFunctionsAreSymbols = (g : Sig) (i : StackIds) (columns : List SortId) → IsTable g → AreRoles g → StackStands g i columns → MeansSymbols g i (symbols_meant g i)
