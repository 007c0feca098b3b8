-- Summands in code with the parameter that the first step is still to come.
use Rattle.std.specs.Prelude.{◌≡◌, ◌+◌, ℕ, Bool, true, false, List, [], ◌∷◌, ◌++◌, take, drop, option_map, Option, Some, None, if◌then◌else◌}
use Rattle.std.specs.List.{AllZip}
use Rattle.data_theory.specs.declared.ids.TermId.{TermId}
use Rattle.data_theory.specs.declared.ids.VarId.{VarId}
use Rattle.data_theory.specs.IdTrees.{Tree, variable, function, none}
use Rattle.term_pool.specs.HeadTrees.{tree_at, IsIn}
use Rattle.process_terms.specs.Processes.{Start}
use Rattle.lps_core.specs.PlainLinears.{PlainSummand, PlainLinear}
use Rattle.lps_core.specs.TreeConditions.{true_tree, conjunction_tree, tree_parts, trees_without_true}
use Rattle.summand_expander.specs.declared.starts.FirstFlag.{FirstFlag}
use Rattle.summand_expander.specs.FirstSteps.{left_may, both_may}
use Rattle.summand_expander.specs.Frames.{not_tree}

-- `false` by its number in the table of built-in functions
abbrev pub false_tree : Tree
false_tree = function (record { 0 = 7 }) none

-- the terms of the parameter
pub record HasFlagTerms (ts : List Tree) (x : FirstFlag) : Type 0 where
  pub column_in : IsIn ts x.column
  pub column : tree_at ts x.column ≡ variable x.var
  pub begun_in : IsIn ts x.begun
  pub begun : tree_at ts x.begun ≡ not_tree (variable x.var)
  pub unset_in : IsIn ts x.unset
  pub unset : tree_at ts x.unset ≡ false_tree

-- ---- one summand
abbrev pub started_condition : VarId → Bool → Tree → Tree
started_condition f true t = t
started_condition f false t = conjunction_tree (not_tree (variable f) ∷ trees_without_true (tree_parts t))

abbrev pub started_next : TermId → Option (List TermId) → Option (List TermId)
started_next after next = option_map (λ ids. ids ++ after ∷ []) next

pub record IsStartedSummand (ts us : List Tree) (x : FirstFlag) (may : Bool) (s t : PlainSummand) : Type 0 where
  pub sums : t.sums ≡ s.sums
  pub condition_in : IsIn us t.condition
  pub condition : tree_at us t.condition ≡ started_condition x.var may (tree_at ts s.condition)
  pub label : t.label ≡ s.label
  pub next : t.next ≡ started_next (if may then x.unset else x.column) s.next

-- ---- those of a product: first m of the left side alone, then n of the right side alone, and then those of both
pub record AreStarted (ts us : List Tree) (x : FirstFlag) (o : Start) (m n : ℕ) (ss made : List PlainSummand) : Type 0 where
  pub lefts : List PlainSummand
  pub rights : List PlainSummand
  pub boths : List PlainSummand
  pub are : made ≡ (lefts ++ rights) ++ boths
  pub left_alone : AllZip (IsStartedSummand ts us x (left_may o)) (take m ss) lefts
  pub right_alone : AllZip (IsStartedSummand ts us x false) (take n (drop m ss)) rights
  pub at_once : AllZip (IsStartedSummand ts us x (both_may o)) (drop n (drop m ss)) boths

-- how many summands of a product are of one side alone: of an ending one there are two, where the other side can end
abbrev pub times_alone : Bool → Option (List TermId) → ℕ
times_alone other None = if other then 2 else 1
times_alone other (Some ts) = 1

abbrev pub alone_count : Bool → List PlainSummand → ℕ
alone_count other [] = 0
alone_count other (s ∷ ss) = times_alone other s.next + alone_count other ss

-- ---- the product k with the parameter f behind all others, which is `true` at first
pub record IsStarted (ts us : List Tree) (f : VarId) (o : Start) (m n : ℕ) (k made : PlainLinear) : Type 0 where
  pub flag : FirstFlag
  pub is_flag : flag.var ≡ f
  pub terms : HasFlagTerms us flag
  pub params : made.params ≡ k.params ++ f ∷ []
  pub first : TermId
  pub first_in : IsIn us first
  pub first_is : tree_at us first ≡ true_tree
  pub init : made.init ≡ k.init ++ first ∷ []
  pub summands : AreStarted ts us flag o m n k.summands made.summands
