-- The summand of a label, over the trees of a pool.
use Rattle.std.specs.Prelude.{◌≡◌, ℕ, List, [], ◌∷◌, ◌++◌, map, reverse, Option}
use Rattle.std.specs.List.{All}
use Rattle.data_theory.specs.declared.ids.TermId.{TermId}
use Rattle.data_theory.specs.IdTrees.{Tree}
use Rattle.term_pool.specs.HeadTrees.{tree_at, trees_at, IsIn}
use Rattle.term_pool.specs.Bindings.{listed}
use Rattle.process_terms.specs.PlainProcesses.{PlainAction}
use Rattle.lps_core.specs.TreeConditions.{conjunction_tree}
use Rattle.lps_core.specs.TreeSummands.{IsActionIn, trees_of_label, put_actions}
use Rattle.greibach.specs.MeetingOrder.{Meets}
use Rattle.greibach.specs.PlainForms.{PlainFormSummand}
use Rattle.greibach.specs.PlacesInCode.{PlainPlaces}
use Rattle.greibach.specs.OnwardCalls.{onward_trees, AreTreeCalls, HasArgumentsIn}
use Rattle.greibach.specs.NumberedCalls.{HaveNumbers}
use Rattle.greibach.specs.Surroundings.{PlainAround, PlainUnfolding}

-- the calls of what follows in the label's own body, and then those that wait, the last one first
pub record CallsAdded (ts us : List Tree) (t : PlainPlaces) (a : PlainAround) (rest : Option ℕ) (waiting : List (ℕ × List TermId)) (old new : List ℕ) (next : List (ℕ × List TermId)) : Type 0 where
  pub onward : List (ℕ × List TermId)
  pub behind : List (ℕ × List TermId)
  pub between : List ℕ
  pub is : next ≡ onward ++ behind
  pub onward_within : All (HasArgumentsIn us) onward
  pub onward_calls : AreTreeCalls us (onward_trees t ts a.by rest) old between onward
  pub numbered : HaveNumbers new (reverse waiting) behind
  pub met : Meets between (map (λ w. w.0) (reverse waiting)) new

-- It has the sums around it, one chain of the conditions' parts, the label with the terms put in, and these calls.
pub record LabelAdded (ts us : List Tree) (t : PlainPlaces) (a : PlainAround) (m : List PlainAction) (rest : Option ℕ) (u v : PlainUnfolding) : Type 0 where
  pub summand : PlainFormSummand
  pub is : v.summands ≡ u.summands ++ summand ∷ []
  pub waiting : v.waiting ≡ u.waiting
  pub sums : summand.sums ≡ a.sums
  pub condition_within : IsIn us summand.condition
  pub condition : tree_at us summand.condition ≡ conjunction_tree (trees_at ts a.parts)
  pub label_within : All (IsActionIn us) summand.label
  pub label : trees_of_label us summand.label ≡ put_actions (listed ts a.by) (trees_of_label ts m)
  pub calls : CallsAdded ts us t a rest u.waiting u.met v.met summand.next
