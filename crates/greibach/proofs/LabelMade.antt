-- The summand of a label, as the pool grows on the way.
use Rattle.std.proofs.Common.{◌≡◌, ℕ, List, [], ◌∷◌, ◌++◌, map, reverse, Option, None, Some, refl, sym, ap, ap₂, ◌∙◌, subst}
use Rattle.std.specs.List.{All}
use Rattle.data_theory.specs.declared.ids.VarId.{VarId}
use Rattle.data_theory.specs.declared.ids.TermId.{TermId}
use Rattle.data_theory.specs.IdTrees.{Tree, put_tree}
use Rattle.term_pool.specs.HeadTrees.{tree_at, trees_at, IsIn, AreIn}
use Rattle.term_pool.specs.Pools.{Extends}
use Rattle.term_pool.specs.Bindings.{listed, listed_terms}
use Rattle.process_terms.specs.PlainProcesses.{PlainAction}
use Rattle.lps_core.specs.TreeConditions.{conjunction_tree}
use Rattle.lps_core.specs.TreeSummands.{IsActionIn, trees_of_label, put_actions}
use Rattle.lps_core.proofs.PoolTrees.{extends_on, tree_kept, trees_kept, args_along, listed_kept, actions_in_kept, actions_kept, actions_along}
use Rattle.greibach.specs.PlacesInCode.{PlainPart, delta, act, choice, cond, sum, call, whole, PlainPlaces}
use Rattle.greibach.specs.OnwardCalls.{part_at, rest_at, entry_place, first_trees, onward_trees, AreTreeCalls, FirstIsListed, OnwardIsListed, HasArgumentsIn}
use Rattle.greibach.specs.NumberedCalls.{AddsNumbered}
use Rattle.greibach.specs.Surroundings.{PlainAround, PlainUnfolding}
use Rattle.greibach.specs.AddedLabels.{LabelAdded}
use Rattle.greibach.proofs.TreeCalls.{rest_kept}

module _ (ts us : List Tree) (t : PlainPlaces) (by : List (VarId × TermId)) (e : Extends ts us) (own : AreIn ts (listed_terms by)) where
  first_same : (n : ℕ) (p : PlainPart) → FirstIsListed t ts by n p → first_trees t ts by n p ≡ first_trees t us by n p
  first_same n delta f = rest_kept ts us t by e own (Some n)
  first_same n (act m) f = rest_kept ts us t by e own (Some n)
  first_same n (choice ns) f = rest_kept ts us t by e own (Some n)
  first_same n (cond c i j) f = rest_kept ts us t by e own (Some n)
  first_same n (sum x i) f = rest_kept ts us t by e own (Some n)
  first_same n (whole i) f = rest_kept ts us t by e own (Some n)
  first_same n (call k ids) f =
      ap₂ (λ l cs. (entry_place t k, l) ∷ cs)
      (args_along (listed ts by) (listed us by) (λ x. sym (listed_kept ts us by e own x)) (trees_at ts ids) ∙ ap (map (put_tree (listed us by))) (sym (trees_kept ts us ids e f.1)))
      (rest_kept ts us t by e own (rest_at t n))

  onward_same : (rest : Option ℕ) → OnwardIsListed t ts by rest → onward_trees t ts by rest ≡ onward_trees t us by rest
  onward_same None o = refl
  onward_same (Some n) o = first_same n (part_at t n) o.1

pub label_made : (ts one two us : List Tree) (t : PlainPlaces) (a : PlainAround) (m : List PlainAction) (rest : Option ℕ) (u v : PlainUnfolding) (parts : List TermId) (c : TermId) (made : List PlainAction) (sums : List VarId) (next all : List (ℕ × List TermId)) (mid : List ℕ) → Extends ts one → Extends one two → Extends two us
    → AreIn ts (listed_terms a.by) → All (IsActionIn ts) m → OnwardIsListed t ts a.by rest → parts ≡ a.parts → IsIn one c → tree_at one c ≡ conjunction_tree (trees_at ts parts) → All (IsActionIn two) made → trees_of_label two made ≡ put_actions (listed one a.by) (trees_of_label one m)
    → AreTreeCalls us (onward_trees t two a.by rest) u.met mid next → All (HasArgumentsIn us) next → AddsNumbered (reverse u.waiting) mid v.met next all → sums ≡ a.sums → v.waiting ≡ u.waiting → v.summands ≡ u.summands ++ record { sums = sums; condition = c; label = made; next = all } ∷ [] → LabelAdded ts us t a m rest u v
label_made ts one two us t a m rest u v parts c made sums next all mid e1 e2 e3 own read onward same_parts wc tc wl tl calls within adds same_sums w is =
    let far = extends_on one two us e2 e3 in
    let near = extends_on ts one two e1 e2 in
    let kept = tree_kept one us c far wc in
    record {
      summand = record { sums = sums; condition = c; label = made; next = all };
      is = is;
      waiting = w;
      sums = same_sums;
      condition_within = kept.1;
      condition = kept.0 ∙ tc ∙ ap (λ l. conjunction_tree (trees_at ts l)) same_parts;
      label_within = actions_in_kept two us made e3 wl;
      label = actions_kept two us made e3 wl ∙ tl ∙ actions_along (listed one a.by) (listed ts a.by) (λ x. listed_kept ts one a.by e1 own x) (trees_of_label one m) ∙ ap (put_actions (listed ts a.by)) (actions_kept ts one m e1 read);
      calls = record {
        onward = next;
        behind = adds.added;
        between = mid;
        is = adds.is;
        onward_within = within;
        onward_calls = subst (λ z. AreTreeCalls us z u.met mid next) (sym (onward_same ts two t a.by near own rest onward)) calls;
        numbered = adds.numbered;
        met = adds.met;
      };
    }
