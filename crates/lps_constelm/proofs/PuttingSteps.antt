-- A summand in which initial terms were put in, from its parts.
use Rattle.std.proofs.Common.{◌≡◌, Bool, List, map, length, ap, ap₂, ◌∙◌, sym}
use Rattle.std.specs.Prelude.{option_map, IfSome}
use Rattle.std.specs.List.{All}
use Rattle.std.proofs.lemmas.List.{length-map}
use Rattle.data_theory.specs.declared.ids.VarId.{VarId}
use Rattle.data_theory.specs.declared.ids.TermId.{TermId}
use Rattle.data_theory.specs.IdTrees.{Tree, put_tree}
use Rattle.term_pool.specs.Bindings.{listed, listed_terms}
use Rattle.term_pool.specs.HeadTrees.{tree_at, trees_at, IsIn, AreIn}
use Rattle.term_pool.specs.Pools.{Extends}
use Rattle.lps_core.specs.PlainLinears.{PlainSummand}
use Rattle.lps_core.specs.TreeSummands.{trees_of_label, trees_of_summand, put_actions, IsActionIn, IsSummandIn}
use Rattle.lps_core.proofs.KeptSummands.{next_trees_kept}
use Rattle.lps_core.proofs.PoolTrees.{extends_on, tree_kept, listed_kept, actions_in_kept, actions_kept, actions_along}
use Rattle.lps_parelm.specs.Keeping.{keep, fates_of}
use Rattle.lps_parelm.proofs.KeptPlaces.{keep_map}
use Rattle.lps_constelm.specs.Putting.{put_kept_summand, unmarked}
use Rattle.lps_constelm.proofs.PuttingLoops.{next_put_along}

pub turned_long : (marks : List Bool) → length (unmarked marks) ≡ length marks
turned_long marks = length-map marks _

-- the terms at the kept places
pub kept_put : (ts us : List Tree) (by : List (VarId × TermId)) (marks : List Bool) (ids left made : List TermId) → left ≡ keep (fates_of marks) ids → trees_at us made ≡ map (put_tree (listed ts by)) (trees_at ts left)
    → trees_at us made ≡ map (put_tree (listed ts by)) (keep (fates_of marks) (trees_at ts ids))
kept_put ts us by marks ids left made l e = e ∙ ap (map (put_tree (listed ts by))) (ap (trees_at ts) l ∙ sym (keep_map (tree_at ts) (fates_of marks) ids))

module _ (ts t1 t2 us : List Tree) (by : List (VarId × TermId)) (marks : List Bool) (s new : PlainSummand) (first : Extends ts t1) (then : Extends t1 t2) (last : Extends t2 us) (inside : IsSummandIn ts s) (are : AreIn ts (listed_terms by)) (condition_in : IsIn t1 new.condition) (label_in : All (IsActionIn t2) new.label) (next_in : IfSome new.next (AreIn us)) where
  pub summand_in : IsSummandIn us new
  summand_in = record { condition = (tree_kept t1 us new.condition (extends_on t1 t2 us then last) condition_in).1; label = actions_in_kept t2 us new.label last label_in; next = next_in }

  pub summand_put : new.sums ≡ s.sums → tree_at t1 new.condition ≡ put_tree (listed ts by) (tree_at ts s.condition) → trees_of_label t2 new.label ≡ put_actions (listed t1 by) (trees_of_label t1 s.label)
      → option_map (trees_at us) new.next ≡ option_map (λ ids. map (put_tree (listed t2 by)) (keep (fates_of marks) ids)) (option_map (trees_at t2) s.next)
      → trees_of_summand us new ≡ put_kept_summand (listed ts by) (fates_of marks) (trees_of_summand ts s)
  summand_put sums condition label next =
      let both = extends_on ts t1 t2 first then in
      let e = listed ts by in
      ap₂ (λ xs c. record { sums = xs; condition = c; label = trees_of_label us new.label; next = option_map (trees_at us) new.next }) sums
      ((tree_kept t1 us new.condition (extends_on t1 t2 us then last) condition_in).0 ∙ condition)
      ∙ ap₂ (λ m n. record { sums = s.sums; condition = put_tree e (tree_at ts s.condition); label = m; next = n })
      (actions_kept t2 us new.label last label_in ∙ label ∙ actions_along (listed t1 by) e (listed_kept ts t1 by first are) (trees_of_label t1 s.label) ∙ ap (put_actions e) (actions_kept ts t1 s.label first inside.label))
      (next ∙ next_put_along (listed t2 by) e (listed_kept ts t2 by both are) (fates_of marks) (option_map (trees_at t2) s.next)
      ∙ ap (option_map (λ ids. map (put_tree e) (keep (fates_of marks) ids))) (next_trees_kept ts t2 both s.next inside.next))
