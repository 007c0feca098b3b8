use Rattle.std.proofs.Common.{◌≡◌, map, subst, ap₂, ◌∙◌}
use Rattle.std.specs.Prelude.{option_map}
use Rattle.data_theory.specs.declared.ids.VarId.{VarId}
use Rattle.data_theory.specs.IdTrees.{put_tree}
use Rattle.term_pool.specs.HeadTrees.{tree_at, trees_at}
use Rattle.term_pool.specs.Bindings.{listed}
use Rattle.process_terms.specs.PlainProcesses.{plain_label}
use Rattle.lps_core.specs.PlainLinears.{plain_next}
use Rattle.lps_core.specs.TreeSummands.{trees_of_label, put_actions, renaming_tree}
use Rattle.lps_core.proofs.PoolTrees.{listed_kept, extends_on}
use Rattle.lps_core.proofs.NamingLoops.{other_sums_made}
use Rattle.lps_core.proofs.naming.with_sums.Goals as goal

pub returns-clause-other : goal.returns-clause-other
returns-clause-other c =
    let t1 = c.renaming.new.pool.trees in
    let t2 = c.subst.new.self.trees in
    let t3 = c.put_label.new.pool.trees in
    let by = c.in_ok-by.by.items in
    let moves : (v : VarId) → listed t1 by v ≡ renaming_tree c.args.summand.now.sums.items c.args.sums.items v = λ v. c.in_ok-by.ensures.moves v ∙ ap₂ (λ xs ys. renaming_tree xs ys v) c.as_slice.ensures.value c.as_slice-2.ensures.value in
    other_sums_made by _ _ c.args.pool.now.trees t1 t2 t3 c.put_next.new.pool.trees c.requires.within c.renaming.ensures.kept c.subst.ensures.kept c.put_label.ensures.kept c.put_next.ensures.kept c.in_ok-by.ensures.within moves
    (listed_kept t1 t2 by c.subst.ensures.kept c.in_ok-by.ensures.within)
    (listed_kept t1 t3 by (extends_on t1 t2 t3 c.subst.ensures.kept c.put_label.ensures.kept) c.in_ok-by.ensures.within)
    c.in_ok-cond.ensures.within (subst (λ z. tree_at t2 c.in_ok-cond.cond ≡ put_tree (listed t1 z) (tree_at t1 c.args.summand.now.cond)) c.as_slice-3.ensures.value c.in_ok-cond.ensures.tree)
    c.in_ok-label.ensures.within (subst (λ z. trees_of_label t3 (plain_label c.in_ok-label.label) ≡ put_actions (listed t2 z) (trees_of_label t2 (plain_label c.args.summand.now.label))) c.as_slice-4.ensures.value c.in_ok-label.ensures.label)
    (subst (λ z. option_map (trees_at c.put_next.new.pool.trees) (plain_next c.in_ok-next.next) ≡ option_map (map (put_tree (listed t3 z))) (option_map (trees_at t3) (plain_next c.args.summand.now.next))) c.as_slice-5.ensures.value c.in_ok-next.ensures.next)
