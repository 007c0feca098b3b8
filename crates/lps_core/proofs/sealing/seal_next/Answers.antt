use Rattle.std.proofs.Common.{◌≡◌, sym, ap, ◌∙◌, subst}
use Rattle.std.specs.Prelude.{option_map, IfSome}
use Rattle.term_pool.specs.HeadTrees.{trees_at, AreIn}
use Rattle.lps_core.specs.PlainLinears.{plain_next}
use Rattle.lps_core.specs.SealedTrees.{sealed_next_trees}
use Rattle.lps_core.proofs.SealingLoops.{one_more_term}
use Rattle.lps_core.proofs.sealing.seal_next.Goals as goal

pub returns-in_ok-push-in-Some-clause-terms : goal.returns-in_ok-push-in-Some-clause-terms
returns-in_ok-push-in-Some-clause-terms c =
    let own : c.in_ok-terms-in-Some.terms.items ≡ c.in-Some.own.items = c.in_ok-terms-in-Some.ensures.items_if_clones_equal (λ x y e. e) ∙ c.deref.ensures.value in
    let within : AreIn c.args.pool.now.trees c.in-Some.own.items = subst (λ z. IfSome (plain_next z) (AreIn c.args.pool.now.trees)) c.in-Some.is c.requires in
    ap (trees_at c.variable_term.new.pool.trees) (c.in_ok-push-in-Some.ensures.items)
    ∙ one_more_term _ _ c.in_ok-terms-in-Some.terms.items _ _ _ c.variable_term.ensures.kept (subst (λ z. AreIn c.args.pool.now.trees z) (sym own) within) (ap (trees_at c.args.pool.now.trees) own) c.in_ok-variable_term-in-Some.ensures.tree
    ∙ ap (λ z. sealed_next_trees c.args.params.now c.args.phase (option_map (trees_at c.args.pool.now.trees) (plain_next z))) (sym c.in-Some.is)
