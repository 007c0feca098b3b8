use Rattle.std.proofs.Common.{◌≡◌}
use Rattle.term_pool.specs.HeadTrees.{tree_at, IsIn}
use Rattle.data_theory.specs.IdTrees.{apply_tree, more, none}
use Rattle.communication.specs.PlanMeanings.{equality_of, IsPart}
use Rattle.communication.proofs.PartTerms.{equality_is, no_equality, if_both}
use Rattle.communication.proofs.conditions.equality.Goals as goal

pub returns-in_default-clause-means : goal.returns-in_default-clause-means
returns-in_default-clause-means c = absurd (no_equality c.args.sig.now c.signature_stands.ensures c.args.pool.now.trees c.args.asked.now c.requires c.in_default.ensures)

pub returns-clause-means : goal.returns-clause-means
returns-clause-means c =
    let g = c.args.sig.now in
    let ts = c.args.pool.now.trees in
    let us = c.intern-2.new.self.trees in
    let q = c.args.asked.now in
    if_both c.intern-2.result (λ id. IsIn us id) (λ id. tree_at us id ≡ apply_tree c.in-Some.fun (more (tree_at ts q.left) (more (tree_at ts q.right) none))) (λ id. IsPart g us id (equality_of g ts q))
    (λ id i e. equality_is g c.signature_stands.ensures ts us q c.in-Some.fun id c.requires c.in-Some.ensures i e) c.intern-2.ensures.within c.intern-2.ensures.tree
