use Rattle.std.proofs.Common.{◌≡◌, map}
use Rattle.term_pool.specs.HeadTrees.{tree_at, IsIn}
use Rattle.data_theory.specs.IdTrees.{apply_tree, more, none}
use Rattle.process_terms.specs.Communication.{conjunction_of}
use Rattle.communication.specs.PlanMeanings.{against, equality_of, IsPart}
use Rattle.communication.proofs.PartTerms.{chain_is, from_none, if_both, negation_is, parts_within}
use Rattle.communication.proofs.conditions.against.Goals as goal

pub conjoined-requires : goal.conjoined-requires
conjoined-requires c =
    parts_within c.args.sig.now c.add_equalities.new.pool.trees c.add_equalities.new.parts.items (map (equality_of c.args.sig.now c.args.pool.now.trees) c.args.asked.now)
    (from_none c.args.sig.now c.args.pool.now.trees c.add_equalities.new.pool.trees c.new-parts.result.items c.add_equalities.new.parts.items (map (equality_of c.args.sig.now c.args.pool.now.trees) c.args.asked.now) c.new-parts.ensures.items c.in_ok-add_equalities.ensures.parts)

pub returns-clause-means : goal.returns-clause-means
returns-clause-means c =
    let g = c.args.sig.now in
    let ts = c.args.pool.now.trees in
    let us = c.add_equalities.new.pool.trees in
    let vs = c.conjoined.new.pool.trees in
    let ws = c.intern.new.self.trees in
    let cs = map (equality_of g ts) c.args.asked.now in
    let zipped = from_none g ts us c.new-parts.result.items c.add_equalities.new.parts.items cs c.new-parts.ensures.items c.in_ok-add_equalities.ensures.parts in
    let whole = chain_is g c.signature_stands.ensures us vs c.add_equalities.new.parts.items cs c.in_ok-all.all zipped c.in_ok-all.ensures.within c.in_ok-all.ensures.tree in
    if_both c.intern.result (λ id. IsIn ws id) (λ id. tree_at ws id ≡ apply_tree (record { 0 = 8 }) (more (tree_at vs c.in_ok-all.all) none)) (λ id. IsPart g ws id (against g ts c.args.asked.now))
    (λ id i e. negation_is g c.signature_stands.ensures vs ws c.in_ok-all.all id (conjunction_of cs) whole i e) c.intern.ensures.within c.intern.ensures.tree
