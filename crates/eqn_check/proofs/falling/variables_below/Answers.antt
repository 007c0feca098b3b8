use Rattle.std.proofs.Common.{List, [], ◌∷◌, ◌++◌, map, false, ap, ◌∙◌}
use Rattle.data_theory.specs.declared.ids.TermId.{TermId}
use Rattle.eqn_check.specs.CallTables.{with_mark, Marked}
use Rattle.eqn_check.proofs.BelowLemmas.{first_walked, next_in, walked_open, walked_below}
use Rattle.eqn_check.proofs.falling.variables_below.Goals as goal

pub loop-init : goal.loop-init
loop-init c = first_walked c.args.sig.now c.args.pool.now.trees c.args.term c.push.new.self.items c.new-found.result (c.in_ok-push.ensures.items ∙ ap (λ (l : List Marked). l ++ (c.args.term, false) ∷ []) c.new-waiting.ensures.items) c.new-found.ensures c.requires

pub node-node-requires : goal.node-node-requires
node-node-requires c = (next_in c.args.sig.now c.args.pool.now.trees c.args.term c.loop.waiting.items c.pop.new.self.items c.loop.found c.in-Some.next c.in-Some.below c.loop.invariant c.in-Some.ensures.items).inside

pub is_below-under-requires : goal.is_below-under-requires
is_below-under-requires c = next_in c.args.sig.now c.args.pool.now.trees c.args.term c.loop.waiting.items c.pop.new.self.items c.loop.found c.in-Some.next c.in-Some.below c.loop.invariant c.in-Some.ensures.items

pub loop-preserved-then-not-below : goal.loop-preserved-then-not-below
loop-preserved-then-not-below c =
    walked_open c.args.sig.now c.args.pool.now.trees c.args.term c.loop.waiting.items c.pop.new.self.items c.loop.found c.in-Some.next c.in-Some.below c.loop.invariant c.in-Some.ensures.items
    c.is_below-under.result c.node-node.result.now.head c.node-node.result.now.args.items c.push_marked.new.waiting.items c.node-node.ensures.tree c.node-node.ensures.stands c.node-node.ensures.below
    c.is_below-under.ensures.0 c.is_below-under.ensures.1 (c.in_ok-push_marked.ensures ∙ ap (λ (l : List TermId). c.pop.new.self.items ++ map (with_mark c.is_below-under.result) l) c.as_slice.ensures.value) c.if-not-below.true

pub loop-preserved : goal.loop-preserved
loop-preserved c =
    walked_below c.args.sig.now c.args.pool.now.trees c.args.term c.loop.waiting.items c.pop.new.self.items c.loop.found c.in-Some.next c.in-Some.below c.loop.invariant c.in-Some.ensures.items
    c.is_below-under.result c.node-node.result.now.head c.node-node.result.now.args.items c.push_marked.new.waiting.items c.node-node.ensures.tree c.node-node.ensures.stands c.node-node.ensures.below
    c.is_below-under.ensures.0 c.is_below-under.ensures.1 (c.in_ok-push_marked.ensures ∙ ap (λ (l : List TermId). c.pop.new.self.items ++ map (with_mark c.is_below-under.result) l) c.as_slice.ensures.value) c.if-not-below.false
    c.add_head.new.set c.in_ok-add_head.ensures
