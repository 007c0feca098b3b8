use Rattle.std.proofs.Common.{rules, ◌++◌, List, [], ◌∷◌, ap, ◌∙◌}
use Rattle.term_pool.specs.declared.terms.Head.{Head}
use Rattle.term_pool.specs.HeadTrees.{trees_at, written_tree}
use Rattle.eqn_check.specs.Alike.{Pair, pairs}
use Rattle.eqn_check.proofs.OppositeLemmas.{opposites_begin, opposites_found, pair_in, walked_on, variable_walked}
use Rattle.eqn_check.proofs.filled.find_opposites.Goals as goal

pub loop-init : goal.loop-init
loop-init c =
    opposites_begin c.args.sig.now c.args.pool.now.trees c.args.one c.args.other c.new-found.result c.push.new.self.items c.new-found.ensures.empty
    (c.in_ok-push.ensures.items ∙ ap (λ (l : List Pair). l ++ (c.args.one, c.args.other) ∷ []) c.new-left.ensures.items) c.requires.one c.requires.other

pub returns-in_default : goal.returns-in_default
returns-in_default c = opposites_found c.args.sig.now c.args.pool.now.trees c.args.one c.args.other c.loop.found c.loop.left.items c.loop.invariant (search rules)

pub node-node-requires : goal.node-node-requires
node-node-requires c = (pair_in c.args.sig.now c.args.pool.now.trees c.args.one c.args.other c.loop.found c.loop.left.items c.pop.new.self.items c.in-Some.first c.in-Some.second c.loop.invariant c.in-Some.ensures.items).0.inside

pub node-under-requires : goal.node-under-requires
node-under-requires c = (pair_in c.args.sig.now c.args.pool.now.trees c.args.one c.args.other c.loop.found c.loop.left.items c.pop.new.self.items c.in-Some.first c.in-Some.second c.loop.invariant c.in-Some.ensures.items).1.inside

pub loop-preserved-in_default-head : goal.loop-preserved-in_default-head
loop-preserved-in_default-head c =
    walked_on c.args.sig.now c.args.pool.now.trees c.args.one c.args.other c.loop.found c.loop.left.items c.pop.new.self.items c.in-Some.first c.in-Some.second c.loop.invariant c.in-Some.ensures.items
    c.node-node.result.now.head c.node-under.result.now.head c.node-node.result.now.args.items c.node-under.result.now.args.items c.node-node.ensures.tree c.node-under.ensures.tree
    c.node-node.ensures.stands c.node-under.ensures.stands c.node-node.ensures.below c.node-under.ensures.below c.in_default-head.not-Var c.push_pairs.new.left.items
    (c.in_ok-push_pairs.ensures ∙ (λ i. c.pop.new.self.items ++ pairs (c.as_slice.ensures.value i) (c.as_slice-in_default-head.ensures.value i)))

pub loop-preserved : goal.loop-preserved
loop-preserved c =
    variable_walked c.args.sig.now c.args.pool.now.trees c.args.one c.args.other c.loop.found c.loop.left.items c.pop.new.self.items c.in-Some.first c.in-Some.second c.loop.invariant c.in-Some.ensures.items
    c.in-Var.var (c.node-node.ensures.tree ∙ ap (λ (h : Head). written_tree h (trees_at c.args.pool.now.trees c.node-node.result.now.args.items)) c.in-Var.is) c.insert.new.self c.in_ok-insert.ensures.updates.0
