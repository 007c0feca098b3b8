use Rattle.std.proofs.Common.{◌≡◌, ◌++◌, ◌∷◌, [], List, true, false, sym, ap, ◌∙◌}
use Rattle.data_theory.specs.declared.ids.TermId.{TermId}
use Rattle.term_pool.specs.declared.terms.Head.{Head}
use Rattle.term_pool.specs.HeadTrees.{written_tree, trees_at}
use Rattle.eqn_check.proofs.WalkedLemmas.{first_walk, popped_in, arguments_wait, stands_twice, one_more_seen}
use Rattle.eqn_check.proofs.linear.has_distinct_variables.Goals as goal

pub loop-init : goal.loop-init
loop-init c =
    first_walk c.args.pool.now.trees c.args.term c.push.new.self.items c.new-seen.result
    (c.in_ok-push.ensures.items ∙ ap (λ (l : List TermId). l ++ c.args.term ∷ []) c.new-waiting.ensures.items) c.new-seen.ensures c.requires

pub node-node-requires : goal.node-node-requires
node-node-requires c =
    popped_in c.args.pool.now.trees c.args.term c.loop.waiting.items c.pop.new.self.items c.in-Some.next c.loop.seen c.loop.invariant c.in-Some.ensures.items

pub loop-preserved-in_default-head : goal.loop-preserved-in_default-head
loop-preserved-in_default-head c =
    arguments_wait c.args.pool.now.trees c.args.term c.loop.waiting.items c.pop.new.self.items c.in-Some.next c.loop.seen c.loop.invariant c.in-Some.ensures.items
    c.node-node.result.now.head c.node-node.result.now.args.items c.push_all.new.terms.items c.node-node.ensures.tree c.node-node.ensures.stands c.in_default-head.not-Var c.node-node.ensures.below
    (c.in_ok-push_all.ensures ∙ ap (λ (l : List TermId). c.pop.new.self.items ++ l) c.as_slice.ensures.value)

pub returns-then-contains : goal.returns-then-contains
returns-then-contains c = (
  (λ e. cc),
  (λ d. absurd (stands_twice c.args.pool.now.trees c.args.term c.loop.waiting.items c.pop.new.self.items c.in-Some.next c.loop.seen c.loop.invariant c.in-Some.ensures.items c.in-Var.var (trees_at c.args.pool.now.trees c.node-node.result.now.args.items)
      (c.node-node.ensures.tree ∙ ap (λ (h : Head). written_tree h (trees_at c.args.pool.now.trees c.node-node.result.now.args.items)) c.in-Var.is)
      (c.contains.ensures.0 c.if-contains.true) d)),
)

pub loop-preserved : goal.loop-preserved
loop-preserved c =
    one_more_seen c.args.pool.now.trees c.args.term c.loop.waiting.items c.pop.new.self.items c.in-Some.next c.loop.seen c.loop.invariant c.in-Some.ensures.items c.in-Var.var (trees_at c.args.pool.now.trees c.node-node.result.now.args.items)
    (c.node-node.ensures.tree ∙ ap (λ (h : Head). written_tree h (trees_at c.args.pool.now.trees c.node-node.result.now.args.items)) c.in-Var.is)
    (λ i. let t = c.contains.ensures.1 i in let f = c.if-contains.false in let z : true ≡ false = sym t ∙ f in cc)
    c.insert.new.self c.in_ok-insert.ensures
