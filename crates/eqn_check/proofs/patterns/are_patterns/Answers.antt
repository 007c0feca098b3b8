use Rattle.std.proofs.Common.{◌++◌, List, ap, ◌∙◌}
use Rattle.data_theory.specs.declared.ids.TermId.{TermId}
use Rattle.term_pool.specs.declared.terms.Head.{Head}
use Rattle.term_pool.specs.HeadTrees.{trees_at, written_tree}
use Rattle.eqn_check.proofs.JudgedLemmas.{not_so}
use Rattle.eqn_check.proofs.TermLemmas.{function_within}
use Rattle.eqn_check.proofs.PatternsLeftLemmas.{popped_in, a_pattern_less, arguments_left, no_pattern}
use Rattle.eqn_check.proofs.patterns.are_patterns.Goals as goal

pub loop-preserved-in_default-head : goal.loop-preserved-in_default-head
loop-preserved-in_default-head c =
    a_pattern_less c.args.sig.now c.args.pool.now.trees c.args.terms.now c.loop.waiting.items c.pop.new.self.items c.in-Some.next c.loop.invariant c.in-Some.ensures.items
    c.node-node.result.now.head _ c.node-node.ensures.tree c.in_default-head.not-Fun

pub is_constructor-requires : goal.is_constructor-requires
is_constructor-requires c =
    (function_within c.args.sig.now c.args.pool.now.trees c.in-Some.next (popped_in c.args.sig.now c.args.pool.now.trees c.args.terms.now c.loop.waiting.items c.pop.new.self.items c.in-Some.next c.loop.invariant c.in-Some.ensures.items)
    c.in-Fun.fun c.node-node.result.now.args.items
    (c.node-node.ensures.tree ∙ ap (λ (h : Head). written_tree h (trees_at c.args.pool.now.trees c.node-node.result.now.args.items)) c.in-Fun.is)).0

pub returns-then-not-is_constructor : goal.returns-then-not-is_constructor
returns-then-not-is_constructor c = (
  (λ e. cc),
  (λ a. absurd (no_pattern c.args.sig.now c.args.pool.now.trees c.args.terms.now c.loop.waiting.items c.pop.new.self.items c.in-Some.next c.loop.invariant c.in-Some.ensures.items
      c.in-Fun.fun c.node-node.result.now.args.items (c.node-node.ensures.tree ∙ ap (λ (h : Head). written_tree h (trees_at c.args.pool.now.trees c.node-node.result.now.args.items)) c.in-Fun.is)
      (not_so c.is_constructor.result c.is_constructor.ensures c.if-not-is_constructor.true) a)),
)

pub loop-preserved : goal.loop-preserved
loop-preserved c =
    arguments_left c.args.sig.now c.args.pool.now.trees c.args.terms.now c.loop.waiting.items c.pop.new.self.items c.in-Some.next c.loop.invariant c.in-Some.ensures.items
    c.in-Fun.fun c.node-node.result.now.args.items (c.node-node.ensures.tree ∙ ap (λ (h : Head). written_tree h (trees_at c.args.pool.now.trees c.node-node.result.now.args.items)) c.in-Fun.is)
    (c.is_constructor.ensures.0 c.if-not-is_constructor.false) c.node-node.ensures.below c.push_all-in-loop.new.terms.items (c.in_ok-push_all-2.ensures ∙ ap (λ (l : List TermId). c.pop.new.self.items ++ l) c.as_slice.ensures.value)
