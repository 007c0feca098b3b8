use Rattle.std.proofs.Common.{◌≡◌, ◌++◌, ◌∙◌, [], List, refl, ap, arith}
use Rattle.data_theory.specs.declared.ids.TermId.{TermId}
use Rattle.term_pool.proofs.Lists.{none_left}
use Rattle.lps_simulator.proofs.Levels.{reading_none, next_within, reading_more, reading_done, all_needed}
use Rattle.lps_simulator.proofs.leading_parts.level_of.Goals as goal

pub loop-init : goal.loop-init
loop-init c = reading_none c.args.pool.now.trees c.args.terms.now c.in_ok-waiting.waiting.items c.args.sums.now c.requires c.in_ok-waiting.ensures.items

pub node-node-requires : goal.node-node-requires
node-node-requires c = next_within c.args.pool.now.trees c.args.terms.now c.args.sums.now c.loop.waiting.items c.pop.new.self.items c.loop.level c.in-Some.next c.loop.invariant c.in-Some.ensures.items

pub loop-preserved : goal.loop-preserved
loop-preserved c =
    reading_more c.args.pool.now.trees c.args.terms.now c.args.sums.now c.loop.waiting.items c.pop.new.self.items c.extend_from_slice.new.self.items c.node-node.result.now.args.items c.loop.level c.level_of_head.result c.greatest-level.result c.in-Some.next c.node-node.result.now.head c.loop.invariant c.in-Some.ensures.items c.node-node.ensures.tree c.node-node.ensures.below c.level_of_head.ensures
    c.greatest-level.ensures.first c.greatest-level.ensures.second (c.in_ok-extend_from_slice.ensures.items ∙ ap (λ (z : List TermId). c.pop.new.self.items ++ z) c.as_slice.ensures.value)

pub returns-in_default : goal.returns-in_default
returns-in_default c =
    let empty : c.loop.waiting.items ≡ [] = none_left c.loop.waiting.items (λ some. let size = c.loop.waiting.ok.0 in let wrong = c.in_default.ensures.variant.1 (omega (arith, some, size)) in cc) in
    reading_done c.args.pool.now.trees c.args.terms.now c.args.sums.now c.loop.waiting.items c.loop.level c.loop.invariant empty

pub returns : goal.returns
returns c = all_needed c.args.pool.now.trees c.args.terms.now c.args.sums.now _ refl
