use Rattle.std.proofs.Common.{◌≡◌, [], ap, ◌∙◌, arith}
use Rattle.std.proofs.lemmas.Grind.{common_steps}
use Rattle.mcrl2_syntax.specs.DataTrees.{plain_data, plain_operands}
use Rattle.mcrl2_parser.specs.Operands.{tightest}
use Rattle.mcrl2_parser.proofs.Joins.{joined_none, some_tightest, level_joined, level_passed, alone_joined}
use Rattle.mcrl2_parser.proofs.joining.joined.Goals as goal

pub loop-below-init : goal.loop-below-init
loop-below-init c =
    let level : c.tightest-level.result ≡ tightest (plain_operands c.args.operands.items) = c.tightest-level.ensures ∙ ap (λ os. tightest (plain_operands os)) c.deref.ensures.value in
    (joined_none _, level, omega (arith, level, some_tightest (plain_operands c.args.operands.items)))

pub loop-below-preserved-then-level-below : goal.loop-below-preserved-then-level-below
loop-below-preserved-then-level-below c = level_passed c.loop-below.below c.loop-below.level _ _ c.loop-below.invariant c.if-level-below.true

pub loop-below-preserved : goal.loop-below-preserved
loop-below-preserved c =
    let level : c.tightest-level-in-loop-below.result ≡ tightest (plain_operands c.in_ok-joined.others.items) = c.tightest-level-in-loop-below.ensures ∙ ap (λ os. tightest (plain_operands os)) c.deref-in-loop-below.ensures.value in
    let so = level_joined c.loop-below.below c.loop-below.level _ _ _ c.loop-below.invariant c.loop-below-test.true c.if-level-below.false c.in_ok-joined.ensures.joined in
    (so.0, level, omega (arith, level, so.1))

pub returns-then-is_empty-clause-tree : goal.returns-then-is_empty-clause-tree
returns-then-is_empty-clause-tree c = let nothing : c.args.operands.items ≡ [] = grind (arith, common_steps) in alone_joined 11 (plain_data c.args.first) c.args.operands.items nothing
