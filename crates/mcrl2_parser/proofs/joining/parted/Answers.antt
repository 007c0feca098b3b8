use Rattle.std.proofs.Common.{sym, ◌∙◌}
use Rattle.mcrl2_parser.proofs.Joins.{parted_all, parted_begins, parted_joins, parted_ends}
use Rattle.mcrl2_parser.proofs.joining.parted.Goals as goal

pub loop-sign-init : goal.loop-sign-init
loop-sign-init c = rw (c.new-run.ensures.items, c.new-others.ensures.items) (parted_begins c.args.level c.args.operands.items)

pub loop-sign-preserved-then-sign_level-level : goal.loop-sign-preserved-then-sign_level-level
loop-sign-preserved-then-sign_level-level c =
    parted_joins c.args.level c.args.operands.items c.loop-sign.operands.items c.pop.new.self.items c.loop-sign.run.items c.push.new.self.items c.loop-sign.others.items c.in-Some.sign c.in-Some.operand
    c.loop-sign.invariant c.in-Some.ensures.items (sym c.sign_level.ensures ∙ c.if-sign_level-level.true) c.in_ok-push.ensures.items

pub loop-sign-preserved : goal.loop-sign-preserved
loop-sign-preserved c = rw c.new-run-in-Some.ensures.items (
    parted_ends c.args.level c.args.operands.items c.loop-sign.operands.items c.pop.new.self.items c.loop-sign.run.items c.reverse.new.self.items c.loop-sign.others.items
    c.push-in-Some.new.self.items c.in-Some.sign c.in-Some.operand c.in_ok-tree.tree c.loop-sign.invariant c.in-Some.ensures.items
    (λ e. c.if-sign_level-level.false (c.sign_level.ensures ∙ e)) c.reverse.ensures.items c.in_ok-tree.ensures.tree c.in_ok-push-2.ensures.items)

pub returns-then-is_level-clause-parted : goal.returns-then-is_level-clause-parted
returns-then-is_level-clause-parted c = parted_all c.args.level c.args.operands.items _ _ c.deref.ensures.value c.if-is_level.ensures c.new.ensures.items
