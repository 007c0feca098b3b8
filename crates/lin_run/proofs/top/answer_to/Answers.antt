use Rattle.std.proofs.Common.{sym, subst}
use Rattle.lin_words.specs.Commands.{NeedsFurther}
use Rattle.lin_run.proofs.top.answer_to.Goals as goal

pub unreachable-requires : goal.unreachable-requires
unreachable-requires c = c.requires (subst NeedsFurther (sym c.in-StepsAfter.is) tt)

pub unreachable-requires-in-Replay : goal.unreachable-requires-in-Replay
unreachable-requires-in-Replay c = c.requires (subst NeedsFurther (sym c.in-Replay.is) tt)

pub unreachable-requires-in-Invariant : goal.unreachable-requires-in-Invariant
unreachable-requires-in-Invariant c = c.requires (subst NeedsFurther (sym c.in-Invariant.is) tt)
