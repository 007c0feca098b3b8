use Rattle.lin_run.proofs.FurtherAnswers.{one_of_three}
use Rattle.lin_run.proofs.top.answer_with.Goals as goal

pub unreachable-requires : goal.unreachable-requires
unreachable-requires g c = one_of_three c.args.task c.requires.needs (λ m f b e. c.in_default.not-Replay m f b e) (λ m f b e. c.in_default.not-StepsAfter m f b e) (λ m f e. c.in_default.not-Invariant m f e)
