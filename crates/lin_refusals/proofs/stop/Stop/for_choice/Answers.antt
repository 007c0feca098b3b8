use Rattle.lin_refusals.proofs.stop.Stop.for_choice.Goals as goal

pub returns-in-Ok-clause-cause : goal.returns-in-Ok-clause-cause
returns-in-Ok-clause-cause c = λ ending method fuel bound text told bad. (c.in-BadChoice.number, c.in-Ok.ensures, bad c.in-BadChoice.number c.in-BadChoice.is)
