use Rattle.lin_refusals.proofs.stop.Stop.for_trace.Goals as goal

pub returns-in-Ok-clause-cause : goal.returns-in-Ok-clause-cause
returns-in-Ok-clause-cause c = λ ending method text told bad. (c.in-BadTrace.number, c.in-Ok.ensures, bad c.in-BadTrace.number c.in-BadTrace.is)
