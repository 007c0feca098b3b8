use Rattle.greibach.proofs.OneByOne.{IsRenewing}
use Rattle.greibach.proofs.renewing.renewed.Given as goal

abbrev pub invariant-loop-var : goal.invariant-loop-var
invariant-loop-var l = IsRenewing l.fn.sig l.vars l.var-index l.sig l.others.items
