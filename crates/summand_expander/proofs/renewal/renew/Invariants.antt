use Rattle.std.specs.Prelude.{take}
use Rattle.std.specs.List.{Contains}
use Rattle.lps_core.specs.Naming.{GrowsByNames}
use Rattle.summand_expander.specs.Renewals.{AreRenewed}
use Rattle.summand_expander.proofs.renewal.renew.Given as goal

abbrev pub invariant-loop-var : goal.invariant-loop-var
invariant-loop-var l =
    GrowsByNames l.fn.sig l.sig × AreRenewed (Contains l.names.keys) (Contains l.others.keys) l.fn.sig l.fn.renewal.from.keys l.fn.renewal.to.items (take l.var-index l.vars) l.sig l.renewal.from.keys l.renewal.to.items
