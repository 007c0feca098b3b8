use Rattle.std.proofs.Common.{◌≡◌}
use Rattle.lps_core.specs.Naming.{GrowsByNames}
use Rattle.lin_driver.specs.TakenNames.{HaveTakenNames}
use Rattle.lin_driver.proofs.variable_names.take_names_below.Given as goal

abbrev pub invariant-loop-number : goal.invariant-loop-number
invariant-loop-number l = GrowsByNames l.fn.sig l.sig × (l.sig.variables ≡ l.fn.sig.variables) × HaveTakenNames l.sig l.number
