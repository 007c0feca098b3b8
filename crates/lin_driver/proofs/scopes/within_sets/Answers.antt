use Rattle.std.proofs.Common.{ap₂, map}
use Rattle.process_terms.specs.PlainProcesses.{plain_rule}
use Rattle.lin_driver.specs.NetworkScopes.{completable}
use Rattle.lin_driver.proofs.scopes.within_sets.Goals as goal

pub returns : goal.returns
returns c = ap₂ (λ sets rules. completable (record { sets = sets; rules = map plain_rule rules })) c.in_ok-sets.ensures c.new.ensures.items
