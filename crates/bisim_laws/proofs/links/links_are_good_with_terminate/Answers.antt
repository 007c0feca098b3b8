use Rattle.bisim_laws.proofs.TerminatingLinks.{then_terminating, sealed_terminating, enough_terminating}
use Rattle.bisim_laws.proofs.links.links_are_good_with_terminate.Goals as goal

pub returns : goal.returns
returns c = record { sealed = sealed_terminating; then = then_terminating; up_to_same = enough_terminating }
