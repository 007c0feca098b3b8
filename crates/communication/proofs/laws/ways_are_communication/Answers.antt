use Rattle.communication.proofs.CommunicationWhole.{communicating_is_linear, communicating_is_good}
use Rattle.communication.proofs.laws.ways_are_communication.Goals as goal

pub returns : goal.returns
returns c = record { linear = communicating_is_linear; good = communicating_is_good }
