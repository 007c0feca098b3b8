use Rattle.communication.proofs.WayNames.{ways_from}
use Rattle.communication.proofs.laws.ways_come_from_opened.Goals as goal

pub returns : goal.returns
returns c = ways_from
