use Rattle.bisim_laws.proofs.PieceByPiece.{pieces_enough}
use Rattle.bisim_laws.proofs.links.pieces_are_enough.Goals as goal

pub returns : goal.returns
returns c = pieces_enough
