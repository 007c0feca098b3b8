use Rattle.chosen_moves.proofs.SayingLemmas.{faulty_other}
use Rattle.chosen_moves.proofs.saying.said_by.Goals as goal

pub returns-in-Err : goal.returns-in-Err
returns-in-Err c = faulty_other c.args.line.now c.in-Err.fault c.faulty.result c.in-Err.ensures.fault c.faulty.ensures
