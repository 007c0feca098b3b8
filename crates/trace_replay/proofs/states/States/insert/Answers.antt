use Rattle.std.proofs.Common.{refl}
use Rattle.trace_replay.proofs.StateSets.{running_added, vectors_tell}
use Rattle.trace_replay.proofs.states.States.insert.Goals as goal

pub returns : goal.returns
returns c = record { added = running_added _ vectors_tell c.in-Some.args c.args.self.now (record { running = c.insert.new.self; ended = c.args.self.now.ended }) c.args.state c.in-Some.is refl c.in_ok-insert.ensures.keys }
