use Rattle.greibach.proofs.Meeting.{meets_inserted}
use Rattle.greibach.proofs.numbers.number.Goals as goal

pub returns-clause-met : goal.returns-clause-met
returns-clause-met c = meets_inserted c.args.met.now.keys c.args.place c.insert_full.new.self.keys c.in_ok-index.ensures.keys
