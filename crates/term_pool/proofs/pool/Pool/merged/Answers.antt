use Rattle.term_pool.proofs.OneArgument.{only_one_merges}
use Rattle.term_pool.proofs.pool.Pool.merged.Goals as goal

pub returns-then-args-ne1-clause-merges : goal.returns-then-args-ne1-clause-merges
returns-then-args-ne1-clause-merges c = only_one_merges c.args.head c.args.self.now.trees c.args.args.now c.if-args-ne1.true
