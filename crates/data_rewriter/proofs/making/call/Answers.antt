use Rattle.data_rewriter.proofs.Standings.{called}
use Rattle.data_rewriter.proofs.making.call.Goals as goal

pub returns-clause-made : goal.returns-clause-made
returns-clause-made c = λ sig table y f args. called sig table c.args.pool.now.trees c.intern.new.self.trees c.in_ok-made.made c.args.fun c.args.args.now y c.in_ok-made.ensures.within c.in_ok-made.ensures.tree f args
