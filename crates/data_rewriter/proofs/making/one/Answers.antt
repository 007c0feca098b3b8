use Rattle.data_rewriter.proofs.Standings.{called_one}
use Rattle.data_rewriter.proofs.making.one.Goals as goal

pub returns-clause-made : goal.returns-clause-made
returns-clause-made c = λ sig table y t f x. called_one sig c.args.pool.now.trees c.call.new.pool.trees c.in_ok-made.made c.args.x y t x (c.in_ok-made.ensures.made sig table y f)
