use Rattle.data_rewriter.proofs.Standings.{called_two}
use Rattle.data_rewriter.proofs.making.two.Goals as goal

pub returns-clause-made : goal.returns-clause-made
returns-clause-made c = λ sig table z t u f x y. called_two sig c.args.pool.now.trees c.call.new.pool.trees c.in_ok-made.made c.args.x c.args.y z t u x y (c.in_ok-made.ensures.made sig table z f)
