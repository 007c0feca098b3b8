use Rattle.data_theory.specs.Terms.{apply, more, none}
use Rattle.data_rewriter.proofs.Standings.{stands_still_for}
use Rattle.data_rewriter.proofs.making.two_one.Goals as goal

pub returns-clause-made : goal.returns-clause-made
returns-clause-made c = λ sig table z w t u f g x y. c.in_ok-made.ensures.made sig table z t (apply w (more u none)) f (stands_still_for sig c.args.pool.now.trees c.one.new.pool.trees c.in_ok-under.ensures.kept c.args.x t x) (c.in_ok-under.ensures.made sig table w u g y)
