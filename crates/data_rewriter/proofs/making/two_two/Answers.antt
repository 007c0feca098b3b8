use Rattle.data_theory.specs.Terms.{apply, more, none}
use Rattle.data_rewriter.proofs.Standings.{stands_still_for}
use Rattle.data_rewriter.proofs.making.two_two.Goals as goal

pub returns-clause-made : goal.returns-clause-made
returns-clause-made c = λ sig table f g t u v af ag x y z. c.in_ok-made.ensures.made sig table f t (apply g (more u (more v none))) af (stands_still_for sig c.args.pool.now.trees c.two.new.pool.trees c.in_ok-under.ensures.kept c.args.x t x) (c.in_ok-under.ensures.made sig table g u v ag y z)
