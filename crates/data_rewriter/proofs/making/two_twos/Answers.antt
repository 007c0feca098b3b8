use Rattle.data_theory.specs.Terms.{apply, more, none}
use Rattle.data_rewriter.proofs.Standings.{stands_still_for}
use Rattle.data_rewriter.proofs.making.two_twos.Goals as goal

pub returns-clause-made : goal.returns-clause-made
returns-clause-made c = λ sig table f g h t u v s af ag ah x y z w.
    let mid = c.two.new.pool.trees in
    let first = stands_still_for sig c.two.new.pool.trees c.two-2.new.pool.trees c.in_ok-second.ensures.kept c.in_ok-first.first _ (c.in_ok-first.ensures.made sig table g t u ag x y) in
    let moved_z = stands_still_for sig c.args.pool.now.trees c.two.new.pool.trees c.in_ok-first.ensures.kept c.args.right.1 v z in
    let moved_w = stands_still_for sig c.args.pool.now.trees c.two.new.pool.trees c.in_ok-first.ensures.kept c.args.right.2 s w in
    c.in_ok-made.ensures.made sig table f (apply g (more t (more u none))) (apply h (more v (more s none))) af first (c.in_ok-second.ensures.made sig table h v s ah moved_z moved_w)
