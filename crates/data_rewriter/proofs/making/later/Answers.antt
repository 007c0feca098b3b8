use Rattle.data_theory.specs.Terms.{natural}
use Rattle.data_theory.specs.Equations.{number}
use Rattle.data_rewriter.proofs.Standings.{stands_still_for}
use Rattle.data_rewriter.proofs.NumberSorts.{naturals_are}
use Rattle.data_rewriter.proofs.FixedFunctions.{minus_at, int_to_nat_at}
use Rattle.data_rewriter.proofs.making.later.Goals as goal

pub returns-clause-made : goal.returns-clause-made
returns-clause-made c = λ sig ok z t u f x y.
    let P = c.args.pool.now.trees in
    let y1 = stands_still_for sig c.args.pool.now.trees c.numeral.new.pool.trees c.in_ok-less.ensures.kept c.args.y u y in
    let x1 = stands_still_for sig c.args.pool.now.trees c.numeral.new.pool.trees c.in_ok-less.ensures.kept c.args.x t x in
    let x2 = stands_still_for sig c.numeral.new.pool.trees c.two.new.pool.trees c.in_ok-rest.ensures.kept c.args.x t x1 in
    c.in_ok-made.ensures.made sig ok.table z _ t _ f (int_to_nat_at sig ok) x2 (c.in_ok-rest.ensures.made sig ok.table _ u (number 1) (minus_at sig ok) y1 (c.in_ok-less.ensures.made sig natural (naturals_are sig ok.table)))
