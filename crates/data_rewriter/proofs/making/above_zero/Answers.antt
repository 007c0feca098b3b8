use Rattle.data_theory.specs.Terms.{natural}
use Rattle.data_theory.specs.Equations.{number}
use Rattle.data_rewriter.proofs.Standings.{stands_still_for}
use Rattle.data_rewriter.proofs.NumberSorts.{naturals_are}
use Rattle.data_rewriter.proofs.FixedFunctions.{less_at}
use Rattle.data_rewriter.proofs.making.above_zero.Goals as goal

pub returns-clause-made : goal.returns-clause-made
returns-clause-made c = λ sig ok t x.
    let x1 = stands_still_for sig c.args.pool.now.trees c.numeral.new.pool.trees c.in_ok-least.ensures.kept c.args.x t x in
    c.in_ok-made.ensures.made sig ok.table _ (number 0) t (less_at sig ok) (c.in_ok-least.ensures.made sig natural (naturals_are sig ok.table)) x1
