use Rattle.data_rewriter.proofs.Standings.{interned_numeral}
use Rattle.data_rewriter.proofs.making.numeral.Goals as goal

pub returns-clause-made : goal.returns-clause-made
returns-clause-made c = λ sig a so. interned_numeral sig c.intern.new.self.trees c.in_ok-made.made c.args.sort c.args.num a so c.in_ok-made.ensures.within c.in_ok-made.ensures.tree
