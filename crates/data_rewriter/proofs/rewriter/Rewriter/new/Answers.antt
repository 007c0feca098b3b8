use Rattle.data_rewriter.proofs.StateMoves.{nothing_stored}
use Rattle.data_rewriter.proofs.Keeping.{nothing_closed}
use Rattle.data_rewriter.proofs.rewriter.Rewriter.new.Goals as goal

pub returns-clause-fits : goal.returns-clause-fits
returns-clause-fits g c = λ own are. record {
  tables = c.in_ok-tables.ensures own are;
  stored = nothing_stored c.args.sig.now own c.args.pool.now.trees c.new.result c.new.ensures.empty;
  closed = λ covered. nothing_closed c.new.result c.new.ensures.empty;
}
