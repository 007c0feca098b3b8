use Rattle.std.proofs.Common.{[], sym, append-nil}
use Rattle.data_rewriter.proofs.Simple.{itself_is_simplified}
use Rattle.data_rewriter.proofs.simplifier.AsIsSimplifier.simplify.Goals as goal

pub returns-clause-simplified : goal.returns-clause-simplified
returns-clause-simplified c = λ sig own h term. itself_is_simplified sig own c.args.pool.now.trees c.args.pool.now.trees c.args.term ([], sym (append-nil c.args.pool.now.trees)) term
