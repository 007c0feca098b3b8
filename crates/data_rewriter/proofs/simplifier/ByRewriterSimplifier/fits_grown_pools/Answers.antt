use Rattle.data_rewriter.proofs.Simple.{a_rewriter_stays}
use Rattle.data_rewriter.proofs.simplifier.ByRewriterSimplifier.fits_grown_pools.Goals as goal

pub returns : goal.returns
returns g c = λ sig own old new grows h. (a_rewriter_stays c.args.self.now.rewriter sig own old new grows h.0, h.1)
