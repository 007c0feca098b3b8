use Rattle.data_rewriter.proofs.Simple.{a_rewriter_stays}
use Rattle.lps_core.proofs.PoolTrees.{extends_on}
use Rattle.lps_simulator.proofs.RewrittenTerms.{decided_as}
use Rattle.lps_simulator.proofs.rewriting.decide_left.Goals as goal

pub returns-in_err-made-clause-fits : goal.returns-in_err-made-clause-fits
returns-in_err-made-clause-fits g c = λ own h. a_rewriter_stays c.args.rewriter.now c.args.sig.now own c.args.pool.now.trees c.put_in.new.pool.trees c.put_in.ensures.kept h

pub decide-requires-clause-known : goal.decide-requires-clause-known
decide-requires-clause-known g c =
    let r = c.requires.known in
    (c.args.sig.now, r.0, a_rewriter_stays c.args.rewriter.now c.args.sig.now r.0 c.args.pool.now.trees c.put_in.new.pool.trees c.put_in.ensures.kept r.1, c.in_ok-made.ensures.put.term)

pub returns-in_err-truth-clause-kept : goal.returns-in_err-truth-clause-kept
returns-in_err-truth-clause-kept g c = extends_on c.args.pool.now.trees c.put_in.new.pool.trees c.decide.new.pool.trees c.put_in.ensures.kept c.decide.ensures.kept

pub returns-in_err-truth-clause-fits : goal.returns-in_err-truth-clause-fits
returns-in_err-truth-clause-fits g c = λ own h. c.decide.ensures.fits c.args.sig.now own (a_rewriter_stays c.args.rewriter.now c.args.sig.now own c.args.pool.now.trees c.put_in.new.pool.trees c.put_in.ensures.kept h) c.in_ok-made.ensures.put.term

pub returns-clause-kept : goal.returns-clause-kept
returns-clause-kept g c = extends_on c.args.pool.now.trees c.put_in.new.pool.trees c.decide.new.pool.trees c.put_in.ensures.kept c.decide.ensures.kept

pub returns-clause-fits : goal.returns-clause-fits
returns-clause-fits g c = λ own h. c.decide.ensures.fits c.args.sig.now own (a_rewriter_stays c.args.rewriter.now c.args.sig.now own c.args.pool.now.trees c.put_in.new.pool.trees c.put_in.ensures.kept h) c.in_ok-made.ensures.put.term

pub returns-clause-decided : goal.returns-clause-decided
returns-clause-decided g c = λ own h.
    decided_as c.args.sig.now own c.put_in.new.pool.trees c.decide.new.pool.trees c.in_ok-made.made _ c.args.left.now c.decide.new.fuel c.in_ok-truth.truth c.in_ok-made.ensures.put.is
    (c.in_ok-truth.ensures.says c.args.sig.now own (a_rewriter_stays c.args.rewriter.now c.args.sig.now own c.args.pool.now.trees c.put_in.new.pool.trees c.put_in.ensures.kept h) c.in_ok-made.ensures.put.term)
