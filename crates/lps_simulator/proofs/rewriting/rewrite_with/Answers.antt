use Rattle.data_rewriter.proofs.Simple.{a_rewriter_stays}
use Rattle.lps_core.proofs.PoolTrees.{extends_on}
use Rattle.lps_simulator.specs.Rewritten.{environment_of}
use Rattle.lps_simulator.proofs.RewrittenTerms.{done_as, spent_as}
use Rattle.lps_simulator.proofs.rewriting.rewrite_with.Goals as goal

pub returns-in_err-made-clause-fits : goal.returns-in_err-made-clause-fits
returns-in_err-made-clause-fits g c = λ own h. a_rewriter_stays c.args.rewriter.now c.args.sig.now own c.args.pool.now.trees c.put_in.new.pool.trees c.put_in.ensures.kept h

pub normalise-requires-clause-known : goal.normalise-requires-clause-known
normalise-requires-clause-known g c =
    let r = c.requires.known in
    (c.args.sig.now, r.0, a_rewriter_stays c.args.rewriter.now c.args.sig.now r.0 c.args.pool.now.trees c.put_in.new.pool.trees c.put_in.ensures.kept r.1, c.in_ok-made.ensures.put.term)

pub returns-in_err-done-clause-kept : goal.returns-in_err-done-clause-kept
returns-in_err-done-clause-kept g c = extends_on c.args.pool.now.trees c.put_in.new.pool.trees c.normalise.new.pool.trees c.put_in.ensures.kept c.normalise.ensures.kept

pub returns-in_err-done-clause-fits : goal.returns-in_err-done-clause-fits
returns-in_err-done-clause-fits g c = λ own h. c.normalise.ensures.fits c.args.sig.now own (a_rewriter_stays c.args.rewriter.now c.args.sig.now own c.args.pool.now.trees c.put_in.new.pool.trees c.put_in.ensures.kept h) c.in_ok-made.ensures.put.term

pub returns-in-Done-clause-kept : goal.returns-in-Done-clause-kept
returns-in-Done-clause-kept g c = extends_on c.args.pool.now.trees c.put_in.new.pool.trees c.normalise.new.pool.trees c.put_in.ensures.kept c.normalise.ensures.kept

pub returns-in-Done-clause-fits : goal.returns-in-Done-clause-fits
returns-in-Done-clause-fits g c = λ own h. c.normalise.ensures.fits c.args.sig.now own (a_rewriter_stays c.args.rewriter.now c.args.sig.now own c.args.pool.now.trees c.put_in.new.pool.trees c.put_in.ensures.kept h) c.in_ok-made.ensures.put.term

pub returns-in-Spent-clause-kept : goal.returns-in-Spent-clause-kept
returns-in-Spent-clause-kept g c = extends_on c.args.pool.now.trees c.put_in.new.pool.trees c.normalise.new.pool.trees c.put_in.ensures.kept c.normalise.ensures.kept

pub returns-in-Spent-clause-fits : goal.returns-in-Spent-clause-fits
returns-in-Spent-clause-fits g c = λ own h. c.normalise.ensures.fits c.args.sig.now own (a_rewriter_stays c.args.rewriter.now c.args.sig.now own c.args.pool.now.trees c.put_in.new.pool.trees c.put_in.ensures.kept h) c.in_ok-made.ensures.put.term

pub returns-in-Done-clause-rewritten : goal.returns-in-Done-clause-rewritten
returns-in-Done-clause-rewritten g c = λ own h.
    done_as c.args.sig.now own (environment_of c.args.sig.now c.args.pool.now.trees c.args.by.now) c.args.pool.now.trees c.put_in.new.pool.trees c.normalise.new.pool.trees c.args.term c.in_ok-made.made c.in-Done.done c.args.fuel c.normalise.new.fuel c.in_ok-done.field-0
    c.in_ok-made.ensures.put.is c.in-Done.is (c.in_ok-done.ensures.says c.args.sig.now own (a_rewriter_stays c.args.rewriter.now c.args.sig.now own c.args.pool.now.trees c.put_in.new.pool.trees c.put_in.ensures.kept h) c.in_ok-made.ensures.put.term)

pub returns-in-Spent-clause-rewritten : goal.returns-in-Spent-clause-rewritten
returns-in-Spent-clause-rewritten g c = λ own h.
    spent_as c.args.sig.now own (environment_of c.args.sig.now c.args.pool.now.trees c.args.by.now) c.args.pool.now.trees c.put_in.new.pool.trees c.normalise.new.pool.trees c.args.term c.in_ok-made.made c.in-Spent.spent c.args.fuel c.normalise.new.fuel c.in_ok-done.field-0
    c.in_ok-made.ensures.put.term c.normalise.ensures.kept c.in_ok-made.ensures.put.is c.in-Spent.is (c.in_ok-done.ensures.says c.args.sig.now own (a_rewriter_stays c.args.rewriter.now c.args.sig.now own c.args.pool.now.trees c.put_in.new.pool.trees c.put_in.ensures.kept h) c.in_ok-made.ensures.put.term)
