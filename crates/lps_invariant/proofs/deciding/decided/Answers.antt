use Rattle.lps_invariant.proofs.DecidedTerms.{decided_as}
use Rattle.lps_invariant.proofs.deciding.decided.Goals as goal

pub decide-requires-clause-known : goal.decide-requires-clause-known
decide-requires-clause-known g c = let r = c.requires.known in (c.args.sig.now, r.0, r.1, c.requires.term)

pub returns-in_err-truth-clause-kept : goal.returns-in_err-truth-clause-kept
returns-in_err-truth-clause-kept g c = record { pool = c.decide.ensures.kept; rules = c.decide.ensures.rules; fits = λ own h. c.decide.ensures.fits c.args.sig.now own h c.requires.term }

pub returns-clause-kept : goal.returns-clause-kept
returns-clause-kept g c = record { pool = c.decide.ensures.kept; rules = c.decide.ensures.rules; fits = λ own h. c.decide.ensures.fits c.args.sig.now own h c.requires.term }

pub returns-clause-decided : goal.returns-clause-decided
returns-clause-decided g c = λ own h.
    decided_as c.args.sig.now own c.args.pool.now.trees c.decide.new.pool.trees c.args.term c.args.fuel c.decide.new.fuel c.in_ok-truth.truth c.decide.ensures.kept c.requires.term
    (c.in_ok-truth.ensures.says c.args.sig.now own h c.requires.term)
