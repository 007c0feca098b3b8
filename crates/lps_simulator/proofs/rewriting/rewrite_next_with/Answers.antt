use Rattle.lps_simulator.specs.Rewritten.{environment_of}
use Rattle.lps_simulator.proofs.RewrittenTerms.{next_some, next_made, next_none}
use Rattle.lps_simulator.proofs.rewriting.rewrite_next_with.Goals as goal

pub rewrite_all_with-requires-clause-terms : goal.rewrite_all_with-requires-clause-terms
rewrite_all_with-requires-clause-terms g c = next_some c.args.sig.now c.args.pool.now.trees c.args.next.now c.in-Some.terms c.as_slice.result.now c.in-Some.is c.as_slice.ensures.value c.requires.next

pub returns-in_ok-rewrite_all_with-in-Some-clause-rewritten : goal.returns-in_ok-rewrite_all_with-in-Some-clause-rewritten
returns-in_ok-rewrite_all_with-in-Some-clause-rewritten g c = λ own h.
    next_made c.args.sig.now own c.args.fuel (environment_of c.args.sig.now c.args.pool.now.trees c.args.by.now) c.args.pool.now.trees c.rewrite_all_with.new.pool.trees c.args.next.now c.in-Some.terms c.in_ok-rewrite_all_with-in-Some.field-0 c.as_slice.result.now c.in-Some.is c.as_slice.ensures.value
    (c.in_ok-rewrite_all_with-in-Some.ensures.rewritten own h)

pub returns-in-None-clause-rewritten : goal.returns-in-None-clause-rewritten
returns-in-None-clause-rewritten g c = λ own h. next_none c.args.sig.now own c.args.fuel (environment_of c.args.sig.now c.args.pool.now.trees c.args.by.now) c.args.pool.now.trees c.args.pool.now.trees c.args.next.now c.in-None.is
