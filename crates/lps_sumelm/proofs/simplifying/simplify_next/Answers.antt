use Rattle.lps_sumelm.proofs.SimplifiedInCode.{next_some, next_made, next_none}
use Rattle.lps_sumelm.proofs.simplifying.simplify_next.Goals as goal

pub returns-in_ok-simplify_all-in-Some-clause-fitting : goal.returns-in_ok-simplify_all-in-Some-clause-fitting
returns-in_ok-simplify_all-in-Some-clause-fitting g c = λ sig own f h.
    c.simplify_all.ensures.fitting sig own f (next_some sig c.args.pool.now.trees c.args.next.now c.in-Some.terms c.as_slice.result.now c.in-Some.is c.as_slice.ensures.value h)

pub returns-in_ok-simplify_all-in-Some-clause-answers : goal.returns-in_ok-simplify_all-in-Some-clause-answers
returns-in_ok-simplify_all-in-Some-clause-answers g c = λ sig own f h fine.
    next_made sig own (g.S.Simplifier.simple c.args.simp.now sig own) c.args.pool.now.trees c.simplify_all.new.pool.trees c.args.next.now c.in-Some.terms c.in_ok-simplify_all-in-Some.field-0 c.as_slice.result.now c.in-Some.is c.as_slice.ensures.value
    (c.in_ok-simplify_all-in-Some.ensures.answers sig own f (next_some sig c.args.pool.now.trees c.args.next.now c.in-Some.terms c.as_slice.result.now c.in-Some.is c.as_slice.ensures.value h) fine)

pub returns-in-None-clause-answers : goal.returns-in-None-clause-answers
returns-in-None-clause-answers g c = λ sig own f h fine. next_none sig own (g.S.Simplifier.simple c.args.simp.now sig own) c.args.pool.now.trees c.args.pool.now.trees c.args.next.now c.in-None.is
