use Rattle.lps_invariant.proofs.PuttingParts.{if_ok, next_put}
use Rattle.lps_invariant.proofs.places.parts_next.Goals as goal

pub returns-in-Some-clause-put : goal.returns-in-Some-clause-put
returns-in-Some-clause-put c =
    if_ok c.parts_with.result _ _ (λ made h inv e. next_put c.args.sig.now c.args.pool.now.trees c.args.params.now inv c.args.next.now c.in-Some.terms c.as_slice.result.now _ c.in-Some.is c.as_slice.ensures.value (h inv e)) c.parts_with.ensures.put
