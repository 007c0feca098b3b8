use Rattle.lps_invariant.proofs.PuttingParts.{if_ok, variables_are}
use Rattle.lps_invariant.proofs.SolvedPlaces.{solved_as}
use Rattle.lps_invariant.proofs.places.solved_place.Goals as goal

pub returns-clause-solved : goal.returns-clause-solved
returns-clause-solved c =
    let vars =
    variables_are c.args.sig.now c.args.pool.now.trees c.as_slice-2.result.now c.in_ok-vars.vars.items c.as_slice.result.now c.args.summand.now.sums.items c.args.params.now c.as_slice-2.ensures.value c.in_ok-vars.ensures c.as_slice.ensures.value in
    if_ok c.solved.result _ _ (λ made h inv e. solved_as vars (c.in_ok-place.ensures.place inv e) h) c.solved.ensures.solved
