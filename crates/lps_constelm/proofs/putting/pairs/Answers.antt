use Rattle.std.proofs.Common.{◌≤◌, ◌∙◌, ◌++◌, ◌∷◌, [], ap, ap₂, length, get_or, sym, arith}
use Rattle.std.proofs.lemmas.List.{take_all}
use Rattle.lps_constelm.specs.Putting.{pairs_of}
use Rattle.lps_constelm.proofs.ChangingLoops.{pairs_more}
use Rattle.lps_constelm.proofs.putting.pairs.Goals as goal

pub loop-place-preserved : goal.loop-place-preserved
loop-place-preserved c = c.in_ok-push.ensures.items ∙ ap (λ z. z ++ (get_or c.args.vars.now c.loop-place.place (record { 0 = 0 }), get_or c.args.terms.now c.loop-place.place (record { 0 = 0 })) ∷ []) c.loop-place.invariant ∙ sym (pairs_more c.args.vars.now c.args.terms.now c.loop-place.place (record { 0 = 0 }) (record { 0 = 0 }) c.loop-place-test.true c.requires)

pub returns : goal.returns
returns c =
    let n = c.loop-place-test.false in
    let q = c.requires in
    let l : length c.args.vars.now ≤ c.loop-place.place = omega (arith, n) in
    let k : length c.args.terms.now ≤ c.loop-place.place = omega (arith, n, q) in
    c.loop-place.invariant ∙ ap₂ pairs_of (take_all c.loop-place.place c.args.vars.now l) (take_all c.loop-place.place c.args.terms.now k)
