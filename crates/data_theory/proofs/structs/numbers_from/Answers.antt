use Rattle.std.proofs.Common.{◌≡◌, ◌+◌, ◌-◌, ◌++◌, ◌∷◌, [], ◌∙◌, ap, sym, map, ℕ, arith}
use Rattle.std.specs.List.{range_with_len}
use Rattle.std.proofs.lemmas.List.FromFn.{map-range_with_len_more}
use Rattle.data_theory.proofs.structs.numbers_from.Goals as goal

pub loop-number-preserved : goal.loop-number-preserved
loop-number-preserved c =
    let done : ℕ = c.loop-number.number - c.args.first in
    let more : done + 1 ≡ c.loop-number.number + 1 - c.args.first = omega (arith, c.loop-number.auto.number) in
    let here : c.args.first + done ≡ c.loop-number.number = omega (arith, c.loop-number.auto.number) in
    c.in_ok-push.ensures.items ∙ ap (λ ns. ns ++ record { 0 = c.loop-number.number } ∷ []) c.loop-number.invariant
    ∙ sym (map-range_with_len_more (λ (i : ℕ). record { 0 = i }) c.args.first done c.loop-number.number here) ∙ ap (λ n. map (λ (i : ℕ). record { 0 = i }) (range_with_len c.args.first n)) more
