use Rattle.std.proofs.Common.{◌≡◌, ◌+◌, ◌-◌, ◌++◌, ◌∷◌, [], ◌∙◌, ap, sym, map, ℕ, arith}
use Rattle.std.specs.List.{range_with_len}
use Rattle.std.proofs.lemmas.List.FromFn.{map-range_with_len_more}
use Rattle.data_theory.specs.Structs.{numbers_from}
use Rattle.lps_printer.proofs.whole_texts.functions_between.Goals as goal

pub loop-number-init : goal.loop-number-init
loop-number-init c = (c.new-functions.ensures.items ∙ ap (numbers_from c.args.first) (let z : 0 ≡ c.args.first - c.args.first = omega arith in z), c.requires)

pub loop-number-preserved : goal.loop-number-preserved
loop-number-preserved c =
    let done : ℕ = c.loop-number.number - c.args.first in
    let more : done + 1 ≡ c.loop-number.number + 1 - c.args.first = omega (arith, c.loop-number.auto.number) in
    let here : c.args.first + done ≡ c.loop-number.number = omega (arith, c.loop-number.auto.number) in (
      c.in_ok-push.ensures.items ∙ ap (λ ns. ns ++ record { 0 = c.loop-number.number } ∷ []) c.loop-number.invariant.0
          ∙ sym (map-range_with_len_more (λ (i : ℕ). record { 0 = i }) c.args.first done c.loop-number.number here) ∙ ap (λ n. map (λ (i : ℕ). record { 0 = i }) (range_with_len c.args.first n)) more,
      omega (arith, c.loop-number-test.true),
    )

pub returns : goal.returns
returns c =
    let end : c.loop-number.number - c.args.first ≡ c.args.last - c.args.first = omega (arith, c.loop-number.invariant.1) in
    c.loop-number.invariant.0 ∙ ap (numbers_from c.args.first) end
