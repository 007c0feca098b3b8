use Rattle.std.proofs.Common.{◌≡◌, ◌≤◌, ◌<◌, ◌↔◌, ℕ, Bool, IsTrue, List, length, Option, Some, None, true, false, sym, ap, subst, ◌∙◌, arith}
use Rattle.std.specs.Prelude.{slice_get}
use Rattle.term_pool.specs.declared.first_values.First.{First}
use Rattle.term_pool.specs.FirstValues.{open_count}
use Rattle.term_pool.proofs.FirstTables.{IsTurn, as_light_settled}
use Rattle.term_pool.proofs.FirstLoops.{open_at, arguments_within}
use Rattle.term_pool.proofs.first_values.settle_as_light.Goals as goal
use Rattle.term_pool.proofs.first_values.settle_as_light.Goals.{then-not-less+in-Some-1, then-not-less+in-None-1, else-not-less}

not_above : (m n : ℕ) (b : Bool) → b ≡ false → (IsTrue b ↔ (n < m)) → m ≤ n
not_above m n b unset told = let never : n < m → ⊥ = λ l. (let both : true ≡ false = sym (told.1 l) ∙ unset in cc) in omega (arith, never)

pub loop-number-preserved : goal.loop-number-preserved
loop-number-preserved c =
    let g = c.args.sig.now in
    let es = c.loop-number.entries.items in
    let n = c.args.weight.now in
    let k = open_count c.args.entries.now.items in
    let i = c.loop-number.number in
    let kept = c.loop-number.invariant in
    let first = c.in-Some.first in
    let within = arguments_within g es c.requires.signature.complete kept.entries.count in
    let below : i < length es = omega arith in
    let unsettled : slice_get es i ≡ Some None = open_at es i c.index.result.now below c.index.ensures (sym c.if-is_some.ensures) in
    let settled = as_light_settled g es c.as_slice.result.now c.if-not-less.entries.items n k i first c.in_ok-first.field-0 within kept.entries kept.least kept.fewer unsettled c.as_slice.ensures.value c.in_ok-first.ensures c.in-Some.is in
    let turn : IsTurn g c.if-not-less.entries.items n k =
    elim c.if-not-less.branch [
      | then-not-less+in-Some-1 w ↦ settled (not_above first.weight n c.less.result w.if-not-less.true c.less.ensures) (ap (λ v. v.items) w.entries-is)
      | then-not-less+in-None-1 w ↦ settled (not_above first.weight n c.less.result w.if-not-less.true c.less.ensures) (ap (λ v. v.items) w.entries-is)
      | else-not-less w ↦ subst (λ (xs : List (Option First)). IsTurn g xs n k) (sym (ap (λ v. v.items) w.entries-is)) (record { entries = kept.entries; least = kept.least; fewer = kept.fewer })
    ]
    in
    record { entries = turn.entries; least = turn.least; fewer = turn.fewer }
