use Rattle.std.proofs.Common.{◌≡◌, ◌<◌, ◌≤◌, ◌∙◌, ◌⊎◌, ⊎_elim, ℕ, true, false, sym, arith}
use Rattle.value_enum.proofs.GrowingSorts.{member_at, summing_begins, summing_goes_on, summing_ends, none_beyond, none_at_end, nothing_to_put, summing_up_begins, summing_up_goes_on, summing_up_ends, empty_beyond, empty_at_end}
use lib.Dec.{ltb}
use Rattle.std.proofs.lemmas.Bool.Decides.{nat_tests}
use Rattle.value_enum.proofs.exhausting.makes_heavier.Goals as goal

not_below : (a b : ℕ) → ltb a b ≡ false → b ≤ a
not_below a b e = ⊎_elim (λ l. absurd (let t : ltb a b ≡ true = grind (arith, nat_tests) in let wrong : true ≡ false = sym t ∙ e in cc)) (λ l. l) (less_or_not a b)
  where
    less_or_not : (a b : ℕ) → (a < b) ⊎ (b ≤ a)
    less_or_not a b = grind arith

pub loop-place-init : goal.loop-place-init
loop-place-init c = (summing_begins c.args.arguments.now c.args.heaviest.now c.args.unbounded.now c.args.first, summing_up_begins c.args.arguments.now c.args.heaviest.now c.args.unbounded.now c.args.first)

pub limit_for-limit-requires-clause-sort : goal.limit_for-limit-requires-clause-sort
limit_for-limit-requires-clause-sort c = c.requires.arguments c.in-Some.sort (member_at c.args.arguments.now c.loop-place.place c.in-Some.sort c.loop-place-test.true c.in-Some.is)

above : (a b : ℕ) → ltb a b ≡ true → a < b
above a b e = ⊎_elim (λ l. l) (λ l. absurd (let t : ltb a b ≡ false = grind (arith, nat_tests) in let wrong : true ≡ false = sym e ∙ t in cc)) (less_or_not a b)
  where
    less_or_not : (a b : ℕ) → (a < b) ⊎ (b ≤ a)
    less_or_not a b = grind arith

pub returns-in_default-clause-heavier : goal.returns-in_default-clause-heavier
returns-in_default-clause-heavier c =
    λ e. summing_up_ends c.args.arguments.now c.args.heaviest.now c.args.unbounded.now c.args.first c.loop-place.place c.loop-place.total c.args.weight
    (empty_at_end c.args.arguments.now c.args.heaviest.now c.args.unbounded.now c.args.first c.loop-place.place c.loop-place-test.true c.in_default.not-Some) (above c.args.weight c.loop-place.total e) c.loop-place.invariant.1

pub returns-clause-heavier : goal.returns-clause-heavier
returns-clause-heavier c =
    λ e. summing_up_ends c.args.arguments.now c.args.heaviest.now c.args.unbounded.now c.args.first c.loop-place.place c.loop-place.total c.args.weight (empty_beyond c.args.arguments.now c.args.heaviest.now c.args.unbounded.now c.args.first c.loop-place.place c.loop-place-test.false)
    (above c.args.weight c.loop-place.total e) c.loop-place.invariant.1

pub returns-in_default-clause-none : goal.returns-in_default-clause-none
returns-in_default-clause-none c =
    λ e. summing_ends c.args.arguments.now c.args.heaviest.now c.args.unbounded.now c.args.first c.loop-place.place c.loop-place.total c.args.weight
    (none_at_end c.args.arguments.now c.args.heaviest.now c.args.unbounded.now c.args.first c.loop-place.place c.loop-place-test.true c.in_default.not-Some) (not_below c.args.weight c.loop-place.total e) c.requires.weight c.loop-place.invariant.0

pub returns-then-limit-eq0-clause-none : goal.returns-then-limit-eq0-clause-none
returns-then-limit-eq0-clause-none c =
    λ e. nothing_to_put c.args.arguments.now c.args.heaviest.now c.args.unbounded.now c.args.first c.loop-place.place c.limit_for-limit.result c.args.weight c.in-Some.sort c.loop-place.total c.loop-place-test.true c.in-Some.is c.limit_for-limit.ensures c.if-limit-eq0.true c.loop-place.invariant.0

pub loop-place-preserved : goal.loop-place-preserved
loop-place-preserved c = (
  summing_goes_on c.args.arguments.now c.args.heaviest.now c.args.unbounded.now c.args.first c.loop-place.place c.loop-place.total c.saturating_add-total.result c.limit_for-limit.result c.in-Some.sort c.loop-place-test.true c.in-Some.is c.limit_for-limit.ensures c.saturating_add-total.ensures c.loop-place.invariant.0,
  summing_up_goes_on c.args.arguments.now c.args.heaviest.now c.args.unbounded.now c.args.first c.loop-place.place c.loop-place.total c.saturating_add-total.result c.limit_for-limit.result c.in-Some.sort c.loop-place-test.true c.in-Some.is c.limit_for-limit.ensures c.if-limit-eq0.false c.saturating_add-total.ensures c.loop-place.invariant.1,
)

pub returns-clause-none : goal.returns-clause-none
returns-clause-none c =
    λ e. summing_ends c.args.arguments.now c.args.heaviest.now c.args.unbounded.now c.args.first c.loop-place.place c.loop-place.total c.args.weight (none_beyond c.args.arguments.now c.args.heaviest.now c.args.unbounded.now c.args.first c.loop-place.place c.loop-place-test.false)
    (not_below c.args.weight c.loop-place.total e) c.requires.weight c.loop-place.invariant.0
