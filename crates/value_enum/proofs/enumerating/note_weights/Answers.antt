use Rattle.std.proofs.Common.{◌≡◌, ◌<◌, ◌+◌, ◌∷◌, [], ◌∙◌, ◌⊎◌, ⊎_elim, ℕ, List, length, set, get_or, refl, sym, ap, subst, arith}
use Rattle.std.proofs.lemmas.List.{length-set, get_or-set_same, get_or-set_other}
use Rattle.std.proofs.lemmas.Grind.{common_steps}
use Rattle.data_theory.specs.declared.ids.TermId.{TermId}
use Rattle.value_enum.specs.Levels.{values_at}
use Rattle.value_enum.proofs.enumerating.note_weights.Goals as goal

before_or_last : (k n : ℕ) → k < n + 1 → (k < n) ⊎ (k ≡ n)
before_or_last k n l = grind arith

pub loop-number-init : goal.loop-number-init
loop-number-init c = record { size = refl; there = λ k l. absurd (omega (arith, l)); others = λ k l. absurd (omega (arith, l)); left = λ k l. refl }

empty : (xs : List TermId) → length xs ≡ 0 → xs ≡ []
empty [] e = refl
empty (x ∷ xs) e = absurd (omega (arith, e))

pub loop-number-preserved-then-is_empty : goal.loop-number-preserved-then-is_empty
loop-number-preserved-then-is_empty c =
    let i = c.loop-number.number in
    let none : values_at c.args.levels.now.values.items c.args.weight (record { 0 = i }) ≡ [] =
    sym (c.values_of_weight-values.ensures ∙ ap (λ rows. values_at rows c.args.weight (record { 0 = i })) c.as_slice.ensures.value) ∙ empty c.values_of_weight-values.result.now (grind (arith, common_steps)) in
    record {
      size = c.loop-number.invariant.size;
      there = λ k l some. ⊎_elim (λ less. c.loop-number.invariant.there k less some) (λ last. absurd (some (ap (λ n. values_at c.args.levels.now.values.items c.args.weight (record { 0 = n })) last ∙ none))) (before_or_last k i l);
      others = λ k l e. ⊎_elim (λ less. c.loop-number.invariant.others k less e) (λ last. c.loop-number.invariant.left k (omega (arith, last))) (before_or_last k i l);
      left = λ k l. c.loop-number.invariant.left k (omega (arith, l));
    }

pub index_mut-requires : goal.index_mut-requires
index_mut-requires c = omega (arith, c.loop-number.invariant.size)

pub loop-number-preserved : goal.loop-number-preserved
loop-number-preserved c =
    let i = c.loop-number.number in
    let size = c.loop-number.invariant.size in
    let within : i < length c.loop-number.heaviest.items = omega (arith, size) in
    let other : (k : ℕ) → (k ≡ i → ⊥) → get_or (set c.loop-number.heaviest.items i c.args.weight) k 0 ≡ get_or c.loop-number.heaviest.items k 0 = λ k n. get_or-set_other c.loop-number.heaviest.items i k c.args.weight 0 n in
    record {
      size = length-set c.loop-number.heaviest.items i c.args.weight ∙ size;
      there = λ k l some. ⊎_elim (λ less. other k (λ e. omega (arith, e, less)) ∙ c.loop-number.invariant.there k less some) (λ last. subst (λ n. get_or (set c.loop-number.heaviest.items i c.args.weight) n 0 ≡ c.args.weight) (sym last) (get_or-set_same c.loop-number.heaviest.items i c.args.weight 0 within)) (before_or_last k i l);
      others = λ k l e. ⊎_elim (λ less. other k (λ d. omega (arith, d, less)) ∙ c.loop-number.invariant.others k less e) (λ last. absurd (
          let none : c.values_of_weight-values.result.now ≡ [] = c.values_of_weight-values.ensures ∙ (ap (λ rows. values_at rows c.args.weight (record { 0 = i })) c.as_slice.ensures.value ∙ (ap (λ n. values_at c.args.levels.now.values.items c.args.weight (record { 0 = n })) (sym last) ∙ e)) in
          let size = ap length none in
          grind (arith, common_steps)
          )) (before_or_last k i l);
      left = λ k l. other k (λ d. omega (arith, d, l)) ∙ c.loop-number.invariant.left k (omega (arith, l));
    }

pub returns : goal.returns
returns c = record {
  size = c.loop-number.invariant.size;
  there = λ k l some. c.loop-number.invariant.there k (omega (arith, l, c.loop-number-test.false)) some;
  others = λ k l e. c.loop-number.invariant.others k (omega (arith, l, c.loop-number-test.false)) e;
}
