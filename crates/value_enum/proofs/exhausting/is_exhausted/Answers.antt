use Rattle.std.proofs.Common.{◌≡◌, ◌<◌, ◌+◌, ◌∙◌, ℕ, zero, suc, [], ◌∷◌, Bool, true, false, List, length, get_or, Option, Some, None, refl, sym, ap, subst, true≢false, arith}
use Rattle.std.specs.Prelude.{MatchOption}
use Rattle.std.specs.List.{Contains}
use Rattle.std.proofs.lemmas.List.{length-set}
use Rattle.data_theory.specs.declared.ids.SortId.{SortId}
use Rattle.term_pool.proofs.InhabitedSearch.{one_mark_more}
use Rattle.value_enum.specs.Levels.{HasHeavier, HasNoHeavier}
use Rattle.value_enum.proofs.RowLemmas.{rows_length}
use Rattle.value_enum.proofs.GrowingSorts.{marks_on, marked_still}
use Rattle.value_enum.proofs.HeavierValues.{number_above, above_still}
use Rattle.value_enum.proofs.Exhaustion.{none_above}
use Rattle.value_enum.proofs.exhausting.is_exhausted.Goals as goal

pub loop-number-init : goal.loop-number-init
loop-number-init c = record { size = ap length c.new-unbounded.ensures.items; numbers = λ s l. absurd (omega (arith, l)) }

pub loop-number-preserved : goal.loop-number-preserved
loop-number-preserved c = record {
  size = ap length c.in_ok-push.ensures.items ∙ (rows_length c.loop-number.unbounded.items _ ∙ ap (λ n. n + 1) c.loop-number.invariant.size);
  numbers = marks_on c.loop-number.unbounded.items c.push.new.self.items _ c.loop-number.number c.loop-number.invariant.size c.in_ok-push.ensures.items c.is_number.ensures c.loop-number.invariant.numbers;
}

pub loop-grows-init : goal.loop-grows-init
loop-grows-init c =
    let size : length c.loop-number.unbounded.items ≡ length c.args.heaviest.now = omega (arith, c.loop-number.invariant.size) in
    record {
      size = size;
      numbers = λ s l e. c.loop-number.invariant.numbers s (omega (arith, l)) ∙ e;
      above = λ s among e.
          let inside = c.requires.shapes.within s among in
          let count = c.requires.shapes.count in
          let same = c.requires.count in
          number_above c.args.sig.now s c.args.weight (sym (c.loop-number.invariant.numbers s (omega (arith, inside, count, same))) ∙ e) c.requires.weight;
    }

pub growing-requires-clause-arguments : goal.growing-requires-clause-arguments
growing-requires-clause-arguments c =
    λ a has. (let inside = c.requires.shapes.within a (c.requires.shapes.arguments a has) in let count = c.requires.shapes.count in let same = c.requires.count in omega (arith, inside, count, same))

pub growing-requires-clause-same : goal.growing-requires-clause-same
growing-requires-clause-same c = ap length c.as_slice.ensures.value ∙ c.loop-grows.invariant.size

pub index_mut-requires : goal.index_mut-requires
index_mut-requires c = let l = c.in-Some.ensures.0 in let e = ap length c.as_slice.ensures.value in omega (arith, l, e)

unmarked : (marks : List Bool) (k : ℕ) → get_or marks k false ≡ false → get_or marks k false ≡ true → ⊥
unmarked marks k e d = let wrong : true ≡ false = sym d ∙ e in cc

pub loop-grows-smaller : goal.loop-grows-smaller
loop-grows-smaller c =
    let l = c.in-Some.ensures.0 in
    let e = ap length c.as_slice.ensures.value in
    let read : get_or c.loop-grows.unbounded.items c.in-Some.grows false ≡ false = subst (λ (ms : List Bool). get_or ms c.in-Some.grows false ≡ false) c.as_slice.ensures.value c.in-Some.ensures.1 in
    let less = one_mark_more c.loop-grows.unbounded.items c.in-Some.grows (omega (arith, l, e)) (unmarked c.loop-grows.unbounded.items c.in-Some.grows read) in
    omega (arith, less)

pub loop-grows-preserved : goal.loop-grows-preserved
loop-grows-preserved c =
    let l = c.in-Some.ensures.0 in
    let e = ap length c.as_slice.ensures.value in
    record {
      size = length-set c.loop-grows.unbounded.items c.in-Some.grows true ∙ c.loop-grows.invariant.size;
      numbers = λ s m is. marked_still c.loop-grows.unbounded.items c.in-Some.grows s.0 (omega (arith, l, e)) (c.loop-grows.invariant.numbers s m is);
      above = above_still c.args.sig.now c.requires.stands c.args.shapes.now c.requires.shapes c.args.heaviest.now c.requires.noted c.loop-grows.unbounded.items c.args.weight c.loop-grows.invariant.above c.in-Some.grows (omega (arith, l, e))
          (subst (λ (ms : List Bool). HasHeavier c.args.shapes.now c.args.heaviest.now ms c.args.weight c.in-Some.grows) c.as_slice.ensures.value c.in-Some.ensures.2);
    }

pub index-requires : goal.index-requires
index-requires c =
    let inside = c.requires.shapes.within c.args.sort c.requires.sort in let count = c.requires.shapes.count in let same = c.requires.count in let size = c.loop-grows.invariant.size in omega (arith, inside, count, same, size)

read_false : (xs : List Bool) (k : ℕ) (b : Bool) → b ≡ get_or xs k b → b ≡ false → get_or xs k false ≡ false
read_false xs k b is e = sym (subst (λ (x : Bool). x ≡ get_or xs k x) e is)

by_none : (o : Option ℕ) (P : Type 0) (Q : ℕ → Type 0) → ((k : ℕ) → o ≡ Some k → ⊥) → MatchOption o P Q → P
by_none None P Q none h = h
by_none (Some k) P Q none h = absurd (none k refl)

read_true : (xs : List Bool) (k : ℕ) (b : Bool) → b ≡ get_or xs k b → b ≡ true → k < length xs → get_or xs k false ≡ true
read_true [] k b is e l = absurd (omega (arith, l))
read_true (x ∷ xs) zero b is e l = sym is ∙ e
read_true (x ∷ xs) (suc k) b is e l = read_true xs k b is e (omega (arith, l))

pub returns-then-index : goal.returns-then-index
returns-then-index c =
    let inside = c.requires.shapes.within c.args.sort c.requires.sort in
    let count = c.requires.shapes.count in
    let same = c.requires.count in
    let size = c.loop-grows.invariant.size in
    let above = c.loop-grows.invariant.above c.args.sort c.requires.sort (read_true c.loop-grows.unbounded.items c.args.sort.0 c.index.result.now c.index.ensures c.if-index.true (omega (arith, inside, count, same, size))) in
    (λ yes. absurd (true≢false (sym yes)), λ none. absurd (let heavy = above.2 in let light = none above.0 above.1 in omega (arith, heavy, light)))

pub returns : goal.returns
returns c =
    let count = c.requires.shapes.count in
    let same = c.requires.count in
    let size = c.loop-grows.invariant.size in
    let marks = c.loop-grows.unbounded.items in
    let inside : (s : SortId) → Contains c.args.shapes.now.sorts.keys s → s.0 < length marks = λ s has. (let l = c.requires.shapes.within s has in omega (arith, l, count, same, size)) in
    let all = by_none c.growing.result _ _ c.in_default.not-Some c.growing.ensures in
    let still : (s : SortId) → Contains c.args.shapes.now.sorts.keys s → get_or marks s.0 false ≡ false → HasNoHeavier c.args.shapes.now c.args.heaviest.now marks c.args.weight s.0 =
    λ s has e. subst (λ (ms : List Bool). (k : ℕ) → k < length ms → get_or ms k false ≡ false → HasNoHeavier c.args.shapes.now c.args.heaviest.now ms c.args.weight k) c.as_slice.ensures.value all s.0 (inside s has) e in (
      λ yes. none_above c.args.heaviest.now marks c.args.sig.now c.requires.stands c.args.shapes.now c.requires.shapes c.args.weight c.requires.weight c.requires.heaviest
          (λ s has is. c.loop-grows.invariant.numbers s (let l = inside s has in omega (arith, l, size)) is) still c.args.sort c.requires.sort (read_false marks c.args.sort.0 c.index.result.now c.index.ensures c.if-index.false),
      λ none. refl,
    )
