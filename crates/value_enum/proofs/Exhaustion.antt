-- Sorts whose values are no heavier than those that are known.
use Rattle.std.proofs.Common.{◌≡◌, ◌⊎◌, ⊎_elim, inl, inr, ◌<◌, ◌≤◌, ◌-◌, ◌^◌, ℕ, Bool, true, false, cond, List, [], ◌∷◌, get_or, refl, sym, ap, ◌∙◌, subst, arith}
use Rattle.std.specs.List.{Contains}
use Rattle.data_theory.specs.declared.ids.SortId.{SortId}
use Rattle.data_theory.specs.Functions.{arguments_of}
use Rattle.data_theory.specs.Signature.{Sig}
use Rattle.data_theory.specs.IdTreeSorts.{HasNumber}
use Rattle.data_theory.specs.WholeSignatures.{IsSignature}
use Rattle.term_pool.proofs.Lists.{contains_none, contains_cons, contains_head, contains_tail, contained_from_map}
use Rattle.term_pool.specs.FirstTerms.{function_arguments}
use Rattle.term_pool.specs.ConstructorValues.{ConstructorValue, ConstructorValues, a_number, built, a_constant, no_value, value_then, AreValuesOf, weight, weights}
use Rattle.value_enum.specs.declared.shapes.Constructor.{Constructor}
use Rattle.value_enum.specs.declared.shapes.Shapes.{Shapes}
use Rattle.value_enum.specs.Values.{IsPlainValueOf, ArePlain}
use Rattle.value_enum.specs.Shapes.{list_at, arguments_at, AreShapes}
use Rattle.value_enum.specs.Levels.{is_number_sort, limit_of, total_of, MakeNoHeavier, HasNoHeavier, AreHeaviest, HasNoneAbove}
use Rattle.value_enum.proofs.ValueOrder.{some_weight}
use Rattle.value_enum.proofs.NumberValues.{number_has_sort}
use Rattle.value_enum.proofs.WeighingValues.{arguments_told}
use Rattle.value_enum.proofs.PlaceLemmas.{stands_at}

module _ (heaviest : List ℕ) (unbounded : List Bool) where
  abbrev mark : SortId → Bool
  mark s = get_or unbounded s.0 false

  limit_unbounded : (s : SortId) → mark s ≡ true → limit_of heaviest unbounded s ≡ 2 ^ 64 - 1
  limit_unbounded s e = ap (λ b. cond b (2 ^ 64 - 1) (get_or heaviest s.0 0)) e

  limit_bounded : (s : SortId) → mark s ≡ false → limit_of heaviest unbounded s ≡ get_or heaviest s.0 0
  limit_bounded s e = ap (λ b. cond b (2 ^ 64 - 1) (get_or heaviest s.0 0)) e

  marked_or_not : (s : SortId) → (mark s ≡ true) ⊎ (mark s ≡ false)
  marked_or_not s = by_mark (mark s)
    where
      by_mark : (b : Bool) → (b ≡ true) ⊎ (b ≡ false)
      by_mark true = inl refl
      by_mark false = inr refl

  module _ (g : Sig) (stands : IsSignature g) (sh : Shapes) (shapes : AreShapes g sh) (w : ℕ) (small : w < 2 ^ 64 - 1) (light : AreHeaviest g sh.sorts.keys heaviest w)
      (numbers : (s : SortId) → Contains sh.sorts.keys s → is_number_sort s ≡ true → mark s ≡ true) (bounded : (s : SortId) → Contains sh.sorts.keys s → mark s ≡ false → HasNoHeavier sh heaviest unbounded w s.0) where
    -- each argument has an unbounded sort, or is no heavier
    AreLight : ConstructorValues → List SortId → Type 0
    AreLight no_value [] = Unit {0}
    AreLight no_value (s ∷ ss) = ⊥
    AreLight (value_then v vs) [] = ⊥
    AreLight (value_then v vs) (s ∷ ss) = ((mark s ≡ true) ⊎ (weight v ≤ w)) × AreLight vs ss

    no_empty : (vs : ConstructorValues) (ss : List SortId) → ((a : SortId) → Contains ss a → Contains sh.sorts.keys a) → AreValuesOf g vs ss → ArePlain vs → AreLight vs ss → (a : SortId) → Contains ss a → limit_of heaviest unbounded a ≡ 0 → ⊥
    unfolding AreLight
    no_empty no_value [] among are plain l a has e = contains_none a has
    no_empty no_value (s ∷ ss) among are plain l a has e = are
    no_empty (value_then v vs) [] among are plain l a has e = are
    no_empty (value_then v vs) (s ∷ ss) among are plain l a has e =
        ⊎_elim
        (λ same. (
        let nothing : limit_of heaviest unbounded s ≡ 0 = subst (λ x. limit_of heaviest unbounded x ≡ 0) (sym same) e in
        ⊎_elim
        (λ m. (let much = limit_unbounded s m in absurd (omega (arith, nothing, much))))
        (λ m. ⊎_elim
        (λ n. absurd (let both : true ≡ false = sym n ∙ m in cc))
        (λ k. (let none = limit_bounded s m in let most = light s v (among s (contains_head s ss)) (are.0, plain.0) k in let some = some_weight v in absurd (omega (arith, nothing, none, most, some))))
        l.0)
        (marked_or_not s)
        ))
        (λ rest. no_empty vs ss (λ b h. among b (contains_tail s b ss h)) are.1 plain.1 l.1 a rest e)
        (contains_cons s a ss has)

    weigh_no_more : (vs : ConstructorValues) (ss : List SortId) → ((a : SortId) → Contains ss a → Contains sh.sorts.keys a) → AreValuesOf g vs ss → ArePlain vs → AreLight vs ss → total_of (limit_of heaviest unbounded) ss ≤ w → weights vs ≤ total_of (limit_of heaviest unbounded) ss
    unfolding AreLight
    weigh_no_more no_value ss among are plain l m = omega arith
    weigh_no_more (value_then v vs) [] among are plain l m = absurd are
    weigh_no_more (value_then v vs) (s ∷ ss) among are plain l m =
        let rest = weigh_no_more vs ss (λ b h. among b (contains_tail s b ss h)) are.1 plain.1 l.1 (omega (arith, m)) in
        ⊎_elim
        (λ much. (let e = limit_unbounded s much in absurd (omega (arith, e, m, small))))
        (λ known. ⊎_elim
        (λ much. absurd (let both : true ≡ false = sym much ∙ known in cc))
        (λ k. (let e = limit_bounded s known in let most = light s v (among s (contains_head s ss)) (are.0, plain.0) k in omega (arith, e, most, rest)))
        l.0)
        (marked_or_not s)

    mutual
      unfolding AreLight

      value_light : (v : ConstructorValue) (s : SortId) → Contains sh.sorts.keys s → IsPlainValueOf g s v → (mark s ≡ true) ⊎ (weight v ≤ w)
      value_light (a_number a z) s among is = inl (numbers s among (subst (λ x. is_number_sort x ≡ true) is.0.0 (number_has_sort a z (subst (λ x. HasNumber x z) (sym is.0.0) is.0.1))))
      value_light (a_constant d) s among is = absurd is.1
      value_light (built f vs) s among is =
          let part = is.0.2 in
          let place = (shapes.constructors s among).all is.0.0 f is.0.1 in
          let found = contained_from_map (λ (c : Constructor). c.fun) (list_at sh.constructors.items s.0) f place in
          let args : arguments_at sh.arguments.items found.0.first ≡ arguments_of part.0 =
          stands_at g sh.arguments.items found.0 (shapes.places s.0 found.0 found.1) ∙ (ap (function_arguments g.functions) found.2 ∙ arguments_told g f part.0 part.1) in
          let in_sorts : (a : SortId) → Contains (arguments_of part.0) a → Contains sh.sorts.keys a = λ a h. shapes.closed s a among (is.0.0, f, part.0, is.0.1, part.1, h) in
          let rest = values_light vs (arguments_of part.0) in_sorts part.2 is.1 in
          ⊎_elim inl
          (λ known. inr (⊎_elim
          (λ zero_one. absurd (no_empty vs (arguments_of part.0) in_sorts part.2 is.1 rest zero_one.0 zero_one.1 zero_one.2))
          (λ sum. (let less = weigh_no_more vs (arguments_of part.0) in_sorts part.2 is.1 rest (omega (arith, sum)) in omega (arith, less, sum)))
          (subst (λ (ss : List SortId). MakeNoHeavier heaviest unbounded ss w) args (bounded s among known found.0 found.1))))
          (marked_or_not s)

      values_light : (vs : ConstructorValues) (ss : List SortId) → ((a : SortId) → Contains ss a → Contains sh.sorts.keys a) → AreValuesOf g vs ss → ArePlain vs → AreLight vs ss
      values_light no_value [] among are plain = tt
      values_light no_value (s ∷ ss) among are plain = absurd are
      values_light (value_then v vs) [] among are plain = absurd are
      values_light (value_then v vs) (s ∷ ss) among are plain = (value_light v s (among s (contains_head s ss)) (are.0, plain.0), values_light vs ss (λ a h. among a (contains_tail s a ss h)) are.1 plain.1)

    pub none_above : (s : SortId) → Contains sh.sorts.keys s → mark s ≡ false → HasNoneAbove g s w
    none_above s among known v is = ⊎_elim (λ much. absurd (let both : true ≡ false = sym much ∙ known in cc)) (λ l. l) (value_light v s among is)
