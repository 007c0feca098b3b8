-- The values of a sort by their weights are exactly its constructor values, in order.
use Rattle.std.proofs.Common.{◌≡◌, ⊎_elim, ◌<◌, ◌≤◌, ◌+◌, ◌^◌, ◌++◌, ℕ, zero, suc, Bool, true, false, cond, List, [], ◌∷◌, length, Option, Some, ℤ, refl, sym, ap, ◌∙◌, subst, arith}
use Rattle.std.specs.Prelude.{slice_get}
use Rattle.std.specs.Option.{option_map_or}
use Rattle.std.specs.List.{Contains}
use Rattle.data_theory.specs.declared.ids.SortId.{SortId}
use Rattle.data_theory.specs.declared.ids.FunId.{FunId}
use Rattle.data_theory.specs.Functions.{Function, arguments_of}
use Rattle.data_theory.specs.Signature.{Sig}
use Rattle.data_theory.specs.IdTreeSorts.{HasNumber}
use Rattle.data_theory.specs.WholeSignatures.{IsSignature}
use Rattle.term_pool.proofs.Lists.{contains_none, contains_cons, contains_head}
use Rattle.term_pool.proofs.ConstructorPlaces.{within_functions}
use Rattle.term_pool.proofs.FirstValueLemmas.{one_function}
use Rattle.term_pool.specs.FirstTerms.{function_arguments}
use Rattle.term_pool.specs.ConstructorValues.{ConstructorValue, ConstructorValues, a_number, built, a_constant, IsValueOf, AreValuesOf, weight}
use Rattle.value_enum.specs.Values.{IsPlainValueOf}
use Rattle.value_enum.specs.Shapes.{AreConstructors, AreClosed}
use Rattle.value_enum.specs.Levels.{Shape, is_number_sort, number_weighing, tuples_weighing, built_over, values_within, values_weighing}
use Rattle.value_enum.proofs.DepthLemmas.{level_of}
use Rattle.value_enum.proofs.ValueOrder.{some_weight}
use Rattle.value_enum.proofs.NumberValues.{IsNumberOf, is_its_number, has_its_number, number_has_sort, number_sorts_have_none}
use Rattle.value_enum.proofs.WeighingTuples.{AreWeighing, AreTuplesWeighing, tuples_right, contained_built, built_contains, built_ascending}

-- a function that is there, with the sorts of its arguments
pub entry_of : (g : Sig) (f : FunId) → f.0 < length g.functions → (e : Function) × (slice_get g.functions f.0 ≡ Some e)
entry_of g f l = at g.functions f.0 l
  where
    at : (fs : List Function) (k : ℕ) → k < length fs → (e : Function) × (slice_get fs k ≡ Some e)
    at [] k l = absurd (omega (arith, l))
    at (e ∷ fs) zero l = (e, refl)
    at (e ∷ fs) (suc k) l = at fs k (omega (arith, l))

pub arguments_told : (g : Sig) (f : FunId) (e : Function) → slice_get g.functions f.0 ≡ Some e → function_arguments g.functions f ≡ arguments_of e
arguments_told g f e at = ap (λ (o : Option Function). option_map_or arguments_of o []) at

no_members : {A : Type 0} (xs : List A) → ((x : A) → Contains xs x → ⊥) → xs ≡ []
no_members [] none = refl
no_members (x ∷ xs) none = absurd (none x (contains_head x xs))

number_right : (g : Sig) → IsSignature g → (s : SortId) (w : ℕ) → is_number_sort s ≡ true → 0 < w → w < 2 ^ 64 → AreWeighing g s w (a_number s (number_weighing s w) ∷ [])
number_right g stands s w is p l = record { sound = sound; ascending = (λ y has. absurd (contains_none y has), tt); complete = complete }
  where
    number : IsNumberOf s w (number_weighing s w)
    number = has_its_number s w is p l

    sound : (v : ConstructorValue) → Contains (a_number s (number_weighing s w) ∷ []) v → IsPlainValueOf g s v × (weight v ≡ w)
    sound v has =
        ⊎_elim
        (λ e. subst (λ x. IsPlainValueOf g s x × (weight x ≡ w)) e (((refl, number.0), tt), number.1))
        (λ no. absurd (contains_none v no))
        (contains_cons (a_number s (number_weighing s w)) v [] has)

    complete : (v : ConstructorValue) → IsPlainValueOf g s v → weight v ≡ w → Contains (a_number s (number_weighing s w) ∷ []) v
    complete (a_number a z) h e =
        let same : z ≡ number_weighing a w = is_its_number a z w (subst (λ (x : SortId). HasNumber x z) (sym h.0.0) h.0.1) e in
        subst (λ (x : SortId). Contains (a_number s (number_weighing s w) ∷ []) (a_number x z)) (sym h.0.0)
        (subst (λ (y : ℤ). Contains (a_number s (number_weighing s w) ∷ []) (a_number s y)) (sym (same ∙ ap (λ (x : SortId). number_weighing x w) h.0.0)) (contains_head (a_number s (number_weighing s w)) []))
    complete (built f vs) h e = absurd (number_sorts_have_none g stands s h.0.0 f is h.0.1)
    complete (a_constant d) h e = absurd h.1

nothing_light : (g : Sig) (s : SortId) → AreWeighing g s 0 []
nothing_light g s = record {
  sound = λ v has. absurd (contains_none v has);
  ascending = tt;
  complete = λ v is e. absurd (let some = some_weight v in omega (arith, some, e));
}

module _ (g : Sig) (stands : IsSignature g) (C : SortId → List FunId) (sorts : List SortId) (right : (s : SortId) → Contains sorts s → AreConstructors g s (C s)) (closed : AreClosed g sorts) where
  abbrev pub shape : Shape
  shape = record { constructors = C; arguments = function_arguments g.functions }

  module _ (V : SortId → ℕ → List ConstructorValue) (t : ℕ) (known : (j : ℕ) (s : SortId) → j ≤ t → Contains sorts s → AreWeighing g s j (V s j)) (s : SortId) (among : Contains sorts s) where
    over : (f : FunId) → Contains (C s) f → (e : Function) × (slice_get g.functions f.0 ≡ Some e) × AreTuplesWeighing g (arguments_of e) t (tuples_weighing V (function_arguments g.functions f) t)
    over f has =
        let place = (right s among).each f has in
        let entry = entry_of g f (within_functions g stands.complete s place.0 f place.1) in
        let told = arguments_told g f entry.0 entry.1 in (
          entry.0,
          entry.1,
          subst (λ (ss : List SortId). AreTuplesWeighing g (arguments_of entry.0) t (tuples_weighing V ss t)) (sym told)
              (tuples_right g V (arguments_of entry.0) t (λ j r l m. known j r l (closed s r among (place.0, f, entry.0, place.1, entry.1, m)))),
        )

    built_sound : (v : ConstructorValue) → Contains (built_over (function_arguments g.functions) V (C s) t) v → IsPlainValueOf g s v × (weight v ≡ suc t)
    built_sound v has =
        let found = contained_built g V t (C s) v has in
        let place = (right s among).each found.0 found.2 in
        let entry = over found.0 found.2 in
        let part = entry.2.sound found.1 found.3 in
        let e = part.2 in
        subst (λ x. IsPlainValueOf g s x × (weight x ≡ suc t)) found.4 (((place.0, place.1, (entry.0, entry.1, part.0)), part.1), omega (arith, e))

    built_complete : (f : FunId) (vs : ConstructorValues) → IsPlainValueOf g s (built f vs) → weight (built f vs) ≡ suc t → Contains (built_over (function_arguments g.functions) V (C s) t) (built f vs)
    built_complete f vs is e =
        let has = (right s among).all is.0.0 f is.0.1 in
        let entry = over f has in
        let part = is.0.2 in
        let values = subst (λ (d : Function). AreValuesOf g vs (arguments_of d)) (one_function g f part.0 entry.0 part.1 entry.1) part.2 in
        built_contains g V t (C s) f vs has (entry.2.complete vs values is.1 (omega (arith, e)))

    with_numbers : (b : Bool) → is_number_sort s ≡ b → suc t < 2 ^ 64 → AreWeighing g s (suc t) (cond b (a_number s (number_weighing s (suc t)) ∷ []) [] ++ built_over (function_arguments g.functions) V (C s) t)
    unfolding built_over
    with_numbers true is l =
        let none : C s ≡ [] = no_members (C s) (λ f has. let place = (right s among).each f has in number_sorts_have_none g stands s place.0 f is place.1) in
        subst (λ (fs : List FunId). AreWeighing g s (suc t) (a_number s (number_weighing s (suc t)) ∷ built_over (function_arguments g.functions) V fs t)) (sym none) (number_right g stands s (suc t) is (omega arith) l)
    with_numbers false is l = record { sound = built_sound; ascending = built_ascending g V t s (C s) (right s among).ordered over; complete = complete }
      where
        complete : (v : ConstructorValue) → IsPlainValueOf g s v → weight v ≡ suc t → Contains (built_over (function_arguments g.functions) V (C s) t) v
        complete (a_number a z) h e =
            let told : is_number_sort s ≡ true = subst (λ (x : SortId). is_number_sort x ≡ true) h.0.0 (number_has_sort a z (subst (λ (x : SortId). HasNumber x z) (sym h.0.0) h.0.1)) in
            absurd (let wrong : false ≡ true = sym is ∙ told in cc)
        complete (built f vs) h e = built_complete f vs h e
        complete (a_constant d) h e = absurd h.1

  values_right : (n w : ℕ) → n < 2 ^ 64 → w ≤ n → (s : SortId) → Contains sorts s → AreWeighing g s w (values_within shape n s w)
  unfolding values_within
  values_right zero zero b l s among = nothing_light g s
  values_right zero (suc w) b l s among = absurd (omega (arith, l))
  values_right (suc n) zero b l s among = nothing_light g s
  values_right (suc n) (suc t) b l s among =
      with_numbers (values_within shape n) t (λ j r m h. values_right n j (omega (arith, b)) (omega (arith, m, l)) r h) s among (is_number_sort s) refl (omega (arith, l, b))

  pub weighing_right : (w : ℕ) → w < 2 ^ 64 → (s : SortId) → Contains sorts s → AreWeighing g s w (values_weighing shape s w)
  unfolding values_weighing
  weighing_right w b s among = values_right w w b (omega arith) s among

  -- a constructor over arguments of its sorts is a value of the sort
  pub values_of_constructor : (t : ℕ) → t < 2 ^ 64 → (s : SortId) → Contains sorts s → (f : FunId) → Contains (C s) f → (u : ConstructorValues) → Contains (tuples_weighing (values_weighing shape) (function_arguments g.functions f) t) u → IsValueOf g (built f u) s
  values_of_constructor t b s among f has u m =
      let place = (right s among).each f has in
      let entry = over (values_weighing shape) t (λ j r l k. weighing_right j (omega (arith, l, b)) r k) s among f has in
      (place.0, place.1, (entry.0, entry.1, (entry.2.sound u m).0))

  -- the one number of a weight
  pub number_sorts_stand_alone : (s : SortId) → Contains sorts s → (t : ℕ) → is_number_sort s ≡ true → values_weighing shape s (t + 1) ≡ a_number s (number_weighing s (t + 1)) ∷ []
  unfolding built_over
  number_sorts_stand_alone s among t is =
      let none : C s ≡ [] = no_members (C s) (λ f has. let place = (right s among).each f has in number_sorts_have_none g stands s place.0 f is place.1) in
      let more : t + 1 ≡ suc t = omega arith in
      ap (values_weighing shape s) more
      ∙ (level_of shape s t
      ∙ (ap (λ b. cond b (a_number s (number_weighing s (suc t)) ∷ []) [] ++ built_over (function_arguments g.functions) (values_weighing shape) (C s) t) is
      ∙ (ap (λ fs. a_number s (number_weighing s (suc t)) ∷ built_over (function_arguments g.functions) (values_weighing shape) fs t) none ∙ ap (λ n. a_number s (number_weighing s n) ∷ []) (sym more))))
