-- Lists of values that weigh so much together, where the values of each weight are right.
use Rattle.std.proofs.Common.{◌≡◌, ⊎_elim, ◌<◌, ◌≤◌, ◌-◌, ℕ, zero, suc, List, [], ◌∷◌, map, Some, refl, sym, ◌∙◌, subst, arith}
use Rattle.std.specs.Prelude.{slice_get}
use Rattle.std.specs.List.{Contains}
use Rattle.std.proofs.lemmas.List.Elements.{Contains-append_left, Contains-append_right, Contains-append_cases}
use Rattle.data_theory.specs.declared.ids.SortId.{SortId}
use Rattle.data_theory.specs.declared.ids.FunId.{FunId}
use Rattle.data_theory.specs.Functions.{Function, arguments_of}
use Rattle.data_theory.specs.Signature.{Sig}
use Rattle.term_pool.proofs.Lists.{contains_none, contains_cons, contains_head, contains_tail, contains_map, contained_from_map}
use Rattle.term_pool.specs.FirstTerms.{function_arguments}
use Rattle.term_pool.specs.ConstructorValues.{ConstructorValue, ConstructorValues, built, no_value, value_then, AreValuesOf, weight, weights, IsEarlier, ComesBefore, ComeBefore, lighter, of_earlier_constructor, over_earlier_arguments, here, later}
use Rattle.value_enum.specs.Ascending.{Ascending}
use Rattle.value_enum.specs.Values.{IsPlainValueOf, ArePlain}
use Rattle.value_enum.specs.Levels.{tuples_weighing, built_over}
use Rattle.value_enum.proofs.Orders.{ascending_append, ascending_map, ascending_weighing, contained_weighing, weighing_contains}
use Rattle.value_enum.proofs.ValueOrder.{some_weight}

-- exactly the values of a sort with this weight, in order
pub record AreWeighing (g : Sig) (s : SortId) (w : ℕ) (vs : List ConstructorValue) : Type 0 where
  pub sound : (v : ConstructorValue) → Contains vs v → IsPlainValueOf g s v × (weight v ≡ w)
  pub ascending : Ascending (ComesBefore g s) vs
  pub complete : (v : ConstructorValue) → IsPlainValueOf g s v → weight v ≡ w → Contains vs v

-- exactly the lists of values of these sorts with this weight together, in order
pub record AreTuplesWeighing (g : Sig) (ss : List SortId) (t : ℕ) (us : List ConstructorValues) : Type 0 where
  pub sound : (u : ConstructorValues) → Contains us u → AreValuesOf g u ss × ArePlain u × (weights u ≡ t)
  pub ascending : Ascending (ComeBefore g ss) us
  pub complete : (u : ConstructorValues) → AreValuesOf g u ss → ArePlain u → weights u ≡ t → Contains us u

abbrev pub AreRight : Sig → (SortId → ℕ → List ConstructorValue) → List SortId → ℕ → Type 0
AreRight g V ss t = (j : ℕ) (s : SortId) → j ≤ t → Contains ss s → AreWeighing g s j (V s j)

longer_tuples : (g : Sig) (V : SortId → ℕ → List ConstructorValue) (s : SortId) (ss : List SortId) (t : ℕ) → AreRight g V (s ∷ ss) t → ((n : ℕ) → n ≤ t → AreTuplesWeighing g ss n (tuples_weighing V ss n)) → AreTuplesWeighing g (s ∷ ss) t (tuples_weighing V (s ∷ ss) t)
unfolding tuples_weighing
longer_tuples g V s ss t right rests = record { sound = sound; ascending = ascending; complete = complete }
  where
    of_head : (j : ℕ) → j ≤ t → AreWeighing g s j (V s j)
    of_head j l = right j s l (contains_head s ss)

    sound : (u : ConstructorValues) → Contains (tuples_weighing V (s ∷ ss) t) u → AreValuesOf g u (s ∷ ss) × ArePlain u × (weights u ≡ t)
    sound u has =
        let found = contained_weighing value_then (V s) (tuples_weighing V ss) t t u has in
        let head = (of_head found.0 found.4).sound found.1 found.5 in
        let tail = (rests (t - found.0) (omega arith)).sound found.2 found.6 in
        let l = found.4 in
        let e = head.1 in
        let d = tail.2 in
        subst (λ x. AreValuesOf g x (s ∷ ss) × ArePlain x × (weights x ≡ t)) found.7 ((head.0.0, tail.0), (head.0.1, tail.1), omega (arith, l, e, d))

    heavier : (i j : ℕ) (a b : ConstructorValue) → i < j → j ≤ t → Contains (V s i) a → Contains (V s j) b → ComesBefore g s a b
    heavier i j a b l m h k =
        let light = ((of_head i (omega (arith, l, m))).sound a h).1 in
        let heavy = ((of_head j m).sound b k).1 in
        lighter (omega (arith, l, light, heavy))

    ascending : Ascending (ComeBefore g (s ∷ ss)) (tuples_weighing V (s ∷ ss) t)
    ascending =
        ascending_weighing value_then (ComesBefore g s) (ComeBefore g ss) (ComeBefore g (s ∷ ss)) (λ a b r q before. here before) (λ a r q before. later refl before) (V s) (tuples_weighing V ss) t t
        (λ j l. (of_head j l).ascending) (λ j l. (rests (t - j) (omega arith)).ascending) heavier

    complete : (u : ConstructorValues) → AreValuesOf g u (s ∷ ss) → ArePlain u → weights u ≡ t → Contains (tuples_weighing V (s ∷ ss) t) u
    complete no_value are plain e = absurd are
    complete (value_then v vs) are plain e =
        let some = some_weight v in
        let l : weight v ≤ t = omega (arith, e) in
        let d : weights vs ≡ t - weight v = omega (arith, e) in
        weighing_contains value_then (V s) (tuples_weighing V ss) t t (weight v) v vs some l ((of_head (weight v) l).complete v (are.0, plain.0) refl) ((rests (t - weight v) (omega arith)).complete vs are.1 plain.1 d)

no_tuples : (g : Sig) (V : SortId → ℕ → List ConstructorValue) (t : ℕ) → AreTuplesWeighing g [] t (tuples_weighing V [] t)
unfolding tuples_weighing
no_tuples g V zero = record {
  sound = λ u has. ⊎_elim (λ e. subst (λ x. AreValuesOf g x [] × ArePlain x × (weights x ≡ 0)) e (tt, tt, refl)) (λ no. absurd (contains_none u no)) (contains_cons no_value u [] has);
  ascending = (λ y has. absurd (contains_none y has), tt);
  complete = complete;
}
  where
    complete : (u : ConstructorValues) → AreValuesOf g u [] → ArePlain u → weights u ≡ 0 → Contains (no_value ∷ []) u
    complete no_value are plain e = contains_head no_value []
    complete (value_then v vs) are plain e = absurd are
no_tuples g V (suc t) = record { sound = λ u has. absurd (contains_none u has); ascending = tt; complete = complete }
  where
    complete : (u : ConstructorValues) → AreValuesOf g u [] → ArePlain u → weights u ≡ suc t → Contains [] u
    complete no_value are plain e = absurd (omega (arith, e))
    complete (value_then v vs) are plain e = absurd are

pub tuples_right : (g : Sig) (V : SortId → ℕ → List ConstructorValue) (ss : List SortId) (t : ℕ) → AreRight g V ss t → AreTuplesWeighing g ss t (tuples_weighing V ss t)
tuples_right g V [] t right = no_tuples g V t
tuples_right g V (s ∷ ss) t right =
    longer_tuples g V s ss t right (λ n l. tuples_right g V ss n (λ j r m h. right j r (omega (arith, m, l)) (contains_tail s r ss h)))

-- ---- constructors over them
module _ (g : Sig) (V : SortId → ℕ → List ConstructorValue) (t : ℕ) where
  abbrev args : FunId → List SortId
  args f = function_arguments g.functions f

  pub contained_built : (fs : List FunId) (v : ConstructorValue) → Contains (built_over args V fs t) v → (f : FunId) × (u : ConstructorValues) × Contains fs f × Contains (tuples_weighing V (args f) t) u × (built f u ≡ v)
  unfolding built_over
  contained_built [] v h = absurd (contains_none v h)
  contained_built (f ∷ fs) v h =
      ⊎_elim
      (λ m. let found = contained_from_map (built f) (tuples_weighing V (args f) t) v m in (f, found.0, contains_head f fs, found.1, found.2))
      (λ m. let found = contained_built fs v m in (found.0, found.1, contains_tail f found.0 fs found.2, found.3, found.4))
      (Contains-append_cases (map (built f) (tuples_weighing V (args f) t)) (built_over args V fs t) v h)

  pub built_contains : (fs : List FunId) (f : FunId) (u : ConstructorValues) → Contains fs f → Contains (tuples_weighing V (args f) t) u → Contains (built_over args V fs t) (built f u)
  unfolding built_over
  built_contains [] f u h k = absurd (contains_none f h)
  built_contains (h ∷ fs) f u m k =
      ⊎_elim
      (λ e. Contains-append_left (map (built h) (tuples_weighing V (args h) t)) (built_over args V fs t) (built f u)
      (subst (λ x. Contains (map (built x) (tuples_weighing V (args x) t)) (built f u)) (sym e) (contains_map (built f) (tuples_weighing V (args f) t) u k)))
      (λ r. Contains-append_right (map (built h) (tuples_weighing V (args h) t)) (built_over args V fs t) (built f u) (built_contains fs f u r k))
      (contains_cons h f fs m)

  -- the functions are there, and their tuples are right
  abbrev pub AreOver : List FunId → Type 0
  AreOver fs = (f : FunId) → Contains fs f → (e : Function) × (slice_get g.functions f.0 ≡ Some e) × AreTuplesWeighing g (arguments_of e) t (tuples_weighing V (args f) t)

  pub built_ascending : (s : SortId) (fs : List FunId) → Ascending (IsEarlier g s) fs → AreOver fs → Ascending (ComesBefore g s) (built_over args V fs t)
  unfolding built_over
  built_ascending s [] p over = tt
  built_ascending s (f ∷ fs) p over =
      let mine = over f (contains_head f fs) in
      ascending_append (ComesBefore g s) (map (built f) (tuples_weighing V (args f) t)) (built_over args V fs t)
      (ascending_map (ComeBefore g (arguments_of mine.0)) (ComesBefore g s) (built f) (tuples_weighing V (args f) t)
      (λ u w h k before. over_earlier_arguments ((mine.2.sound u h).2 ∙ sym (mine.2.sound w k).2) refl mine.0 mine.1 before) mine.2.ascending)
      (built_ascending s fs p.1 (λ h m. over h (contains_tail f h fs m)))
      (λ v w h k. (
      let fv = contained_from_map (built f) (tuples_weighing V (args f) t) v h in
      let fw = contained_built fs w k in
      let other = over fw.0 (contains_tail f fw.0 fs fw.2) in
      subst (λ x. ComesBefore g s x w) fv.2 (subst (λ x. ComesBefore g s (built f fv.0) x) fw.4 (of_earlier_constructor ((mine.2.sound fv.0 fv.1).2 ∙ sym (other.2.sound fw.1 fw.3).2) (p.0 fw.0 fw.2)))
      ))
