-- The first values of a sort, by the values up to a weight.
use Rattle.std.proofs.Common.{◌≡◌, ◌⊎◌, ⊎_elim, inl, inr, ◌<◌, ◌≤◌, ◌^◌, ◌++◌, ℕ, zero, suc, List, [], ◌∷◌, take, drop, length, refl, arith}
use Rattle.std.specs.List.{Contains}
use Rattle.std.proofs.lemmas.List.{length-take-le}
use Rattle.std.proofs.lemmas.List.Elements.{Contains-append_left, Contains-append_right, Contains-append_cases}
use Rattle.data_theory.specs.declared.ids.SortId.{SortId}
use Rattle.data_theory.specs.declared.ids.FunId.{FunId}
use Rattle.data_theory.specs.Signature.{Sig}
use Rattle.data_theory.specs.WholeSignatures.{IsSignature}
use Rattle.term_pool.proofs.Lists.{contains_none, contains_head}
use Rattle.term_pool.specs.FirstTerms.{function_arguments}
use Rattle.term_pool.specs.ConstructorValues.{ConstructorValue, weight, ComesBefore, lighter}
use Rattle.value_enum.specs.Ascending.{Ascending}
use Rattle.value_enum.specs.Values.{IsPlainValueOf, AreFirst}
use Rattle.value_enum.specs.Shapes.{AreConstructors, AreClosed}
use Rattle.value_enum.specs.Levels.{values_up_to}
use Rattle.value_enum.proofs.Orders.{ascending_append, ascending_take, taken_before, contains_taken, contains_dropped, taken_or_dropped}
use Rattle.value_enum.proofs.ValueOrder.{some_weight, not_before}
use Rattle.value_enum.proofs.WeighingTuples.{AreWeighing}
use Rattle.value_enum.proofs.WeighingValues.{weighing_right}

-- exactly the values of a sort up to a weight, in order
pub record AreUpTo (g : Sig) (s : SortId) (w : ℕ) (vs : List ConstructorValue) : Type 0 where
  pub sound : (v : ConstructorValue) → Contains vs v → IsPlainValueOf g s v × (weight v ≤ w)
  pub ascending : Ascending (ComesBefore g s) vs
  pub complete : (v : ConstructorValue) → IsPlainValueOf g s v → weight v ≤ w → Contains vs v

pub up_to_more : (g : Sig) (s : SortId) (w : ℕ) (vs ws : List ConstructorValue) → AreUpTo g s w vs → AreWeighing g s (suc w) ws → AreUpTo g s (suc w) (vs ++ ws)
up_to_more g s w vs ws p q = record {
  sound =
      λ v has. ⊎_elim (λ h. let m = (p.sound v h).1 in ((p.sound v h).0, omega (arith, m))) (λ h. let m = (q.sound v h).1 in ((q.sound v h).0, omega (arith, m))) (Contains-append_cases vs ws v has);
  ascending = ascending_append (ComesBefore g s) vs ws p.ascending q.ascending (λ a b h k. (let l = (p.sound a h).1 in let m = (q.sound b k).1 in lighter (omega (arith, l, m))));
  complete =
      λ v is l. ⊎_elim (λ m. Contains-append_left vs ws v (p.complete v is m)) (λ e. Contains-append_right vs ws v (q.complete v is e)) (less_or_last (weight v) l);
}
  where
    less_or_last : (n : ℕ) → n ≤ suc w → (n ≤ w) ⊎ (n ≡ suc w)
    less_or_last n l = grind arith

pub none_up_to : (g : Sig) (s : SortId) → AreUpTo g s 0 []
none_up_to g s = record {
  sound = λ v has. absurd (contains_none v has);
  ascending = tt;
  complete = λ v is l. absurd (let some = some_weight v in omega (arith, some, l));
}

module _ (g : Sig) (stands : IsSignature g) (C : SortId → List FunId) (sorts : List SortId) (right : (s : SortId) → Contains sorts s → AreConstructors g s (C s)) (closed : AreClosed g sorts) where
  pub up_to_right : (w : ℕ) → w < 2 ^ 64 → (s : SortId) → Contains sorts s → AreUpTo g s w (values_up_to (record { constructors = C; arguments = function_arguments g.functions }) s w)
  unfolding values_up_to
  up_to_right zero b s among = none_up_to g s
  up_to_right (suc w) b s among = up_to_more g s w _ _ (up_to_right w (omega (arith, b)) s among) (weighing_right g stands C sorts right closed (suc w) b s among)

-- ---- the first ones
-- where no value is heavier, and there are no more than the bound
pub all_are_first : (g : Sig) (s : SortId) (w bound : ℕ) (vs : List ConstructorValue) → AreUpTo g s w vs → ((v : ConstructorValue) → IsPlainValueOf g s v → weight v ≤ w) → length vs ≤ bound → AreFirst g s bound vs
all_are_first g s w bound vs p light few = record {
  values = λ v has. (p.sound v has).0;
  ascending = p.ascending;
  few = few;
  first = λ v is. inl (p.complete v is (light v is));
}

pub cut_are_first : (g : Sig) (s : SortId) (w bound : ℕ) (vs : List ConstructorValue) → AreUpTo g s w vs → bound < length vs → AreFirst g s bound (take bound vs)
cut_are_first g s w bound vs p more =
    let size = length-take-le bound vs (omega (arith, more)) in
    record {
      values = λ v has. (p.sound v (contains_taken bound vs v has)).0;
      ascending = ascending_take (ComesBefore g s) bound vs p.ascending;
      few = omega (arith, size);
      first = λ v is. ⊎_elim
          (λ l. ⊎_elim inl (λ d. inr (size, λ x has. taken_before (ComesBefore g s) bound vs p.ascending x v has d)) (taken_or_dropped bound vs v (p.complete v is l)))
          (λ h. inr (size, λ x has. (let l = (p.sound x (contains_taken bound vs x has)).1 in lighter (omega (arith, l, h)))))
          (light_or_heavy (weight v));
    }
  where
    light_or_heavy : (n : ℕ) → (n ≤ w) ⊎ (w < n)
    light_or_heavy n = grind arith

-- the sort has a value that was cut off
pub one_more : (g : Sig) (s : SortId) (w bound : ℕ) (vs : List ConstructorValue) → AreUpTo g s w vs → bound < length vs → ((v : ConstructorValue) → IsPlainValueOf g s v → Contains (take bound vs) v) → ⊥
one_more g s w bound vs p more all =
    let next = next_of bound vs more in
    let is = (p.sound next.0 (contains_dropped bound vs next.0 next.1)).0 in
    not_before g s next.0 next.0 (taken_before (ComesBefore g s) bound vs p.ascending next.0 next.0 (all next.0 is) next.1) refl
  where
    next_of : (n : ℕ) (xs : List ConstructorValue) → n < length xs → (v : ConstructorValue) × Contains (drop n xs) v
    next_of n [] l = absurd (omega (arith, l))
    next_of zero (x ∷ xs) l = (x, contains_head x xs)
    next_of (suc n) (x ∷ xs) l = next_of n xs (omega (arith, l))
