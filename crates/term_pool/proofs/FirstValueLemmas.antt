-- First values: their arguments are first, and a sort has one at most.
use Rattle.std.proofs.Common.{◌≡◌, ◌⊎◌, inl, inr, ⊎_elim, ◌<◌, ◌≤◌, List, [], ◌∷◌, Some, refl, sym, ap, subst, arith}
use Rattle.std.specs.Prelude.{slice_get}
use Rattle.data_theory.specs.declared.ids.SortId.{SortId}
use Rattle.data_theory.specs.declared.ids.FunId.{FunId}
use Rattle.data_theory.specs.Functions.{Function, arguments_of}
use Rattle.data_theory.specs.Signature.{Sig}
use Rattle.term_pool.specs.ConstructorValues.{ConstructorValue, ConstructorValues, built, no_value, value_then, IsValueOf, AreValuesOf, weight, weights, IsEarlier, IsConstructorAt, ComesBefore, ComeBefore, lighter, of_earlier_constructor, over_earlier_arguments, here, later, IsFirstValue, AreFirstOf}

pub one_function : (g : Sig) (f : FunId) (d e : Function) → slice_get g.functions f.0 ≡ Some d → slice_get g.functions f.0 ≡ Some e → d ≡ e
one_function g f d e p q = let same : Some d ≡ Some e = cc in cc

-- no constructor stands in front of itself
not_earlier : (g : Sig) (s : SortId) (f h : FunId) → IsEarlier g s f h → f ≡ h → ⊥
not_earlier g s f h early same =
    let at = subst (λ (x : FunId). IsConstructorAt g s early.0 x) same early.1 in
    let below : early.0 < early.0 = early.2 early.0 at in
    omega (arith, below)

-- no value comes before itself
mutual
  not_before : (g : Sig) (s : SortId) (v w : ConstructorValue) → ComesBefore g s v w → v ≡ w → ⊥
  not_before g s v w (lighter l) same = let equal : weight v ≡ weight w = ap weight same in omega (arith, l, equal)
  not_before g s (built f vs) (built h ws) (of_earlier_constructor e early) same = let equal : f ≡ h = cc in not_earlier g s f h early equal
  not_before g s (built f vs) (built h ws) (over_earlier_arguments e q d at before) same = let equal : vs ≡ ws = cc in none_before g (arguments_of d) vs ws before equal

  none_before : (g : Sig) (ss : List SortId) (vs ws : ConstructorValues) → ComeBefore g ss vs ws → vs ≡ ws → ⊥
  none_before g [] vs ws b same = elim b [ ]
  none_before g (s ∷ ss) no_value ws b same = elim b [ ]
  none_before g (s ∷ ss) (value_then v vs) no_value b same = elim b [ ]
  none_before g (s ∷ ss) (value_then v vs) (value_then w ws) (here b) same = let equal : v ≡ w = cc in not_before g s v w b equal
  none_before g (s ∷ ss) (value_then v vs) (value_then w ws) (later e b) same = let equal : vs ≡ ws = cc in none_before g ss vs ws b equal

-- ---- the arguments of a first value
-- these values come first among all lists of values of the sorts
abbrev pub AreLeast : Sig → List SortId → ConstructorValues → Type 0
AreLeast g ss vs = (ws : ConstructorValues) → AreValuesOf g ws ss → (vs ≡ ws) ⊎ ((weights vs < weights ws) ⊎ ((weights vs ≡ weights ws) × ComeBefore g ss vs ws))

least_head : (g : Sig) (s : SortId) (ss : List SortId) (v : ConstructorValue) (vs : ConstructorValues) → IsValueOf g v s → AreValuesOf g vs ss → AreLeast g (s ∷ ss) (value_then v vs) → IsFirstValue g s v
least_head g s ss v vs of_sort rest least = record { of_sort = of_sort; first = λ w is. by_cases w (least (value_then w vs) (is, rest)) }
  where
    by_order : (w : ConstructorValue) (vs : ConstructorValues) → ComeBefore g (s ∷ ss) (value_then v vs) (value_then w vs) → (v ≡ w) ⊎ ComesBefore g s v w
    by_order w vs (here b) = inr b
    by_order w vs (later e b) = inl e

    by_cases : (w : ConstructorValue) → (value_then v vs ≡ value_then w vs) ⊎ ((weights (value_then v vs) < weights (value_then w vs)) ⊎ ((weights (value_then v vs) ≡ weights (value_then w vs)) × ComeBefore g (s ∷ ss) (value_then v vs) (value_then w vs)))
        → (v ≡ w) ⊎ ComesBefore g s v w
    by_cases w (inl e) = inl (cc)
    by_cases w (inr (inl l)) = inr (lighter (omega (arith, l)))
    by_cases w (inr (inr b)) = by_order w vs b.1

least_tail : (g : Sig) (s : SortId) (ss : List SortId) (v : ConstructorValue) (vs : ConstructorValues) → IsValueOf g v s → AreLeast g (s ∷ ss) (value_then v vs) → AreLeast g ss vs
least_tail g s ss v vs of_sort least = λ ws are. by_cases ws (least (value_then v ws) (of_sort, are))
  where
    by_order : (ws : ConstructorValues) → ComeBefore g (s ∷ ss) (value_then v vs) (value_then v ws) → ComeBefore g ss vs ws
    by_order ws (here b) = absurd (not_before g s v v b refl)
    by_order ws (later e b) = b

    by_cases : (ws : ConstructorValues) → (value_then v vs ≡ value_then v ws) ⊎ ((weights (value_then v vs) < weights (value_then v ws)) ⊎ ((weights (value_then v vs) ≡ weights (value_then v ws)) × ComeBefore g (s ∷ ss) (value_then v vs) (value_then v ws)))
        → (vs ≡ ws) ⊎ ((weights vs < weights ws) ⊎ ((weights vs ≡ weights ws) × ComeBefore g ss vs ws))
    by_cases ws (inl e) = inl (cc)
    by_cases ws (inr (inl l)) = inr (inl (omega (arith, l)))
    by_cases ws (inr (inr b)) = let equal : weights vs ≡ weights ws = omega (arith, b.0) in inr (inr (equal, by_order ws b.1))

least_are_first : (g : Sig) (ss : List SortId) (vs : ConstructorValues) → AreValuesOf g vs ss → AreLeast g ss vs → AreFirstOf g vs ss
least_are_first g [] no_value are least = tt
least_are_first g [] (value_then v vs) are least = absurd are
least_are_first g (s ∷ ss) no_value are least = absurd are
least_are_first g (s ∷ ss) (value_then v vs) are least =
    (least_head g s ss v vs are.0 are.1 least, least_are_first g ss vs are.1 (least_tail g s ss v vs are.0 least))

pub arguments_first : (g : Sig) (s : SortId) (f : FunId) (vs : ConstructorValues) → IsFirstValue g s (built f vs) → (e : Function) → slice_get g.functions f.0 ≡ Some e → AreFirstOf g vs (arguments_of e)
arguments_first g s f vs first e at = least_are_first g (arguments_of e) vs values least
  where
    values : AreValuesOf g vs (arguments_of e)
    values = let part = first.of_sort.2 in subst (λ (d : Function). AreValuesOf g vs (arguments_of d)) (one_function g f part.0 e part.1 at) part.2

    by_order : (ws : ConstructorValues) → ComesBefore g s (built f vs) (built f ws) → (weights vs < weights ws) ⊎ ((weights vs ≡ weights ws) × ComeBefore g (arguments_of e) vs ws)
    by_order ws (lighter l) = inl (omega (arith, l))
    by_order ws (of_earlier_constructor q early) = absurd (not_earlier g s f f early refl)
    by_order ws (over_earlier_arguments q same d d_at b) = inr (q, subst (λ (x : Function). ComeBefore g (arguments_of x) vs ws) (one_function g f d e d_at at) b)

    least : AreLeast g (arguments_of e) vs
    least ws are = ⊎_elim (λ q. inl (cc)) (λ b. inr (by_order ws b)) (first.first (built f ws) (first.of_sort.0, first.of_sort.1, (e, at, are)))

-- ---- one first value
two_earlier : (g : Sig) (s : SortId) (f h : FunId) → IsEarlier g s f h → IsEarlier g s h f → ⊥
two_earlier g s f h p q =
    let below : p.0 < q.0 = p.2 q.0 q.1 in
    let above : q.0 < p.0 = q.2 p.0 p.1 in
    omega (arith, below, above)

-- what comes before another value is no heavier
pub not_heavier : (g : Sig) (s : SortId) (v w : ConstructorValue) → ComesBefore g s v w → weight v ≤ weight w
not_heavier g s v w (lighter l) = omega (arith, l)
not_heavier g s (built f vs) (built h ws) (of_earlier_constructor e early) = omega (arith, e)
not_heavier g s (built f vs) (built h ws) (over_earlier_arguments e q d at before) = omega (arith, e)

after_earlier : (g : Sig) (s : SortId) (f h : FunId) (vs ws : ConstructorValues) → weights vs ≡ weights ws → IsEarlier g s f h → ComesBefore g s (built h ws) (built f vs) → ⊥
after_earlier g s f h vs ws e early (lighter l) = omega (arith, l, e)
after_earlier g s f h vs ws e early (of_earlier_constructor k back) = two_earlier g s f h early back
after_earlier g s f h vs ws e early (over_earlier_arguments k q d at before) = not_earlier g s f h early (sym q)

-- no two values come before each other
mutual
  not_both : (g : Sig) (s : SortId) (v w : ConstructorValue) → ComesBefore g s v w → ComesBefore g s w v → ⊥
  not_both g s v w (lighter l) b = let more = not_heavier g s w v b in omega (arith, l, more)
  not_both g s (built f vs) (built h ws) (of_earlier_constructor e early) b = after_earlier g s f h vs ws e early b
  not_both g s (built f vs) (built h ws) (over_earlier_arguments e q d at before) (lighter l) = omega (arith, l, e)
  not_both g s (built f vs) (built h ws) (over_earlier_arguments e q d at before) (of_earlier_constructor k early) = not_earlier g s h f early (sym q)
  not_both g s (built f vs) (built h ws) (over_earlier_arguments e q d at before) (over_earlier_arguments k p c here_at back) =
      let same : d ≡ c = one_function g h d c (subst (λ (x : FunId). slice_get g.functions x.0 ≡ Some d) q at) here_at in
      none_both g (arguments_of d) vs ws before (subst (λ (x : Function). ComeBefore g (arguments_of x) ws vs) (sym same) back)

  none_both : (g : Sig) (ss : List SortId) (vs ws : ConstructorValues) → ComeBefore g ss vs ws → ComeBefore g ss ws vs → ⊥
  none_both g [] vs ws b c = elim b [ ]
  none_both g (s ∷ ss) no_value ws b c = elim b [ ]
  none_both g (s ∷ ss) (value_then v vs) no_value b c = elim b [ ]
  none_both g (s ∷ ss) (value_then v vs) (value_then w ws) (here b) (here c) = not_both g s v w b c
  none_both g (s ∷ ss) (value_then v vs) (value_then w ws) (here b) (later e c) = not_before g s v w b (sym e)
  none_both g (s ∷ ss) (value_then v vs) (value_then w ws) (later e b) (here c) = not_before g s w v c (sym e)
  none_both g (s ∷ ss) (value_then v vs) (value_then w ws) (later e b) (later d c) = none_both g ss vs ws b c

pub first_value_once : (g : Sig) (s : SortId) (v w : ConstructorValue) → IsFirstValue g s v → IsFirstValue g s w → v ≡ w
first_value_once g s v w p q = by_cases (p.first w q.of_sort) (q.first v p.of_sort)
  where
    by_cases : (v ≡ w) ⊎ ComesBefore g s v w → (w ≡ v) ⊎ ComesBefore g s w v → v ≡ w
    by_cases (inl e) c = e
    by_cases (inr b) (inl e) = sym e
    by_cases (inr b) (inr c) = absurd (not_both g s v w b c)
