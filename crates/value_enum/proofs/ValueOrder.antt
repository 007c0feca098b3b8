-- The order of values, and their weights.
use Rattle.std.proofs.Common.{◌≡◌, ◌==◌, ◌<◌, ◌+◌, ◌*◌, zero, suc, Bool, true, false, cond, List, [], ◌∷◌, Some, pos, negsuc, sym, ap, subst, arith}
use Rattle.std.specs.Prelude.{slice_get}
use Rattle.data_theory.specs.declared.ids.SortId.{SortId}
use Rattle.data_theory.specs.declared.ids.FunId.{FunId}
use Rattle.data_theory.specs.Functions.{Function, arguments_of}
use Rattle.data_theory.specs.Signature.{Sig}
use Rattle.term_pool.proofs.FirstValueLemmas.{one_function, not_heavier}
use Rattle.term_pool.specs.ConstructorValues.{ConstructorValue, ConstructorValues, a_number, built, a_constant, no_value, value_then, weight, weights, IsEarlier, IsConstructorAt, ComesBefore, ComeBefore, lighter, of_earlier_constructor, over_earlier_arguments, here, later}

pub not_earlier : (g : Sig) (s : SortId) (f h : FunId) → IsEarlier g s f h → f ≡ h → ⊥
not_earlier g s f h early same =
    let at = subst (λ (x : FunId). IsConstructorAt g s early.0 x) same early.1 in
    let below : early.0 < early.0 = early.2 early.0 at in
    omega (arith, below)

-- no value comes before itself
mutual
  pub not_before : (g : Sig) (s : SortId) (v w : ConstructorValue) → ComesBefore g s v w → v ≡ w → ⊥
  not_before g s v w (lighter l) same = let equal : weight v ≡ weight w = ap weight same in omega (arith, l, equal)
  not_before g s (built f vs) (built h ws) (of_earlier_constructor e early) same = let equal : f ≡ h = cc in not_earlier g s f h early equal
  not_before g s (built f vs) (built h ws) (over_earlier_arguments e q d at before) same = let equal : vs ≡ ws = cc in none_before g (arguments_of d) vs ws before equal

  none_before : (g : Sig) (ss : List SortId) (vs ws : ConstructorValues) → ComeBefore g ss vs ws → vs ≡ ws → ⊥
  none_before g [] vs ws b same = elim b [ ]
  none_before g (s ∷ ss) no_value ws b same = elim b [ ]
  none_before g (s ∷ ss) (value_then v vs) no_value b same = elim b [ ]
  none_before g (s ∷ ss) (value_then v vs) (value_then w ws) (here b) same = let equal : v ≡ w = cc in not_before g s v w b equal
  none_before g (s ∷ ss) (value_then v vs) (value_then w ws) (later e b) same = let equal : vs ≡ ws = cc in none_before g ss vs ws b equal

-- ---- no two values come before each other
two_earlier : (g : Sig) (s : SortId) (f h : FunId) → IsEarlier g s f h → IsEarlier g s h f → ⊥
two_earlier g s f h p q =
    let below : p.0 < q.0 = p.2 q.0 q.1 in
    let above : q.0 < p.0 = q.2 p.0 p.1 in
    omega (arith, below, above)

after_earlier : (g : Sig) (s : SortId) (f h : FunId) (vs ws : ConstructorValues) → weights vs ≡ weights ws → IsEarlier g s f h → ComesBefore g s (built h ws) (built f vs) → ⊥
after_earlier g s f h vs ws e early (lighter l) = omega (arith, l, e)
after_earlier g s f h vs ws e early (of_earlier_constructor k back) = two_earlier g s f h early back
after_earlier g s f h vs ws e early (over_earlier_arguments k q d at before) = not_earlier g s f h early (sym q)

-- no two values come before each other
mutual
  pub not_both : (g : Sig) (s : SortId) (v w : ConstructorValue) → ComesBefore g s v w → ComesBefore g s w v → ⊥
  not_both g s v w (lighter l) b = let more = not_heavier g s w v b in omega (arith, l, more)
  not_both g s (built f vs) (built h ws) (of_earlier_constructor e early) b = after_earlier g s f h vs ws e early b
  not_both g s (built f vs) (built h ws) (over_earlier_arguments e q d at before) (lighter l) = omega (arith, l, e)
  not_both g s (built f vs) (built h ws) (over_earlier_arguments e q d at before) (of_earlier_constructor k early) = not_earlier g s h f early (sym q)
  not_both g s (built f vs) (built h ws) (over_earlier_arguments e q d at before) (over_earlier_arguments k p c here_at back) =
      let same : d ≡ c = one_function g h d c (subst (λ (x : FunId). slice_get g.functions x.0 ≡ Some d) q at) here_at in
      none_both g (arguments_of d) vs ws before (subst (λ (x : Function). ComeBefore g (arguments_of x) ws vs) (sym same) back)

  none_both : (g : Sig) (ss : List SortId) (vs ws : ConstructorValues) → ComeBefore g ss vs ws → ComeBefore g ss ws vs → ⊥
  none_both g [] vs ws b c = elim b [ ]
  none_both g (s ∷ ss) no_value ws b c = elim b [ ]
  none_both g (s ∷ ss) (value_then v vs) no_value b c = elim b [ ]
  none_both g (s ∷ ss) (value_then v vs) (value_then w ws) (here b) (here c) = not_both g s v w b c
  none_both g (s ∷ ss) (value_then v vs) (value_then w ws) (here b) (later e c) = not_before g s v w b (sym e)
  none_both g (s ∷ ss) (value_then v vs) (value_then w ws) (later e b) (here c) = not_before g s w v c (sym e)
  none_both g (s ∷ ss) (value_then v vs) (value_then w ws) (later e b) (later d c) = none_both g ss vs ws b c

-- each value weighs something
pub some_weight : (v : ConstructorValue) → 0 < weight v
some_weight (a_number s (pos zero)) = omega arith
some_weight (a_number s (pos (suc n))) = by_sort (s.0 == 1) (s.0 == 2)
  where
    by_sort : (a b : Bool) → 0 < cond a (suc n) (cond b (suc n + 1) (2 * suc n))
    by_sort true b = omega arith
    by_sort false true = omega arith
    by_sort false false = omega arith
some_weight (a_number s (negsuc n)) = omega arith
some_weight (built f vs) = omega arith
some_weight (a_constant d) = omega arith
