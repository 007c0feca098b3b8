-- Provably equal terms have the same sorts.
use Rattle.std.proofs.Common.{◌≡◌, ℕ, zero, suc, ◌<◌, ◌⊎◌, inl, inr, List, [], ◌∷◌, ◌++◌, Bool, true, false, cond, refl, sym, ap, ◌∙◌, subst, arith}
use Rattle.std.specs.Prelude.{◌^◌, ℤ, pos, negsuc, ◌≤ℤ◌, Contains}
use Rattle.std.proofs.lemmas.Int.{ints}
use Rattle.std.proofs.lemmas.List.Elements.{Contains-append_left, Contains-append_right}
use lib.Signed.{lt_z, le_z_yes}
use lib.IntN.{neg_ℤ}
use Rattle.data_theory.specs.Terms.{Sort, boolean, positive, natural, integer, Symbol, minus, upcast, Term, Terms, variable, numeral, unknown, application, none, more, apply, put, variables_of, variables_of_all}
use Rattle.data_theory.specs.Declarations.{Data, IsData, Declares, IsSymbol, positives, naturals, integers, pos2nat, nat2int, pos2int, IsNumberOf, argument_sorts, result_sort, HasSort, HaveSorts}
use Rattle.data_theory.specs.Arithmetic.{magnitude}
use Rattle.data_theory.specs.Provable.{Equation, variables_of_equation, ProvablyEqual, PlacesEqual, reflexive, symmetric, transitive, congruent, built_in, written, reflected, no_places, place}
use Rattle.data_theory.specs.Environments.{IsOver, AreOver}
use Rattle.data_theory.specs.Rewriting.{IsWellFormed, AreSorts}
use Rattle.data_theory.specs.SortLaws.{ProvablyEqualTermsHaveTheSameSort}
use Rattle.data_theory.proofs.Numbers.{magnitude-neg}
use Rattle.data_theory.proofs.BooleanLemmas.{true_has_sort}
use Rattle.data_theory.proofs.EnvironmentLemmas.{contains_first, applications_have_sorts, one_sort}
use Rattle.data_theory.proofs.LinesOnTerms.{right_sort}
use Rattle.data_theory.proofs.GoesToIsEqual.{put_sort}

-- a numeral that its sort doesn't have, of a sort that an upcast widens
abbrev IsMisplaced : Term → Type 0
IsMisplaced (numeral positive z) = z ≤ℤ pos 0
IsMisplaced (numeral natural z) = z ≤ℤ negsuc 0
IsMisplaced _ = ⊥

-- a list of one such numeral
abbrev IsOneMisplaced : Terms → Type 0
IsOneMisplaced (more t none) = IsMisplaced t
IsOneMisplaced _ = ⊥

placed_or_misplaced : (g : Data) (a : Sort) (z : ℤ) → magnitude z < 2 ^ 128 → (a ≡ positive) ⊎ ((a ≡ natural) ⊎ (a ≡ integer)) → HasSort g [] (numeral a z) a ⊎ IsMisplaced (numeral a z)
placed_or_misplaced g a z small (inl e) = rw e (by_sign z small)
  where
    by_sign : (z : ℤ) → magnitude z < 2 ^ 128 → HasSort g [] (numeral positive z) positive ⊎ IsMisplaced (numeral positive z)
    by_sign (pos zero) l = inr (le_z_yes tt)
    by_sign (pos (suc n)) l = inl (refl, (omega (arith, ints), l))
    by_sign (negsuc n) l = inr (le_z_yes tt)
placed_or_misplaced g a z small (inr (inl e)) = rw e (by_sign z small)
  where
    by_sign : (z : ℤ) → magnitude z < 2 ^ 128 → HasSort g [] (numeral natural z) natural ⊎ IsMisplaced (numeral natural z)
    by_sign (pos n) l = inl (refl, (omega (arith, ints), l))
    by_sign (negsuc n) l = inr (omega (arith, ints))
placed_or_misplaced g a z small (inr (inr e)) = rw e (inl (refl, (tt, small)))

module _ (g : Data) where
  -- a closed term has one sort
  closed_sort : (t : Term) (a b : Sort) → HasSort g [] t a → HasSort g [] t b → a ≡ b
  closed_sort (variable v) a b h k = absurd h
  closed_sort (numeral c z) a b h k = sym h.0 ∙ k.0
  closed_sort (unknown d i) a b h k = h.0 ∙ sym k.0
  closed_sort (application f ts) a b h k = sym h.2 ∙ k.2

  not_misplaced : (t : Term) (s : Sort) → HasSort g [] t s → IsMisplaced t → ⊥
  not_misplaced (numeral positive z) s h i = let k : IsNumberOf positive z = subst (λ a. IsNumberOf a z) (sym h.0) h.1.0 in omega (arith, ints, k, i)
  not_misplaced (numeral natural z) s h i = let k : IsNumberOf natural z = subst (λ a. IsNumberOf a z) (sym h.0) h.1.0 in omega (arith, ints, k, i)
  not_misplaced _ s h i = i

  -- the two terms have the same sorts, and are one where one of them is misplaced
  record Alike (t u : Term) : Type 0 where
    there : (s : Sort) → HasSort g [] t s → HasSort g [] u s
    back : (s : Sort) → HasSort g [] u s → HasSort g [] t s
    first : IsMisplaced t → t ≡ u
    second : IsMisplaced u → t ≡ u

  record AllAlike (ts us : Terms) : Type 0 where
    there : (ss : List Sort) → HaveSorts g [] ts ss → HaveSorts g [] us ss
    back : (ss : List Sort) → HaveSorts g [] us ss → HaveSorts g [] ts ss
    first : IsOneMisplaced ts → ts ≡ us
    second : IsOneMisplaced us → ts ≡ us

  of_one_sort : (t u : Term) (s : Sort) → HasSort g [] t s → HasSort g [] u s → Alike t u
  of_one_sort t u s h k = record {
    there = λ a i. subst (HasSort g [] u) (closed_sort t s a h i) k;
    back = λ a i. subst (HasSort g [] t) (closed_sort u s a k i) h;
    first = λ i. absurd (not_misplaced t s h i);
    second = λ i. absurd (not_misplaced u s k i);
  }

  alike_itself : (t : Term) → Alike t t
  alike_itself t = record { there = λ s h. h; back = λ s h. h; first = λ i. refl; second = λ i. refl }

  alike_swapped : {t u : Term} → Alike t u → Alike u t
  alike_swapped a = record { there = a.back; back = a.there; first = λ i. sym (a.second i); second = λ i. sym (a.first i) }

  alike_chained : {t u v : Term} → Alike t u → Alike u v → Alike t v
  alike_chained a b = record {
    there = λ s h. b.there s (a.there s h);
    back = λ s h. a.back s (b.back s h);
    first = λ i. a.first i ∙ b.first (subst IsMisplaced (a.first i) i);
    second = λ i. a.second (subst IsMisplaced (sym (b.second i)) i) ∙ b.second i;
  }

  all_swapped : {ts us : Terms} → AllAlike ts us → AllAlike us ts
  all_swapped a = record { there = a.back; back = a.there; first = λ i. sym (a.second i); second = λ i. sym (a.first i) }

  -- ---- through the merging application
  merged_there : (f : Symbol) (a : Sort) (z : ℤ) (us : Terms) (s : Sort) → IsSymbol g f → argument_sorts g f ≡ a ∷ [] → result_sort g f ≡ s → AllAlike (more (numeral a z) none) us → HasSort g [] (numeral a z) a ⊎ IsMisplaced (numeral a z) → HasSort g [] (apply f (more (numeral a z) none)) s → HasSort g [] (apply f us) s
  merged_there f a z us s k e r all (inl w) h = subst (HasSort g [] (apply f us)) r (applications_have_sorts g [] f us k (subst (HaveSorts g [] us) (sym e) (all.there (a ∷ []) (w, tt))))
  merged_there f a z us s k e r all (inr i) h = subst (λ x. HasSort g [] (apply f x) s) (all.first i) h

  negated_sort : (a s : Sort) (z : ℤ) (b : Bool) → HasSort g [] (cond b (numeral integer (neg_ℤ z)) (application (minus a) (more (numeral a z) none))) s → integer ≡ s
  negated_sort a s z true h = h.0
  negated_sort a s z false h = h.2

  negated_small : (a s : Sort) (z : ℤ) (b : Bool) → HasSort g [] (cond b (numeral integer (neg_ℤ z)) (application (minus a) (more (numeral a z) none))) s → magnitude z < 2 ^ 128
  negated_small a s z true h = subst (λ n. n < 2 ^ 128) (magnitude-neg z) h.1.1
  negated_small a s z false h = h.1.0.1.1

  apply_there : (f : Symbol) (ts us : Terms) → AllAlike ts us → (s : Sort) → HasSort g [] (apply f ts) s → HasSort g [] (apply f us) s
  apply_there (upcast positive natural) (more (numeral positive z) none) us all s h = merged_there (upcast positive natural) positive z us s pos2nat refl h.0 all (placed_or_misplaced g positive z h.1.1 (inl refl)) h
  apply_there (upcast natural integer) (more (numeral natural z) none) us all s h = merged_there (upcast natural integer) natural z us s nat2int refl h.0 all (placed_or_misplaced g natural z h.1.1 (inr (inl refl))) h
  apply_there (upcast positive integer) (more (numeral positive z) none) us all s h = merged_there (upcast positive integer) positive z us s pos2int refl h.0 all (placed_or_misplaced g positive z h.1.1 (inl refl)) h
  apply_there (minus positive) (more (numeral positive z) none) us all s h = merged_there (minus positive) positive z us s positives refl (negated_sort positive s z (lt_z (pos 0) z) h) all (placed_or_misplaced g positive z (negated_small positive s z (lt_z (pos 0) z) h) (inl refl)) h
  apply_there (minus natural) (more (numeral natural z) none) us all s h = merged_there (minus natural) natural z us s naturals refl (negated_sort natural s z (lt_z (pos 0) z) h) all (placed_or_misplaced g natural z (negated_small natural s z (lt_z (pos 0) z) h) (inr (inl refl))) h
  apply_there (minus integer) (more (numeral integer z) none) us all s h = merged_there (minus integer) integer z us s integers refl (negated_sort integer s z (lt_z (pos 0) z) h) all (placed_or_misplaced g integer z (negated_small integer s z (lt_z (pos 0) z) h) (inr (inr refl))) h
  apply_there f ts us all s h = subst (HasSort g [] (apply f us)) h.2 (applications_have_sorts g [] f us h.0 (all.there (argument_sorts g f) h.1))

  negated_not_misplaced : (a : Sort) (z : ℤ) (b : Bool) → IsMisplaced (cond b (numeral integer (neg_ℤ z)) (application (minus a) (more (numeral a z) none))) → ⊥
  negated_not_misplaced a z true h = h
  negated_not_misplaced a z false h = h

  apply_first : (f : Symbol) (ts us : Terms) → AllAlike ts us → IsMisplaced (apply f ts) → apply f ts ≡ apply f us
  apply_first (upcast positive natural) (more (numeral positive z) none) us all i =
      let below : z ≤ℤ pos 0 = omega (arith, ints, i) in
      ap (apply (upcast positive natural)) (all.first below)
  apply_first (upcast natural integer) (more (numeral natural z) none) us all i = absurd i
  apply_first (upcast positive integer) (more (numeral positive z) none) us all i = absurd i
  apply_first (minus positive) (more (numeral positive z) none) us all i = absurd (negated_not_misplaced positive z (lt_z (pos 0) z) i)
  apply_first (minus natural) (more (numeral natural z) none) us all i = absurd (negated_not_misplaced natural z (lt_z (pos 0) z) i)
  apply_first (minus integer) (more (numeral integer z) none) us all i = absurd (negated_not_misplaced integer z (lt_z (pos 0) z) i)
  apply_first f ts us all i = absurd i

  applied_alike : (f : Symbol) (ts us : Terms) → AllAlike ts us → Alike (apply f ts) (apply f us)
  applied_alike f ts us all = record {
    there = λ s h. apply_there f ts us all s h;
    back = λ s h. apply_there f us ts (all_swapped all) s h;
    first = λ i. apply_first f ts us all i;
    second = λ i. sym (apply_first f us ts (all_swapped all) i);
  }

  -- ---- places
  -- both lists are empty, or none is
  abbrev AreAsLong : Terms → Terms → Type 0
  AreAsLong none none = Unit {0}
  AreAsLong (more t ts) (more u us) = Unit {0}
  AreAsLong _ _ = ⊥

  place_there : (t u : Term) (ts us : Terms) → Alike t u → AllAlike ts us → (ss : List Sort) → HaveSorts g [] (more t ts) ss → HaveSorts g [] (more u us) ss
  place_there t u ts us a all [] h = absurd h
  place_there t u ts us a all (s ∷ ss) h = (a.there s h.0, all.there ss h.1)

  place_first : (t u : Term) (ts us : Terms) → Alike t u → AreAsLong ts us → IsOneMisplaced (more t ts) → more t ts ≡ more u us
  place_first t u none none a p i = ap (λ x. more x none) (a.first i)
  place_first t u none (more y ys) a p i = absurd p
  place_first t u (more x xs) us a p i = absurd i

  place_second : (t u : Term) (ts us : Terms) → Alike t u → AreAsLong ts us → IsOneMisplaced (more u us) → more t ts ≡ more u us
  place_second t u none none a p i = ap (λ x. more x none) (a.second i)
  place_second t u (more y ys) none a p i = absurd p
  place_second t u ts (more x xs) a p i = absurd i

  none_alike : AllAlike none none
  none_alike = record { there = λ ss h. h; back = λ ss h. h; first = λ i. refl; second = λ i. refl }

  place_alike : (t u : Term) (ts us : Terms) → Alike t u → AllAlike ts us → AreAsLong ts us → AllAlike (more t ts) (more u us)
  place_alike t u ts us a all long = record {
    there = λ ss h. place_there t u ts us a all ss h;
    back = λ ss h. place_there u t us ts (alike_swapped a) (all_swapped all) ss h;
    first = λ i. place_first t u ts us a long i;
    second = λ i. place_second t u ts us a long i;
  }

-- ---- a term is over the variables that it has
mutual
  over_from : (xs : List ℕ) (t : Term) → ((v : ℕ) → Contains (variables_of t) v → Contains xs v) → IsOver xs t
  over_from xs (variable v) f = f v (contains_first v [])
  over_from xs (numeral a z) f = tt
  over_from xs (unknown d k) f = tt
  over_from xs (application h ts) f = over_all_from xs ts f

  over_all_from : (xs : List ℕ) (ts : Terms) → ((v : ℕ) → Contains (variables_of_all ts) v → Contains xs v) → AreOver xs ts
  over_all_from xs none f = tt
  over_all_from xs (more t ts) f = (
    over_from xs t (λ v i. f v (Contains-append_left (variables_of t) (variables_of_all ts) v i)),
    over_all_from xs ts (λ v i. f v (Contains-append_right (variables_of t) (variables_of_all ts) v i)),
  )

no_sorts : (g : Data) → AreSorts g []
no_sorts g v s h = absurd h

module _ (g : Data) (own : List Equation) (ok : IsData g) (all : (q : Equation) → Contains own q → IsWellFormed g q) where
  as_long : {ts us : Terms} → PlacesEqual g own ts us → AreAsLong g ts us
  as_long no_places = tt
  as_long (place h k) = tt

  mutual
    alike : {t u : Term} → ProvablyEqual g own t u → Alike g t u
    alike (reflexive {t = t}) = alike_itself g t
    alike (symmetric h) = alike_swapped g (alike h)
    alike (transitive h k) = alike_chained g (alike h) (alike k)
    alike (congruent f {ts = ts} {us = us} h) = applied_alike g f ts us (all_alike h)
    alike (built_in {l = l} {r = r} s b h c) = of_one_sort g l r s h (right_sort g [] ok (no_sorts g) b s h)
    alike (written q e i fits c) =
        let w = all q i in
        let xs = variables_of_equation q in
        let fit : (v : ℕ) (s : Sort) → Contains xs v → Declares q.sorts v s → HasSort g [] (e v) s = λ v s j d. let h = fits v j in subst (HasSort g [] (e v)) (one_sort q.sorts v h.0 s h.1 d) h.2 in
        let left = over_from xs q.left (λ v j. Contains-append_right (variables_of q.condition) (variables_of q.left ++ variables_of q.right) v (Contains-append_left (variables_of q.left) (variables_of q.right) v j)) in
        let right = over_from xs q.right (λ v j. Contains-append_right (variables_of q.condition) (variables_of q.left ++ variables_of q.right) v (Contains-append_right (variables_of q.left) (variables_of q.right) v j)) in
        of_one_sort g (put e q.left) (put e q.right) w.sort (put_sort g xs q.sorts [] e fit q.left w.sort left w.left) (put_sort g xs q.sorts [] e fit q.right w.sort right w.right)
    alike (reflected {s = s} {t = t} {u = u} h) =
        let sorted = (alike h).back boolean (true_has_sort g) in
        of_one_sort g t u s sorted.1.0 sorted.1.1.0

    all_alike : {ts us : Terms} → PlacesEqual g own ts us → AllAlike g ts us
    all_alike no_places = none_alike g
    all_alike (place {t = t} {u = u} {ts = ts} {us = us} h k) = place_alike g t u ts us (alike h) (all_alike k) (as_long k)

pub same_sorts : ProvablyEqualTermsHaveTheSameSort
same_sorts g own ok all t u h s = let a = alike g own ok all h in (a.there s, a.back s)
