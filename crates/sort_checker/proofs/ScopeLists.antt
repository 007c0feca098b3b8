-- The names in scope and the map of their places.
use Rattle.std.proofs.Common.{◌≡◌, ◌<◌, ◌≤◌, ℕ, zero, suc, Bool, true, false, cond, List, [], ◌∷◌, ◌++◌, length, map, take, get_or, ⊎_elim, refl, sym, ap, ◌∙◌, subst, arith}
use Rattle.std.specs.Prelude.{Some, None, bytes_eq, slice_get}
use Rattle.std.specs.List.{Contains}
use Rattle.std.proofs.lemmas.Option.{none-some, same_Some, slice_get_within}
use Rattle.std.proofs.lemmas.Slice.Eq.{bytes_eq-Decides}
use denote.Ref.{Bor}
use Rattle.data_theory.proofs.PlaceLemmas.{contains_read, read_contained, pushed_by_place, read_last, read_front, read_taken}
use Rattle.sort_table.specs.Expressions.{Name}
use Rattle.sort_checker.specs.declared.name_numbers.NameNumbers.{NameNumbers}
use Rattle.sort_checker.specs.NameNumbers.{number_under}
use Rattle.sort_checker.specs.Operators.{stands_in}
use Rattle.sort_checker.specs.ScopeNames.{KnowsPlaces}
use Rattle.sort_checker.proofs.TypedEquations.{stands_among}
use Rattle.sort_checker.proofs.ElaboratedEquations.{among_stands}

module _ (m : NameNumbers) (ns : List Name) (knows : KnowsPlaces m ns) (x : Name) where
  not_true : (b : Bool) → (b ≡ true → ⊥) → b ≡ false
  not_true true h = absurd (h refl)
  not_true false h = refl

  -- where a standing name stands by the map
  place_of : stands_in x ns ≡ true → (j : ℕ) × (number_under m x ≡ Some j) × (slice_get ns j ≡ Some x)
  place_of h =
      let i = read_contained ns x (stands_among x ns h) in
      let r = knows i.0 x i.1 in (r.0, r.1, r.3)

  pub absent_where_none : number_under m x ≡ None → false ≡ stands_in x ns
  absent_where_none e = sym (not_true (stands_in x ns) (λ h. let r = place_of h in none-some r.0 (sym e ∙ r.1)))

  pub absent_where_beyond : (p : ℕ) → number_under m x ≡ Some p → length ns ≤ p → false ≡ stands_in x ns
  absent_where_beyond p e l =
      sym (not_true (stands_in x ns)
      (λ h. let r = place_of h in
      let same : p ≡ r.0 = same_Some p r.0 (sym e ∙ r.1) in
      let within = slice_get_within ns r.0 x r.2 in omega (arith, same, within, l)))

  pub told_by_place : (p : ℕ) (y : Name) → number_under m x ≡ Some p → slice_get ns p ≡ Some y → bytes_eq y x ≡ stands_in x ns
  told_by_place p y e at = by_test (bytes_eq y x) refl
    where
      by_test : (b : Bool) → bytes_eq y x ≡ b → b ≡ stands_in x ns
      by_test true q = sym (among_stands x ns (subst (Contains ns) ((bytes_eq-Decides y x).0 q) (contains_read ns p y at)))
      by_test false q =
          sym (not_true (stands_in x ns)
          (λ h. let r = place_of h in
          let same : p ≡ r.0 = same_Some p r.0 (sym e ∙ r.1) in
          let there : Some y ≡ Some x = sym at ∙ (ap (slice_get ns) same ∙ r.2) in
          let one : y ≡ x = same_Some y x there in
          let never : true ≡ false = sym ((bytes_eq-Decides y x).1 one) ∙ q in absurd cc))

-- ---- a name comes into scope
-- a further name that stands already
pub knows_again : (m : NameNumbers) (ns : List Name) → KnowsPlaces m ns → (x : Name) → stands_in x ns ≡ true → KnowsPlaces m (ns ++ x ∷ [])
knows_again m ns knows x there i y e =
    ⊎_elim (λ q. let r = knows i y q in (r.0, r.1, r.2, read_front ns (x ∷ []) r.0 y r.3))
    (λ q. let k = read_contained ns x (stands_among x ns there) in
    let r = knows k.0 x k.1 in
    let within = slice_get_within ns k.0 x k.1 in
    let same : x ≡ y = q.1 in
    (r.0, ap (number_under m) (sym same) ∙ r.1, (let l = r.2 in let at = q.0 in omega (arith, l, at, within)), read_front ns (x ∷ []) r.0 y (r.3 ∙ ap (λ (z : Name). Some z) same)))
    (pushed_by_place ns x y i e)

-- under a further name that doesn't stand, what the map has of the others stays
pub knows_still : (m n : NameNumbers) (ns : List Name) → KnowsPlaces m ns → (x : Name) (k : ℕ) → stands_in x ns ≡ false → ((y : Name) → number_under n y ≡ cond (bytes_eq x y) (Some k) (number_under m y)) → KnowsPlaces n ns
knows_still m n ns knows x k absent put i y e =
    let r = knows i y e in
    let other : bytes_eq x y ≡ false = by_test (bytes_eq x y) refl in
    (r.0, put y ∙ (ap (λ (b : Bool). cond b (Some k) (number_under m y)) other ∙ r.1), r.2, r.3)
  where
    by_test : (b : Bool) → bytes_eq x y ≡ b → b ≡ false
    by_test false q = refl
    by_test true q =
        let same : x ≡ y = (bytes_eq-Decides x y).0 q in
        let there : stands_in x ns ≡ true = among_stands x ns (subst (Contains ns) (sym same) (contains_read ns i y e)) in
        let never : true ≡ false = sym there ∙ absent in absurd cc

pub knows_new : (m n : NameNumbers) (ns : List Name) → KnowsPlaces m ns → (x : Name) (k : ℕ) → k ≡ length ns → stands_in x ns ≡ false → ((y : Name) → number_under n y ≡ cond (bytes_eq x y) (Some k) (number_under m y)) → KnowsPlaces n (ns ++ x ∷ [])
knows_new m n ns knows x k last absent put i y e =
    ⊎_elim (λ q. let r = knows_still m n ns knows x k absent put i y q in (r.0, r.1, r.2, read_front ns (x ∷ []) r.0 y r.3))
    (λ q. let same : x ≡ y = q.1 in
    (k, put y ∙ ap (λ (b : Bool). cond b (Some k) (number_under m y)) ((bytes_eq-Decides x y).1 same), (let at = q.0 in omega (arith, at, last)), ap (slice_get (ns ++ x ∷ [])) last ∙ (read_last ns x ∙ ap (λ (z : Name). Some z) same)))
    (pushed_by_place ns x y i e)

-- ---- names leave it
taken_read : (n : ℕ) (ns : List Name) (j : ℕ) (x : Name) → j < n → slice_get ns j ≡ Some x → slice_get (take n ns) j ≡ Some x
taken_read zero ns j x l e = let never : ⊥ = omega (arith, l) in absurd never
taken_read (suc n) [] j x l e = e
taken_read (suc n) (y ∷ ns) zero x l e = e
taken_read (suc n) (y ∷ ns) (suc j) x l e = taken_read n ns j x (omega (arith, l)) e

pub knows_fewer : (m : NameNumbers) (ns : List Name) → KnowsPlaces m ns → (n : ℕ) → KnowsPlaces m (take n ns)
knows_fewer m ns knows n i x e =
    let t = read_taken n ns i x e in
    let r = knows i x t.1 in
    let within : r.0 < n = (let a = r.2 in let b = t.0 in omega (arith, a, b)) in (r.0, r.1, r.2, taken_read n ns r.0 x within r.3)

-- ---- in code
pub mapped_at : (ns : List (Bor Name)) (i : ℕ) (n : Bor Name) → i < length ns → n ≡ get_or ns i n → slice_get (map (λ (b : Bor Name). b.now) ns) i ≡ Some n.now
mapped_at [] i n l e = let never : ⊥ = omega (arith, l) in absurd never
mapped_at (x ∷ ns) zero n l e = ap (λ (b : Bor Name). Some b.now) (sym e)
mapped_at (x ∷ ns) (suc i) n l e = mapped_at ns i n (omega (arith, l)) e
