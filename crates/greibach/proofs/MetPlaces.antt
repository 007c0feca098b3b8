-- The places of a form are those that were met.
use Rattle.std.proofs.Common.{◌≡◌, ℕ, zero, suc, ◌+◌, ◌⊎◌, inl, inr, List, [], ◌∷◌, ◌++◌, map, length, Some, refl, sym, ap, ap₂, ◌∙◌, subst, arith, append_assoc, append-nil, length-append, ⊎_elim}
use Rattle.std.specs.Prelude.{Contains, slice_get, option_map}
use Rattle.std.proofs.lemmas.Option.{slice_get_within, slice_get-map}
use Rattle.data_theory.specs.Declarations.{Data}
use Rattle.data_theory.proofs.PlaceLemmas.{contains_read, read_contained, read_front, read_last, read_behind}
use Rattle.greibach.specs.Places.{Place, Text}
use Rattle.greibach.specs.Unfolding.{PlaceCall, Head}
use Rattle.greibach.specs.UnfoldedForms.{UnfoldedEquation}
use Rattle.greibach.specs.MeetingOrder.{places_of, places_called, Meets, none_met, met_before, met_now, Collects, all_collected, next_collected, CollectedIsMet}

contains_front : (ks ls : List Place) (p : Place) → Contains ks p → Contains (ks ++ ls) p
contains_front ks ls p c = let r = read_contained ks p c in contains_read (ks ++ ls) r.0 p (read_front ks ls r.0 p r.1)

contains_behind : (ks : List Place) (p : Place) → Contains (ks ++ p ∷ []) p
contains_behind ks p = contains_read (ks ++ p ∷ []) (length ks) p (read_last ks p)

-- what is met comes behind
pub meets_behind : {A : Type 0} {ks ps ls : List A} → Meets ks ps ls → (more : List A) × (ls ≡ ks ++ more)
meets_behind (none_met {ks = ks}) = ([], sym (append-nil ks))
meets_behind (met_before c h) = meets_behind h
meets_behind (met_now {ks = ks} {p = p} n h) = let r = meets_behind h in (p ∷ r.0, r.1 ∙ append_assoc ks (p ∷ []) r.0)

stays_met : {ks ps ls : List Place} → Meets ks ps ls → (p : Place) → Contains ks p → Contains ls p
stays_met {ks} h p c = let r = meets_behind h in subst (λ l. Contains l p) (sym r.1) (contains_front ks r.0 p c)

contains_split : (x p : Place) (ps : List Place) → Contains (x ∷ ps) p → (x ≡ p) ⊎ Contains ps p
contains_split x p ps c = by_place (read_contained (x ∷ ps) p c).0 (read_contained (x ∷ ps) p c).1
  where
    by_place : (i : ℕ) → slice_get (x ∷ ps) i ≡ Some p → (x ≡ p) ⊎ Contains ps p
    by_place zero q = inl (let e : x ≡ p = cc in e)
    by_place (suc i) q = inr (contains_read ps i p q)

all_met : {ks ps ls : List Place} → Meets ks ps ls → (p : Place) → Contains ps p → Contains ls p
all_met none_met p c = absurd (let r = read_contained [] p c in let l = slice_get_within [] r.0 p r.1 in omega arith)
all_met (met_before {ks = ks} {ps = ps} {p = x} i h) p c = ⊎_elim (λ q. stays_met h p (subst (λ z. Contains ks z) q i)) (λ j. all_met h p j) (contains_split x p ps c)
all_met (met_now {ks = ks} {ps = ps} {p = x} n h) p c = ⊎_elim (λ q. stays_met h p (subst (λ z. Contains (ks ++ x ∷ []) z) q (contains_behind ks x))) (λ j. all_met h p j) (contains_split x p ps c)

-- a list is cut at a place that has an entry
cut_at : (front back : List Place) (p : Place) → slice_get (front ++ back) (length front) ≡ Some p → (others : List Place) × (back ≡ p ∷ others)
cut_at [] [] p q = cc
cut_at [] (x ∷ back) p q = let e : x ≡ p = cc in (back, ap (λ z. z ∷ back) e)
cut_at (x ∷ front) back p q = cut_at front back p q

nothing_behind : (front back : List Place) → length front ≡ length (front ++ back) → back ≡ []
nothing_behind front [] q = refl
nothing_behind front (x ∷ back) q = absurd (let l = length-append front (x ∷ back) in omega (arith, l, q))

collected_places : {g : Data} {t : Text} {ks last : List Place} {n : ℕ} {form : List UnfoldedEquation} → Collects g t ks n form last → (front back : List Place) → ks ≡ front ++ back → n ≡ length front → last ≡ front ++ map (λ q. q.place) form
collected_places (all_collected {ks = ks} {n = n} l) front back q m = q ∙ ap (λ b. front ++ b) (nothing_behind front back (sym m ∙ l ∙ ap length q))
collected_places (next_collected {ks = ks} {ls = ls} {n = n} {form = form} e at i met h) front back q m =
    let c = cut_at front back e.place (ap₂ slice_get (sym q) (sym m) ∙ at) in
    let b = meets_behind met in
    collected_places h (front ++ e.place ∷ []) (c.0 ++ b.0)
    (b.1 ∙ ap (λ l. l ++ b.0) (q ∙ ap (λ z. front ++ z) c.1 ∙ sym (append_assoc front (e.place ∷ []) c.0)) ∙ append_assoc (front ++ e.place ∷ []) c.0 b.0)
    (ap suc m ∙ (let l = length-append front (e.place ∷ []) in omega (arith, l)))
    ∙ append_assoc front (e.place ∷ []) (map (λ q. q.place) form)

ends_with : {g : Data} {t : Text} {ks last : List Place} {n : ℕ} {form : List UnfoldedEquation} → Collects g t ks n form last → (p : Place) → Contains ks p → Contains last p
ends_with (all_collected l) p c = c
ends_with (next_collected e at i met h) p c = ends_with h p (stays_met met p c)

place_in : (cs : List PlaceCall) (c : PlaceCall) → Contains cs c → Contains (map (λ (c : PlaceCall). c.place) cs) c.place
place_in cs c i = let r = read_contained cs c i in contains_read (map (λ (c : PlaceCall). c.place) cs) r.0 c.place (slice_get-map (λ (c : PlaceCall). c.place) cs r.0 ∙ ap (option_map (λ (c : PlaceCall). c.place)) r.1)

behind : (ks ls : List Place) (p : Place) → Contains ls p → Contains (ks ++ ls) p
behind ks ls p c = let r = read_contained ls p c in contains_read (ks ++ ls) (length ks + r.0) p (read_behind ks ls r.0 p r.1)

called_at : (hs : List Head) (k : ℕ) (h : Head) (c : PlaceCall) → slice_get hs k ≡ Some h → Contains h.next c → Contains (places_called hs) c.place
called_at [] k h c q j = absurd (let l = slice_get_within [] k h q in omega arith)
called_at (x ∷ hs) zero h c q j = let e : h ≡ x = cc in contains_front (places_of x) (places_called hs) c.place (subst (λ z. Contains (places_of z) c.place) e (place_in h.next c j))
called_at (x ∷ hs) (suc k) h c q j = behind (places_of x) (places_called hs) c.place (called_at hs k h c q j)

calls_met : {g : Data} {t : Text} {ks last : List Place} {n : ℕ} {form : List UnfoldedEquation} → Collects g t ks n form last → (k : ℕ) (q : UnfoldedEquation) (h : Head) (c : PlaceCall) → slice_get form k ≡ Some q → Contains q.heads h → Contains h.next c → Contains last c.place
calls_met (all_collected l) k q h c e i j = absurd (let l = slice_get_within [] k q e in omega arith)
calls_met (next_collected x at eq met rest) zero q h c e i j =
    let same : q ≡ x = cc in
    let r = read_contained q.heads h i in
    ends_with rest c.place (all_met met c.place (called_at x.heads r.0 h c (ap (λ (z : UnfoldedEquation). slice_get z.heads r.0) (sym same) ∙ r.1) j))
calls_met (next_collected x at eq met rest) (suc k) q h c e i j = calls_met rest k q h c e i j

pub collected_is_met : CollectedIsMet
collected_is_met g t start form last h = (
  collected_places h [] (start ∷ []) refl refl,
  λ q x c i j k. let r = read_contained form q i in calls_met h r.0 q x c r.1 j k,
)
