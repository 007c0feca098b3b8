-- The places of a label are read as its actions are.
use Rattle.std.proofs.Common.{◌≡◌, ◌<◌, ◌==◌, ℕ, suc, Bool, true, false, List, [], ◌∷◌, ◌++◌, map, length, get_or, refl, sym, ap, ap₂, ◌∙◌, subst, arith, if◌then◌else◌, ⊎_elim, true≢false}
use Rattle.std.specs.Bool.{Decides}
use Rattle.std.specs.List.{All}
use Rattle.std.specs.Str.{bytes_eq}
use Rattle.std.proofs.lemmas.Bool.Decides.{eqb_tells}
use Rattle.std.proofs.lemmas.List.{append_assoc, get_or_at}
use Rattle.std.proofs.lemmas.List.Elements.{All-nil, All-cons, All-head, All-tail}
use Rattle.std.proofs.lemmas.Slice.Eq.{bytes_eq-Decides}
use Rattle.data_theory.specs.declared.ids.SortId.{SortId}
use Rattle.data_theory.specs.Keys.{Key}
use Rattle.data_theory.specs.Terms.{Sort}
use Rattle.data_theory.specs.Signature.{Sig}
use Rattle.data_theory.specs.Complete.{IsActionWithin}
use Rattle.data_theory.specs.IdTrees.{Tree}
use Rattle.data_theory.specs.IdTerms.{sort_under}
use Rattle.data_theory.specs.WholeSignatures.{IsSignature}
use Rattle.data_theory.proofs.IdSortLemmas.{different_sorts_mean_different_sorts}
use Rattle.process_terms.specs.Labels.{Action}
use Rattle.process_terms.specs.PlainProcesses.{PlainAction}
use Rattle.process_terms.specs.Meanings.{name_at, action_of, label_of}
use Rattle.process_terms.specs.SignatureEntries.{entries_of}
use Rattle.lps_core.specs.Fitting.{IsActionOf}
use Rattle.lps_core.proofs.Members.{In, here, there, all_at}
use Rattle.lps_core.proofs.Staying.{action_is}
use Rattle.action_filters.specs.Filters.{key_of_action, sort_numbers, IsNameIn}
use Rattle.action_filters.proofs.Meant.{key_is, names_along, names_alike}
use Rattle.communication.specs.declared.places.Place.{Place}
use Rattle.communication.specs.Communicated.{same_sorts, texts}
use Rattle.communication.specs.Places.{placed, class_of, place_of, places_from, places_of}
use Rattle.communication.specs.Plans.{action_at_place}
use Rattle.communication.proofs.SortsTold.{same_sorts_decides}
use Rattle.communication.proofs.Mapped.{IsRead}

abbrev no_action : PlainAction
no_action = record { act = record { 0 = 0 }; args = [] }

-- two tests that decide things which imply each other
same_test : {P Q : Type 0} (b c : Bool) → Decides b P → Decides c Q → (P → Q) → (Q → P) → b ≡ c
same_test true true d e f h = refl
same_test false false d e f h = refl
same_test true false d e f h = absurd (true≢false (sym (e.1 (f (d.0 refl)))))
same_test false true d e f h = absurd (true≢false (sym (d.1 (h (e.0 refl)))))

eqb_decides : (i j : ℕ) → Decides (i == j) (i ≡ j)
eqb_decides i j = ⊎_elim
    (λ e. ((λ h. e.1), (λ h. e.0)))
    (λ e. ((λ h. absurd (true≢false (sym h ∙ e.0))), (λ h. absurd (e.1 h))))
    (eqb_tells i j)

module _ (g : Sig) where
  abbrev sorts_at : PlainAction → List SortId
  sorts_at a = (key_of_action g a).sorts

  -- ---- classes
  class_same : (m : List PlainAction) (a b : PlainAction) → sort_numbers (sorts_at a) ≡ sort_numbers (sorts_at b) → class_of g m a ≡ class_of g m b
  class_same [] a b e = refl
  class_same (c ∷ m) a b e = ap₂ (λ (t : Bool) n. if t then 0 else suc n) (ap (bytes_eq (sort_numbers (sorts_at c))) e) (class_same m a b e)

  abbrev class_reads_at : List PlainAction → PlainAction → Type 0
  class_reads_at m a = bytes_eq (sort_numbers (sorts_at (get_or m (class_of g m a) no_action))) (sort_numbers (sorts_at a)) ≡ true

  same_as_itself : (ns : List ℕ) → bytes_eq ns ns ≡ true
  same_as_itself ns = (bytes_eq-Decides ns ns).1 refl

  class_step : (c a : PlainAction) (m : List PlainAction) (b : Bool) → bytes_eq (sort_numbers (sorts_at c)) (sort_numbers (sorts_at a)) ≡ b → (b ≡ false → class_reads_at m a)
      → bytes_eq (sort_numbers (sorts_at (get_or (c ∷ m) (if b then 0 else suc (class_of g m a)) no_action))) (sort_numbers (sorts_at a)) ≡ true
  class_step c a m true e h = e
  class_step c a m false e h = h refl

  class_reads : {a : PlainAction} {m : List PlainAction} → In a m → class_reads_at m a
  class_reads (here {x = a} {xs = m}) = class_step a a m (bytes_eq (sort_numbers (sorts_at a)) (sort_numbers (sorts_at a))) refl (λ q. absurd (true≢false (sym (same_as_itself (sort_numbers (sorts_at a))) ∙ q)))
  class_reads (there {x = a} {y = c} {xs = m} i) = class_step c a m (bytes_eq (sort_numbers (sorts_at c)) (sort_numbers (sorts_at a))) refl (λ q. class_reads i)

  same_class : {m : List PlainAction} (a b : PlainAction) → In a m → In b m → class_of g m a ≡ class_of g m b → sort_numbers (sorts_at a) ≡ sort_numbers (sorts_at b)
  same_class {m} a b i j e =
      let x = class_reads i in
      let y = subst (λ n. bytes_eq (sort_numbers (sorts_at (get_or m n no_action))) (sort_numbers (sorts_at b)) ≡ true) (sym e) (class_reads j) in
      sym ((bytes_eq-Decides (sort_numbers (sorts_at (get_or m (class_of g m a) no_action))) (sort_numbers (sorts_at a))).0 x)
      ∙ (bytes_eq-Decides (sort_numbers (sorts_at (get_or m (class_of g m a) no_action))) (sort_numbers (sorts_at b))).0 y

  -- ---- sorts
  first_same : {x y : ℕ} {xs ys : List ℕ} → x ∷ xs ≡ y ∷ ys → x ≡ y
  first_same e = cc

  rest_same : {x y : ℕ} {xs ys : List ℕ} → x ∷ xs ≡ y ∷ ys → xs ≡ ys
  rest_same e = cc

  numbers_same : (ss rs : List SortId) → sort_numbers ss ≡ sort_numbers rs → ss ≡ rs
  numbers_same [] [] e = refl
  numbers_same [] (r ∷ rs) e = cc
  numbers_same (s ∷ ss) [] e = cc
  numbers_same (s ∷ ss) (r ∷ rs) e = ap₂ (λ (n : ℕ) (l : List SortId). record { 0 = n } ∷ l) (first_same e) (numbers_same ss rs (rest_same e))

  abbrev InTable : List SortId → Type 0
  InTable ss = All (λ (s : SortId). s.0 < length g.sorts) ss

  meant_same : IsSignature g → (ss rs : List SortId) → InTable ss → InTable rs → map (sort_under g) ss ≡ map (sort_under g) rs → ss ≡ rs
  meant_same stands [] [] h k e = refl
  meant_same stands [] (r ∷ rs) h k e = cc
  meant_same stands (s ∷ ss) [] h k e = cc
  meant_same stands (s ∷ ss) (r ∷ rs) h k e = ap₂ (λ x xs. x ∷ xs)
      (different_sorts_mean_different_sorts g stands.table s r (All-head (λ (s : SortId). s.0 < length g.sorts) s ss h) (All-head (λ (s : SortId). s.0 < length g.sorts) r rs k) (first_sort e))
      (meant_same stands ss rs (All-tail (λ (s : SortId). s.0 < length g.sorts) s ss h) (All-tail (λ (s : SortId). s.0 < length g.sorts) r rs k) (rest_sorts e))
    where
      first_sort : {x y : Sort} {xs ys : List Sort} → x ∷ xs ≡ y ∷ ys → x ≡ y
      first_sort q = cc

      rest_sorts : {x y : Sort} {xs ys : List Sort} → x ∷ xs ≡ y ∷ ys → xs ≡ ys
      rest_sorts q = cc

module _ (g : Sig) (ts : List Tree) (stands : IsSignature g) (m : List PlainAction) (acts : All (IsActionOf g ts) m) where
  abbrev pub meant_at : Place → Action
  meant_at p = action_of (entries_of g ts) (action_at_place m p)

  -- a place of the label
  pub record IsPlaceOf (p : Place) : Type 0 where
    pub within : p.index < length m
    pub among : In (action_at_place m p) m
    pub name : p.name ≡ (key_of_action g (action_at_place m p)).name
    pub class : p.class ≡ class_of g m (action_at_place m p)

  in_behind : (before : List PlainAction) (a : PlainAction) (l : List PlainAction) → In a (before ++ a ∷ l)
  in_behind [] a l = here
  in_behind (b ∷ before) a l = there (in_behind before a l)

  long_behind : (before : List PlainAction) (a : PlainAction) (l : List PlainAction) → length before < length (before ++ a ∷ l)
  long_behind [] a l = omega arith
  long_behind (b ∷ before) a l = let h = long_behind before a l in omega (arith, h)

  one_longer : (before : List PlainAction) (a : PlainAction) → suc (length before) ≡ length (before ++ a ∷ [])
  one_longer [] a = refl
  one_longer (b ∷ before) a = ap suc (one_longer before a)

  place_is : (before : List PlainAction) (a : PlainAction) (l : List PlainAction) → m ≡ before ++ a ∷ l → IsPlaceOf (place_of g m (length before) a) × (action_at_place m (place_of g m (length before) a) ≡ a)
  place_is before a l e =
      let r : get_or m (length before) no_action ≡ a = ap (λ z. get_or z (length before) no_action) e ∙ get_or_at before a l no_action (length before) refl in (
        record {
          within = subst (λ z. length before < length z) (sym e) (long_behind before a l);
          among = subst (λ z. In z m) (sym r) (subst (λ z. In a z) (sym e) (in_behind before a l));
          name = ap (λ z. (key_of_action g z).name) (sym r);
          class = ap (λ z. class_of g m z) (sym r);
        },
        r,
      )

  places_are : (before l : List PlainAction) (i : ℕ) → i ≡ length before → m ≡ before ++ l → All IsPlaceOf (places_from g m i l) × (map meant_at (places_from g m i l) ≡ map (action_of (entries_of g ts)) l)
  places_are before [] i q e = (All-nil IsPlaceOf, refl)
  places_are before (a ∷ l) i q e =
      let one = subst (λ k. IsPlaceOf (place_of g m k a) × (action_at_place m (place_of g m k a) ≡ a)) (sym q) (place_is before a l e) in
      let more = places_are (before ++ a ∷ []) l (suc i) (ap suc q ∙ one_longer before a) (e ∙ sym (append_assoc before (a ∷ []) l)) in
      (All-cons IsPlaceOf (place_of g m i a) (places_from g m (suc i) l) one.0 more.0, ap₂ (λ x xs. action_of (entries_of g ts) x ∷ xs) one.1 more.1)

  pub places_are_places : All IsPlaceOf (places_of g m)
  places_are_places = (places_are [] m 0 refl refl).0

  pub places_mean_actions : map meant_at (places_of g m) ≡ label_of (entries_of g ts) m
  places_mean_actions = (places_are [] m 0 refl refl).1

  fits_in : {l : List PlainAction} {a : PlainAction} → In a l → All (IsActionOf g ts) l → IsActionOf g ts a
  fits_in (here {x = a} {xs = l}) h = All-head (IsActionOf g ts) a l h
  fits_in (there {y = b} {xs = l} i) h = fits_in i (All-tail (IsActionOf g ts) b l h)

  pub action_fits : (p : Place) → IsPlaceOf p → IsActionOf g ts (action_at_place m p)
  action_fits p h = fits_in h.among acts

  pub sorts_within : (a : PlainAction) → IsActionOf g ts a → All (λ (s : SortId). s.0 < length g.sorts) (key_of_action g a).sorts
  sorts_within a h =
      subst (λ (k : Key). All (λ (s : SortId). s.0 < length g.sorts) k.sorts) (sym (key_is g ts stands.table stands.complete a h))
      ((all_at (IsActionWithin (length g.texts) (length g.sorts)) g.actions a.act.0 h.key stands.complete.within.actions h.stands).takes)

  pub sorts_meant : (a : PlainAction) → IsActionOf g ts a → (action_of (entries_of g ts) a).sorts ≡ map (sort_under g) (key_of_action g a).sorts
  sorts_meant a h = ap (λ z. z.sorts) (action_is g ts a h) ∙ ap (λ (k : Key). map (sort_under g) k.sorts) (sym (key_is g ts stands.table stands.complete a h))

  alike_meant : (p q : Place) → IsPlaceOf p → IsPlaceOf q → texts.alike (meant_at p) (meant_at q) ≡ placed.alike p q
  alike_meant p q h k =
      let a = action_at_place m p in
      let b = action_at_place m q in
      let fa = action_fits p h in
      let fb = action_fits q k in
      same_test (same_sorts (meant_at p).sorts (meant_at q).sorts) (p.class == q.class) (same_sorts_decides (meant_at p).sorts (meant_at q).sorts) (eqb_decides p.class q.class)
      (λ e. h.class ∙ class_same g m a b (ap sort_numbers (meant_same g stands (key_of_action g a).sorts (key_of_action g b).sorts (sorts_within a fa) (sorts_within b fb) (sym (sorts_meant a fa) ∙ e ∙ sorts_meant b fb))) ∙ sym k.class)
      (λ e. sorts_meant a fa ∙ ap (map (sort_under g)) (numbers_same g (key_of_action g a).sorts (key_of_action g b).sorts (same_class g a b h.among k.among (sym h.class ∙ e ∙ k.class))) ∙ sym (sorts_meant b fb))

  -- places that are alike have the same sorts
  pub alike_sorts : (p q : Place) → IsPlaceOf p → IsPlaceOf q → placed.alike p q ≡ true → (key_of_action g (action_at_place m p)).sorts ≡ (key_of_action g (action_at_place m q)).sorts
  alike_sorts p q h k e =
      let a = action_at_place m p in
      let b = action_at_place m q in
      numbers_same g (key_of_action g a).sorts (key_of_action g b).sorts (same_class g a b h.among k.among (sym h.class ∙ (eqb_decides p.class q.class).0 e ∙ k.class))

  pub places_read : IsRead placed texts meant_at (name_at (entries_of g ts)) IsPlaceOf (IsNameIn g)
  places_read = record {
    named = λ p h.
        let r = (names_along g ts stands.table stands.complete).named (action_at_place m p) (action_fits p h) in
        (r.0 ∙ ap (λ n. name_at (entries_of g ts) n) (sym h.name), subst (λ n. IsNameIn g n) (sym h.name) r.1);
    same = names_alike g ts stands.table stands.complete;
    alike = alike_meant;
  }
