-- Names and sorts that are found one after another, and the columns at their places.
use Rattle.std.proofs.Common.{◌≡◌, ◌==◌, ◌&&◌, ◌<◌, ◌≤◌, ◌+◌, ℕ, zero, suc, Bool, true, false, cond, List, [], ◌∷◌, ◌++◌, map, take, length, get_or, refl, sym, ap, ap₂, ◌∙◌, subst, arith, ⊎_elim}
use Rattle.std.specs.Prelude.{slice_get, Some, Vec}
use Rattle.std.specs.Global.{Global}
use Rattle.std.specs.List.{All, AllZip, list_any}
use Rattle.std.proofs.lemmas.Bool.Decides.{eqb_tells}
use Rattle.std.proofs.lemmas.List.{map-append, take_more}
use Rattle.std.proofs.lemmas.List.Elements.{All-nil, All-cons, All-push, All-head, All-tail}
use Rattle.std.proofs.lemmas.Option.{slice_get_within, slice_get-get_or}
use Rattle.data_theory.specs.declared.ids.NameId.{NameId}
use Rattle.data_theory.specs.declared.ids.SortId.{SortId}
use Rattle.data_theory.specs.declared.ids.VarId.{VarId}
use Rattle.data_theory.specs.Signature.{Sig}
use Rattle.data_theory.proofs.PlaceLemmas.{read_front}
use Rattle.lps_core.proofs.NamedSums.{zip_push, zip_weaker}
use Rattle.greibach.specs.declared.forms.GreibachEquation.{GreibachEquation}
use Rattle.greibach.specs.PlainForms.{PlainEquation, plain_equation}
use Rattle.regular_encoder.specs.TreeEncoding.{plain_place}
use Rattle.regular_encoder.specs.FormColumns.{kind_of, all_params, is_same_kind, with_kind, with_kinds, AreKindsAt, IsColumnOf, ArePlaces, places_in}

-- ---- names and sorts
both_true : (a b : Bool) → (a && b) ≡ true → (a ≡ true) × (b ≡ true)
both_true true b e = (refl, e)
both_true false b e = cc

same_number : (a b : ℕ) → (a == b) ≡ true → a ≡ b
same_number a b e = ⊎_elim (λ q. q.1) (λ q. let no : true ≡ false = sym e ∙ q.0 in cc) (eqb_tells a b)

pub kinds_tell : (k m : NameId × SortId) → is_same_kind k m ≡ true → k ≡ m
kinds_tell k m e =
    let b = both_true (k.0.0 == m.0.0) (k.1.0 == m.1.0) e in
    ap₂ (λ (x y : ℕ). (record { 0 = x }, record { 0 = y })) (same_number k.0.0 m.0.0 b.0) (same_number k.1.0 m.1.0 b.1)

pub with_kinds_append : (ks xs ys : List (NameId × SortId)) → with_kinds ks (xs ++ ys) ≡ with_kinds (with_kinds ks xs) ys
with_kinds_append ks [] ys = refl
with_kinds_append ks (x ∷ xs) ys = with_kinds_append (with_kind ks x) xs ys

pub all_with_kind : (P : NameId × SortId → Type 0) (ks : List (NameId × SortId)) (k : NameId × SortId) → All P ks → P k → All P (with_kind ks k)
all_with_kind P ks k h p = elim (list_any (is_same_kind k) ks) as (λ b. All P (cond b ks (ks ++ k ∷ []))) [ true ↦ h | false ↦ All-push P ks k h p ]

pub all_with_kinds : (P : NameId × SortId → Type 0) (ks more : List (NameId × SortId)) → All P ks → All P more → All P (with_kinds ks more)
all_with_kinds P ks [] h p = h
all_with_kinds P ks (k ∷ more) h p = all_with_kinds P (with_kind ks k) more (all_with_kind P ks k h (All-head P k more p)) (All-tail P k more p)

kind_stays : (ks : List (NameId × SortId)) (k m : NameId × SortId) (i : ℕ) → slice_get ks i ≡ Some m → slice_get (with_kind ks k) i ≡ Some m
kind_stays ks k m i e = elim (list_any (is_same_kind k) ks) as (λ b. slice_get (cond b ks (ks ++ k ∷ [])) i ≡ Some m) [ true ↦ e | false ↦ read_front ks (k ∷ []) i m e ]

kind_stays_long : (ks more : List (NameId × SortId)) (m : NameId × SortId) (i : ℕ) → slice_get ks i ≡ Some m → slice_get (with_kinds ks more) i ≡ Some m
kind_stays_long ks [] m i e = e
kind_stays_long ks (k ∷ more) m i e = kind_stays_long (with_kind ks k) more m i (kind_stays ks k m i e)

-- ---- the parameters of an equation
pub record IsFindingKinds (g : Sig) (params : List VarId) (old : List (NameId × SortId)) (i : ℕ) (keys : List (NameId × SortId)) (places : List ℕ) : Type 0 where
  pub found : keys ≡ with_kinds old (map (kind_of g) (take i params))
  pub places_so_far : AreKindsAt g keys (take i params) places

pub finding_more : (g : Sig) (params : List VarId) (old : List (NameId × SortId)) (i : ℕ) (keys : List (NameId × SortId)) (places : List ℕ) (d : VarId) → IsFindingKinds g params old i keys places → i < length params
    → (new : List (NameId × SortId)) (n : ℕ) → new ≡ with_kind keys (kind_of g (get_or params i d)) → slice_get new n ≡ Some (kind_of g (get_or params i d)) → IsFindingKinds g params old (i + 1) new (places ++ n ∷ [])
finding_more g params old i keys places d s l new n e at =
    let x = get_or params i d in
    let more : take (i + 1) params ≡ take i params ++ x ∷ [] = take_more params i d l in
    record {
      found =
          e ∙ ap (λ z. with_kind z (kind_of g x)) s.found
          ∙ sym (with_kinds_append old (map (kind_of g) (take i params)) (kind_of g x ∷ []))
          ∙ ap (with_kinds old) (sym (ap (map (kind_of g)) more ∙ map-append (kind_of g) (take i params) (x ∷ [])));
      places_so_far = subst (λ z. AreKindsAt g new z (places ++ n ∷ [])) (sym more)
          (zip_push (λ y j. slice_get new j ≡ Some (kind_of g y)) (take i params) places x n
          (zip_weaker (λ y j. slice_get keys j ≡ Some (kind_of g y)) (λ y j. slice_get new j ≡ Some (kind_of g y)) (λ y j p. subst (λ z. slice_get z j ≡ Some (kind_of g y)) (sym e) (kind_stays keys (kind_of g x) (kind_of g y) j p)) (take i params) places s.places_so_far)
          at);
    }

-- ---- all equations
all_params_more : (qs : List PlainEquation) (q : PlainEquation) → all_params (qs ++ q ∷ []) ≡ all_params qs ++ q.params
all_params_more [] q = append_none q.params
  where
    append_none : (xs : List VarId) → xs ++ [] ≡ xs
    append_none [] = refl
    append_none (x ∷ xs) = ap (λ z. x ∷ z) (append_none xs)
all_params_more (p ∷ qs) q = ap (λ z. p.params ++ z) (all_params_more qs q) ∙ behind p.params (all_params qs) q.params
  where
    behind : (xs ys zs : List VarId) → xs ++ (ys ++ zs) ≡ (xs ++ ys) ++ zs
    behind [] ys zs = refl
    behind (x ∷ xs) ys zs = ap (λ z. x ∷ z) (behind xs ys zs)

abbrev pub AreAllKindsAt : Sig → List (NameId × SortId) → List PlainEquation → List (List ℕ) → Type 0
AreAllKindsAt g keys = AllZip (λ (q : PlainEquation) at. AreKindsAt g keys q.params at)

pub record IsFindingAll (g : Sig) (items : List GreibachEquation) (old : List (NameId × SortId)) (i : ℕ) (keys : List (NameId × SortId)) (places : List (Vec ℕ Global)) : Type 0 where
  pub found : keys ≡ with_kinds old (map (kind_of g) (all_params (map plain_equation (take i items))))
  pub places_so_far : AreAllKindsAt g keys (map plain_equation (take i items)) (places_in places)

pub finding_all_more : (g : Sig) (items : List GreibachEquation) (old : List (NameId × SortId)) (i : ℕ) (keys : List (NameId × SortId)) (places : List (Vec ℕ Global)) (q : GreibachEquation) → IsFindingAll g items old i keys places → i < length items → q ≡ get_or items i q
    → (new : List (NameId × SortId)) (at : Vec ℕ Global) → new ≡ with_kinds keys (map (kind_of g) q.params.items) → AreKindsAt g new q.params.items at.items → IsFindingAll g items old (i + 1) new (places ++ at ∷ [])
finding_all_more g items old i keys places q s l read new at e are =
    let front = map plain_equation (take i items) in
    let more : map plain_equation (take (i + 1) items) ≡ front ++ plain_equation q ∷ [] = ap (map plain_equation) (take_more items i q l ∙ ap (λ z. take i items ++ z ∷ []) (sym read)) ∙ map-append plain_equation (take i items) (q ∷ []) in
    let params : all_params (map plain_equation (take (i + 1) items)) ≡ all_params front ++ q.params.items = ap all_params more ∙ all_params_more front (plain_equation q) in
    record {
      found =
          e ∙ ap (λ z. with_kinds z (map (kind_of g) q.params.items)) s.found
          ∙ sym (with_kinds_append old (map (kind_of g) (all_params front)) (map (kind_of g) q.params.items))
          ∙ ap (with_kinds old) (sym (ap (map (kind_of g)) params ∙ map-append (kind_of g) (all_params front) q.params.items));
      places_so_far = subst (λ z. AreAllKindsAt g new z (places_in (places ++ at ∷ []))) (sym more)
          (subst (λ z. AreAllKindsAt g new (front ++ plain_equation q ∷ []) z) (sym (map-append (λ (v : Vec ℕ Global). v.items) places (at ∷ [])))
          (zip_push (λ (q : PlainEquation) at. AreKindsAt g new q.params at) front (places_in places) (plain_equation q) at.items
          (zip_weaker (λ (q : PlainEquation) at. AreKindsAt g keys q.params at) (λ (q : PlainEquation) at. AreKindsAt g new q.params at)
          (λ p js h. zip_weaker (λ y j. slice_get keys j ≡ Some (kind_of g y)) (λ y j. slice_get new j ≡ Some (kind_of g y)) (λ y j u. subst (λ z. slice_get z j ≡ Some (kind_of g y)) (sym e) (kind_stays_long keys (map (kind_of g) q.params.items) (kind_of g y) j u)) p.params js h)
          front (places_in places) s.places_so_far)
          are));
    }

pub equation_at : (P : PlainEquation → Type 0) (items : List GreibachEquation) (i : ℕ) (q : GreibachEquation) → i < length items → q ≡ get_or items i q → All P (map plain_equation items) → P (plain_equation q)
equation_at P [] i q l e h = absurd (omega (arith, l))
equation_at P (x ∷ items) zero q l e h = subst (λ z. P (plain_equation z)) (sym e) (All-head P (plain_equation x) (map plain_equation items) h)
equation_at P (x ∷ items) (suc i) q l e h = equation_at P items i q (omega (arith, l)) e (All-tail P (plain_equation x) (map plain_equation items) h)

-- ---- the columns at places
abbrev pub AreAt : List VarId → List ℕ → List VarId → Type 0
AreAt cs = AllZip (λ i c. slice_get cs i ≡ Some c)

within_kinds : (g : Sig) (keys : List (NameId × SortId)) (n : ℕ) (params : List VarId) (at : List ℕ) → length keys ≤ n → AreKindsAt g keys params at → All (λ i. i < n) at
within_kinds g keys n [] [] l h = All-nil (λ i. i < n)
within_kinds g keys n [] (i ∷ at) l h = absurd h
within_kinds g keys n (x ∷ params) [] l h = absurd h
within_kinds g keys n (x ∷ params) (i ∷ at) l h = All-cons (λ i. i < n) i at (let w = slice_get_within keys i (kind_of g x) h.0 in omega (arith, w, l)) (within_kinds g keys n params at l h.1)

pub all_within_kinds : (g : Sig) (keys : List (NameId × SortId)) (n : ℕ) (qs : List PlainEquation) (ats : List (List ℕ)) → length keys ≤ n → AreAllKindsAt g keys qs ats → All (All (λ i. i < n)) ats
all_within_kinds g keys n [] [] l h = All-nil (All (λ i. i < n))
all_within_kinds g keys n [] (at ∷ ats) l h = absurd h
all_within_kinds g keys n (q ∷ qs) [] l h = absurd h
all_within_kinds g keys n (q ∷ qs) (at ∷ ats) l h = All-cons (All (λ i. i < n)) at ats (within_kinds g keys n q.params at l h.0) (all_within_kinds g keys n qs ats l h.1)

place_stands : (g : Sig) (keys : List (NameId × SortId)) (cs : List VarId) (params : List VarId) (at : List ℕ) (place : List VarId) → AreKindsAt g keys params at → AreAt cs at place → AllZip (IsColumnOf g keys cs) params place
place_stands g keys cs [] [] [] h k = tt
place_stands g keys cs [] [] (c ∷ place) h k = absurd k
place_stands g keys cs [] (i ∷ at) place h k = absurd h
place_stands g keys cs (x ∷ params) [] place h k = absurd h
place_stands g keys cs (x ∷ params) (i ∷ at) [] h k = absurd k
place_stands g keys cs (x ∷ params) (i ∷ at) (c ∷ place) h k = ((i, h.0, k.0), place_stands g keys cs params at place h.1 k.1)

pub places_stand : (g : Sig) (keys : List (NameId × SortId)) (cs : List VarId) (qs : List PlainEquation) (ats : List (List ℕ)) (places : List (List VarId)) → AreAllKindsAt g keys qs ats → AllZip (AreAt cs) ats places → ArePlaces g keys cs qs places
places_stand g keys cs [] [] [] h k = tt
places_stand g keys cs [] [] (p ∷ places) h k = absurd k
places_stand g keys cs [] (at ∷ ats) places h k = absurd h
places_stand g keys cs (q ∷ qs) [] places h k = absurd h
places_stand g keys cs (q ∷ qs) (at ∷ ats) [] h k = absurd k
places_stand g keys cs (q ∷ qs) (at ∷ ats) (p ∷ places) h k = (place_stands g keys cs q.params at p h.0 k.0, places_stand g keys cs qs ats places h.1 k.1)

-- ---- in the code
pub at_more : (cs : List VarId) (places : List ℕ) (i : ℕ) (found : List VarId) (d : ℕ) (e : VarId) → AreAt cs (take i places) found → i < length places → All (λ j. j < length cs) places → AreAt cs (take (i + 1) places) (found ++ get_or cs (get_or places i d) e ∷ [])
at_more cs places i found d e h l w =
    subst (λ z. AreAt cs z (found ++ get_or cs (get_or places i d) e ∷ [])) (sym (take_more places i d l))
    (zip_push (λ j c. slice_get cs j ≡ Some c) (take i places) found (get_or places i d) (get_or cs (get_or places i d) e) h (slice_get-get_or cs (get_or places i d) e (w i d l)))

abbrev pub AreAllAt : List VarId → List (List ℕ) → List (List VarId) → Type 0
AreAllAt cs = AllZip (AreAt cs)

pub all_at_more : (cs : List VarId) (places : List (Vec ℕ Global)) (i : ℕ) (found : List (Vec VarId Global)) (at : Vec ℕ Global) (new : Vec VarId Global) → AreAllAt cs (places_in (take i places)) (map plain_place found) → i < length places → at ≡ get_or places i at
    → AreAt cs at.items new.items → AreAllAt cs (places_in (take (i + 1) places)) (map plain_place (found ++ new ∷ []))
all_at_more cs places i found at new h l read e =
    let more : places_in (take (i + 1) places) ≡ places_in (take i places) ++ at.items ∷ [] =
    ap places_in (take_more places i at l ∙ ap (λ z. take i places ++ z ∷ []) (sym read)) ∙ map-append (λ (v : Vec ℕ Global). v.items) (take i places) (at ∷ []) in
    subst (λ z. AreAllAt cs z (map plain_place (found ++ new ∷ []))) (sym more)
    (subst (λ z. AreAllAt cs (places_in (take i places) ++ at.items ∷ []) z) (sym (map-append plain_place found (new ∷ [])))
    (zip_push (AreAt cs) (places_in (take i places)) (map plain_place found) at.items new.items h e))

pub places_at : (P : List ℕ → Type 0) (items : List (Vec ℕ Global)) (i : ℕ) (at : Vec ℕ Global) → i < length items → at ≡ get_or items i at → All P (places_in items) → P at.items
places_at P [] i at l e h = absurd (omega (arith, l))
places_at P (x ∷ items) zero at l e h = subst (λ (z : Vec ℕ Global). P z.items) (sym e) (All-head P x.items (places_in items) h)
places_at P (x ∷ items) (suc i) at l e h = places_at P items i at (omega (arith, l)) e (All-tail P x.items (places_in items) h)
