-- Texts by their places, and names that are taken.
use Rattle.std.proofs.Common.{◌≡◌, ℕ, zero, suc, ◌<◌, inl, inr, List, [], ◌∷◌, ◌++◌, length, Bool, true, false, ◌||◌, cond, map, take, get_or, ◌+◌, Some, Result, Ok, Err, refl, sym, ap, ◌∙◌, subst, arith, append_assoc, append-nil}
use Rattle.std.specs.Prelude.{slice_get, bytes_eq, IsOk, OnOk}
use Rattle.std.specs.List.{Contains, list_any}
use Rattle.std.proofs.lemmas.Slice.Eq.{bytes_eq-Decides}
use Rattle.std.proofs.lemmas.List.{map-append, take_more}
use Rattle.std.proofs.lemmas.List.Elements.{Contains-append_left, Contains-append_right}
use Rattle.std.proofs.lemmas.Option.{slice_get_within}
use Rattle.data_theory.specs.declared.ids.NameId.{NameId}
use Rattle.data_theory.specs.Names.{AreDifferent, Enters, with_text, with_texts, first_place, place_in, places_in}
use Rattle.data_theory.specs.Taken.{with_name, with_names, Takes}
use Rattle.data_theory.specs.declared.rows.Row.{Row}
use Rattle.data_theory.specs.Rows.{row_text}
use Rattle.data_theory.specs.Table.{bool_sort, first_table, list_rows}
use Rattle.data_theory.specs.FirstNames.{reserved_words, built_in_names, first_names}

-- ---- the place of a text
pub first_place_is : (texts : List (List ℕ)) (t : List ℕ) (i : ℕ) → AreDifferent texts → slice_get texts i ≡ Some t → first_place texts t ≡ i
first_place_is [] t i d e = cc
first_place_is (x ∷ xs) t zero d e = let p : t ≡ x = (let q : x ≡ t = cc in sym q) in rw ((bytes_eq-Decides t x).1 p) refl
first_place_is (x ∷ xs) t (suc i) d e =
    let rest = first_place_is xs t i (λ j k u p q. let s = d (suc j) (suc k) u p q in omega (arith, s)) e in
    rw (differs (bytes_eq t x) refl) (ap suc rest)
  where
    differs : (b : Bool) → bytes_eq t x ≡ b → b ≡ false
    differs false q = refl
    differs true q = let s : zero ≡ suc i = d zero (suc i) t (ap Some (sym ((bytes_eq-Decides t x).0 q))) e in absurd (omega (arith, s))

pub place_is : (texts : List (List ℕ)) (t : List ℕ) (i : ℕ) → AreDifferent texts → slice_get texts i ≡ Some t → record { 0 = i } ≡ place_in texts t
place_is texts t i d e = ap (λ (n : ℕ). record { 0 = n }) (sym (first_place_is texts t i d e))

-- the text stands there
pub place_reads : (texts : List (List ℕ)) (t : List ℕ) → Contains texts t → slice_get texts (first_place texts t) ≡ Some t
place_reads [] t c = absurd (omega (arith, c.1))
place_reads (x ∷ xs) t c = by_test (λ d. place_reads xs t d) (bytes_eq t x) refl c
  where
    by_test : (Contains xs t → slice_get xs (first_place xs t) ≡ Some t) → (b : Bool) → bytes_eq t x ≡ b → Contains (x ∷ xs) t → slice_get (x ∷ xs) (cond b 0 (suc (first_place xs t))) ≡ Some t
    by_test later true q d = ap Some (sym ((bytes_eq-Decides t x).0 q))
    by_test later false q (zero, l, e) = let told : bytes_eq t x ≡ true = (bytes_eq-Decides t x).1 (sym e) in let never : true ≡ false = sym told ∙ q in cc
    by_test later false q (suc k, l, e) = later (k, omega (arith, l), e)

pub place_within : (texts : List (List ℕ)) (t : List ℕ) → Contains texts t → first_place texts t < length texts
place_within texts t c = slice_get_within texts (first_place texts t) t (place_reads texts t c)

-- further texts don't move it
pub place_stays : (texts more : List (List ℕ)) (t : List ℕ) → Contains texts t → first_place (texts ++ more) t ≡ first_place texts t
place_stays [] more t c = absurd (omega (arith, c.1))
place_stays (x ∷ xs) more t c = by_test (λ d. place_stays xs more t d) (bytes_eq t x) refl c
  where
    by_test : (Contains xs t → first_place (xs ++ more) t ≡ first_place xs t) → (b : Bool) → bytes_eq t x ≡ b → Contains (x ∷ xs) t → cond b 0 (suc (first_place (xs ++ more) t)) ≡ cond b 0 (suc (first_place xs t))
    by_test later true q d = refl
    by_test later false q (zero, l, e) = let told : bytes_eq t x ≡ true = (bytes_eq-Decides t x).1 (sym e) in let never : true ≡ false = sym told ∙ q in cc
    by_test later false q (suc k, l, e) = ap suc (later (k, omega (arith, l), e))

-- two texts have two places
pub places_differ : (texts : List (List ℕ)) (t u : List ℕ) → Contains texts t → Contains texts u → place_in texts t ≡ place_in texts u → t ≡ u
places_differ texts t u c d e =
    let same : Some t ≡ Some u = sym (place_reads texts t c) ∙ ap (λ (n : NameId). slice_get texts n.0) e ∙ place_reads texts u d in cc

-- ---- entering texts
or_true : (b : Bool) → (b || true) ≡ true
or_true true = refl
or_true false = refl

pub text_among : (texts : List (List ℕ)) (t : List ℕ) → list_any (bytes_eq t) texts ≡ true → Contains texts t
text_among [] t e = absurd (let z : false ≡ true = e in cc)
text_among (x ∷ xs) t e = by_test (text_among xs t) (bytes_eq t x) refl e
  where
    by_test : (list_any (bytes_eq t) xs ≡ true → Contains xs t) → (b : Bool) → bytes_eq t x ≡ b → (b || list_any (bytes_eq t) xs) ≡ true → Contains (x ∷ xs) t
    by_test later true q f = (zero, omega arith, sym ((bytes_eq-Decides t x).0 q))
    by_test later false q f = let c = later f in (suc c.0, omega (arith, c.1), c.2)

pub among_texts : (texts : List (List ℕ)) (t : List ℕ) → Contains texts t → list_any (bytes_eq t) texts ≡ true
among_texts [] t c = absurd (omega (arith, c.1))
among_texts (x ∷ xs) t (zero, l, e) = rw ((bytes_eq-Decides t x).1 (sym e)) refl
among_texts (x ∷ xs) t (suc k, l, e) = rw (among_texts xs t (k, omega (arith, l), e)) (or_true (bytes_eq t x))

not_among : (texts : List (List ℕ)) (t : List ℕ) → (Contains texts t → ⊥) → list_any (bytes_eq t) texts ≡ false
not_among texts t n = by_test (list_any (bytes_eq t) texts) refl
  where
    by_test : (b : Bool) → list_any (bytes_eq t) texts ≡ b → b ≡ false
    by_test true e = absurd (n (text_among texts t e))
    by_test false e = refl

pub entered_is : (old : List (List ℕ)) (t : List ℕ) (new : List (List ℕ)) → Enters old t new → new ≡ with_text old t
entered_is old t new (inl h) = h.1 ∙ (rw (among_texts old t h.0) refl)
entered_is old t new (inr h) = h.1 ∙ (rw (not_among old t h.0) refl)

-- the texts that come behind
pub record Behind (old new : List (List ℕ)) : Type 0 where
  pub more : List (List ℕ)
  pub is : new ≡ old ++ more

pub text_behind : (texts : List (List ℕ)) (t : List ℕ) → Behind texts (with_text texts t)
text_behind texts t = by_test (list_any (bytes_eq t) texts)
  where
    by_test : (b : Bool) → Behind texts (cond b texts (texts ++ t ∷ []))
    by_test true = record { more = []; is = sym (append-nil texts) }
    by_test false = record { more = t ∷ []; is = refl }

pub behind_behind : (xs ys zs : List (List ℕ)) → Behind xs ys → Behind ys zs → Behind xs zs
behind_behind xs ys zs a b = record { more = a.more ++ b.more; is = b.is ∙ ap (λ l. l ++ b.more) a.is ∙ append_assoc xs a.more b.more }

pub texts_behind : (texts ts : List (List ℕ)) → Behind texts (with_texts texts ts)
texts_behind texts [] = record { more = []; is = sym (append-nil texts) }
texts_behind texts (t ∷ ts) = behind_behind texts (with_text texts t) _ (text_behind texts t) (texts_behind (with_text texts t) ts)

pub still_contains : (old new : List (List ℕ)) (t : List ℕ) → Behind old new → Contains old t → Contains new t
still_contains old new t b c = subst (λ l. Contains l t) (sym b.is) (Contains-append_left old b.more t c)

pub still_there : (old new : List (List ℕ)) (t : List ℕ) → Behind old new → Contains old t → place_in new t ≡ place_in old t
still_there old new t b c = ap (λ (n : ℕ). record { 0 = n }) (ap (λ l. first_place l t) b.is ∙ place_stays old b.more t c)

pub has_text : (texts : List (List ℕ)) (t : List ℕ) → Contains (with_text texts t) t
has_text texts t = by_test (list_any (bytes_eq t) texts) refl
  where
    by_test : (b : Bool) → list_any (bytes_eq t) texts ≡ b → Contains (cond b texts (texts ++ t ∷ [])) t
    by_test true e = text_among texts t e
    by_test false e = Contains-append_right texts (t ∷ []) t (zero, omega arith, refl)

pub has_texts : (texts ts : List (List ℕ)) (t : List ℕ) → Contains ts t → Contains (with_texts texts ts) t
has_texts texts [] t c = absurd (omega (arith, c.1))
has_texts texts (x ∷ ts) t (zero, l, e) = still_contains (with_text texts x) _ t (texts_behind (with_text texts x) ts) (subst (Contains (with_text texts x)) e (has_text texts x))
has_texts texts (x ∷ ts) t (suc k, l, e) = has_texts (with_text texts x) ts t (k, omega (arith, l), e)

-- ---- taking names
texts-append : (texts ts us : List (List ℕ)) → with_texts texts (ts ++ us) ≡ with_texts (with_texts texts ts) us
texts-append texts [] us = refl
texts-append texts (t ∷ ts) us = texts-append (with_text texts t) ts us

pub names-append : (taken ns ms : List NameId) → with_names taken (ns ++ ms) ≡ with_names (with_names taken ns) ms
names-append taken [] ms = refl
names-append taken (n ∷ ns) ms = names-append (with_name taken n) ns ms

places_stay : (old new ts : List (List ℕ)) → Behind old new → ((t : List ℕ) → Contains ts t → Contains old t) → places_in new ts ≡ places_in old ts
places_stay old new [] b all = refl
places_stay old new (t ∷ ts) b all =
    let here : place_in new t ≡ place_in old t = still_there old new t b (all t (zero, omega arith, refl)) in
    let rest = places_stay old new ts b (λ u c. all u (suc c.0, omega (arith, c.1), c.2)) in
    (λ i. here i ∷ rest i)

pub takes_then : (xs : List (List ℕ)) (k : List NameId) (ts : List (List ℕ)) (ys : List (List ℕ)) (l : List NameId) (us : List (List ℕ)) (zs : List (List ℕ)) (m : List NameId) → Takes xs k ts ys l → Takes ys l us zs m → Takes xs k (ts ++ us) zs m
takes_then xs k ts ys l us zs m a b =
    let texts : zs ≡ with_texts xs (ts ++ us) = b.entered ∙ ap (λ s. with_texts s us) a.entered ∙ sym (texts-append xs ts us) in
    let behind : Behind ys zs = subst (Behind ys) (sym b.entered) (texts_behind ys us) in
    let contained : (t : List ℕ) → Contains ts t → Contains ys t = λ t c. subst (λ s. Contains s t) (sym a.entered) (has_texts xs ts t c) in
    record {
      entered = texts;
      named =
          b.named ∙ ap (λ s. with_names s (places_in zs us)) (a.named ∙ ap (with_names k) (sym (places_stay ys zs ts behind contained)))
          ∙ sym (names-append k (places_in zs ts) (places_in zs us)) ∙ ap (with_names k) (sym (map-append (place_in zs) ts us));
    }

pub takes_none : (xs : List (List ℕ)) (k : List NameId) → Takes xs k [] xs k
takes_none xs k = record { entered = refl; named = refl }

pub takes_one : (xs : List (List ℕ)) (k : List NameId) (t : List ℕ) (ys : List (List ℕ)) (l : List NameId) → ys ≡ with_text xs t → l ≡ with_name k (place_in ys t) → Takes xs k (t ∷ []) ys l
takes_one xs k t ys l e f = record { entered = e; named = f }

-- one more of the items that a loop goes over
pub takes_more : {A : Type 0} (text : A → List ℕ) (items : List A) (i : ℕ) (d : A) (xs : List (List ℕ)) (k : List NameId) (ys : List (List ℕ)) (l : List NameId) (zs : List (List ℕ)) (m : List NameId) → i < length items → Takes xs k (map text (take i items)) ys l
    → zs ≡ with_text ys (text (get_or items i d)) → m ≡ with_name l (place_in zs (text (get_or items i d))) → Takes xs k (map text (take (i + 1) items)) zs m
takes_more text items i d xs k ys l zs m within so_far e f =
    let these : map text (take (i + 1) items) ≡ map text (take i items) ++ text (get_or items i d) ∷ [] = ap (map text) (take_more items i d within) ∙ map-append text (take i items) (get_or items i d ∷ []) in
    subst (λ ts. Takes xs k ts zs m) (sym these) (takes_then xs k (map text (take i items)) ys l (text (get_or items i d) ∷ []) zs m so_far (takes_one ys l (text (get_or items i d)) zs m e f))

-- all that is taken from the start
pub first_takes : (xs : List (List ℕ)) (k : List NameId) (words : List (List ℕ)) (ys : List (List ℕ)) (l : List NameId) (rows : List Row) (zs : List (List ℕ)) (m : List NameId) (more : List Row) (vs : List (List ℕ)) (n : List NameId)
    → words ≡ reserved_words → rows ≡ first_table → more ≡ list_rows bool_sort bool_sort → Takes xs k words ys l → Takes ys l (map row_text rows) zs m → Takes zs m (map row_text more) vs n → Takes xs k first_names vs n
unfolding first_names built_in_names
first_takes xs k words ys l rows zs m more vs n e f g a b c =
    let a' : Takes xs k reserved_words ys l = subst (λ ts. Takes xs k ts ys l) e a in
    let b' : Takes ys l (map row_text first_table) zs m = subst (λ (rs : List Row). Takes ys l (map row_text rs) zs m) f b in
    let c' : Takes zs m (map row_text (list_rows bool_sort bool_sort)) vs n = subst (λ (rs : List Row). Takes zs m (map row_text rs) vs n) g c in
    takes_then xs k reserved_words ys l (map row_text first_table ++ map row_text (list_rows bool_sort bool_sort)) vs n a' (takes_then ys l (map row_text first_table) zs m (map row_text (list_rows bool_sort bool_sort)) vs n b' c')

-- one more of the names that a loop goes over
pub names_more : (names : List NameId) (i : ℕ) (d : NameId) (old mid new : List NameId) → i < length names → mid ≡ with_names old (take i names) → new ≡ with_name mid (get_or names i d) → new ≡ with_names old (take (i + 1) names)
names_more names i d old mid new l e f =
    f ∙ ap (λ ns. with_name ns (get_or names i d)) e ∙ sym (ap (with_names old) (take_more names i d l) ∙ names-append old (take i names) (get_or names i d ∷ []))

-- what holds where a call succeeds
pub on_ok : {T E : Type 0} (r : Result T E) {P : Type 0} → IsOk r → OnOk r P → P
on_ok (Ok x) k h = h
on_ok (Err x) k h = absurd (let z : false ≡ true = k in cc)
