-- From each vocabulary of a text to each other one there is a renumbering.
use Rattle.std.proofs.Common.{◌≡◌, ℕ, zero, suc, Bool, true, false, cond, List, [], ◌∷◌, map, length, refl, sym, ap, ap₂, ◌∙◌, subst, arith}
use Rattle.std.specs.Prelude.{Option, Some, None, option_map, option_and_then, bytes_eq, slice_get}
use Rattle.std.specs.List.{Contains}
use Rattle.std.proofs.lemmas.Option.{none-some, same_Some, slice_get-map}
use Rattle.std.proofs.lemmas.List.{get_or_past}
use Rattle.std.proofs.lemmas.Slice.Eq.{bytes_eq-Decides}
use Rattle.data_theory.specs.Terms.{Sort, boolean, positive, natural, integer, list, named}
use Rattle.data_theory.specs.Declarations as theory
use Rattle.data_theory.specs.Declarations.{Construction, Role, DeclaredFunction, by_declarations, Data, function_at, sort_at}
use Rattle.data_theory.proofs.PlaceLemmas.{read_contained}
use Rattle.sort_table.specs.Expressions.{Name}
use Rattle.sort_table.specs.NamedLists.{all_named}
use Rattle.sort_table.specs.BareSorts.{SortExpression, truth_values, positives, naturals, integers, lists_of, a_name}
use Rattle.sort_table.specs.SortMeanings.{UnderNames, StandsFor, for_truth_values, for_positives, for_naturals, for_integers, for_lists, for_plain, for_struct, for_alias, StandForEach, no_sorts, and_sort}
use Rattle.sort_table.specs.TextFunctions.{TextRole, TextFunction, Named}
use Rattle.sort_table.specs.Duplicates.{SameSorts}
use Rattle.sort_table.specs.FunctionStates.{FunctionsDiffer}
use Rattle.sort_table.specs.Vocabularies.{Vocabulary, sort_in, sorts_in, IsConstruction, by_struct, by_cons, by_none, IsOwn, declared_alone, declared_as_struct, IsSortNamed, HasSorts, HasNumber, IsRole, of_struct, of_cons, of_no_cons, of_place, of_test, of_map, IsFunction, EachPair, HasFunctions, IsVocabularyOf}
use Rattle.sort_table.proofs.OneSort.{one_sorts, what_stands_for_a_sort_has_it}
use Rattle.sort_checker.specs.ScopeLaws.{Both, neither, both}
use Rattle.lin_driver.specs.Renumberings.{Renumbering, new_sort, new_role, new_function, TakesData, TakesVocabulary}
use Rattle.lin_driver.proofs.AlikeTypings.{EachWith, each_none, each_more}
use Rattle.lin_driver.proofs.SameSorts.{SameSort, same_booleans, same_positives, same_naturals, same_integers, same_lists, same_named, met, sorts_both, all_sorts_both}
use Rattle.lin_driver.proofs.AlikeParts.{actions_alike}
use Rattle.lin_driver.proofs.MatchedNumbers.{IsMatching, IsPartner, matched, beyond, partner, both_below, forth_is, renumbering_by}

-- ---- elements of lists
pub data Among {A : Type 0} (x : A) : List A → Type 0 where
  first_one : {xs : List A} → Among x (x ∷ xs)
  one_behind : {y : A} {xs : List A} → Among x xs → Among x (y ∷ xs)

pub among_none : {A : Type 0} {x : A} → Among x [] → ⊥
among_none h = elim h [ ]

pub place_of : {A : Type 0} {x : A} {xs : List A} → Among x xs → (i : ℕ) × (slice_get xs i ≡ Some x)
place_of first_one = (0, refl)
place_of (one_behind h) = let r = place_of h in (suc r.0, r.1)

pub at_place : {A : Type 0} (x : A) (xs : List A) (i : ℕ) → slice_get xs i ≡ Some x → Among x xs
at_place x [] i e = absurd (none-some x e)
at_place x (y ∷ xs) zero e = subst (λ z. Among x (z ∷ xs)) (sym (same_Some y x e)) first_one
at_place x (y ∷ xs) (suc i) e = one_behind (at_place x xs i e)

pub among_mapped : {A B : Type 0} (f : A → B) {x : A} {xs : List A} → Among x xs → Among (f x) (map f xs)
among_mapped f first_one = first_one
among_mapped f (one_behind h) = one_behind (among_mapped f h)

pub among_rows : {A : Type 0} (x : Name) (rs : List (Name × A)) (a : A) → Among a (all_named x rs) → Among (x, a) rs
among_rows x [] a h = absurd (among_none h)
among_rows {A = A} x (r ∷ rs) a h = by_test (among_rows x rs) (bytes_eq r.0 x) refl h
  where
    here : ((b : A) → Among b (all_named x rs) → Among (x, b) rs) → r.0 ≡ x → (b : A) → Among b (r.1 ∷ all_named x rs) → Among (x, b) (r ∷ rs)
    here rest e b first_one = subst (λ (n : Name). Among (n, r.1) (r ∷ rs)) e first_one
    here rest e b (one_behind k) = one_behind (rest b k)

    by_test : ((b : A) → Among b (all_named x rs) → Among (x, b) rs) → (b : Bool) → bytes_eq r.0 x ≡ b → Among a (cond b (r.1 ∷ all_named x rs) (all_named x rs)) → Among (x, a) (r ∷ rs)
    by_test rest true e k = here rest ((bytes_eq-Decides r.0 x).0 e) a k
    by_test rest false e k = one_behind (rest a k)

pub among_named : {A : Type 0} (x : Name) (a : A) {rs : List (Name × A)} → Among (x, a) rs → Among a (all_named x rs)
among_named x a (first_one {xs = rs}) = subst (λ (b : Bool). Among a (cond b (a ∷ all_named x rs) (all_named x rs))) (sym ((bytes_eq-Decides x x).1 refl)) first_one
among_named x a (one_behind {y = r} {xs = rs} h) = by_test (bytes_eq r.0 x) (among_named x a h)
  where
    by_test : (b : Bool) → Among a (all_named x rs) → Among a (cond b (r.1 ∷ all_named x rs) (all_named x rs))
    by_test true k = one_behind k
    by_test false k = k

-- ---- lists whose elements differ
abbrev pub Once : {A : Type 0} → (A → A → Type 0) → List A → Type 0
Once P [] = Unit {0}
Once {A} P (x ∷ xs) = ((y : A) → Among y xs → P x y → ⊥) × Once P xs

by_places : {A : Type 0} (P : A → A → Type 0) (xs : List A) → ((i j : ℕ) (x y : A) → slice_get xs i ≡ Some x → slice_get xs j ≡ Some y → P x y → i ≡ j) → Once P xs
by_places P [] h = tt
by_places P (x ∷ xs) h = (λ y a p. (let r = place_of a in let e : 0 ≡ suc r.0 = h 0 (suc r.0) x y refl r.1 p in absurd (omega (arith, e))), by_places P xs (λ i j y z a b p. (let e : suc i ≡ suc j = h (suc i) (suc j) y z a b p in omega (arith, e))))

-- rows that differ, and what stands under one name
once_named : {A : Type 0} (P : Name × A → Name × A → Type 0) (Q : A → A → Type 0) (x : Name) (rs : List (Name × A)) → ((n : Name) (a b : A) → n ≡ x → Q a b → P (n, a) (x, b)) → Once P rs → Once Q (all_named x rs)
once_named P Q x [] w h = tt
once_named {A = A} P Q x (r ∷ rs) w h = by_test (bytes_eq r.0 x) refl (once_named P Q x rs w h.1)
  where
    by_test : (b : Bool) → bytes_eq r.0 x ≡ b → Once Q (all_named x rs) → Once Q (cond b (r.1 ∷ all_named x rs) (all_named x rs))
    by_test true e k = (λ y a q. h.0 (x, y) (among_rows x rs y a) (w r.0 r.1 y ((bytes_eq-Decides r.0 x).0 e) q), k)
    by_test false e k = k

-- one row has a number
same_row : (r q : Name × ℕ) (rs : List (Name × ℕ)) → Once (λ r q. r.1 ≡ q.1) rs → Among r rs → Among q rs → r.1 ≡ q.1 → r ≡ q
same_row r _ _ o first_one first_one e = refl
same_row r q _ o first_one (one_behind h) e = absurd (o.0 q h e)
same_row r q _ o (one_behind h) first_one e = absurd (o.0 r h (sym e))
same_row r q _ o (one_behind {xs = rs} h) (one_behind k) e = same_row r q rs o.1 h k e

-- ---- numbers at one place of two lists
pub data Beside (i j : ℕ) : List ℕ → List ℕ → Type 0 where
  here : {is js : List ℕ} → Beside i j (i ∷ is) (j ∷ js)
  later : {k l : ℕ} {is js : List ℕ} → Beside i j is js → Beside i j (k ∷ is) (l ∷ js)

beside_first : {i j : ℕ} {is js : List ℕ} → Beside i j is js → Among i is
beside_first here = first_one
beside_first (later h) = one_behind (beside_first h)

beside_second : {i j : ℕ} {is js : List ℕ} → Beside i j is js → Among j js
beside_second here = first_one
beside_second (later h) = one_behind (beside_second h)

one_beside : (i k j l : ℕ) (is js : List ℕ) → Once (λ x y. x ≡ y) is → i ≡ k → Beside i j is js → Beside k l is js → j ≡ l
one_beside i _ j _ _ _ o e here here = refl
one_beside i k j l _ _ o e here (later h) = absurd (o.0 k (beside_first h) e)
one_beside i k j l _ _ o e (later h) here = absurd (o.0 i (beside_first h) (sym e))
one_beside i k j l _ _ o e (later {is = is} {js = js} h) (later g) = one_beside i k j l is js o.1 e h g

beside_one : (i k j l : ℕ) (is js : List ℕ) → Once (λ x y. x ≡ y) js → j ≡ l → Beside i j is js → Beside k l is js → i ≡ k
beside_one i _ j _ _ _ o e here here = refl
beside_one i k j l _ _ o e here (later h) = absurd (o.0 l (beside_second h) e)
beside_one i k j l _ _ o e (later h) here = absurd (o.0 j (beside_second h) (sym e))
beside_one i k j l _ _ o e (later {is = is} {js = js} h) (later g) = beside_one i k j l is js o.1 e h g

-- the thing of a number
pub its_own : {A : Type 0} (P : A → ℕ → Type 0) (fs : List A) (is : List ℕ) → EachPair P fs is → (i : ℕ) → Among i is → (f : A) × Among f fs × P f i
its_own P [] [] a i h = absurd (among_none h)
its_own P [] (x ∷ is) a i h = absurd a
its_own P (f ∷ fs) [] a i h = absurd a
its_own P (f ∷ fs) (x ∷ is) a _ first_one = (f, first_one, a.0)
its_own P (f ∷ fs) (x ∷ is) a i (one_behind h) = let r = its_own P fs is a.1 i h in (r.0, one_behind r.1, r.2)

module _ {A : Type 0} (P Q : A → ℕ → Type 0) where
  beside_there : (fs : List A) (is js : List ℕ) → EachPair P fs is → EachPair Q fs js → (i : ℕ) → Among i is → (j : ℕ) × Beside i j is js
  beside_there [] [] js a b i h = absurd (among_none h)
  beside_there [] (k ∷ is) js a b i h = absurd a
  beside_there (f ∷ fs) [] js a b i h = absurd a
  beside_there (f ∷ fs) (k ∷ is) [] a b i h = absurd b
  beside_there (f ∷ fs) (k ∷ is) (l ∷ js) a b _ first_one = (l, here)
  beside_there (f ∷ fs) (k ∷ is) (l ∷ js) a b i (one_behind h) = let r = beside_there fs is js a.1 b.1 i h in (r.0, later r.1)

  beside_back : (fs : List A) (is js : List ℕ) → EachPair P fs is → EachPair Q fs js → (j : ℕ) → Among j js → (i : ℕ) × Beside i j is js
  beside_back [] is [] a b j h = absurd (among_none h)
  beside_back [] is (k ∷ js) a b j h = absurd b
  beside_back (f ∷ fs) is [] a b j h = absurd b
  beside_back (f ∷ fs) [] (k ∷ js) a b j h = absurd a
  beside_back (f ∷ fs) (k ∷ is) (l ∷ js) a b _ first_one = (k, here)
  beside_back (f ∷ fs) (k ∷ is) (l ∷ js) a b j (one_behind h) = let r = beside_back fs is js a.1 b.1 j h in (r.0, later r.1)

  both_stand : (fs : List A) (is js : List ℕ) → EachPair P fs is → EachPair Q fs js → (i j : ℕ) → Beside i j is js → (f : A) × P f i × Q f j
  both_stand [] [] js a b i j h = elim h [ ]
  both_stand [] (k ∷ is) js a b i j h = absurd a
  both_stand (f ∷ fs) [] js a b i j h = absurd a
  both_stand (f ∷ fs) (k ∷ is) [] a b i j h = absurd b
  both_stand (f ∷ fs) (k ∷ is) (l ∷ js) a b _ _ here = (f, a.0, b.0)
  both_stand (f ∷ fs) (k ∷ is) (l ∷ js) a b i j (later h) = both_stand fs is js a.1 b.1 i j h

  -- numbers of functions that count as one stand beside each other
  meet : (Same : A → A → Type 0) (fs : List A) → Once Same fs → (is js : List ℕ) → EachPair P fs is → EachPair Q fs js → (i j : ℕ) → ((f g : A) → P f i → Q g j → Same f g × Same g f) → Among i is → Among j js → Beside i j is js
  meet Same [] o [] js a b i j w h k = absurd (among_none h)
  meet Same [] o (x ∷ is) js a b i j w h k = absurd a
  meet Same (f ∷ fs) o [] js a b i j w h k = absurd a
  meet Same (f ∷ fs) o (x ∷ is) [] a b i j w h k = absurd b
  meet Same (f ∷ fs) o (x ∷ is) (y ∷ js) a b _ _ w first_one first_one = here
  meet Same (f ∷ fs) o (x ∷ is) (y ∷ js) a b _ j w first_one (one_behind k) = let r = its_own Q fs js b.1 j k in absurd (o.0 r.0 r.1 (w f r.0 a.0 r.2).0)
  meet Same (f ∷ fs) o (x ∷ is) (y ∷ js) a b i _ w (one_behind h) first_one = let r = its_own P fs is a.1 i h in absurd (o.0 r.0 r.1 (w r.0 f r.2 b.0).1)
  meet Same (f ∷ fs) o (x ∷ is) (y ∷ js) a b i j w (one_behind h) (one_behind k) = later (meet Same fs o.1 is js a.1 b.1 i j w h k)

-- ---- sorts by their names
sort_first : (o : Option Sort) (q : Option (List Sort)) (ss : List Sort) → option_and_then (λ (s : Sort). option_map (λ (rs : List Sort). s ∷ rs) q) o ≡ Some ss → (s : Sort) × (rs : List Sort) × (o ≡ Some s) × (q ≡ Some rs) × (s ∷ rs ≡ ss)
sort_first None q ss h = absurd (none-some ss h)
sort_first (Some s) None ss h = absurd (none-some ss h)
sort_first (Some s) (Some rs) ss h = (s, rs, refl, refl, same_Some (s ∷ rs) ss h)

of_list : (o : Option Sort) (s : Sort) → option_map list o ≡ Some s → (q : Sort) × (o ≡ Some q)
of_list None s h = absurd (none-some s h)
of_list (Some q) s h = (q, refl)

same_head : {A : Type 0} (x y : A) (xs ys : List A) → x ∷ xs ≡ y ∷ ys → x ≡ y
same_head x y xs ys e = cc

same_tail : {A : Type 0} (x y : A) (xs ys : List A) → x ∷ xs ≡ y ∷ ys → xs ≡ ys
same_tail x y xs ys e = cc

module _ (u : UnderNames) (v : Vocabulary) (hv : HasSorts u v) where
  -- what a sort is called
  pub data IsCalled : SortExpression → Sort → Type 0 where
    called_boolean : IsCalled truth_values boolean
    called_positive : IsCalled positives positive
    called_natural : IsCalled naturals natural
    called_integer : IsCalled integers integer
    called_list : {e : SortExpression} {s : Sort} → IsCalled e s → IsCalled (lists_of e) (list s)
    called_by_name : {n : Name} {d : ℕ} → IsOwn u n → IsSortNamed u v n d → IsCalled (a_name n) (named d)

  one_call : {e f : SortExpression} {s : Sort} → IsCalled e s → IsCalled f s → e ≡ f
  one_call called_boolean called_boolean = refl
  one_call called_positive called_positive = refl
  one_call called_natural called_natural = refl
  one_call called_integer called_integer = refl
  one_call (called_list h) (called_list k) = ap lists_of (one_call h k)
  one_call (called_by_name {n = n} {d = d} own h) (called_by_name {n = m} om k) = ap a_name (hv.different n m d own om h k)

  final_call : {e f : SortExpression} → StandsFor u e f → (s : Sort) × IsCalled f s × (sort_in v.sort_names f ≡ Some s)
  final_call for_truth_values = (boolean, called_boolean, refl)
  final_call for_positives = (positive, called_positive, refl)
  final_call for_naturals = (natural, called_natural, refl)
  final_call for_integers = (integer, called_integer, refl)
  final_call (for_lists e f h) = let r = final_call h in (list r.0, called_list r.1, ap (option_map list) r.2)
  final_call (for_plain n k) = let r = hv.others n (declared_alone k) in (named r.0, called_by_name (declared_alone k) r.1, r.1.0)
  final_call (for_struct n k) = let r = hv.others n (declared_as_struct k) in (named r.0, called_by_name (declared_as_struct k) r.1, r.1.0)
  final_call (for_alias n e f k h) = final_call h

  stands : (e : SortExpression) (s : Sort) → sort_in v.sort_names e ≡ Some s → (f : SortExpression) × StandsFor u e f
  stands truth_values s h = (truth_values, for_truth_values)
  stands positives s h = (positives, for_positives)
  stands naturals s h = (naturals, for_naturals)
  stands integers s h = (integers, for_integers)
  stands (lists_of e) s h = let q = of_list (sort_in v.sort_names e) s h in let r = stands e q.0 q.1 in (lists_of r.0, for_lists e r.0 r.1)
  stands (a_name n) s h = (hv.named n).0 (s, h)

  pub is_called : (e : SortExpression) (s : Sort) → sort_in v.sort_names e ≡ Some s → (f : SortExpression) × StandsFor u e f × IsCalled f s
  is_called e s h =
      let r = stands e s h in
      let c = final_call r.1 in
      let same : c.0 ≡ s = same_Some c.0 s (sym c.2 ∙ sym (what_stands_for_a_sort_has_it u v hv e r.0 r.1) ∙ h) in
      (r.0, r.1, subst (IsCalled r.0) same c.1)

  same_sorts : (es fs : List SortExpression) (ss : List Sort) → sorts_in v.sort_names es ≡ Some ss → sorts_in v.sort_names fs ≡ Some ss → SameSorts u es fs
  same_sorts [] [] ss a b = ([], no_sorts, no_sorts)
  same_sorts [] (f ∷ fs) ss a b = let q = sort_first (sort_in v.sort_names f) (sorts_in v.sort_names fs) ss b in let e : [] ≡ ss = same_Some [] ss a in absurd (no_more q.0 q.1 (e ∙ sym q.4))
    where
      no_more : (s : Sort) (ss : List Sort) → [] ≡ s ∷ ss → ⊥
      no_more s ss e = cc
  same_sorts (e ∷ es) [] ss a b = let q = sort_first (sort_in v.sort_names e) (sorts_in v.sort_names es) ss a in let f : [] ≡ ss = same_Some [] ss b in absurd (no_more q.0 q.1 (f ∙ sym q.4))
    where
      no_more : (s : Sort) (ss : List Sort) → [] ≡ s ∷ ss → ⊥
      no_more s ss e = cc
  same_sorts (e ∷ es) (f ∷ fs) ss a b =
      let p = sort_first (sort_in v.sort_names e) (sorts_in v.sort_names es) ss a in
      let q = sort_first (sort_in v.sort_names f) (sorts_in v.sort_names fs) ss b in
      let one = is_called e p.0 p.2 in
      let other = is_called f q.0 q.2 in
      let heads : q.0 ≡ p.0 = same_head q.0 p.0 q.1 p.1 (q.4 ∙ sym p.4) in
      let tails : q.1 ≡ p.1 = same_tail q.0 p.0 q.1 p.1 (q.4 ∙ sym p.4) in
      let called : other.0 ≡ one.0 = one_call (subst (IsCalled other.0) heads other.2) one.2 in
      let rest = same_sorts es fs p.1 p.3 (q.3 ∙ ap (λ (rs : List Sort). Some rs) tails) in
      (one.0 ∷ rest.0, and_sort e one.0 es rest.0 one.1 rest.1, and_sort f one.0 fs rest.0 (subst (StandsFor u f) called other.1) rest.2)

-- ---- the renumbering
one_construction : (u : UnderNames) (n : Name) {a b : Construction} → IsConstruction u n a → IsConstruction u n b → a ≡ b
one_construction u n (by_struct h) (by_struct k) = refl
one_construction u n (by_struct h) (by_cons k c) = cc
one_construction u n (by_struct h) (by_none k c) = cc
one_construction u n (by_cons h c) (by_struct k) = cc
one_construction u n (by_cons h c) (by_cons k d) = refl
one_construction u n (by_cons h c) (by_none k d) = absurd (d c)
one_construction u n (by_none h c) (by_struct k) = cc
one_construction u n (by_none h c) (by_cons k d) = absurd (c d)
one_construction u n (by_none h c) (by_none k d) = refl

same_number : (a b : ℕ) → named a ≡ named b → a ≡ b
same_number a b e = cc

abbrev SameArguments : UnderNames → TextFunction → TextFunction → Type 0
SameArguments u f g = SameSorts u f.arguments g.arguments

module _ (u : UnderNames) (v w : Vocabulary) (iv : IsVocabularyOf u v) (iw : IsVocabularyOf u w) where
  -- two numbers of a sort
  pub record AreOfSort (d k : ℕ) : Type 0 where
    pub name : Name
    pub own : IsOwn u name
    pub first : IsSortNamed u v name d
    pub second : IsSortNamed u w name k

  only_number : (x : Vocabulary) (n : Name) (d k : ℕ) → IsSortNamed u x n d → IsSortNamed u x n k → d ≡ k
  only_number x n d k a b = same_number d k (same_Some (named d) (named k) (sym a.0 ∙ b.0))

  pub sorts_matched : IsMatching (length v.tables.sorts) (length w.tables.sorts) AreOfSort
  sorts_matched = record {
    there = λ d l. (let r = iv.sorts.no_more d l in let q = iw.sorts.others r.0 r.1 in (q.0, record { name = r.0; own = r.1; first = r.2; second = q.1 }));
    back = λ k l. (let r = iw.sorts.no_more k l in let q = iv.sorts.others r.0 r.1 in (q.0, record { name = r.0; own = r.1; first = q.1; second = r.2 }));
    first_within = λ d k h. h.first.1;
    second_within = λ d k h. h.second.1;
    only = λ d k j h g. (
        let same : h.name ≡ g.name = iv.sorts.different h.name g.name d h.own g.own h.first g.first in
        only_number w g.name k j (subst (λ (n : Name). IsSortNamed u w n k) same h.second) g.second
        );
    once = λ d e k h g. (
        let same : h.name ≡ g.name = iw.sorts.different h.name g.name k h.own g.own h.second g.second in
        only_number v g.name d e (subst (λ (n : Name). IsSortNamed u v n d) same h.first) g.first
        );
  }

  -- two numbers of a function
  pub record AreOfFunction (i j : ℕ) : Type 0 where
    pub name : Name
    pub place : Beside i j (all_named name v.function_names) (all_named name w.function_names)

  rows_once : (x : Vocabulary) → HasFunctions u x → Once (λ r q. r.1 ≡ q.1) x.function_names
  rows_once x h = by_places (λ r q. r.1 ≡ q.1) x.function_names (λ i j r q a b e. h.once i j r.1
      (slice_get-map (λ (p : Name × ℕ). p.1) x.function_names i ∙ ap (option_map (λ (p : Name × ℕ). p.1)) a)
      (slice_get-map (λ (p : Name × ℕ). p.1) x.function_names j ∙ ap (option_map (λ (p : Name × ℕ). p.1)) b ∙ ap (λ (n : ℕ). Some n) (sym e)))

  numbers_once : (x : Vocabulary) → HasFunctions u x → (f : Name) → Once (λ (i j : ℕ). i ≡ j) (all_named f x.function_names)
  numbers_once x h f = once_named (λ r q. r.1 ≡ q.1) (λ (i j : ℕ). i ≡ j) f x.function_names (λ n a b e q. q) (rows_once x h)

  one_name : (x : Vocabulary) → HasFunctions u x → (f g : Name) (k : ℕ) → Among k (all_named f x.function_names) → Among k (all_named g x.function_names) → f ≡ g
  one_name x h f g k a b = ap (λ (r : Name × ℕ). r.0) (same_row (f, k) (g, k) x.function_names (rows_once x h) (among_rows f x.function_names k a) (among_rows g x.function_names k b) refl)

  number_among : (x : Vocabulary) (f : Name) (k : ℕ) → Contains x.function_names (f, k) → Among k (all_named f x.function_names)
  number_among x f k c = let r = read_contained x.function_names (f, k) c in among_named f k (at_place (f, k) x.function_names r.0 r.1)

  pub its_text : (i j : ℕ) → AreOfFunction i j → (t : TextFunction) × IsFunction u v t i × IsFunction u w t j
  its_text i j h = both_stand (IsFunction u v) (IsFunction u w) (u.functions h.name) (all_named h.name v.function_names) (all_named h.name w.function_names) (iv.functions.each h.name) (iw.functions.each h.name) i j h.place

  pub functions_matched : IsMatching (length v.tables.functions) (length w.tables.functions) AreOfFunction
  functions_matched = record {
    there = λ i l. (
        let r = iv.functions.no_more i l in
        let q = beside_there (IsFunction u v) (IsFunction u w) (u.functions r.0) (all_named r.0 v.function_names) (all_named r.0 w.function_names) (iv.functions.each r.0) (iw.functions.each r.0) i (number_among v r.0 i r.1) in
        (q.0, record { name = r.0; place = q.1 })
        );
    back = λ j l. (
        let r = iw.functions.no_more j l in
        let q = beside_back (IsFunction u v) (IsFunction u w) (u.functions r.0) (all_named r.0 v.function_names) (all_named r.0 w.function_names) (iv.functions.each r.0) (iw.functions.each r.0) j (number_among w r.0 j r.1) in
        (q.0, record { name = r.0; place = q.1 })
        );
    first_within = λ i j h. (its_text i j h).1.within;
    second_within = λ i j h. (its_text i j h).2.within;
    only = λ i j l h g. (
        let same : h.name ≡ g.name = one_name v iv.functions h.name g.name i (beside_first h.place) (beside_first g.place) in
        one_beside i i j l (all_named g.name v.function_names) (all_named g.name w.function_names) (numbers_once v iv.functions g.name) refl
        (subst (λ (n : Name). Beside i j (all_named n v.function_names) (all_named n w.function_names)) same h.place) g.place
        );
    once = λ i k j h g. (
        let same : h.name ≡ g.name = one_name w iw.functions h.name g.name j (beside_second h.place) (beside_second g.place) in
        beside_one i k j j (all_named g.name v.function_names) (all_named g.name w.function_names) (numbers_once w iw.functions g.name) refl
        (subst (λ (n : Name). Beside i j (all_named n v.function_names) (all_named n w.function_names)) same h.place) g.place
        );
  }

  abbrev pub renumbering : Renumbering
  renumbering = renumbering_by (length v.tables.sorts) (length w.tables.sorts) AreOfSort sorts_matched (length v.tables.functions) (length w.tables.functions) AreOfFunction functions_matched

  pub function_is : (i j : ℕ) → AreOfFunction i j → renumbering.functions i ≡ j
  function_is i j h = forth_is (length v.tables.functions) (length w.tables.functions) AreOfFunction functions_matched i j h

  -- ---- sorts
  pub sort_is : {s r : Sort} → SameSort u v w s r → new_sort renumbering s ≡ r
  sort_is same_booleans = refl
  sort_is same_positives = refl
  sort_is same_naturals = refl
  sort_is same_integers = refl
  sort_is (same_lists h) = ap list (sort_is h)
  sort_is (same_named {d = d} {k = k} n own a b) = ap named (forth_is (length v.tables.sorts) (length w.tables.sorts) AreOfSort sorts_matched d k (record { name = n; own = own; first = a; second = b }))

  pub sorts_are : {ss rs : List Sort} → EachWith (SameSort u v w) ss rs → map (new_sort renumbering) ss ≡ rs
  sorts_are each_none = refl
  sorts_are (each_more h hs) = ap₂ (λ (s : Sort) (ss : List Sort). s ∷ ss) (sort_is h) (sorts_are hs)

  names_are : {o q : Option Sort} → Both (SameSort u v w) o q → q ≡ option_map (new_sort renumbering) o
  names_are neither = refl
  names_are (both h) = ap (λ (s : Sort). Some s) (sym (sort_is h))

  lists_are : {sss rss : List (List Sort)} → EachWith (EachWith (SameSort u v w)) sss rss → rss ≡ map (map (new_sort renumbering)) sss
  lists_are each_none = refl
  lists_are (each_more h hs) = ap₂ (λ (ss : List Sort) (sss : List (List Sort)). ss ∷ sss) (sym (sorts_are h)) (lists_are hs)

  -- ---- functions
  numbers_are : (fs : List TextFunction) (is js : List ℕ) → EachPair (IsFunction u v) fs is → EachPair (IsFunction u w) fs js → ((i j : ℕ) → Beside i j is js → renumbering.functions i ≡ j) → js ≡ map renumbering.functions is
  numbers_are [] [] [] a b h = refl
  numbers_are [] (i ∷ is) js a b h = absurd a
  numbers_are [] [] (j ∷ js) a b h = absurd b
  numbers_are (f ∷ fs) [] js a b h = absurd a
  numbers_are (f ∷ fs) (i ∷ is) [] a b h = absurd b
  numbers_are (f ∷ fs) (i ∷ is) (j ∷ js) a b h = ap₂ (λ (x : ℕ) (xs : List ℕ). x ∷ xs) (sym (h i j here)) (numbers_are fs is js a.1 b.1 (λ x y k. h x y (later k)))

  module _ (names : List Named) (under : (f : Name) → u.functions f ≡ all_named f names) (differ : FunctionsDiffer u names) where
    texts_once : (c : Name) → Once (SameArguments u) (u.functions c)
    texts_once c = subst (Once (SameArguments u)) (sym (under c))
        (once_named (λ f g. (f.0 ≡ g.0) × SameArguments u f.1 g.1) (SameArguments u) c names (λ n a b e q. (e, q))
        (by_places (λ f g. (f.0 ≡ g.0) × SameArguments u f.1 g.1) names (λ i j f g a b p. differ.once i j f g a b p.0 p.1)))

    pub numbers_meet : (c : Name) (es : List SortExpression) (k j : ℕ) → HasNumber v c es k → HasNumber w c es j → renumbering.functions k ≡ j
    numbers_meet c es k j a b =
        function_is k j (record {
          name = c;
          place = meet (IsFunction u v) (IsFunction u w) (SameArguments u) (u.functions c) (texts_once c) (all_named c v.function_names) (all_named c w.function_names)
              (iv.functions.each c) (iw.functions.each c) k j both_same (number_among v c k a.0) (number_among w c j b.0);
        })
      where
        both_same : (f g : TextFunction) → IsFunction u v f k → IsFunction u w g j → SameArguments u f g × SameArguments u g f
        both_same f g p q =
            let one = same_sorts u v iv.sorts f.arguments es (function_at v.tables k).arguments p.arguments a.2 in
            let other = same_sorts u w iw.sorts g.arguments es (function_at w.tables j).arguments q.arguments b.2 in
            let same : one.0 ≡ other.0 = one_sorts u es one.0 other.0 one.2 other.2 in
            let g_is : StandForEach u g.arguments one.0 = subst (StandForEach u g.arguments) (sym same) other.1 in
            ((one.0, one.1, g_is), (one.0, g_is, one.1))

    role_is : (to : SortExpression) (t : TextRole) (o q : Role) → IsRole u v to t o → IsRole u w to t q → q ≡ new_role renumbering o
    role_is to _ _ _ of_struct of_struct = refl
    role_is to _ _ _ (of_cons g) (of_cons h) = refl
    role_is to _ _ _ (of_cons g) (of_no_cons h) = absurd (h g)
    role_is to _ _ _ (of_no_cons g) (of_cons h) = absurd (g h)
    role_is to _ _ _ (of_no_cons g) (of_no_cons h) = refl
    role_is to _ _ _ (of_place c es i k a) (of_place _ _ _ j b) = ap (λ (n : ℕ). theory.projection n i) (sym (numbers_meet c es k j a b))
    role_is to _ _ _ (of_test c es k a) (of_test _ _ j b) = ap theory.recogniser (sym (numbers_meet c es k j a b))
    role_is to _ _ _ of_map of_map = refl

    function_there : (i j : ℕ) → IsPartner (length v.tables.functions) (length w.tables.functions) AreOfFunction i j → function_at w.tables j ≡ new_function renumbering (function_at v.tables i)
    function_there i j (matched h) =
        let t = its_text i j h in
        let arguments : map (new_sort renumbering) (function_at v.tables i).arguments ≡ (function_at w.tables j).arguments = sorts_are (met (all_sorts_both u v w iv.sorts iw.sorts t.0.arguments) t.1.arguments t.2.arguments) in
        let result : new_sort renumbering (function_at v.tables i).result ≡ (function_at w.tables j).result = sort_is (met (sorts_both u v w iv.sorts iw.sorts t.0.result) t.1.result t.2.result) in
        let role = role_is t.0.result t.0.role (function_at v.tables i).role (function_at w.tables j).role t.1.role t.2.role in
        λ x. record { arguments = sym arguments x; result = sym result x; role = role x }
    function_there i j (beyond e f g) =
        get_or_past w.tables.functions j (record { arguments = []; result = boolean; role = theory.mapping }) (omega (arith, g))
        ∙ ap (new_function renumbering) (sym (get_or_past v.tables.functions i (record { arguments = []; result = boolean; role = theory.mapping }) (omega (arith, f))))

    sort_there : (d k : ℕ) → IsPartner (length v.tables.sorts) (length w.tables.sorts) AreOfSort d k → sort_at w.tables k ≡ sort_at v.tables d
    sort_there d k (matched h) = one_construction u h.name h.second.2 h.first.2
    sort_there d k (beyond e f g) = get_or_past w.tables.sorts k by_declarations (omega (arith, g)) ∙ sym (get_or_past v.tables.sorts d by_declarations (omega (arith, f)))

    pub takes_data : TakesData renumbering v.tables w.tables
    takes_data = record {
      sorts = λ d. sort_there d (renumbering.sorts d) (partner (length v.tables.sorts) (length w.tables.sorts) AreOfSort sorts_matched d).1;
      all_sorts = λ d. both_below (length v.tables.sorts) (length w.tables.sorts) AreOfSort sorts_matched d (renumbering.sorts d) (partner (length v.tables.sorts) (length w.tables.sorts) AreOfSort sorts_matched d).1;
      functions = λ i. function_there i (renumbering.functions i) (partner (length v.tables.functions) (length w.tables.functions) AreOfFunction functions_matched i).1;
      all_functions = λ i. both_below (length v.tables.functions) (length w.tables.functions) AreOfFunction functions_matched i (renumbering.functions i) (partner (length v.tables.functions) (length w.tables.functions) AreOfFunction functions_matched i).1;
    }

    pub takes_vocabulary : TakesVocabulary renumbering v w
    takes_vocabulary = record {
      tables = takes_data;
      sorts = λ n. names_are (sorts_both u v w iv.sorts iw.sorts (a_name n));
      functions = λ f. numbers_are (u.functions f) (all_named f v.function_names) (all_named f w.function_names) (iv.functions.each f) (iw.functions.each f) (λ i j h. function_is i j (record { name = f; place = h }));
      actions = λ a. lists_are (actions_alike u v w iv iw a);
    }
