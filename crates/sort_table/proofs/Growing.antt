-- A vocabulary grows with its text.
use Rattle.std.proofs.Common.{◌≡◌, ◌<◌, ◌≤◌, ◌⊎◌, inl, inr, ℕ, zero, suc, Bool, true, false, cond, List, [], ◌∷◌, ◌++◌, length, get_or, refl, ap, sym, ◌∙◌, subst, arith}
use Rattle.std.specs.Prelude.{Option, Some, None, bytes_eq, option_map, option_and_then}
use Rattle.std.specs.List.{Contains}
use Rattle.std.proofs.lemmas.Option.{none-some}
use Rattle.data_theory.specs.Terms.{Sort, boolean, list, named}
use Rattle.data_theory.specs.Declarations as theory
use Rattle.data_theory.specs.Declarations.{Construction, DeclaredFunction, Role, sort_at, function_at}
use Rattle.sort_table.specs.Expressions.{Name}
use Rattle.sort_table.specs.NamedLists.{all_named, first_named}
use Rattle.sort_table.specs.BareSorts.{SortExpression, truth_values, positives, naturals, integers, lists_of, a_name}
use Rattle.sort_table.specs.SortMeanings.{Kind, alone, a_struct, equal_to, UnderNames, StandsFor, for_truth_values, for_positives, for_naturals, for_integers, for_lists, for_plain, for_struct, for_alias}
use Rattle.sort_table.specs.TextFunctions.{TextFunction, TextRole}
use Rattle.sort_table.specs.Vocabularies.{Vocabulary, sort_in, sorts_in, HasConstructor, IsConstruction, by_struct, by_cons, by_none, IsOwn, declared_alone, declared_as_struct, IsSortNamed, HasSorts, HasNumber, GivesPlain, IsRole, of_struct, of_cons, of_no_cons, of_place, of_test, of_map, IsFunction, EachPair, AreSortsOf, IsVocabularyOf}
use Rattle.sort_table.specs.Growth.{More, with_more, with_declared, AllStand, IsMore, VocabulariesGrow}
use Rattle.sort_table.proofs.OneSort.{one_sort}
use Rattle.sort_table.proofs.ListForms.{found_entry, is_declared}

-- ---- lists
pub first_behind : {A : Type 0} (n : Name) (rs qs : List (Name × A)) (x : A) → first_named n rs ≡ Some x → first_named n (rs ++ qs) ≡ Some x
first_behind n [] qs x h = absurd (none-some x h)
first_behind n (r ∷ rs) qs x h = by_test (bytes_eq r.0 n) (first_behind n rs qs x) h
  where
    by_test : (b : Bool) → (first_named n rs ≡ Some x → first_named n (rs ++ qs) ≡ Some x) → cond b (Some r.1) (first_named n rs) ≡ Some x → cond b (Some r.1) (first_named n (rs ++ qs)) ≡ Some x
    by_test true f k = k
    by_test false f k = f k

pub first_of_two : {A : Type 0} (n : Name) (rs qs : List (Name × A)) (x : A) → first_named n (rs ++ qs) ≡ Some x → (first_named n rs ≡ Some x) ⊎ (first_named n qs ≡ Some x)
first_of_two n [] qs x h = inr h
first_of_two n (r ∷ rs) qs x h = by_test (bytes_eq r.0 n) (first_of_two n rs qs x) h
  where
    by_test : (b : Bool) → (first_named n (rs ++ qs) ≡ Some x → (first_named n rs ≡ Some x) ⊎ (first_named n qs ≡ Some x)) → cond b (Some r.1) (first_named n (rs ++ qs)) ≡ Some x → (cond b (Some r.1) (first_named n rs) ≡ Some x) ⊎ (first_named n qs ≡ Some x)
    by_test true f k = inl k
    by_test false f k = f k

pub all_behind : {A : Type 0} (n : Name) (rs qs : List (Name × A)) → all_named n (rs ++ qs) ≡ all_named n rs ++ all_named n qs
all_behind n [] qs = refl
all_behind n (r ∷ rs) qs = by_test (bytes_eq r.0 n) (all_behind n rs qs)
  where
    by_test : (b : Bool) → all_named n (rs ++ qs) ≡ all_named n rs ++ all_named n qs → cond b (r.1 ∷ all_named n (rs ++ qs)) (all_named n (rs ++ qs)) ≡ cond b (r.1 ∷ all_named n rs) (all_named n rs) ++ all_named n qs
    by_test true h = ap (λ xs. r.1 ∷ xs) h
    by_test false h = h

pub pairs_behind : {A B : Type 0} (Q : A → B → Type 0) (xs xs2 : List A) (ys ys2 : List B) → EachPair Q xs ys → EachPair Q xs2 ys2 → EachPair Q (xs ++ xs2) (ys ++ ys2)
pairs_behind Q [] xs2 [] ys2 h k = k
pairs_behind Q (x ∷ xs) xs2 (y ∷ ys) ys2 h k = (h.0, pairs_behind Q xs xs2 ys ys2 h.1 k)
pairs_behind Q [] xs2 (y ∷ ys) ys2 h k = absurd h
pairs_behind Q (x ∷ xs) xs2 [] ys2 h k = absurd h

pub pairs_with : {A B : Type 0} (Q R : A → B → Type 0) → ((x : A) (y : B) → Q x y → R x y) → (xs : List A) (ys : List B) → EachPair Q xs ys → EachPair R xs ys
pairs_with Q R f [] [] h = tt
pairs_with Q R f (x ∷ xs) (y ∷ ys) h = (f x y h.0, pairs_with Q R f xs ys h.1)
pairs_with Q R f [] (y ∷ ys) h = absurd h
pairs_with Q R f (x ∷ xs) [] h = absurd h

pub paired : {A B : Type 0} (Q : A → B → Type 0) (xs : List A) (ys : List B) (x : A) → EachPair Q xs ys → Contains xs x → (y : B) × Q x y
paired Q [] ys x h (k, l, e) = let never : ⊥ = omega (arith, l) in absurd never
paired Q (z ∷ zs) [] x h c = absurd h
paired Q (z ∷ zs) (y ∷ ys) x h (zero, l, e) = (y, subst (λ a. Q a y) e h.0)
paired Q (z ∷ zs) (y ∷ ys) x h (suc k, l, e) = let m : k < length zs = omega (arith, l) in paired Q zs ys x h.1 (k, m, e)

pub contains_behind : {A : Type 0} (xs ys : List A) (x : A) → Contains xs x → Contains (xs ++ ys) x
contains_behind [] ys x (k, l, e) = let never : ⊥ = omega (arith, l) in absurd never
contains_behind (z ∷ zs) ys x (zero, l, e) = (zero, omega arith, e)
contains_behind (z ∷ zs) ys x (suc k, l, e) =
    let m : k < length zs = omega (arith, l) in
    let c : Contains (zs ++ ys) x = contains_behind zs ys x (k, m, e) in
    let n : c.0 < length (zs ++ ys) = c.1 in
    (suc c.0, omega (arith, n), c.2)

pub contains_after : {A : Type 0} (xs ys : List A) (x : A) → Contains ys x → Contains (xs ++ ys) x
contains_after [] ys x c = c
contains_after (z ∷ zs) ys x h =
    let c : Contains (zs ++ ys) x = contains_after zs ys x h in
    let n : c.0 < length (zs ++ ys) = c.1 in
    (suc c.0, omega (arith, n), c.2)

pub in_either : {A : Type 0} (xs ys : List A) (x : A) → Contains (xs ++ ys) x → Contains xs x ⊎ Contains ys x
in_either [] ys x c = inr c
in_either (z ∷ zs) ys x (zero, l, e) = inl (zero, omega arith, e)
in_either (z ∷ zs) ys x (suc k, l, e) = let m : k < length (zs ++ ys) = omega (arith, l) in step (in_either zs ys x (k, m, e))
  where
    step : Contains zs x ⊎ Contains ys x → Contains (z ∷ zs) x ⊎ Contains ys x
    step (inl c) = let n : c.0 < length zs = c.1 in inl (suc c.0, omega (arith, n), c.2)
    step (inr c) = inr c

pub front_entry : {A : Type 0} (xs ys : List A) (k : ℕ) (z : A) → k < length xs → get_or (xs ++ ys) k z ≡ get_or xs k z
front_entry [] ys k z h = let no_way : ⊥ = omega arith in absurd no_way
front_entry (x ∷ xs) ys zero z h = refl
front_entry (x ∷ xs) ys (suc k) z h = let l : k < length xs = omega arith in front_entry xs ys k z l

pub near_or_far : (i n : ℕ) → (i < n) ⊎ (n ≤ i)
near_or_far i zero = inr (omega arith)
near_or_far zero (suc n) = inl (omega arith)
near_or_far (suc i) (suc n) = step (near_or_far i n)
  where
    step : (i < n) ⊎ (n ≤ i) → (suc i < suc n) ⊎ (suc n ≤ suc i)
    step (inl h) = inl (omega (arith, h))
    step (inr h) = inr (omega (arith, h))

longer : {A : Type 0} (xs ys : List A) → length xs ≤ length (xs ++ ys)
longer [] ys = omega arith
longer (x ∷ xs) ys = let l : length xs ≤ length (xs ++ ys) = longer xs ys in omega (arith, l)

-- ---- sorts
pub stands_after : (u w : UnderNames) → ((n : Name) (k : Kind) → u.sort n ≡ Some k → w.sort n ≡ Some k) → (e s : SortExpression) → StandsFor u e s → StandsFor w e s
stands_after u w kept _ _ for_truth_values = for_truth_values
stands_after u w kept _ _ for_positives = for_positives
stands_after u w kept _ _ for_naturals = for_naturals
stands_after u w kept _ _ for_integers = for_integers
stands_after u w kept _ _ (for_lists e s h) = for_lists e s (stands_after u w kept e s h)
stands_after u w kept _ _ (for_plain n h) = for_plain n (kept n alone h)
stands_after u w kept _ _ (for_struct n h) = for_struct n (kept n a_struct h)
stands_after u w kept _ _ (for_alias n e s h r) = for_alias n e s (kept n (equal_to e) h) (stands_after u w kept e s r)

-- what stood for a sort stands for that one alone
stands_before : (u w : UnderNames) → ((n : Name) (k : Kind) → u.sort n ≡ Some k → w.sort n ≡ Some k) → (e r s : SortExpression) → StandsFor u e r → StandsFor w e s → StandsFor u e s
stands_before u w kept e r s h k = subst (StandsFor u e) (one_sort w e r s (stands_after u w kept e r h) k) h

pub sort_behind : (ns ms : List (Name × Sort)) (e : SortExpression) (s : Sort) → sort_in ns e ≡ Some s → sort_in (ns ++ ms) e ≡ Some s
sort_behind ns ms truth_values s h = h
sort_behind ns ms positives s h = h
sort_behind ns ms naturals s h = h
sort_behind ns ms integers s h = h
sort_behind ns ms (lists_of e) s h = through (sort_behind ns ms e) (sort_in ns e) refl h
  where
    through : ((r : Sort) → sort_in ns e ≡ Some r → sort_in (ns ++ ms) e ≡ Some r) → (o : Option Sort) → sort_in ns e ≡ o → option_map list o ≡ Some s → option_map list (sort_in (ns ++ ms) e) ≡ Some s
    through f None q k = absurd (none-some s k)
    through f (Some r) q k = ap (option_map list) (f r q) ∙ k
sort_behind ns ms (a_name n) s h = first_behind n ns ms s h

sorts_behind : (ns ms : List (Name × Sort)) (es : List SortExpression) (ss : List Sort) → sorts_in ns es ≡ Some ss → sorts_in (ns ++ ms) es ≡ Some ss
sorts_behind ns ms [] ss h = h
sorts_behind ns ms (e ∷ es) ss h = through (sorts_behind ns ms es) (sort_in ns e) refl h
  where
    rest : ((rs : List Sort) → sorts_in ns es ≡ Some rs → sorts_in (ns ++ ms) es ≡ Some rs) → (s : Sort) (o : Option (List Sort)) → sorts_in ns es ≡ o → option_map (λ rs. s ∷ rs) o ≡ Some ss → option_map (λ rs. s ∷ rs) (sorts_in (ns ++ ms) es) ≡ Some ss
    rest f s None q k = absurd (none-some ss k)
    rest f s (Some rs) q k = ap (option_map (λ qs. s ∷ qs)) (f rs q) ∙ k

    through : ((rs : List Sort) → sorts_in ns es ≡ Some rs → sorts_in (ns ++ ms) es ≡ Some rs) → (o : Option Sort) → sort_in ns e ≡ o → option_and_then (λ s. option_map (λ rs. s ∷ rs) (sorts_in ns es)) o ≡ Some ss → option_and_then (λ s. option_map (λ rs. s ∷ rs) (sorts_in (ns ++ ms) es)) (sort_in (ns ++ ms) e) ≡ Some ss
    through f None q k = absurd (none-some ss k)
    through f (Some s) q k = ap (option_and_then (λ r. option_map (λ rs. r ∷ rs) (sorts_in (ns ++ ms) es))) (sort_behind ns ms e s q) ∙ rest f s (sorts_in ns es) refl k

-- what has a sort stands for one
pub has_stood : (u : UnderNames) (v : Vocabulary) → HasSorts u v → (e : SortExpression) (s : Sort) → sort_in v.sort_names e ≡ Some s → (r : SortExpression) × StandsFor u e r
has_stood u v is truth_values s h = (truth_values, for_truth_values)
has_stood u v is positives s h = (positives, for_positives)
has_stood u v is naturals s h = (naturals, for_naturals)
has_stood u v is integers s h = (integers, for_integers)
has_stood u v is (lists_of e) s h = through (has_stood u v is e) (sort_in v.sort_names e) refl h
  where
    through : ((t : Sort) → sort_in v.sort_names e ≡ Some t → (r : SortExpression) × StandsFor u e r) → (o : Option Sort) → sort_in v.sort_names e ≡ o → option_map list o ≡ Some s → (r : SortExpression) × StandsFor u (lists_of e) r
    through f None q k = absurd (none-some s k)
    through f (Some t) q k = let r : (r : SortExpression) × StandsFor u e r = f t q in (lists_of r.0, for_lists e r.0 r.1)
has_stood u v is (a_name n) s h = (is.named n).0 (s, h)

-- ---- growth
module _ (u : UnderNames) (sort : Name → Option Kind) (more : Name → List TextFunction) (acts : Name → List (List SortExpression)) (v : Vocabulary) (m : More)
    (is : IsVocabularyOf u v) (stand : AllStand u) (g : IsMore u (with_declared u sort more acts) v (with_more v m) m more acts) where
  abbrev w : UnderNames
  w = with_declared u sort more acts

  abbrev x : Vocabulary
  x = with_more v m

  -- an expression that stood for a sort, where it stands for one now
  before : (e s : SortExpression) (t : Sort) → sort_in v.sort_names e ≡ Some t → StandsFor w e s → StandsFor u e s
  before e s t h k = let r : (r : SortExpression) × StandsFor u e r = has_stood u v is.sorts e t h in stands_before u w g.kept e r.0 s r.1 k

  -- a function with a constructor's role was there, and its result stands for the same sort
  had_constructor : (n : Name) → HasConstructor w n → HasConstructor u n
  had_constructor n (c, f, among, role, stands) = by_side (in_either (u.functions c) (more c) f among)
    where
      by_side : Contains (u.functions c) f ⊎ Contains (more c) f → HasConstructor u n
      by_side (inl old) =
          let k : (k : ℕ) × IsFunction u v f k = paired (IsFunction u v) (u.functions c) (all_named c v.function_names) f (is.functions.each c) old in
          (c, f, old, role, before f.result (a_name n) (function_at v.tables k.0).result k.1.result stands)
      by_side (inr new) = absurd (g.no_cons c f new role)

  has_constructor : (n : Name) → HasConstructor u n → HasConstructor w n
  has_constructor n (c, f, among, role, stands) = (c, f, contains_behind (u.functions c) (more c) f among, role, stands_after u w g.kept f.result (a_name n) stands)

  construction_kept : (n : Name) (c : Construction) → IsConstruction u n c → IsConstruction w n c
  construction_kept n _ (by_struct h) = by_struct (g.kept n a_struct h)
  construction_kept n _ (by_cons h k) = by_cons (g.kept n alone h) (has_constructor n k)
  construction_kept n _ (by_none h k) = by_none (g.kept n alone h) (λ l. k (had_constructor n l))

  old_sort : (n : Name) (d : ℕ) → IsSortNamed u v n d → IsSortNamed w x n d
  old_sort n d (h, l, c) =
      let long : length v.tables.sorts ≤ length (v.tables.sorts ++ m.sorts) = longer v.tables.sorts m.sorts in (
        first_behind n v.sort_names m.sort_names (named d) h,
        omega (arith, l, long),
        subst (IsConstruction w n) (sym (front_entry v.tables.sorts m.sorts d theory.by_declarations l)) (construction_kept n (sort_at v.tables d) c),
      )

  after_own : (n : Name) → IsOwn u n → IsOwn w n
  after_own n (declared_alone h) = declared_alone (g.kept n alone h)
  after_own n (declared_as_struct h) = declared_as_struct (g.kept n a_struct h)

  -- a name that is no alias was one before, or is new
  old_or_new : (n : Name) → IsOwn w n → IsOwn u n ⊎ ((d : ℕ) × (length v.tables.sorts ≤ d) × IsSortNamed w x n d)
  old_or_new n (declared_alone h) = side (g.new_names n alone h)
    where
      side : (u.sort n ≡ Some alone) ⊎ ((alone ≡ a_struct) × ((d : ℕ) × (length v.tables.sorts ≤ d) × IsSortNamed w x n d)) → IsOwn u n ⊎ ((d : ℕ) × (length v.tables.sorts ≤ d) × IsSortNamed w x n d)
      side (inl k) = inl (declared_alone k)
      side (inr k) = inr k.1
  old_or_new n (declared_as_struct h) = side (g.new_names n a_struct h)
    where
      side : (u.sort n ≡ Some a_struct) ⊎ ((a_struct ≡ a_struct) × ((d : ℕ) × (length v.tables.sorts ≤ d) × IsSortNamed w x n d)) → IsOwn u n ⊎ ((d : ℕ) × (length v.tables.sorts ≤ d) × IsSortNamed w x n d)
      side (inl k) = inl (declared_as_struct k)
      side (inr k) = inr k.1

  -- one name has one number
  one_number : (n : Name) (d b : ℕ) → IsSortNamed w x n d → IsSortNamed w x n b → d ≡ b
  one_number n d b h k = let same : Some (named d) ≡ Some (named b) = sym h.0 ∙ k.0 in cc

  has_stood_now : (n : Name) → ((s : Sort) × (first_named n x.sort_names ≡ Some s)) → (e : SortExpression) × StandsFor w (a_name n) e
  has_stood_now n (s, h) = side (first_of_two n v.sort_names m.sort_names s h)
    where
      side : (first_named n v.sort_names ≡ Some s) ⊎ (first_named n m.sort_names ≡ Some s) → (e : SortExpression) × StandsFor w (a_name n) e
      side (inl old) = let e : (e : SortExpression) × StandsFor u (a_name n) e = (is.sorts.named n).0 (s, old) in (e.0, stands_after u w g.kept (a_name n) e.0 e.1)
      side (inr new) = (a_name n, for_struct n (found_entry (λ l _. w.sort l ≡ Some a_struct) n m.sort_names s g.are_new new))

  has_sort_now : (n : Name) → ((e : SortExpression) × StandsFor w (a_name n) e) → (s : Sort) × (first_named n x.sort_names ≡ Some s)
  has_sort_now n (e, h) = let k : (k : Kind) × (w.sort n ≡ Some k) = is_declared w n e h in side k.0 (g.new_names n k.0 k.1)
    where
      side : (k : Kind) → (u.sort n ≡ Some k) ⊎ ((k ≡ a_struct) × ((d : ℕ) × (length v.tables.sorts ≤ d) × IsSortNamed w x n d)) → (s : Sort) × (first_named n x.sort_names ≡ Some s)
      side k (inl old) = let s : (s : Sort) × (first_named n v.sort_names ≡ Some s) = (is.sorts.named n).1 (stand n k old) in (s.0, first_behind n v.sort_names m.sort_names s.0 s.1)
      side k (inr (q, r)) = (named r.0, r.2.0)

  aliases_now : (n : Name) (e : SortExpression) → w.sort n ≡ Some (equal_to e) → first_named n x.sort_names ≡ sort_in x.sort_names e
  aliases_now n e h = side (g.new_names n (equal_to e) h)
    where
      side : (u.sort n ≡ Some (equal_to e)) ⊎ ((equal_to e ≡ a_struct) × ((d : ℕ) × (length v.tables.sorts ≤ d) × IsSortNamed w x n d)) → first_named n x.sort_names ≡ sort_in x.sort_names e
      side (inl old) =
          let s : (s : Sort) × (first_named n v.sort_names ≡ Some s) = (is.sorts.named n).1 (stand n (equal_to e) old) in
          first_behind n v.sort_names m.sort_names s.0 s.1 ∙ sym (sort_behind v.sort_names m.sort_names e s.0 (sym (is.sorts.aliases n e old) ∙ s.1))
      side (inr (q, r)) = let never : equal_to e ≡ a_struct = q in cc

  others_now : (n : Name) → IsOwn w n → (d : ℕ) × IsSortNamed w x n d
  others_now n own = side (old_or_new n own)
    where
      side : IsOwn u n ⊎ ((d : ℕ) × (length v.tables.sorts ≤ d) × IsSortNamed w x n d) → (d : ℕ) × IsSortNamed w x n d
      side (inl o) = let d : (d : ℕ) × IsSortNamed u v n d = is.sorts.others n o in (d.0, old_sort n d.0 d.1)
      side (inr (d, l, h)) = (d, h)

  abbrev IsOld : Name → ℕ → Type 0
  IsOld n d = IsOwn u n × IsSortNamed u v n d

  -- the name with a number is an old one under an old number, or the number is new
  of_number : (n : Name) (d : ℕ) → IsOwn w n → IsSortNamed w x n d → IsOld n d ⊎ (length v.tables.sorts ≤ d)
  of_number n d own h = side (old_or_new n own)
    where
      side : IsOwn u n ⊎ ((b : ℕ) × (length v.tables.sorts ≤ b) × IsSortNamed w x n b) → IsOld n d ⊎ (length v.tables.sorts ≤ d)
      side (inl o) =
          let b : (b : ℕ) × IsSortNamed u v n b = is.sorts.others n o in
          inl (o, subst (IsSortNamed u v n) (one_number n b.0 d (old_sort n b.0 b.1) h) b.1)
      side (inr (b, l, k)) = inr (subst (λ i. length v.tables.sorts ≤ i) (one_number n b d k h) l)

  different_now : (n l : Name) (d : ℕ) → IsOwn w n → IsOwn w l → IsSortNamed w x n d → IsSortNamed w x l d → n ≡ l
  different_now n l d p q h k = side (of_number n d p h) (of_number l d q k)
    where
      side : IsOld n d ⊎ (length v.tables.sorts ≤ d) → IsOld l d ⊎ (length v.tables.sorts ≤ d) → n ≡ l
      side (inl a) (inl b) = is.sorts.different n l d a.0 b.0 a.1 b.1
      side (inl a) (inr b) = let far : d < length v.tables.sorts = a.1.1 in let never : ⊥ = omega (arith, far, b) in absurd never
      side (inr a) b = g.different n l d a h k

  sorts_used_now : (d : ℕ) → d < length x.tables.sorts → (n : Name) × IsOwn w n × IsSortNamed w x n d
  sorts_used_now d h = side (near_or_far d (length v.tables.sorts))
    where
      side : (d < length v.tables.sorts) ⊎ (length v.tables.sorts ≤ d) → (n : Name) × IsOwn w n × IsSortNamed w x n d
      side (inl near) = let n : (n : Name) × IsOwn u n × IsSortNamed u v n d = is.sorts.no_more d near in (n.0, after_own n.0 n.1, old_sort n.0 d n.2)
      side (inr far) = let n : (n : Name) × (w.sort n ≡ Some a_struct) × IsSortNamed w x n d = g.sorts_used d far h in (n.0, declared_as_struct n.1, n.2)

  sorts_grow : HasSorts w x
  sorts_grow = record {
    named = λ n. (has_stood_now n, has_sort_now n);
    aliases = aliases_now;
    others = others_now;
    different = different_now;
    no_more = sorts_used_now;
  }

  -- ---- functions
  number_kept : (c : Name) (es : List SortExpression) (k : ℕ) → HasNumber v c es k → HasNumber x c es k
  number_kept c es k (among, l, h) =
      let long : length v.tables.functions ≤ length (v.tables.functions ++ m.functions) = longer v.tables.functions m.functions in (
        contains_behind v.function_names m.function_names (c, k) among,
        omega (arith, l, long),
        sorts_behind v.sort_names m.sort_names es (function_at v.tables k).arguments h ∙ ap (λ (f : DeclaredFunction). Some f.arguments) (sym (old_function k l)),
      )
    where
      old_function : (i : ℕ) → i < length v.tables.functions → function_at x.tables i ≡ function_at v.tables i
      old_function i l2 = front_entry v.tables.functions m.functions i (record { arguments = []; result = boolean; role = theory.mapping }) l2

  gave_plain : (e : SortExpression) (s : Sort) → sort_in v.sort_names e ≡ Some s → GivesPlain w e → GivesPlain u e
  gave_plain e s h (n, p, q) = let old : StandsFor u e (a_name n) = before e (a_name n) s h q in (n, side (g.new_names n alone p), old)
    where
      side : (u.sort n ≡ Some alone) ⊎ ((alone ≡ a_struct) × ((d : ℕ) × (length v.tables.sorts ≤ d) × IsSortNamed w x n d)) → u.sort n ≡ Some alone
      side (inl k) = k
      side (inr (k, r)) = let never : alone ≡ a_struct = k in cc

  gives_plain : (e : SortExpression) → GivesPlain u e → GivesPlain w e
  gives_plain e (n, p, q) = (n, g.kept n alone p, stands_after u w g.kept e (a_name n) q)

  role_kept : (to : SortExpression) (s : Sort) → sort_in v.sort_names to ≡ Some s → (t : TextRole) (r : Role) → IsRole u v to t r → IsRole w x to t r
  role_kept to s h _ _ of_struct = of_struct
  role_kept to s h _ _ (of_cons p) = of_cons (gives_plain to p)
  role_kept to s h _ _ (of_no_cons p) = of_no_cons (λ q. p (gave_plain to s h q))
  role_kept to s h _ _ (of_place c es i k l) = of_place c es i k (number_kept c es k l)
  role_kept to s h _ _ (of_test c es k l) = of_test c es k (number_kept c es k l)
  role_kept to s h _ _ of_map = of_map

  function_kept : (f : TextFunction) (k : ℕ) → IsFunction u v f k → IsFunction w x f k
  function_kept f k h =
      let long : length v.tables.functions ≤ length (v.tables.functions ++ m.functions) = longer v.tables.functions m.functions in
      let near : k < length v.tables.functions = h.within in
      let same : function_at x.tables k ≡ function_at v.tables k = front_entry v.tables.functions m.functions k (record { arguments = []; result = boolean; role = theory.mapping }) near in
      record {
        within = omega (arith, near, long);
        arguments = sorts_behind v.sort_names m.sort_names f.arguments (function_at v.tables k).arguments h.arguments ∙ ap (λ (b : DeclaredFunction). Some b.arguments) (sym same);
        result = sort_behind v.sort_names m.sort_names f.result (function_at v.tables k).result h.result ∙ ap (λ (b : DeclaredFunction). Some b.result) (sym same);
        role = subst (IsRole w x f.result f.role) (ap (λ (b : DeclaredFunction). b.role) (sym same)) (role_kept f.result (function_at v.tables k).result h.result f.role (function_at v.tables k).role h.role);
      }

  each_now : (f : Name) → EachPair (IsFunction w x) (w.functions f) (all_named f x.function_names)
  each_now f =
      subst (EachPair (IsFunction w x) (w.functions f)) (sym (all_behind f v.function_names m.function_names))
      (pairs_behind (IsFunction w x) (u.functions f) (more f) (all_named f v.function_names) (all_named f m.function_names)
      (pairs_with (IsFunction u v) (IsFunction w x) function_kept (u.functions f) (all_named f v.function_names) (is.functions.each f)) (g.each f))

  functions_used_now : (k : ℕ) → k < length x.tables.functions → (f : Name) × Contains x.function_names (f, k)
  functions_used_now k h = side (near_or_far k (length v.tables.functions))
    where
      side : (k < length v.tables.functions) ⊎ (length v.tables.functions ≤ k) → (f : Name) × Contains x.function_names (f, k)
      side (inl near) = let f : (f : Name) × Contains v.function_names (f, k) = is.functions.no_more k near in (f.0, contains_behind v.function_names m.function_names (f.0, k) f.1)
      side (inr far) = let f : (f : Name) × Contains m.function_names (f, k) = g.functions_used k far h in (f.0, contains_after v.function_names m.function_names (f.0, k) f.1)

  -- ---- actions
  actions_now : (a : Name) → EachPair (AreSortsOf x) (w.actions a) (all_named a x.actions)
  actions_now a =
      subst (EachPair (AreSortsOf x) (w.actions a)) (sym (all_behind a v.actions m.actions))
      (pairs_behind (AreSortsOf x) (u.actions a) (acts a) (all_named a v.actions) (all_named a m.actions)
      (pairs_with (AreSortsOf v) (AreSortsOf x) (λ es ss h. sorts_behind v.sort_names m.sort_names es ss h) (u.actions a) (all_named a v.actions) (is.actions a)) (g.actions a))

  grown : IsVocabularyOf w x
  grown = record { sorts = sorts_grow; functions = record { each = each_now; no_more = functions_used_now; once = g.once }; actions = actions_now }

pub vocabularies_grow : VocabulariesGrow
vocabularies_grow u sort more acts v m is stand g = grown u sort more acts v m is stand g
