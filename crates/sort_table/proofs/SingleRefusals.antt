-- A text is refused with one fault at most.
use Rattle.std.proofs.Common.{◌≡◌, ◌<◌, ◌≤◌, inl, inr, ℕ, zero, suc, Bool, true, false, cond, List, [], ◌∷◌, ◌++◌, length, refl, ap, sym, ◌∙◌, subst, arith}
use Rattle.std.specs.Prelude.{Some, bytes_eq}
use Rattle.std.specs.List.{Contains, AllByRecursion}
use Rattle.std.proofs.lemmas.Option.{none-some, same_Some}
use Rattle.std.proofs.lemmas.Slice.Eq.{bytes_eq-Decides}
use Rattle.sort_table.specs.Expressions.{Name}
use Rattle.sort_table.specs.BareSorts.{SortExpression}
use Rattle.sort_table.specs.BareDeclarations.{Declaration, alias, Section, declarations_in}
use Rattle.sort_table.specs.SortMeanings.{Kind, equal_to, kinds_by, kinds_in}
use Rattle.sort_table.specs.UnknownSorts.{unknown_in, HasKnownSorts, AllAreKnown, UsesUnknownSort}
use Rattle.sort_table.specs.SortCycles.{Refers, ReferOn, IsCycle, ComesFirst, place_of, places, first_of_list, rank_of, IsFirstCycle}
use Rattle.sort_table.specs.Duplicates.{DeclaresAgain, IsDuplicate}
use Rattle.sort_table.specs.EmptySorts.{IsEmptySort, IsFirstEmptySort}
use Rattle.sort_table.specs.Refusals.{unknown_sort, sort_cycle, duplicate, empty_sort, RefusalsAreSingle, SoundDeclarationsAreNotRefused}
use Rattle.sort_table.proofs.Growing.{contains_behind, contains_after}

-- ---- the first of a list
pub record SameFirst {A : Type 0} (fs gs : List A) (x y : A) : Type 0 where
  pub fronts : length fs ≡ length gs
  pub firsts : x ≡ y

head_is : {A : Type 0} (x y : A) (xs ys : List A) → x ∷ xs ≡ y ∷ ys → x ≡ y
head_is x y xs ys e = cc

tail_is : {A : Type 0} (x y : A) (xs ys : List A) → x ∷ xs ≡ y ∷ ys → xs ≡ ys
tail_is x y xs ys e = cc

first_is_one : {A : Type 0} (P : A → Type 0) (fs gs bs cs : List A) (x y : A) → fs ++ (x ∷ bs) ≡ gs ++ (y ∷ cs) → AllByRecursion (λ e. ¬ (P e)) fs → AllByRecursion (λ e. ¬ (P e)) gs → P x → P y → SameFirst fs gs x y
first_is_one P [] [] bs cs x y e a b p q = record { fronts = refl; firsts = head_is x y bs cs e }
first_is_one P [] (g ∷ gs) bs cs x y e a b p q = absurd (b.0 (subst P (head_is x g bs (gs ++ (y ∷ cs)) e) p))
first_is_one P (f ∷ fs) [] bs cs x y e a b p q = absurd (a.0 (subst P (sym (head_is f y (fs ++ (x ∷ bs)) cs e)) q))
first_is_one P (f ∷ fs) (g ∷ gs) bs cs x y e a b p q =
    let h : SameFirst fs gs x y = first_is_one P fs gs bs cs x y (tail_is f g (fs ++ (x ∷ bs)) (gs ++ (y ∷ cs)) e) a.1 b.1 p q in
    record { fronts = ap suc h.fronts; firsts = h.firsts }

-- ---- unknown sorts
abbrev HasUnknown : List Declaration → Declaration → Type 0
HasUnknown ds d = (n : Name) × (unknown_in ds d ≡ Some n)

known_has_none : (ds : List Declaration) (d : Declaration) → HasKnownSorts ds d → ¬ (HasUnknown ds d)
known_has_none ds d h u = none-some u.0 (sym h ∙ u.1)

none_has : (ds fs : List Declaration) → AllByRecursion (HasKnownSorts ds) fs → AllByRecursion (λ d. ¬ (HasUnknown ds d)) fs
none_has ds [] all = tt
none_has ds (f ∷ fs) all = (known_has_none ds f all.0, none_has ds fs all.1)

one_unknown : (ds : List Declaration) (i j : ℕ) (n m : Name) → UsesUnknownSort ds i n → UsesUnknownSort ds j m → unknown_sort i n ≡ unknown_sort j m
one_unknown ds i j n m h k =
    let same : SameFirst h.front k.front h.declaration k.declaration =
    first_is_one (HasUnknown ds) h.front k.front h.behind k.behind h.declaration k.declaration (sym h.text ∙ k.text) (none_has ds h.front h.known) (none_has ds k.front k.known) (n, h.unknown) (m, k.unknown) in
    let numbers : i ≡ j = h.place ∙ ap suc same.fronts ∙ sym k.place in
    let names : n ≡ m = same_Some n m (sym h.unknown ∙ ap (unknown_in ds) same.firsts ∙ k.unknown) in
    λ t. unknown_sort (numbers t) (names t)

known_there : (P : Declaration → Type 0) (fs bs : List Declaration) (d : Declaration) → AllByRecursion P (fs ++ (d ∷ bs)) → P d
known_there P [] bs d all = all.0
known_there P (f ∷ fs) bs d all = known_there P fs bs d all.1

not_unknown : (ds : List Declaration) (i : ℕ) (n : Name) → AllAreKnown ds → ¬ (UsesUnknownSort ds i n)
not_unknown ds i n all h = known_has_none ds h.declaration (known_there (HasKnownSorts ds) h.front h.behind h.declaration (subst (AllByRecursion (HasKnownSorts ds)) h.text all)) (n, h.unknown)

-- ---- cycles
both_first : (is js : List ℕ) → ComesFirst is js → ComesFirst js is → is ≡ js
both_first [] [] h k = refl
both_first [] (j ∷ js) h k = absurd k
both_first (i ∷ is) [] h k = absurd h
both_first (i ∷ is) (j ∷ js) (inl h) (inl k) = let never : ⊥ = omega (arith, h, k) in absurd never
both_first (i ∷ is) (j ∷ js) (inl h) (inr k) = let same : j ≡ i = k.0 in let never : ⊥ = omega (arith, h, same) in absurd never
both_first (i ∷ is) (j ∷ js) (inr h) (inl k) = let same : i ≡ j = h.0 in let never : ⊥ = omega (arith, k, same) in absurd never
both_first (i ∷ is) (j ∷ js) (inr h) (inr k) = let rest : is ≡ js = both_first is js h.1 k.1 in λ t. h.0 t ∷ rest t

-- the name stands in the list
abbrev IsNamedIn : List (Name × Kind) → Name → Type 0
IsNamedIn ks n = (k : Kind) × Contains ks (n, k)

less_one : (i j : ℕ) → suc i ≡ suc j → i ≡ j
less_one i j h = cc

one_name_at : (n m : Name) (ks : List (Name × Kind)) → IsNamedIn ks n → place_of n ks ≡ place_of m ks → n ≡ m
one_name_at n m [] (k, (i, l, e)) h = let never : ⊥ = omega (arith, l) in absurd never
one_name_at n m (r ∷ rs) among h = by_tests (bytes_eq r.0 n) (bytes_eq r.0 m) refl refl h (one_name_at n m rs) among
  where
    by_tests : (b c : Bool) → bytes_eq r.0 n ≡ b → bytes_eq r.0 m ≡ c → cond b 0 (suc (place_of n rs)) ≡ cond c 0 (suc (place_of m rs))
        → (IsNamedIn rs n → place_of n rs ≡ place_of m rs → n ≡ m) → IsNamedIn (r ∷ rs) n → n ≡ m
    by_tests true true p q h rest a = sym ((bytes_eq-Decides r.0 n).0 p) ∙ (bytes_eq-Decides r.0 m).0 q
    by_tests true false p q h rest a = cc
    by_tests false true p q h rest a = cc
    by_tests false false p q h rest (k, (zero, l, e)) =
        let here : r.0 ≡ n = ap (λ (x : Name × Kind). x.0) e in
        let told : true ≡ false = sym ((bytes_eq-Decides r.0 n).1 here) ∙ p in cc
    by_tests false false p q h rest (k, (suc i, l, e)) = let l2 : i < length rs = omega (arith, l) in rest (k, (i, l2, e)) (less_one (place_of n rs) (place_of m rs) h)

-- an alias is among the names
alias_is_named : (ds : List Declaration) (n : Name) (e : SortExpression) → Contains ds (alias n e) → IsNamedIn (kinds_in ds) n
alias_is_named [] n e (i, l, q) = let never : ⊥ = omega (arith, l) in absurd never
alias_is_named (d ∷ ds) n e (zero, l, q) = (equal_to e, contains_behind (kinds_by d) (kinds_in ds) (n, equal_to e) (subst (λ x. Contains (kinds_by x) (n, equal_to e)) (sym q) (0, omega arith, refl)))
alias_is_named (d ∷ ds) n e (suc i, l, q) =
    let m : i < length ds = omega (arith, l) in
    let rest : IsNamedIn (kinds_in ds) n = alias_is_named ds n e (i, m, q) in
    (rest.0, contains_after (kinds_by d) (kinds_in ds) (n, rest.0) rest.1)

refers_is_named : (ds : List Declaration) (n m : Name) → Refers ds n m → IsNamedIn (kinds_in ds) n
refers_is_named ds n m r = alias_is_named ds n r.0 r.1

all_named_in : (ds : List Declaration) (first n : Name) (ns : List Name) → ReferOn ds first n ns → AllByRecursion (IsNamedIn (kinds_in ds)) (n ∷ ns)
all_named_in ds first n [] r = (refers_is_named ds n first r, tt)
all_named_in ds first n (m ∷ ms) r = (refers_is_named ds n m r.0, all_named_in ds first m ms r.1)

one_list_at : (ds : List Declaration) (ns ms : List Name) → AllByRecursion (IsNamedIn (kinds_in ds)) ns → places ds ns ≡ places ds ms → ns ≡ ms
one_list_at ds [] [] all h = refl
one_list_at ds [] (m ∷ ms) all h = cc
one_list_at ds (n ∷ ns) [] all h = cc
one_list_at ds (n ∷ ns) (m ∷ ms) all h =
    let here : n ≡ m = one_name_at n m (kinds_in ds) all.0 (head_is (place_of n (kinds_in ds)) (place_of m (kinds_in ds)) (places ds ns) (places ds ms) h) in
    let rest : ns ≡ ms = one_list_at ds ns ms all.1 (tail_is (place_of n (kinds_in ds)) (place_of m (kinds_in ds)) (places ds ns) (places ds ms) h) in
    λ t. here t ∷ rest t

cycle_is_named : (ds : List Declaration) (ns : List Name) → IsCycle ds ns → AllByRecursion (IsNamedIn (kinds_in ds)) ns
cycle_is_named ds [] h = tt
cycle_is_named ds (n ∷ ns) h = all_named_in ds n n ns h

one_cycle : (ds : List Declaration) (ns ms : List Name) → IsFirstCycle ds ns → IsFirstCycle ds ms → ns ≡ ms
one_cycle ds ns ms h k =
    let ranks : rank_of ds ns ≡ rank_of ds ms = both_first (rank_of ds ns) (rank_of ds ms) (h.1 ms k.0) (k.1 ns h.0) in
    one_list_at ds ns ms (cycle_is_named ds ns h.0) (tail_is (length ns) (length ms) (places ds ns) (places ds ms) (tail_is (first_of_list (places ds ns)) (first_of_list (places ds ms)) (length ns ∷ places ds ns) (length ms ∷ places ds ms) ranks))

-- ---- duplicates
one_duplicate : (ss : List Section) (i j k l : ℕ) → IsDuplicate ss i j → IsDuplicate ss k l → duplicate i j ≡ duplicate k l
one_duplicate ss i j k l h g =
    let below : j ≤ l = h.least_second k l g.again in
    let above : l ≤ j = g.least_second i j h.again in
    let second : j ≡ l = omega (arith, below, above) in
    let under : i ≤ k = h.least_first k (subst (λ x. DeclaresAgain ss k x) (sym second) g.again) in
    let over : k ≤ i = g.least_first i (subst (λ x. DeclaresAgain ss i x) second h.again) in
    let first : i ≡ k = omega (arith, under, over) in
    λ t. duplicate (first t) (second t)

-- ---- empty sorts
one_empty : (ds : List Declaration) (n m : Name) → IsFirstEmptySort ds n → IsFirstEmptySort ds m → n ≡ m
one_empty ds n m h k =
    let same : SameFirst h.front k.front (n, h.kind) (m, k.kind) =
    first_is_one (λ (e : Name × Kind). IsEmptySort ds e.0) h.front k.front h.behind k.behind (n, h.kind) (m, k.kind) (sym h.names ∙ k.names) h.earlier k.earlier h.empty k.empty in
    ap (λ (e : Name × Kind). e.0) same.firsts

-- ---- all of them
pub refusals_are_single : RefusalsAreSingle
refusals_are_single ss (unknown_sort i n) (unknown_sort j m) h k = one_unknown (declarations_in ss) i j n m h k
refusals_are_single ss (unknown_sort i n) (sort_cycle ms) h k = absurd (not_unknown (declarations_in ss) i n k.0 h)
refusals_are_single ss (unknown_sort i n) (duplicate j l) h k = absurd (not_unknown (declarations_in ss) i n k.0 h)
refusals_are_single ss (unknown_sort i n) (empty_sort m) h k = absurd (not_unknown (declarations_in ss) i n k.0 h)
refusals_are_single ss (sort_cycle ns) (unknown_sort j m) h k = absurd (not_unknown (declarations_in ss) j m h.0 k)
refusals_are_single ss (sort_cycle ns) (sort_cycle ms) h k = ap sort_cycle (one_cycle (declarations_in ss) ns ms h.1 k.1)
refusals_are_single ss (sort_cycle ns) (duplicate j l) h k = absurd (k.1 ns h.1.0)
refusals_are_single ss (sort_cycle ns) (empty_sort m) h k = absurd (k.1 ns h.1.0)
refusals_are_single ss (duplicate i j) (unknown_sort l m) h k = absurd (not_unknown (declarations_in ss) l m h.0 k)
refusals_are_single ss (duplicate i j) (sort_cycle ms) h k = absurd (h.1 ms k.1.0)
refusals_are_single ss (duplicate i j) (duplicate k l) h g = one_duplicate ss i j k l h.2 g.2
refusals_are_single ss (duplicate i j) (empty_sort m) h k = absurd (k.2 i j h.2.again)
refusals_are_single ss (empty_sort n) (unknown_sort l m) h k = absurd (not_unknown (declarations_in ss) l m h.0 k)
refusals_are_single ss (empty_sort n) (sort_cycle ms) h k = absurd (h.1 ms k.1.0)
refusals_are_single ss (empty_sort n) (duplicate i j) h k = absurd (h.2 i j k.2.again)
refusals_are_single ss (empty_sort n) (empty_sort m) h k = ap empty_sort (one_empty (declarations_in ss) n m h.3 k.3)

pub sound_declarations_are_not_refused : SoundDeclarationsAreNotRefused
sound_declarations_are_not_refused ss (unknown_sort i n) s h = not_unknown (declarations_in ss) i n s.known h
sound_declarations_are_not_refused ss (sort_cycle ns) s h = s.no_cycle ns h.1.0
sound_declarations_are_not_refused ss (duplicate i j) s h = s.once i j h.2.again
sound_declarations_are_not_refused ss (empty_sort n) s h = s.inhabited n h.3.empty
