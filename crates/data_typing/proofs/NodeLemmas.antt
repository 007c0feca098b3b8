-- What the loops over nodes keep.
use Rattle.std.proofs.Common.{◌≡◌, ◌≢◌, ◌<◌, ◌≤◌, ◌+◌, ℕ, zero, suc, Bool, true, false, cond, ◌&&◌, List, [], ◌∷◌, ◌++◌, length, map, drop, get_or, refl, sym, ap, ◌∙◌, arith, ◌⊎◌, inl, inr}
use Rattle.data_typing.specs.declared.flat_sorts.FlatSort.{FlatSort}
use Rattle.data_typing.specs.declared.flat_sorts.SortPlace.{SortPlace}
use Rattle.data_theory.specs.Terms.{Sort}
use Rattle.data_typing.specs.Typings.{over, Place}
use Rattle.data_typing.specs.Plans.{first_sort}
use Rattle.data_typing.specs.Sortings.{Sorting, no_sorting, all_same, all_check, all_check_over, each_checks, is_at, fits_in, Profile, result_where, first_exact_sort, AnyProfile, first_told}
use Rattle.data_typing.specs.FlatSorts.{flat_sort, place_of}
use Rattle.data_typing.specs.declared.nodes.Overload as code
use Rattle.data_typing.specs.declared.nodes.Kind.{Kind}
use Rattle.data_typing.specs.declared.nodes.Kind.TheVariants as kinds
use Rattle.data_typing.specs.declared.nodes.Node.{Node}
use Rattle.data_typing.specs.Nodes.{profile_of, kind_sorting, checks_by, sorting_at, sortings_at, node_sorting, values_at, values_behind, sortings, AreBelow, AreNodesFrom, AreNodes, AreKnown}
use Rattle.std.specs.Prelude.{Option, Some, None, IfOk, Result, option_map}
use Rattle.std.specs.Option.{option_or}
use Rattle.std.proofs.Common.{subst, length-append}
use Rattle.std.proofs.lemmas.List.{drop_more, drop_all, get_or_append_left}

-- ---- lengths
false_behind : (b c : Bool) → c ≡ false → b && c ≡ false
false_behind true c e = e
false_behind false c e = refl

same_lengths_of : (ts : List Sorting) (ss : List FlatSort) (ks : List ℕ) → length ks ≢ length ss → all_same (map flat_sort ss) (sortings_at ts ks) ≡ false
same_lengths_of ts [] [] n = absurd (n refl)
same_lengths_of ts [] (k ∷ ks) n = refl
same_lengths_of ts (s ∷ ss) [] n = refl
same_lengths_of ts (s ∷ ss) (k ∷ ks) n = false_behind (is_at (flat_sort s) (sorting_at ts k).infers) (all_same (map flat_sort ss) (sortings_at ts ks)) (same_lengths_of ts ss ks (λ e. n (ap suc e)))

pub same_lengths : (ts : List Sorting) (ss : List FlatSort) (ks : List ℕ) → length ks ≢ length ss → false ≡ all_same (map flat_sort ss) (sortings_at ts ks)
same_lengths ts ss ks n = sym (same_lengths_of ts ss ks n)

check_lengths_of : (ts : List Sorting) (s : Sort) (ps : List SortPlace) (ks : List ℕ) → length ks ≢ length ps → all_check_over (map place_of ps) (sortings_at ts ks) s ≡ false
check_lengths_of ts s [] [] n = absurd (n refl)
check_lengths_of ts s [] (k ∷ ks) n = refl
check_lengths_of ts s (p ∷ ps) [] n = refl
check_lengths_of ts s (p ∷ ps) (k ∷ ks) n = false_behind ((sorting_at ts k).checks (over s (place_of p))) (all_check_over (map place_of ps) (sortings_at ts ks) s) (check_lengths_of ts s ps ks (λ e. n (ap suc e)))

pub check_lengths : (ts : List Sorting) (s : Sort) (ps : List SortPlace) (ks : List ℕ) → length ks ≢ length ps → false ≡ all_check_over (map place_of ps) (sortings_at ts ks) s
check_lengths ts s ps ks n = sym (check_lengths_of ts s ps ks n)

-- ---- a turn of a loop
false_in_front : (b c : Bool) → b ≡ false → b && c ≡ false
false_in_front b c e = ap (λ x. x && c) e

true_in_front : (b c : Bool) → b ≡ true → b && c ≡ c
true_in_front b c e = ap (λ x. x && c) e

both_dropped : {A B C : Type 0} (F : List A → List B → C) (xs : List A) (ys : List B) (i : ℕ) (x : A) (y : B) → i < length xs → i < length ys → F (drop i xs) (drop i ys) ≡ F (get_or xs i x ∷ drop (i + 1) xs) (get_or ys i y ∷ drop (i + 1) ys)
both_dropped F xs ys i x y h k = ap (λ l. F l (drop i ys)) (drop_more xs i x h) ∙ ap (F (get_or xs i x ∷ drop (i + 1) xs)) (drop_more ys i y k)

pub same_stops : (ts : List Sorting) (ss : List FlatSort) (ks : List ℕ) (i : ℕ) (d : FlatSort) → i < length ss → i < length ks
    → all_same (map flat_sort ss) (sortings_at ts ks) ≡ all_same (map flat_sort (drop i ss)) (sortings_at ts (drop i ks))
    → is_at (flat_sort (get_or ss i d)) (sorting_at ts (get_or ks i 0)).infers ≡ false → false ≡ all_same (map flat_sort ss) (sortings_at ts ks)
same_stops ts ss ks i d h k e q =
    sym (e ∙ both_dropped (λ rs js. all_same (map flat_sort rs) (sortings_at ts js)) ss ks i d 0 h k
    ∙ false_in_front (is_at (flat_sort (get_or ss i d)) (sorting_at ts (get_or ks i 0)).infers) (all_same (map flat_sort (drop (i + 1) ss)) (sortings_at ts (drop (i + 1) ks))) q)

pub same_goes_on : (ts : List Sorting) (ss : List FlatSort) (ks : List ℕ) (i : ℕ) (d : FlatSort) → i < length ss → i < length ks
    → all_same (map flat_sort ss) (sortings_at ts ks) ≡ all_same (map flat_sort (drop i ss)) (sortings_at ts (drop i ks))
    → is_at (flat_sort (get_or ss i d)) (sorting_at ts (get_or ks i 0)).infers ≡ true
    → all_same (map flat_sort ss) (sortings_at ts ks) ≡ all_same (map flat_sort (drop (i + 1) ss)) (sortings_at ts (drop (i + 1) ks))
same_goes_on ts ss ks i d h k e q =
    e ∙ both_dropped (λ rs js. all_same (map flat_sort rs) (sortings_at ts js)) ss ks i d 0 h k
    ∙ true_in_front (is_at (flat_sort (get_or ss i d)) (sorting_at ts (get_or ks i 0)).infers) (all_same (map flat_sort (drop (i + 1) ss)) (sortings_at ts (drop (i + 1) ks))) q

pub check_stops : (ts : List Sorting) (s : Sort) (ps : List SortPlace) (ks : List ℕ) (i : ℕ) (d : SortPlace) → i < length ps → i < length ks
    → all_check_over (map place_of ps) (sortings_at ts ks) s ≡ all_check_over (map place_of (drop i ps)) (sortings_at ts (drop i ks)) s
    → (sorting_at ts (get_or ks i 0)).checks (over s (place_of (get_or ps i d))) ≡ false → false ≡ all_check_over (map place_of ps) (sortings_at ts ks) s
check_stops ts s ps ks i d h k e q =
    sym (e ∙ both_dropped (λ rs js. all_check_over (map place_of rs) (sortings_at ts js) s) ps ks i d 0 h k
    ∙ false_in_front ((sorting_at ts (get_or ks i 0)).checks (over s (place_of (get_or ps i d)))) (all_check_over (map place_of (drop (i + 1) ps)) (sortings_at ts (drop (i + 1) ks)) s) q)

pub check_goes_on : (ts : List Sorting) (s : Sort) (ps : List SortPlace) (ks : List ℕ) (i : ℕ) (d : SortPlace) → i < length ps → i < length ks
    → all_check_over (map place_of ps) (sortings_at ts ks) s ≡ all_check_over (map place_of (drop i ps)) (sortings_at ts (drop i ks)) s
    → (sorting_at ts (get_or ks i 0)).checks (over s (place_of (get_or ps i d))) ≡ true
    → all_check_over (map place_of ps) (sortings_at ts ks) s ≡ all_check_over (map place_of (drop (i + 1) ps)) (sortings_at ts (drop (i + 1) ks)) s
check_goes_on ts s ps ks i d h k e q =
    e ∙ both_dropped (λ rs js. all_check_over (map place_of rs) (sortings_at ts js) s) ps ks i d 0 h k
    ∙ true_in_front ((sorting_at ts (get_or ks i 0)).checks (over s (place_of (get_or ps i d)))) (all_check_over (map place_of (drop (i + 1) ps)) (sortings_at ts (drop (i + 1) ks)) s) q

pub each_stops : (ts : List Sorting) (s : Sort) (ks : List ℕ) (i : ℕ) → i < length ks
    → each_checks (sortings_at ts ks) s ≡ each_checks (sortings_at ts (drop i ks)) s → (sorting_at ts (get_or ks i 0)).checks s ≡ false → false ≡ each_checks (sortings_at ts ks) s
each_stops ts s ks i k e q =
    sym (e ∙ ap (λ js. each_checks (sortings_at ts js) s) (drop_more ks i 0 k) ∙ false_in_front ((sorting_at ts (get_or ks i 0)).checks s) (each_checks (sortings_at ts (drop (i + 1) ks)) s) q)

pub each_goes_on : (ts : List Sorting) (s : Sort) (ks : List ℕ) (i : ℕ) → i < length ks
    → each_checks (sortings_at ts ks) s ≡ each_checks (sortings_at ts (drop i ks)) s → (sorting_at ts (get_or ks i 0)).checks s ≡ true
    → each_checks (sortings_at ts ks) s ≡ each_checks (sortings_at ts (drop (i + 1) ks)) s
each_goes_on ts s ks i k e q =
    e ∙ ap (λ js. each_checks (sortings_at ts js) s) (drop_more ks i 0 k) ∙ true_in_front ((sorting_at ts (get_or ks i 0)).checks s) (each_checks (sortings_at ts (drop (i + 1) ks)) s) q

pub exact_stops : (ts : List Sorting) (fs : List code.Overload) (i : ℕ) (f : code.Overload) → i < length fs → f ≡ get_or fs i f
    → first_exact_sort ts (map profile_of fs) ≡ first_exact_sort ts (map profile_of (drop i fs)) → all_same (map flat_sort f.arguments.items) ts ≡ true
    → Some (flat_sort f.result) ≡ first_exact_sort ts (map profile_of fs)
exact_stops ts fs i f h is e q =
    let F : code.Overload → Option Sort = λ g. option_or (result_where (λ (p : Profile). all_same p.arguments ts) (profile_of g)) (first_exact_sort ts (map profile_of (drop (i + 1) fs))) in
    sym (e ∙ ap (λ gs. first_exact_sort ts (map profile_of gs)) (drop_more fs i f h) ∙ ap F (sym is)
    ∙ ap (λ b. option_or (cond b (Some (flat_sort f.result)) None) (first_exact_sort ts (map profile_of (drop (i + 1) fs)))) q)

pub exact_goes_on : (ts : List Sorting) (fs : List code.Overload) (i : ℕ) (f : code.Overload) → i < length fs → f ≡ get_or fs i f
    → first_exact_sort ts (map profile_of fs) ≡ first_exact_sort ts (map profile_of (drop i fs)) → all_same (map flat_sort f.arguments.items) ts ≡ false
    → first_exact_sort ts (map profile_of fs) ≡ first_exact_sort ts (map profile_of (drop (i + 1) fs))
exact_goes_on ts fs i f h is e q =
    let F : code.Overload → Option Sort = λ g. option_or (result_where (λ (p : Profile). all_same p.arguments ts) (profile_of g)) (first_exact_sort ts (map profile_of (drop (i + 1) fs))) in
    e ∙ ap (λ gs. first_exact_sort ts (map profile_of gs)) (drop_more fs i f h) ∙ ap F (sym is)
    ∙ ap (λ b. option_or (cond b (Some (flat_sort f.result)) None) (first_exact_sort ts (map profile_of (drop (i + 1) fs)))) q

-- ---- numbers below a limit
pub below_at : (n : ℕ) (ks : List ℕ) (i : ℕ) → AreBelow n ks → i < length ks → get_or ks i 0 < n
below_at n [] i all h = let never : ⊥ = omega arith in absurd never
below_at n (k ∷ ks) zero all h = all.0
below_at n (k ∷ ks) (suc i) all h = let l : i < length ks = omega arith in below_at n ks i all.1 l

-- ---- values of nodes
module _ {A : Type 0} (z : A) (f : Kind → List A → A) where
  abbrev own : List A → Node → A
  own xs n = f n.kind (values_at z xs n.arguments.items)

  pub front_kept : (xs : List A) (ns : List Node) (k : ℕ) → k < length xs → get_or (values_behind z f xs ns) k z ≡ get_or xs k z
  front_kept xs [] k h = refl
  front_kept xs (n ∷ ns) k h =
      let longer : k < length (xs ++ own xs n ∷ []) = omega (arith, length-append xs (own xs n ∷ [])) in
      front_kept (xs ++ own xs n ∷ []) ns k longer ∙ get_or_append_left xs (own xs n ∷ []) z k h

  parts_kept : (xs : List A) (ns : List Node) (ks : List ℕ) → AreBelow (length xs) ks → values_at z (values_behind z f xs ns) ks ≡ values_at z xs ks
  parts_kept xs ns [] all = refl
  parts_kept xs ns (k ∷ ks) all = ap (λ x. x ∷ values_at z (values_behind z f xs ns) ks) (front_kept xs ns k all.0) ∙ ap (λ l. get_or xs k z ∷ l) (parts_kept xs ns ks all.1)

  pub pushed_last : (xs : List A) (x : A) → get_or (xs ++ x ∷ []) (length xs) z ≡ x
  pushed_last [] x = refl
  pushed_last (y ∷ xs) x = pushed_last xs x

  pub value_from : (xs : List A) (j : ℕ) (ns : List Node) → AreNodesFrom j ns → length xs ≡ j → (i m : ℕ) (n : Node) → i ≡ j + m → m < length ns → n ≡ get_or ns m n
      → get_or (values_behind z f xs ns) i z ≡ own (values_behind z f xs ns) n
  value_from xs j [] are e i m n q h is = let never : ⊥ = omega arith in absurd never
  value_from xs j (x ∷ ns) are e i zero n q h is =
      let here : i ≡ length xs = omega arith in
      let longer : length xs < length (xs ++ own xs x ∷ []) = omega (arith, length-append xs (own xs x ∷ [])) in
      let below : AreBelow (length xs) x.arguments.items = subst (λ k. AreBelow k x.arguments.items) (sym e) are.0 in
      ap (λ k. get_or (values_behind z f xs (x ∷ ns)) k z) here
      ∙ front_kept (xs ++ own xs x ∷ []) ns (length xs) longer
      ∙ pushed_last xs (own xs x)
      ∙ ap (f x.kind) (sym (parts_kept xs (x ∷ ns) x.arguments.items below))
      ∙ ap (own (values_behind z f xs (x ∷ ns))) (sym is)
  value_from xs j (x ∷ ns) are e i (suc m) n q h is =
      let longer : length (xs ++ own xs x ∷ []) ≡ j + 1 = omega (arith, length-append xs (own xs x ∷ [])) in
      value_from (xs ++ own xs x ∷ []) (j + 1) ns are.1 longer i m n (omega arith) (omega arith) is

  pub one_behind : (xs : List A) (ns : List Node) (n : Node) → values_behind z f xs (ns ++ n ∷ []) ≡ values_behind z f xs ns ++ own (values_behind z f xs ns) n ∷ []
  one_behind xs [] n = refl
  one_behind xs (x ∷ ns) n = one_behind (xs ++ own xs x ∷ []) ns n

pub sorting_there : (ns : List Node) → AreNodes ns → (i : ℕ) (n : Node) → i < length ns → n ≡ get_or ns i n → sorting_at (sortings ns) i ≡ node_sorting (sortings ns) n
unfolding sortings AreNodes
sorting_there ns are i n h is = value_from no_sorting kind_sorting [] 0 ns are refl i i n (omega arith) h is

below_from : (j : ℕ) (ns : List Node) → AreNodesFrom j ns → (i m : ℕ) (n : Node) → i ≡ j + m → m < length ns → n ≡ get_or ns m n → AreBelow i n.arguments.items
below_from j [] are i m n q h is = let never : ⊥ = omega arith in absurd never
below_from j (x ∷ ns) are i zero n q h is = let here : j ≡ i = omega arith in subst (λ k. AreBelow k n.arguments.items) here (subst (λ (y : Node). AreBelow j y.arguments.items) (sym is) are.0)
below_from j (x ∷ ns) are i (suc m) n q h is = below_from (j + 1) ns are.1 i m n (omega arith) (omega arith) is

pub parts_below : (ns : List Node) → AreNodes ns → (i : ℕ) (n : Node) → i < length ns → n ≡ get_or ns i n → AreBelow i n.arguments.items
unfolding AreNodes
parts_below ns are i n h is = below_from 0 ns are i i n (omega arith) h is

-- ---- what a node checks
kinds_check : (k : Kind) (ts : List Sorting) (s : Sort) → (kind_sorting k ts).checks s ≡ cond (checks_by k ts s) true (fits_in s (kind_sorting k ts).infers)
kinds_check (kinds.Variable v r) ts s = refl
kinds_check (kinds.Numeral n) ts s = refl
kinds_check (kinds.Call fs) ts s = refl
kinds_check kinds.List ts s = refl

pub checks_there : (ns : List Node) → AreNodes ns → (i : ℕ) (n : Node) → i < length ns → n ≡ get_or ns i n → (s : Sort) (b : Bool) → b ≡ checks_by n.kind (sortings_at (sortings ns) n.arguments.items) s
    → (sorting_at (sortings ns) i).checks s ≡ cond b true (fits_in s (sorting_at (sortings ns) i).infers)
checks_there ns are i n h is s b e =
    let there : sorting_at (sortings ns) i ≡ node_sorting (sortings ns) n = sorting_there ns are i n h is in
    ap (λ (t : Sorting). t.checks s) there ∙ kinds_check n.kind (sortings_at (sortings ns) n.arguments.items) s
    ∙ ap (λ x. cond x true (fits_in s (node_sorting (sortings ns) n).infers)) (sym e) ∙ ap (λ (t : Sorting). cond b true (fits_in s t.infers)) (sym there)

pub checks_by_wanted : (ns : List Node) → AreNodes ns → (i : ℕ) (n : Node) → i < length ns → n ≡ get_or ns i n → (s : Sort) (b : Bool) → b ≡ checks_by n.kind (sortings_at (sortings ns) n.arguments.items) s
    → b ≡ true → true ≡ (sorting_at (sortings ns) i).checks s
checks_by_wanted ns are i n h is s b e q = sym (checks_there ns are i n h is s b e ∙ ap (λ x. cond x true (fits_in s (sorting_at (sortings ns) i).infers)) q)

pub checks_by_inferred : (ns : List Node) → AreNodes ns → (i : ℕ) (n : Node) → i < length ns → n ≡ get_or ns i n → (s : Sort) (b : Bool) → b ≡ checks_by n.kind (sortings_at (sortings ns) n.arguments.items) s
    → b ≡ false → (o : Option FlatSort) → option_map flat_sort o ≡ (sorting_at (sortings ns) i).infers → fits_in s (option_map flat_sort o) ≡ (sorting_at (sortings ns) i).checks s
checks_by_inferred ns are i n h is s b e q o told =
    sym (checks_there ns are i n h is s b e ∙ ap (λ x. cond x true (fits_in s (sorting_at (sortings ns) i).infers)) q ∙ ap (fits_in s) (sym told))

pub ok_along : {A E : Type 0} (r : Result A E) (x y : A) → x ≡ y → IfOk r (λ b. b ≡ x) → IfOk r (λ b. b ≡ y)
ok_along r x y e h = subst (λ z. IfOk r (λ b. b ≡ z)) e h

-- ---- fixed sorts
sort_check_lengths_of : (ts : List Sorting) (ss : List FlatSort) (ks : List ℕ) → length ks ≢ length ss → all_check (map flat_sort ss) (sortings_at ts ks) ≡ false
sort_check_lengths_of ts [] [] n = absurd (n refl)
sort_check_lengths_of ts [] (k ∷ ks) n = refl
sort_check_lengths_of ts (s ∷ ss) [] n = refl
sort_check_lengths_of ts (s ∷ ss) (k ∷ ks) n = false_behind ((sorting_at ts k).checks (flat_sort s)) (all_check (map flat_sort ss) (sortings_at ts ks)) (sort_check_lengths_of ts ss ks (λ e. n (ap suc e)))

pub sort_check_lengths : (ts : List Sorting) (ss : List FlatSort) (ks : List ℕ) → length ks ≢ length ss → false ≡ all_check (map flat_sort ss) (sortings_at ts ks)
sort_check_lengths ts ss ks n = sym (sort_check_lengths_of ts ss ks n)

-- ---- candidates
pub none_told : (all : List Sorting) (c : AnyProfile) (ps : List Place) → first_told all c ps [] ≡ None
none_told all c [] = refl
none_told all c (p ∷ ps) = refl

pub told_ends : (all ts : List Sorting) (c : AnyProfile) (ps : List SortPlace) (ks : List ℕ) (i : ℕ) → length ks ≤ i
    → first_told all c (map place_of ps) (sortings_at ts ks) ≡ first_told all c (map place_of (drop i ps)) (sortings_at ts (drop i ks)) → None ≡ first_told all c (map place_of ps) (sortings_at ts ks)
told_ends all ts c ps ks i h e = sym (e ∙ ap (λ js. first_told all c (map place_of (drop i ps)) (sortings_at ts js)) (drop_all i ks h) ∙ none_told all c (map place_of (drop i ps)))

-- ---- what is known
last_known : {A : Type 0} (xs : List A) (x d : A) → get_or (xs ++ x ∷ []) (length xs) d ≡ x
last_known [] x d = refl
last_known (y ∷ xs) x d = last_known xs x d

told_pushed : (ns : List Node) (known : List (Option FlatSort)) (o : Option FlatSort) → AreKnown ns known → option_map flat_sort o ≡ (sorting_at (sortings ns) (length known)).infers
    → (k : ℕ) → (k < length known) ⊎ (k ≡ length known) → option_map flat_sort (get_or (known ++ o ∷ []) k None) ≡ (sorting_at (sortings ns) k).infers
told_pushed ns known o h e k (inl l) = ap (option_map flat_sort) (get_or_append_left known (o ∷ []) None k l) ∙ h.told k l
told_pushed ns known o h e k (inr q) =
    ap (λ j. option_map flat_sort (get_or (known ++ o ∷ []) j None)) q ∙ ap (option_map flat_sort) (last_known known o None) ∙ e ∙ ap (λ j. (sorting_at (sortings ns) j).infers) (sym q)

below_or_last : (k n : ℕ) → k < n + 1 → (k < n) ⊎ (k ≡ n)
below_or_last zero zero h = inr refl
below_or_last zero (suc n) h = inl (omega arith)
below_or_last (suc k) zero h = let never : ⊥ = omega arith in absurd never
below_or_last (suc k) (suc n) h = one_more (below_or_last k n (omega arith))
  where
    one_more : (k < n) ⊎ (k ≡ n) → (suc k < suc n) ⊎ (suc k ≡ suc n)
    one_more (inl l) = inl (omega arith)
    one_more (inr l) = inr (omega arith)

pub known_pushed : (ns : List Node) (known : List (Option FlatSort)) (i : ℕ) (n : Node) (o : Option FlatSort) → AreKnown ns known → length known ≡ i → i < length ns → n ≡ get_or ns i n
    → option_map flat_sort o ≡ (node_sorting (sortings ns) n).infers → AreKnown ns (known ++ o ∷ [])
known_pushed ns known i n o h at l is e =
    let last : length known < length ns = omega arith in
    let here : n ≡ get_or ns (length known) n = subst (λ k. n ≡ get_or ns k n) (sym at) is in
    let told : option_map flat_sort o ≡ (sorting_at (sortings ns) (length known)).infers = e ∙ ap (λ (t : Sorting). t.infers) (sym (sorting_there ns h.nodes (length known) n last here)) in
    record {
      nodes = h.nodes;
      within = omega (arith, length-append known (o ∷ []));
      told = λ k q. told_pushed ns known o h told k (below_or_last k (length known) (omega (arith, q, length-append known (o ∷ []))));
    }

pub none_known : (ns : List Node) → AreNodes ns → AreKnown ns []
none_known ns are = record { nodes = are; within = omega arith; told = λ k h. let never : ⊥ = omega (arith, h) in absurd never }

pub told_along : {E : Type 0} (r : Result (Option FlatSort) E) (x y : Option Sort) → x ≡ y → IfOk r (λ o. option_map flat_sort o ≡ x) → IfOk r (λ o. option_map flat_sort o ≡ y)
told_along r x y e h = subst (λ z. IfOk r (λ o. option_map flat_sort o ≡ z)) e h

-- ---- nodes behind others
nodes_from_behind : (j k : ℕ) (ns : List Node) (n : Node) → k ≡ j + length ns → AreNodesFrom j ns → AreBelow k n.arguments.items → AreNodesFrom j (ns ++ n ∷ [])
nodes_from_behind j k [] n e are h = let here : k ≡ j = omega arith in (subst (λ i. AreBelow i n.arguments.items) here h, tt)
nodes_from_behind j k (x ∷ ns) n e are h = (are.0, nodes_from_behind (j + 1) k ns n (omega arith) are.1 h)

pub nodes_behind : (ns : List Node) (n : Node) → AreNodes ns → AreBelow (length ns) n.arguments.items → AreNodes (ns ++ n ∷ [])
unfolding AreNodes
nodes_behind ns n are h = nodes_from_behind 0 (length ns) ns n (omega arith) are h

pub no_nodes : AreNodes []
unfolding AreNodes
no_nodes = tt

-- ---- plans
none_sorted : (all : List Sorting) (c : AnyProfile) (ps : List Place) → first_sort all c ps [] ≡ None
none_sorted all c [] = refl
none_sorted all c (p ∷ ps) = refl

pub sort_told_ends : (all ts : List Sorting) (c : AnyProfile) (ps : List SortPlace) (ks : List ℕ) (i : ℕ) → length ks ≤ i
    → first_sort all c (map place_of ps) (sortings_at ts ks) ≡ first_sort all c (map place_of (drop i ps)) (sortings_at ts (drop i ks)) → None ≡ first_sort all c (map place_of ps) (sortings_at ts ks)
sort_told_ends all ts c ps ks i h e = sym (e ∙ ap (λ js. first_sort all c (map place_of (drop i ps)) (sortings_at ts js)) (drop_all i ks h) ∙ none_sorted all c (map place_of (drop i ps)))
