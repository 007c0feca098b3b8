-- The cycles of aliases are those of their graph.
use Rattle.std.proofs.Common.{◌≡◌, ◌<◌, ◌≤◌, ◌⊎◌, inl, inr, ℕ, zero, suc, true, List, [], ◌∷◌, length, map, refl, ap, sym, ◌∙◌, subst, arith}
use Rattle.std.specs.Prelude.{Option, Some, None, is_some, option_map, slice_get}
use Rattle.std.proofs.lemmas.Option.{none-some, same_Some}
use Rattle.std.proofs.lemmas.List.{length-map}
use Rattle.graphs.specs.Graphs.{IsPath, HasCycle}
use Rattle.graphs.specs.Cycles as graph
use Rattle.graphs.specs.Cycles.{IsBeforeOrSame, IsFirstPath}
use Rattle.sort_table.specs.Expressions.{Name}
use Rattle.sort_table.specs.NamedLists.{first_named}
use Rattle.sort_table.specs.BareDeclarations.{Declaration}
use Rattle.sort_table.specs.SortMeanings.{Kind, kinds_in}
use Rattle.sort_table.specs.SortCycles.{Refers, ReferOn, IsCycle, ComesFirst, place_of, places, rank_of, IsFirstCycle, NoCycle}
use Rattle.sort_table.specs.SortIndexes.{first_place}
use Rattle.sort_table.specs.AliasGraphs.{HasAliasEdge, AreNamesAt}
use Rattle.sort_table.proofs.AliasPlaces.{place_is, entry_at, refers_from_declared, edge_of_refer, EdgeNames, refer_of_edge}

abbrev Edge : List Declaration → ℕ → ℕ → Type 0
Edge ds = HasAliasEdge (kinds_in ds) (kinds_in ds)

abbrev at : List Declaration → Name → ℕ
at ds n = place_of n (kinds_in ds)

-- ---- from names to places
starts_declared : (ds : List Declaration) (first n : Name) (ms : List Name) → ReferOn ds first n ms → is_some (first_named n (kinds_in ds)) ≡ true
starts_declared ds first n [] h = refers_from_declared ds n first h
starts_declared ds first n (m ∷ ms) h = refers_from_declared ds n m h.0

path_of_names : (ds : List Declaration) (first n : Name) (ms : List Name) → is_some (first_named first (kinds_in ds)) ≡ true → ReferOn ds first n ms → IsPath (Edge ds) (at ds n) (map (at ds) ms) (at ds first)
path_of_names ds first n [] d h = edge_of_refer ds n first h d
path_of_names ds first n (m ∷ ms) d h = (edge_of_refer ds n m h.0 (starts_declared ds first m ms h.1), path_of_names ds first m ms d h.1)

cycle_path : (ds : List Declaration) (m : Name) (ms : List Name) → IsCycle ds (m ∷ ms) → IsPath (Edge ds) (at ds m) (map (at ds) ms) (at ds m)
cycle_path ds m ms h = path_of_names ds m m ms (starts_declared ds m m ms h) h

pub no_name_cycle : (ds : List Declaration) → ¬ (HasCycle (Edge ds)) → NoCycle ds
no_name_cycle ds none [] h = h
no_name_cycle ds none (m ∷ ms) h = none (at ds m, map (at ds) ms, cycle_path ds m ms h)

-- ---- from places to names
abbrev pub NameAt : List (Name × Kind) → ℕ → Name → Type 0
NameAt ks i n = (k : Kind) × (slice_get ks i ≡ Some (n, k))

name_there : (n : Name) (o : Option (Name × Kind)) → Some n ≡ option_map (λ (r : Name × Kind). r.0) o → (k : Kind) × (o ≡ Some (n, k))
name_there n None h = absurd (none-some n (sym h))
name_there n (Some r) h = let same : n ≡ r.0 = same_Some n r.0 h in (r.1, ap (λ (m : Name). Some (m, r.1)) (sym same))

one_name : (ks : List (Name × Kind)) (i : ℕ) (n m : Name) → NameAt ks i n → NameAt ks i m → n ≡ m
one_name ks i n m h k = ap (λ (r : Name × Kind). r.0) (same_Some (n, h.0) (m, k.0) (sym h.1 ∙ k.1))

names_tail : (ks : List (Name × Kind)) (x : ℕ) (xs : List ℕ) (n : Name) (ns : List Name) → AreNamesAt ks (x ∷ xs) (n ∷ ns) → NameAt ks x n × AreNamesAt ks xs ns
names_tail ks x xs n ns h =
    let head : Some n ≡ option_map (λ (r : Name × Kind). r.0) (slice_get ks x) = cc in
    let tail : AreNamesAt ks xs ns = cc in
    (name_there n (slice_get ks x) head, tail)

refers_between : (ds : List Declaration) (a b : ℕ) (n m : Name) → Edge ds a b → NameAt (kinds_in ds) a n → NameAt (kinds_in ds) b m → Refers ds n m
refers_between ds a b n m edge h k =
    let e : EdgeNames ds a b = refer_of_edge ds a b edge in
    let from : e.n ≡ n = one_name (kinds_in ds) a e.n n (entry_at e.n (kinds_in ds) a e.from) h in
    let to : e.m ≡ m = one_name (kinds_in ds) b e.m m (entry_at e.m (kinds_in ds) b e.to) k in
    subst (Refers ds n) to (subst (λ (l : Name). Refers ds l e.m) from e.refers)

pub names_of_path : (ds : List Declaration) (a : ℕ) (xs : List ℕ) (b : ℕ) (n last : Name) (ns : List Name) → IsPath (Edge ds) a xs b → NameAt (kinds_in ds) a n → NameAt (kinds_in ds) b last → AreNamesAt (kinds_in ds) xs ns → ReferOn ds last n ns
names_of_path ds a [] b n last [] path h k are = refers_between ds a b n last path h k
names_of_path ds a [] b n last (m ∷ ns) path h k are = let never : ⊥ = cc in absurd never
names_of_path ds a (x ∷ xs) b n last [] path h k are = let never : ⊥ = cc in absurd never
names_of_path ds a (x ∷ xs) b n last (m ∷ ns) path h k are =
    let t : NameAt (kinds_in ds) x m × AreNamesAt (kinds_in ds) xs ns = names_tail (kinds_in ds) x xs m ns are in
    (refers_between ds a x n m path.0 h t.0, names_of_path ds x xs b m last ns path.1 t.0 k t.1)

place_there : (ds : List Declaration) (a b : ℕ) (n : Name) → Edge ds a b → NameAt (kinds_in ds) a n → at ds n ≡ a
place_there ds a b n edge h =
    let e : EdgeNames ds a b = refer_of_edge ds a b edge in
    let from : e.n ≡ n = one_name (kinds_in ds) a e.n n (entry_at e.n (kinds_in ds) a e.from) h in
    place_is n (kinds_in ds) a (subst (λ (l : Name). first_place l (kinds_in ds) ≡ Some a) from e.from)

places_of_path : (ds : List Declaration) (a : ℕ) (xs : List ℕ) (b : ℕ) (n : Name) (ns : List Name) → IsPath (Edge ds) a xs b → NameAt (kinds_in ds) a n → AreNamesAt (kinds_in ds) xs ns → places ds (n ∷ ns) ≡ a ∷ xs
places_of_path ds a [] b n [] path h are = ap (λ (i : ℕ). i ∷ []) (place_there ds a b n path h)
places_of_path ds a [] b n (m ∷ ns) path h are = let never : ⊥ = cc in absurd never
places_of_path ds a (x ∷ xs) b n [] path h are = let never : ⊥ = cc in absurd never
places_of_path ds a (x ∷ xs) b n (m ∷ ns) path h are =
    let t : NameAt (kinds_in ds) x m × AreNamesAt (kinds_in ds) xs ns = names_tail (kinds_in ds) x xs m ns are in
    let rest : places ds (m ∷ ns) ≡ x ∷ xs = places_of_path ds x xs b m ns path.1 t.0 t.1 in
    let here : at ds n ≡ a = place_there ds a x n path.0 h in
    λ i. here i ∷ rest i

-- ---- the first cycle
comes_first : (xs ys : List ℕ) → IsBeforeOrSame xs ys → ComesFirst xs ys
comes_first [] ys h = tt
comes_first (x ∷ xs) [] h = absurd h
comes_first (x ∷ xs) (y ∷ ys) (inl less) = inl less
comes_first (x ∷ xs) (y ∷ ys) (inr (same, rest)) = inr (same, comes_first xs ys rest)

pub less_or_same : (a b : ℕ) → a ≤ b → (a < b) ⊎ (a ≡ b)
less_or_same zero zero h = inr refl
less_or_same zero (suc b) h = inl (omega arith)
less_or_same (suc a) zero h = let never : ⊥ = omega (arith, h) in absurd never
less_or_same (suc a) (suc b) h = or_suc a b (less_or_same a b (omega (arith, h)))
  where
    or_suc : (a b : ℕ) → (a < b) ⊎ (a ≡ b) → (suc a < suc b) ⊎ (suc a ≡ suc b)
    or_suc a b (inl l) = inl (omega (arith, l))
    or_suc a b (inr e) = inr (ap suc e)

abbrev ranked : List ℕ → List ℕ
ranked [] = 0 ∷ 0 ∷ []
ranked (i ∷ is) = i ∷ suc (length is) ∷ i ∷ is

rank_is : (ds : List Declaration) (n : Name) (ns : List Name) → rank_of ds (n ∷ ns) ≡ ranked (places ds (n ∷ ns))
rank_is ds n ns = ap (λ (l : ℕ). at ds n ∷ suc l ∷ places ds (n ∷ ns)) (sym (length-map ns (at ds)))

least_rank : (E : ℕ → ℕ → Type 0) (x : ℕ) (xs : List ℕ) (y : ℕ) (ys : List ℕ) → graph.IsFirstCycle E (x ∷ xs) → IsPath E y ys y → ComesFirst (ranked (x ∷ xs)) (ranked (y ∷ ys))
least_rank E x xs y ys first path = by_start (less_or_same x y (first.1 y ys path))
  where
    by_length : x ≡ y → IsPath E x ys x → (length xs < length ys) ⊎ (length xs ≡ length ys) → ComesFirst (ranked (x ∷ xs)) (ranked (y ∷ ys))
    by_length same p (inl less) = inr (same, inl (omega (arith, less)))
    by_length same p (inr e) = inr (same, inr (ap suc e, inr (same, comes_first xs ys (first.0.first ys p (sym e)))))

    by_start : (x < y) ⊎ (x ≡ y) → ComesFirst (ranked (x ∷ xs)) (ranked (y ∷ ys))
    by_start (inl less) = inl less
    by_start (inr same) =
        let p : IsPath E x ys x = subst (λ (i : ℕ). IsPath E i ys i) (sym same) path in
        by_length same p (less_or_same (length xs) (length ys) (first.0.shortest ys p))

pub first_of_names : (ds : List Declaration) (cycle : List ℕ) (ns : List Name) → graph.IsFirstCycle (Edge ds) cycle → AreNamesAt (kinds_in ds) cycle ns → IsFirstCycle ds ns
first_of_names ds [] ns first are = absurd first
first_of_names ds (x ∷ xs) [] first are = let never : ⊥ = cc in absurd never
first_of_names ds (x ∷ xs) (n ∷ ns) first are =
    let t : NameAt (kinds_in ds) x n × AreNamesAt (kinds_in ds) xs ns = names_tail (kinds_in ds) x xs n ns are in
    let on : places ds (n ∷ ns) ≡ x ∷ xs = places_of_path ds x xs x n ns first.0.path t.0 t.1 in
    (names_of_path ds x xs x n n ns first.0.path t.0 t.0 t.1, before on)
  where
    before : places ds (n ∷ ns) ≡ x ∷ xs → (ms : List Name) → IsCycle ds ms → ComesFirst (rank_of ds (n ∷ ns)) (rank_of ds ms)
    before on [] h = absurd h
    before on (m ∷ ms) h =
        subst (λ (l : List ℕ). ComesFirst l (rank_of ds (m ∷ ms))) (sym (rank_is ds n ns ∙ ap ranked on))
        (subst (λ (l : List ℕ). ComesFirst (ranked (x ∷ xs)) l) (sym (rank_is ds m ms)) (least_rank (Edge ds) x xs (at ds m) (map (at ds) ms) first (cycle_path ds m ms h)))
