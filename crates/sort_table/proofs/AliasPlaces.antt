-- The places of declared names, and the edges between them.
use Rattle.std.proofs.Common.{◌≡◌, ◌<◌, ℕ, zero, suc, Bool, true, false, cond, List, [], ◌∷◌, ◌++◌, length, refl, ap, sym, ◌∙◌, subst, arith}
use Rattle.std.specs.Prelude.{Option, Some, None, is_some, option_map, option_and_then, slice_get, bytes_eq}
use Rattle.std.specs.List.{Contains}
use Rattle.std.proofs.lemmas.Option.{none-some, same_Some, slice_get_within}
use Rattle.std.proofs.lemmas.Slice.Eq.{bytes_eq-Decides}
use Rattle.sort_table.specs.Expressions.{Name}
use Rattle.sort_table.specs.NamedLists.{first_named}
use Rattle.sort_table.specs.BareSorts.{SortExpression}
use Rattle.sort_table.specs.BareDeclarations.{Declaration, alias}
use Rattle.sort_table.specs.SortMeanings.{Kind, alone, a_struct, equal_to, kinds_by, kinds_in}
use Rattle.sort_table.specs.UnknownSorts.{name_in}
use Rattle.sort_table.specs.SortCycles.{Refers, place_of}
use Rattle.sort_table.specs.SortIndexes.{first_place}
use Rattle.sort_table.specs.UsedNames.{leaf_of}
use Rattle.sort_table.specs.AliasGraphs.{edge_through, edge_by, HasAliasEdge}
use Rattle.sort_table.proofs.IndexPlaces.{placed}
use Rattle.sort_table.proofs.UsedNameLemmas.{no_leaf, its_leaf}
use Rattle.sort_table.proofs.Growing.{contains_behind, contains_after}
use Rattle.sort_table.proofs.StandingNames.{alias_stands}

-- ---- places
place_or_none : (n : Name) (ks : List (Name × Kind)) → first_place n ks ≡ cond (is_some (first_named n ks)) (Some (place_of n ks)) None
place_or_none n [] = refl
place_or_none n (k ∷ ks) = by_test (bytes_eq k.0 n) (first_place n ks) (first_named n ks) (place_of n ks) (place_or_none n ks)
  where
    by_option : (p : Option Kind) (i : ℕ) → option_map suc (cond (is_some p) (Some i) None) ≡ cond (is_some p) (Some (suc i)) None
    by_option None i = refl
    by_option (Some x) i = refl

    by_test : (b : Bool) (o : Option ℕ) (p : Option Kind) (i : ℕ) → o ≡ cond (is_some p) (Some i) None → cond b (Some 0) (option_map suc o) ≡ cond (is_some (cond b (Some k.1) p)) (Some (cond b 0 (suc i))) None
    by_test true o p i h = refl
    by_test false o p i h = ap (option_map suc) h ∙ by_option p i

pub declared_place : (n : Name) (ks : List (Name × Kind)) → is_some (first_named n ks) ≡ true → first_place n ks ≡ Some (place_of n ks)
declared_place n ks h = place_or_none n ks ∙ ap (λ (b : Bool). cond b (Some (place_of n ks)) None) h

pub place_is : (n : Name) (ks : List (Name × Kind)) (i : ℕ) → first_place n ks ≡ Some i → place_of n ks ≡ i
place_is n ks i h = same_Some (place_of n ks) i (sym (declared_place n ks (sym (placed n ks) ∙ ap is_some h)) ∙ h)

under_suc : (o : Option ℕ) (i : ℕ) → option_map suc o ≡ Some i → (j : ℕ) × (o ≡ Some j) × (i ≡ suc j)
under_suc None i h = absurd (none-some i h)
under_suc (Some j) i h = (j, refl, sym (same_Some (suc j) i h))

-- at the first place of a name stands an entry of this name
pub entry_at : (n : Name) (ks : List (Name × Kind)) (i : ℕ) → first_place n ks ≡ Some i → (k : Kind) × (slice_get ks i ≡ Some (n, k))
entry_at n [] i h = absurd (none-some i h)
entry_at n (r ∷ ks) i h = by_test (bytes_eq r.0 n) refl h (entry_at n ks)
  where
    by_test : (b : Bool) → bytes_eq r.0 n ≡ b → cond b (Some 0) (option_map suc (first_place n ks)) ≡ Some i → ((j : ℕ) → first_place n ks ≡ Some j → (k : Kind) × (slice_get ks j ≡ Some (n, k))) → (k : Kind) × (slice_get (r ∷ ks) i ≡ Some (n, k))
    by_test true e g f =
        let here : 0 ≡ i = same_Some 0 i g in
        let name : r.0 ≡ n = (bytes_eq-Decides r.0 n).0 e in
        (r.1, subst (λ (j : ℕ). slice_get (r ∷ ks) j ≡ Some (n, r.1)) here (ap (λ (m : Name). Some (m, r.1)) name))
    by_test false e g f =
        let below : (j : ℕ) × (first_place n ks ≡ Some j) × (i ≡ suc j) = under_suc (first_place n ks) i g in
        let rest : (k : Kind) × (slice_get ks below.0 ≡ Some (n, k)) = f below.0 below.1 in
        (rest.0, subst (λ (j : ℕ). slice_get (r ∷ ks) j ≡ Some (n, rest.0)) (sym below.2) rest.1)

pub place_within : (n : Name) (ks : List (Name × Kind)) (i : ℕ) → first_place n ks ≡ Some i → i < length ks
place_within n ks i h = let e : (k : Kind) × (slice_get ks i ≡ Some (n, k)) = entry_at n ks i h in slice_get_within ks i (n, e.0) e.1

pub contained_is_declared : (n : Name) (k : Kind) (ks : List (Name × Kind)) → Contains ks (n, k) → is_some (first_named n ks) ≡ true
contained_is_declared n k [] (i, l, e) = let never : ⊥ = omega (arith, l) in absurd never
contained_is_declared n k (r ∷ ks) (zero, l, e) =
    let name : r.0 ≡ n = ap (λ (s : Name × Kind). s.0) e in
    ap (λ (b : Bool). is_some (cond b (Some r.1) (first_named n ks))) ((bytes_eq-Decides r.0 n).1 name)
contained_is_declared n k (r ∷ ks) (suc i, l, e) =
    let m : i < length ks = omega (arith, l) in
    by_test (bytes_eq r.0 n) (contained_is_declared n k ks (i, m, e))
  where
    by_test : (b : Bool) → is_some (first_named n ks) ≡ true → is_some (cond b (Some r.1) (first_named n ks)) ≡ true
    by_test true h = refl
    by_test false h = h

-- ---- aliases are kinds
pub alias_is_kind : (ds : List Declaration) (n : Name) (e : SortExpression) → Contains ds (alias n e) → Contains (kinds_in ds) (n, equal_to e)
alias_is_kind [] n e (i, l, q) = let never : ⊥ = omega (arith, l) in absurd never
alias_is_kind (d ∷ ds) n e (zero, l, q) =
    subst (λ (c : Declaration). Contains (kinds_by c ++ kinds_in ds) (n, equal_to e)) (sym q) (contains_behind (kinds_by (alias n e)) (kinds_in ds) (n, equal_to e) (0, omega arith, refl))
alias_is_kind (d ∷ ds) n e (suc i, l, q) = let m : i < length ds = omega (arith, l) in contains_after (kinds_by d) (kinds_in ds) (n, equal_to e) (alias_is_kind ds n e (i, m, q))

pub refers_from_declared : (ds : List Declaration) (n m : Name) → Refers ds n m → is_some (first_named n (kinds_in ds)) ≡ true
refers_from_declared ds n m r = contained_is_declared n (equal_to r.0) (kinds_in ds) (alias_is_kind ds n r.0 r.1)

-- ---- edges
leaf_from : (e : SortExpression) (o : Option Name) (m : Name) → leaf_of e ≡ o → name_in e ≡ m ∷ [] → leaf_of e ≡ Some m
leaf_from e None m h q = let never : [] ≡ m ∷ [] = sym (no_leaf e h) ∙ q in cc
leaf_from e (Some n) m h q = let same : n ∷ [] ≡ m ∷ [] = sym (its_leaf e n h) ∙ q in let one : n ≡ m = cc in h ∙ ap (λ (k : Name). Some k) one

pub edge_is : (ks : List (Name × Kind)) (n : Name) (e : SortExpression) (m : Name) (a b : ℕ) → leaf_of e ≡ Some m → first_place n ks ≡ Some a → first_place m ks ≡ Some b → edge_through ks n e ≡ Some (a, b)
edge_is ks n e m a b h i j =
    ap (λ (o : Option Name). option_and_then (λ l. option_and_then (λ c. option_map (λ d. (c, d)) (first_place l ks)) (first_place n ks)) o) h
    ∙ (ap (λ (o : Option ℕ). option_and_then (λ c. option_map (λ d. (c, d)) (first_place m ks)) o) i ∙ ap (λ (o : Option ℕ). option_map (λ d. (a, d)) o) j)

pub edge_of_refer : (ds : List Declaration) (n m : Name) → Refers ds n m → is_some (first_named m (kinds_in ds)) ≡ true → HasAliasEdge (kinds_in ds) (kinds_in ds) (place_of n (kinds_in ds)) (place_of m (kinds_in ds))
edge_of_refer ds n m r declared = (
  (n, equal_to r.0),
  alias_is_kind ds n r.0 r.1,
  edge_is (kinds_in ds) n r.0 m (place_of n (kinds_in ds)) (place_of m (kinds_in ds)) (leaf_from r.0 (leaf_of r.0) m refl r.2) (declared_place n (kinds_in ds) (refers_from_declared ds n m r)) (declared_place m (kinds_in ds) declared),
)

abbrev pub from_start : ℕ → ℕ → ℕ × ℕ
from_start c d = (c, d)

pub record EdgeTold (ks : List (Name × Kind)) (n : Name) (e : SortExpression) (a b : ℕ) : Type 0 where
  pub used : Name
  pub leaf : leaf_of e ≡ Some used
  pub from : first_place n ks ≡ Some a
  pub to : first_place used ks ≡ Some b

pub edge_told : (ks : List (Name × Kind)) (n : Name) (e : SortExpression) (a b : ℕ) → edge_through ks n e ≡ Some (a, b) → EdgeTold ks n e a b
edge_told ks n e a b h = of_leaf (leaf_of e) refl h
  where
    of_end : (m : Name) (c : ℕ) (o : Option ℕ) → leaf_of e ≡ Some m → first_place n ks ≡ Some c → first_place m ks ≡ o → option_map (from_start c) o ≡ Some (a, b) → EdgeTold ks n e a b
    of_end m c None l f t g = absurd (none-some (a, b) g)
    of_end m c (Some d) l f t g =
        let pair : (c, d) ≡ (a, b) = same_Some (c, d) (a, b) g in
        record { used = m; leaf = l; from = f ∙ ap (λ (p : ℕ × ℕ). Some p.0) pair; to = t ∙ ap (λ (p : ℕ × ℕ). Some p.1) pair }

    of_start : (m : Name) (o : Option ℕ) → leaf_of e ≡ Some m → first_place n ks ≡ o → option_and_then (λ c. option_map (from_start c) (first_place m ks)) o ≡ Some (a, b) → EdgeTold ks n e a b
    of_start m None l f g = absurd (none-some (a, b) g)
    of_start m (Some c) l f g = of_end m c (first_place m ks) l f refl g

    of_leaf : (o : Option Name) → leaf_of e ≡ o → option_and_then (λ l. option_and_then (λ c. option_map (from_start c) (first_place l ks)) (first_place n ks)) o ≡ Some (a, b) → EdgeTold ks n e a b
    of_leaf None l g = absurd (none-some (a, b) g)
    of_leaf (Some m) l g = of_start m (first_place n ks) l refl g

-- an edge leads from the first place of a name to that of one to which it refers
pub record EdgeNames (ds : List Declaration) (a b : ℕ) : Type 0 where
  pub n : Name
  pub m : Name
  pub refers : Refers ds n m
  pub from : first_place n (kinds_in ds) ≡ Some a
  pub to : first_place m (kinds_in ds) ≡ Some b

pub refer_of_edge : (ds : List Declaration) (a b : ℕ) → HasAliasEdge (kinds_in ds) (kinds_in ds) a b → EdgeNames ds a b
refer_of_edge ds a b (r, there, edge) = of_kind r.0 r.1 there edge
  where
    of_kind : (n : Name) (k : Kind) → Contains (kinds_in ds) (n, k) → edge_by (kinds_in ds) n k ≡ Some (a, b) → EdgeNames ds a b
    of_kind n alone c h = absurd (none-some (a, b) h)
    of_kind n a_struct c h = absurd (none-some (a, b) h)
    of_kind n (equal_to e) c h =
        let t : EdgeTold (kinds_in ds) n e a b = edge_told (kinds_in ds) n e a b h in
        record { n = n; m = t.used; refers = (e, alias_stands ds n e c, its_leaf e t.used t.leaf); from = t.from; to = t.to }
