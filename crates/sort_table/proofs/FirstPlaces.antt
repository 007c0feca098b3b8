-- What is declared at the first place of a name, and the levels of aliases.
use Rattle.std.proofs.Common.{◌≡◌, ◌<◌, ◌+◌, inl, inr, ⊎_elim, ℕ, suc, Bool, true, false, cond, List, [], ◌∷◌, length, replicate, refl, ap, sym, ◌∙◌, subst, arith}
use Rattle.std.specs.Prelude.{Option, Some, None, option_map, slice_get, bytes_eq, slice_index}
use Rattle.std.specs.List.{Contains}
use Rattle.std.specs.Global.{Vec}
use Rattle.std.proofs.lemmas.Option.{none-some, same_Some}
use Rattle.graphs.specs.Graphs.{HasEdge, HasEdgeAmong, HasCycle, IsPath, AreRanks}
use Rattle.graphs.specs.Marking.{TurnsEdges}
use Rattle.graphs.proofs.Marks.{only_one, contains_last}
use Rattle.graphs.proofs.Ranking.{path_map}
use Rattle.sort_table.specs.Expressions.{Name}
use Rattle.sort_table.specs.NamedLists.{first_named}
use Rattle.sort_table.specs.BareDeclarations.{Declaration}
use Rattle.sort_table.specs.SortMeanings.{Kind, kinds_in}
use Rattle.sort_table.specs.SortCycles.{NoCycle}
use Rattle.sort_table.specs.SortIndexes.{first_place}
use Rattle.sort_table.specs.AliasGraphs.{HasAliasEdge, IsAliasGraph, AreNamesAt}
use Rattle.sort_table.specs.DeclaringSorts.{IsFirst, AreLevels, AreByRank}
use Rattle.sort_table.proofs.AliasPlaces.{entry_at, EdgeNames, refer_of_edge}
use Rattle.sort_table.proofs.AliasCycles.{less_or_same, names_of_path, NameAt}
use Rattle.sort_table.proofs.AliasEdges.{alias_edge_within, to_alias, from_alias}

-- ---- the first declaration of a name
kind_at_first : (n : Name) (ks : List (Name × Kind)) (i : ℕ) (k : Kind) → first_place n ks ≡ Some i → slice_get ks i ≡ Some (n, k) → first_named n ks ≡ Some k
kind_at_first n [] i k h at = absurd (none-some i h)
kind_at_first n (r ∷ ks) i k h at = by_test (bytes_eq r.0 n) h (kind_at_first n ks)
  where
    under_suc : (o : Option ℕ) → option_map suc o ≡ Some i → (j : ℕ) × (o ≡ Some j) × (i ≡ suc j)
    under_suc None g = absurd (none-some i g)
    under_suc (Some j) g = (j, refl, sym (same_Some (suc j) i g))

    by_test : (b : Bool) → cond b (Some 0) (option_map suc (first_place n ks)) ≡ Some i → ((j : ℕ) (l : Kind) → first_place n ks ≡ Some j → slice_get ks j ≡ Some (n, l) → first_named n ks ≡ Some l) → cond b (Some r.1) (first_named n ks) ≡ Some k
    by_test true g f =
        let here : Some r ≡ Some (n, k) = subst (λ (j : ℕ). slice_get (r ∷ ks) j ≡ Some (n, k)) (sym (same_Some 0 i g)) at in
        ap (λ (s : Name × Kind). Some s.1) (same_Some r (n, k) here)
    by_test false g f =
        let below : (j : ℕ) × (first_place n ks ≡ Some j) × (i ≡ suc j) = under_suc (first_place n ks) g in
        f below.0 k below.1 (subst (λ (j : ℕ). slice_get (r ∷ ks) j ≡ Some (n, k)) below.2 at)

pub is_first : (ks : List (Name × Kind)) (place : ℕ) (n : Name) (k : Kind) → slice_get ks place ≡ Some (n, k) → first_place n ks ≡ Some place → IsFirst ks place n k
is_first ks place n k at h = record { place_is = h; kind_is = kind_at_first n ks place k h at }

-- the name that is declared first at a place is the one that stands there
pub first_name : (ks : List (Name × Kind)) (place : ℕ) (n m : Name) (k l : Kind) → slice_get ks place ≡ Some (n, k) → IsFirst ks place m l → m ≡ n
first_name ks place n m k l at first =
    let e : (j : Kind) × (slice_get ks place ≡ Some (m, j)) = entry_at m ks place first.place_is in
    ap (λ (r : Name × Kind). r.0) (same_Some (m, e.0) (n, k) (sym e.1 ∙ at))

pub first_there : (ks : List (Name × Kind)) (place : ℕ) (n m : Name) (k l : Kind) → slice_get ks place ≡ Some (n, k) → IsFirst ks place m l → first_place n ks ≡ Some place
first_there ks place n m k l at first = ap (λ (o : Name). first_place o ks) (sym (first_name ks place n m k l at first)) ∙ first.place_is

pub first_kind : (ks : List (Name × Kind)) (place : ℕ) (n m : Name) (k l : Kind) → slice_get ks place ≡ Some (n, k) → IsFirst ks place m l → Some k ≡ Some l
first_kind ks place n m k l at first =
    let same : m ≡ n = first_name ks place n m k l at first in
    sym (kind_at_first n ks place k (first_there ks place n m k l at first) at) ∙ (ap (λ (o : Name). first_named o ks) (sym same) ∙ first.kind_is)

-- ---- a cycle of the graph is one of names
names_there : (ds : List Declaration) (a : ℕ) (xs : List ℕ) (b : ℕ) → IsPath (HasAliasEdge (kinds_in ds) (kinds_in ds)) a xs b → (ns : List Name) × AreNamesAt (kinds_in ds) xs ns
names_there ds a [] b path = ([], refl)
names_there ds a (x ∷ xs) b path =
    let e : EdgeNames ds a x = refer_of_edge ds a x path.0 in
    let k : (k : Kind) × (slice_get (kinds_in ds) x ≡ Some (e.m, k)) = entry_at e.m (kinds_in ds) x e.to in
    let rest : (ns : List Name) × AreNamesAt (kinds_in ds) xs ns = names_there ds x xs b path.1 in
    let here : Some e.m ≡ option_map (λ (r : Name × Kind). r.0) (slice_get (kinds_in ds) x) = ap (option_map (λ (r : Name × Kind). r.0)) (sym k.1) in
    (e.m ∷ rest.0, λ i. here i ∷ rest.1 i)

start_there : (ds : List Declaration) (a : ℕ) (xs : List ℕ) (b : ℕ) → IsPath (HasAliasEdge (kinds_in ds) (kinds_in ds)) a xs b → (n : Name) × NameAt (kinds_in ds) a n
start_there ds a [] b path = let e : EdgeNames ds a b = refer_of_edge ds a b path in (e.n, entry_at e.n (kinds_in ds) a e.from)
start_there ds a (x ∷ xs) b path = let e : EdgeNames ds a x = refer_of_edge ds a x path.0 in (e.n, entry_at e.n (kinds_in ds) a e.from)

graph_cycle : (ds : List Declaration) → NoCycle ds → ¬ (HasCycle (HasAliasEdge (kinds_in ds) (kinds_in ds)))
graph_cycle ds none (a, xs, path) =
    let n : (n : Name) × NameAt (kinds_in ds) a n = start_there ds a xs a path in
    let ns : (ns : List Name) × AreNamesAt (kinds_in ds) xs ns = names_there ds a xs a path in
    none (n.0 ∷ ns.0) (names_of_path ds a xs a n.0 n.0 ns.0 path n.1 n.1 ns.1)

-- ---- levels
pub rank_none : (ranks : List ℕ) (levels : List (Vec ℕ)) → length levels ≡ length ranks → ((a b : ℕ) → ¬ (HasEdge levels a b)) → AreByRank ranks 0 levels
rank_none ranks levels size none = record { size = size; exact = λ r p. (λ h. absurd (none r p h), λ h. let l : p < 0 = h.0 in absurd (omega (arith, l))) }

pub rank_more : (ranks : List ℕ) (i : ℕ) (old new : List (Vec ℕ)) → AreByRank ranks i old → TurnsEdges old i (slice_index ranks i ∷ []) new → AreByRank ranks (i + 1) new
rank_more ranks i old new so turns = record {
  size = turns.size ∙ so.size;
  exact = λ r p. (
    λ h. ⊎_elim
        (λ before. let b : (p < i) × (slice_index ranks p ≡ r) = (so.exact r p).0 before in let l : p < i = b.0 in (omega (arith, l), b.1))
        (λ one. let same : p ≡ i = one.0 in (omega (arith, same), ap (slice_index ranks) same ∙ sym (only_one (slice_index ranks i) r one.1)))
        ((turns.exact p r).0 h),
    λ h. let l : p < i + 1 = h.0 in ⊎_elim
        (λ before. (turns.exact p r).1 (inl ((so.exact r p).1 (before, h.1))))
        (λ same. (turns.exact p r).1 (inr (same, subst (λ (q : ℕ). Contains (slice_index ranks i ∷ []) q) (ap (slice_index ranks) (sym same) ∙ h.1) (contains_last (slice_index ranks i)))))
        (less_or_same p i (omega (arith, l))),
  );
}

module _ (ds : List Declaration) (ks : List (Name × Kind)) (edges : List (Vec ℕ)) (among : List Bool) (same : ks ≡ kinds_in ds) (are : IsAliasGraph ks ks edges) (all : among ≡ replicate (length ks) true) where
  pub no_graph_cycle : NoCycle ds → ¬ (HasCycle (HasEdgeAmong edges among))
  no_graph_cycle none (x, xs, path) =
      graph_cycle ds none (subst (λ (rs : List (Name × Kind)). HasCycle (HasAliasEdge rs rs)) same (x, xs, path_map (HasEdgeAmong edges among) (HasAliasEdge ks ks) (to_alias ds ks edges among same are all) x xs x path))

  pub are_levels : (ranks : List ℕ) (levels : List (Vec ℕ)) → AreRanks edges among ranks → AreByRank ranks (length ranks) levels → AreLevels ks levels
  are_levels ranks levels ranked by =
      let size : length ranks ≡ length ks = ranked.size ∙ are.size in
      record {
        each = λ p l. (slice_index ranks p, (by.exact (slice_index ranks p) p).1 (omega (arith, l, size), refl));
        within = λ r p h. let l : p < length ranks = ((by.exact r p).0 h).0 in omega (arith, l, size);
        down = λ r p b h e.
            let edge : HasEdgeAmong edges among p b = from_alias ds ks edges among same are all p b e in
            let less : slice_index ranks b < slice_index ranks p = ranked.smaller p b edge in
            let at : slice_index ranks p ≡ r = ((by.exact r p).0 h).1 in
            let w : b < length ks = alias_edge_within ks p b e in
            (slice_index ranks b, omega (arith, less, at), (by.exact (slice_index ranks b) b).1 (omega (arith, w, size), refl));
      }
