-- The graph of aliases, edge by edge, and what its first cycle says.
use Rattle.std.proofs.Common.{◌≡◌, ◌<◌, ◌+◌, ◌⊎◌, inl, inr, ⊎_elim, ℕ, zero, suc, Bool, true, false, List, [], ◌∷◌, ◌++◌, length, take, get_or, replicate, refl, ap, sym, ◌∙◌, subst, arith}
use Rattle.std.specs.Prelude.{Some, None, slice_get}
use Rattle.std.specs.List.{Contains}
use Rattle.std.specs.Global.{Vec}
use Rattle.std.proofs.lemmas.Option.{none-some, same_Some}
use Rattle.std.proofs.lemmas.List.Elements.{Contains-append_left, Contains-append_right, Contains-append_cases}
use Rattle.graphs.specs.Graphs.{HasEdge, HasEdgeAmong, IsGraph, IsMarked, HasCycle}
use Rattle.graphs.specs.Cycles as graph
use Rattle.graphs.specs.Marking.{TurnsEdges}
use Rattle.graphs.proofs.Paths.{first_cycle_map}
use Rattle.graphs.proofs.Ranking.{path_map}
use Rattle.graphs.proofs.Marks.{only_one, contains_last}
use Rattle.data_theory.proofs.IdSortLemmas.{read_within}
use Rattle.sort_table.specs.Expressions.{Name}
use Rattle.sort_table.specs.BareDeclarations.{Declaration}
use Rattle.sort_table.specs.SortMeanings.{Kind, alone, a_struct, equal_to, kinds_in}
use Rattle.sort_table.specs.SortCycles.{IsFirstCycle, NoCycle}
use Rattle.sort_table.specs.AliasGraphs.{edge_by, HasAliasEdge, AddsDefinition, IsAliasGraph, AreNamesAt}
use Rattle.sort_table.proofs.AliasPlaces.{EdgeTold, edge_told, place_within}
use Rattle.sort_table.proofs.AliasCycles.{first_of_names, no_name_cycle}

pub edge_within : (ks : List (Name × Kind)) (n : Name) (k : Kind) (a b : ℕ) → edge_by ks n k ≡ Some (a, b) → (a < length ks) × (b < length ks)
edge_within ks n alone a b h = absurd (none-some (a, b) h)
edge_within ks n a_struct a b h = absurd (none-some (a, b) h)
edge_within ks n (equal_to e) a b h =
    let t : EdgeTold ks n e a b = edge_told ks n e a b h in
    (place_within n ks a t.from, place_within t.used ks b t.to)

pub alias_edge_within : (ks : List (Name × Kind)) (a b : ℕ) → HasAliasEdge ks ks a b → b < length ks
alias_edge_within ks a b h = (edge_within ks h.0.0 h.0.1 a b h.2).1

-- ---- one declaration more
pub adds_edge : (ks : List (Name × Kind)) (place : ℕ) (old new : List (Vec ℕ)) (n : Name) (k : Kind) (from to : ℕ) → slice_get ks place ≡ Some (n, k) → edge_by ks n k ≡ Some (from, to)
    → TurnsEdges old to (from ∷ []) new → AddsDefinition ks place old new
adds_edge ks place old new n k from to at edge turns = record {
  size = turns.size;
  exact = λ r e a b.
      let it : (n, k) ≡ r = same_Some (n, k) r (sym at ∙ e) in
      let its : edge_by ks r.0 r.1 ≡ Some (from, to) = subst (λ (s : Name × Kind). edge_by ks s.0 s.1 ≡ Some (from, to)) it edge in (
        λ h. ⊎_elim (λ before. inl before) (λ one. inr (its ∙ (λ i. Some (sym (only_one from a one.1) i, sym one.0 i)))) ((turns.exact b a).0 h),
        λ h. (turns.exact b a).1 (⊎_elim (λ before. inl before) (λ one.
            let pair : (from, to) ≡ (a, b) = same_Some (from, to) (a, b) (sym its ∙ one) in
            inr (sym (ap (λ (p : ℕ × ℕ). p.1) pair), subst (λ (c : ℕ). Contains (from ∷ []) c) (ap (λ (p : ℕ × ℕ). p.0) pair) (contains_last from))) h),
      );
}

pub adds_none : (ks : List (Name × Kind)) (place : ℕ) (old : List (Vec ℕ)) (n : Name) (k : Kind) → slice_get ks place ≡ Some (n, k) → edge_by ks n k ≡ None → AddsDefinition ks place old old
adds_none ks place old n k at edge = record {
  size = refl;
  exact = λ r e a b.
      let it : (n, k) ≡ r = same_Some (n, k) r (sym at ∙ e) in
      let its : edge_by ks r.0 r.1 ≡ None = subst (λ (s : Name × Kind). edge_by ks s.0 s.1 ≡ None) it edge in
      (λ h. inl h, λ h. ⊎_elim (λ before. before) (λ one. absurd (none-some (a, b) (sym its ∙ one))) h);
}

pub take_read : {A : Type 0} (xs : List A) (i : ℕ) (x : A) → slice_get xs i ≡ Some x → take (suc i) xs ≡ take i xs ++ x ∷ []
take_read [] i x h = absurd (none-some x h)
take_read (y ∷ xs) zero x h = ap (λ z. z ∷ []) (same_Some y x h)
take_read (y ∷ xs) (suc i) x h = ap (λ zs. y ∷ zs) (take_read xs i x h)

pub graph_more : (ks : List (Name × Kind)) (i : ℕ) (old new : List (Vec ℕ)) → i < length ks → IsAliasGraph ks (take i ks) old → AddsDefinition ks i old new → IsAliasGraph ks (take (i + 1) ks) new
graph_more ks i old new l so adds =
    let r : (r : Name × Kind) × (slice_get ks i ≡ Some r) = read_within ks i l in
    let more : take (i + 1) ks ≡ take i ks ++ r.0 ∷ [] = let s : i + 1 ≡ suc i = omega arith in ap (λ (j : ℕ). take j ks) s ∙ take_read ks i r.0 r.1 in
    record {
      size = adds.size ∙ so.size;
      exact = λ a b. (
        λ h. subst (λ (rs : List (Name × Kind)). HasAliasEdge ks rs a b) (sym more) (⊎_elim
            (λ before. let e : HasAliasEdge ks (take i ks) a b = (so.exact a b).0 before in (e.0, Contains-append_left (take i ks) (r.0 ∷ []) e.0 e.1, e.2))
            (λ one. (r.0, Contains-append_right (take i ks) (r.0 ∷ []) r.0 (0, omega arith, refl), one))
            ((adds.exact r.0 r.1 a b).0 h)),
        λ h. (adds.exact r.0 r.1 a b).1 (of_edge r.0 a b (subst (λ (rs : List (Name × Kind)). HasAliasEdge ks rs a b) more h)),
      );
    }
  where
    of_last : (r s : Name × Kind) → Contains (r ∷ []) s → r ≡ s
    of_last r s (zero, l, e) = e
    of_last r s (suc j, l, e) = let never : ⊥ = omega (arith, l) in absurd never

    of_edge : (r : Name × Kind) (a b : ℕ) → HasAliasEdge ks (take i ks ++ r ∷ []) a b → HasEdge old a b ⊎ (edge_by ks r.0 r.1 ≡ Some (a, b))
    of_edge r a b (s, there, edge) = ⊎_elim
        (λ before. inl ((so.exact a b).1 (s, before, edge)))
        (λ last. inr (subst (λ (t : Name × Kind). edge_by ks t.0 t.1 ≡ Some (a, b)) (sym (of_last r s last)) edge))
        (Contains-append_cases (take i ks) (r ∷ []) s there)

pub graph_none : (ks : List (Name × Kind)) (edges : List (Vec ℕ)) → length edges ≡ length ks → ((a b : ℕ) → ¬ (HasEdge edges a b)) → IsAliasGraph ks [] edges
graph_none ks edges size none = record {
  size = size;
  exact = λ a b. (λ h. absurd (none a b h), λ h. let l : h.1.0 < 0 = h.1.1 in absurd (omega (arith, l)));
}

-- ---- the whole graph
pub is_graph : (ks : List (Name × Kind)) (edges : List (Vec ℕ)) → IsAliasGraph ks ks edges → IsGraph edges
is_graph ks edges are a b h =
    let e : HasAliasEdge ks ks a b = (are.exact a b).0 h in
    subst (λ (n : ℕ). b < n) (sym are.size) (edge_within ks e.0.0 e.0.1 a b e.2).1

all_marked : (n a : ℕ) → a < n → get_or (replicate n true) a false ≡ true
all_marked zero a l = absurd (omega (arith, l))
all_marked (suc n) zero l = refl
all_marked (suc n) (suc a) l = all_marked n a (omega (arith, l))

module _ (ds : List Declaration) (ks : List (Name × Kind)) (edges : List (Vec ℕ)) (among : List Bool) (same : ks ≡ kinds_in ds) (are : IsAliasGraph ks ks edges) (all : among ≡ replicate (length ks) true) where
  pub to_alias : (a b : ℕ) → HasEdgeAmong edges among a b → HasAliasEdge ks ks a b
  to_alias a b h = (are.exact a b).0 h.1

  marked : (a : ℕ) → a < length ks → IsMarked among a
  marked a l = ap (λ (ms : List Bool). get_or ms a false) all ∙ all_marked (length ks) a l

  pub from_alias : (a b : ℕ) → HasAliasEdge ks ks a b → HasEdgeAmong edges among a b
  from_alias a b h =
      let w : (a < length ks) × (b < length ks) = edge_within ks h.0.0 h.0.1 a b h.2 in
      (marked a w.0, (are.exact a b).1 h, marked b w.1)

  pub no_alias_cycle : ¬ (HasCycle (HasEdgeAmong edges among)) → NoCycle ds
  no_alias_cycle none =
      let free : ¬ (HasCycle (HasAliasEdge ks ks)) = λ h. none (h.0, h.1, path_map (HasAliasEdge ks ks) (HasEdgeAmong edges among) from_alias h.0 h.1 h.0 h.2) in
      no_name_cycle ds (subst (λ (rs : List (Name × Kind)). ¬ (HasCycle (HasAliasEdge rs rs))) same free)

  pub first_alias_cycle : (cycle : List ℕ) (ns : List Name) → graph.IsFirstCycle (HasEdgeAmong edges among) cycle → AreNamesAt ks cycle ns → IsFirstCycle ds ns
  first_alias_cycle cycle ns first named =
      first_of_names ds cycle ns
      (subst (λ (rs : List (Name × Kind)). graph.IsFirstCycle (HasAliasEdge rs rs) cycle) same (first_cycle_map (HasEdgeAmong edges among) (HasAliasEdge ks ks) to_alias from_alias cycle first))
      (subst (λ (rs : List (Name × Kind)). AreNamesAt rs cycle ns) same named)
