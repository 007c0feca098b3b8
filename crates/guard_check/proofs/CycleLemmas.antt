-- What the ranks and the first cycle of a graph of calls say of recursion.
use Rattle.std.proofs.Common.{◌≡◌, ◌<◌, ◌+◌, Bool, ℕ, zero, suc, List, [], ◌∷◌, ◌++◌, map, take, length, get_or, refl, sym, ap, ◌∙◌, subst, arith, Vec}
use Rattle.std.specs.Global.{Global}
use Rattle.std.specs.List.{Contains}
use Rattle.std.proofs.lemmas.List.{map-append, take_more}
use Rattle.data_theory.specs.declared.ids.NameId.{NameId}
use Rattle.graphs.specs.Graphs.{HasEdgeAmong, AreRanks}
use Rattle.graphs.specs.Cycles.{IsFirstCycle}
use Rattle.graphs.proofs.Paths.{first_cycle_map, cycle_below}
use Rattle.process_terms.specs.declared.definitions.ProcDef.{ProcDef}
use Rattle.process_terms.specs.PlainProcesses.{PlainDefinition, PlainModel, plain_definition}
use Rattle.process_terms.specs.Meanings.{Entries, table_of, body_of}
use Rattle.guard_check.specs.declared.calls.Extent.{Extent}
use Rattle.guard_check.specs.declared.calls.Extent.TheVariants.{BeforeActions}
use Rattle.guard_check.specs.Calls.{Calls, FromReached}
use Rattle.guard_check.specs.Guards.{FallAlong, HasRanks, IsGuardedModel, AreNamesOf, AreOfFirstCycle}
use Rattle.guard_check.specs.CallGraphs.{IsCallGraph}
use Rattle.guard_check.proofs.GuardLemmas.{reaches_on, ranked_is_guarded}

module _ (n : Extent) (m : PlainModel) (edges : List (Vec ℕ Global)) (reached : List Bool) (so : IsCallGraph n m edges reached) where
  pub edge_among : (g : Entries) (x y : ℕ) → HasEdgeAmong edges reached x y → FromReached (table_of g m.definitions) (body_of g m.init) (Calls n (table_of g m.definitions)) x y
  edge_among g x y edge = ((so.reached_are g x).0 edge.0, (so.edges_are g x y).0 edge.1)

  pub among_edge : (g : Entries) (x y : ℕ) → FromReached (table_of g m.definitions) (body_of g m.init) (Calls n (table_of g m.definitions)) x y → HasEdgeAmong edges reached x y
  among_edge g x y link = ((so.reached_are g x).1 link.0, (so.edges_are g x y).1 link.1, (so.reached_are g y).1 (reaches_on n (table_of g m.definitions) (body_of g m.init) x y link.0 link.1))

  pub ranks_fall : (ranks : List ℕ) → AreRanks edges reached ranks → (g : Entries) → FallAlong (table_of g m.definitions) (body_of g m.init) (Calls n (table_of g m.definitions)) ranks
  ranks_fall ranks are g x y r link = are.smaller x y (among_edge g x y (r, link))

  pub cycle_first : (cycle : List ℕ) → IsFirstCycle (HasEdgeAmong edges reached) cycle → (g : Entries) → IsFirstCycle (FromReached (table_of g m.definitions) (body_of g m.init) (Calls n (table_of g m.definitions))) cycle
  cycle_first cycle first g = first_cycle_map _ _ (edge_among g) (among_edge g) cycle first

  pub on_cycle : (cycle : List ℕ) → IsFirstCycle (HasEdgeAmong edges reached) cycle → (x : ℕ) → Contains cycle x → x < length m.definitions
  on_cycle cycle first x stands = subst (λ k. x < k) so.size (cycle_below edges reached cycle first x stands)

  pub names_of_first : (cycle : List ℕ) (names : List NameId) → IsFirstCycle (HasEdgeAmong edges reached) cycle → AreNamesOf m.definitions cycle names → AreOfFirstCycle m (Calls n) names
  names_of_first cycle names first named = record { cycle = cycle; first = cycle_first cycle first; named = named }

pub ranks_guard : (m : PlainModel) (ranks : List ℕ) → HasRanks m ranks → IsGuardedModel m
ranks_guard m ranks are g = ranked_is_guarded (table_of g m.definitions) (body_of g m.init) ranks (are.falls g)

pub has_ranks : (m : PlainModel) (edges : List (Vec ℕ Global)) (reached : List Bool) → IsCallGraph BeforeActions m edges reached → (ranks : List ℕ) → AreRanks edges reached ranks → HasRanks m ranks
has_ranks m edges reached so ranks are = record { size = are.size ∙ so.size; falls = ranks_fall BeforeActions m edges reached so ranks are }

-- ---- the names of definitions
abbrev numbers : List ProcDef → List ℕ
numbers ds = map (λ (d : PlainDefinition). d.name.0) (map plain_definition ds)

name_read : (ds : List ProcDef) (x : ℕ) (d : ProcDef) → x < length ds → get_or (numbers ds) x 0 ≡ (get_or ds x d).name.0
name_read [] x d below = absurd (omega (arith, below))
name_read (c ∷ ds) zero d below = refl
name_read (c ∷ ds) (suc x) d below = name_read ds x d (omega (arith, below))

pub names_more : (ds : List ProcDef) (cycle : List ℕ) (k : ℕ) (d : ProcDef) (names names' : List NameId) → k < length cycle → get_or cycle k 0 < length ds
    → AreNamesOf (map plain_definition ds) (take k cycle) names → names' ≡ names ++ (get_or ds (get_or cycle k 0) d).name ∷ [] → AreNamesOf (map plain_definition ds) (take (k + 1) cycle) names'
names_more ds cycle k d names names' below within so push_is =
    ap (map (λ (n : NameId). n.0)) push_is
    ∙ (map-append (λ (n : NameId). n.0) names ((get_or ds (get_or cycle k 0) d).name ∷ [])
    ∙ ((λ i. so i ++ sym (name_read ds (get_or cycle k 0) d within) i ∷ [])
    ∙ (sym (map-append (get_or_at ds) (take k cycle) (get_or cycle k 0 ∷ [])) ∙ ap (map (get_or_at ds)) (sym (take_more cycle k 0 below)))))
  where
    get_or_at : List ProcDef → ℕ → ℕ
    get_or_at ds x = get_or (numbers ds) x 0
