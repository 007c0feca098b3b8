-- How a state comes out.
use Rattle.std.specs.Prelude.{◌≡◌, ◌⊎◌, ℕ, List, [], ◌∷◌, map, Contains, Some, None, slice_get, zero, suc}
use Rattle.std.proofs.Common.{refl, sym, subst, ap, inl, inr}
use Rattle.data_theory.specs.IdTrees.{Tree}
use Rattle.data_theory.specs.Terms.{Sort}
use Rattle.process_terms.specs.Labels.{Label}
use Rattle.process_terms.specs.Meanings.{label_of}
use Rattle.process_terms.specs.SignatureEntries.{entries_of}
use Rattle.bisim_laws.proofs.Firing.{contains_none, contains_first, contains_later}
use Rattle.lps_core.specs.PlainLinears.{PlainLinear}
use Rattle.lps_core.proofs.Members.{contains_map, map_contains}
use Rattle.lps_simulator.specs.declared.options.Open.{Open as Undecided}
use Rattle.lps_simulator.specs.Options.{TermMove}
use Rattle.aut_check.specs.declared.verdicts.StateVerdict.{StateVerdict}
use Rattle.aut_check.specs.declared.verdicts.StateVerdict.TheVariants.{Good, Differs, Open}
use Rattle.aut_check.specs.Comparing.{state_answer, AreEdgesFrom, EdgesAreStates, EdgesCome, MovesCome}
use Rattle.aut_check.specs.Tables.{worse}
use Rattle.aut_check.specs.Matching.{Match, Differ}
use Rattle.aut_check.specs.PlainSystems.{PlainSystem, meant_edge, meant_state}
use Rattle.trace_replay.specs.Settings.{Setting}
use Rattle.aut_check.specs.Systems.{Edge, System, HasEdge}
use Rattle.aut_check.specs.Verdicts.{nothing, EachEdge, EachMove, SomeEdge, SomeMove, StateComes, all_match, move_open, edge_open, one_differs, StateIs, is_good, mismatches, sorts_in, system_in}
use Rattle.aut_check.proofs.Firings.{member_at}
use Rattle.aut_check.proofs.GoodFiles.{at_place, map_at}

module _ (s : Setting) (ss : List Sort) (f : System) (i : ℕ) (moves : List TermMove) (opens : List Undecided) (none : opens ≡ []) where
  moves_anyhow : (a : StateVerdict) → (a ≡ Open → ⊥) → MovesCome s ss f i moves a → EachMove moves (λ m. SomeEdge f i (Match s ss m) ⊎ EachEdge f i (Differ s ss m))
  moves_anyhow Good n h = λ m k. inl (h m k)
  moves_anyhow Differs n h = h.0
  moves_anyhow Open n h = absurd (n refl)

  edges_anyhow : (b : StateVerdict) → (b ≡ Open → ⊥) → EdgesCome s ss f i moves b → EachEdge f i (λ n o. SomeMove moves (λ m. Match s ss m n o) ⊎ EachMove moves (λ m. Differ s ss m n o))
  edges_anyhow Good n h = λ m j o e at. inl (h m j o e at)
  edges_anyhow Differs n h = h.0
  edges_anyhow Open n h = absurd (n refl)

  -- both ways together
  pub come_both_ways : (a b : StateVerdict) → MovesCome s ss f i moves a → EdgesCome s ss f i moves b → StateComes s ss f i moves opens (state_answer (worse a b))
  come_both_ways Open b h k = move_open h
  come_both_ways Differs Open h k = edge_open k
  come_both_ways Differs Differs h k = one_differs none h.0 k.0 (inl h.1)
  come_both_ways Differs Good h k = one_differs none h.0 (edges_anyhow Good (λ e. let never : ⊥ = cc in never) k) (inl h.1)
  come_both_ways Good Open h k = edge_open k
  come_both_ways Good Differs h k = one_differs none (moves_anyhow Good (λ e. let never : ⊥ = cc in never) h) k.0 (inr k.1)
  come_both_ways Good Good h k = all_match none h k

-- ---- after termination
pub contains_at : {A : Type 0} (xs : List A) (k : ℕ) (x : A) → slice_get xs k ≡ Some x → Contains xs x
contains_at [] k x e = absurd (let never : ⊥ = cc in never)
contains_at (y ∷ xs) zero x e = let q : y ≡ x = cc in subst (λ z. Contains (y ∷ xs) z) q (contains_first y xs)
contains_at (y ∷ xs) (suc k) x e = contains_later y x xs (contains_at xs k x e)

module _ (s : Setting) (ts : List Tree) (l : PlainLinear) (f : PlainSystem) (i : ℕ) (numbers : List ℕ) (from : AreEdgesFrom f i numbers) where
  no_edge : numbers ≡ [] → (n : Label) (j : ℕ) → HasEdge (system_in s ts f) i n j → ⊥
  no_edge none n j edge =
      let r = contains_map (meant_edge s.signature ts) f.edges (record { from = i; label = n; to = j }) edge in
      let k = member_at f.edges r.0 r.1.0 in
      contains_none k.0 (subst (λ (z : List ℕ). Contains z k.0) none (from.whole k.0 r.0 k.1 (sym (ap (λ (e : Edge). e.from) r.1.1))))

  pub ended_without_edges : numbers ≡ [] → StateIs s ts l f i None is_good
  ended_without_edges none = record { moves = []; opens = []; can_do = nothing; comes = all_match refl (λ m k. absurd (contains_none m k)) (λ n j o edge at. absurd (no_edge none n j edge)) }

  pub ended_with_edges : EdgesAreStates f → (k : ℕ) → Contains numbers k → StateIs s ts l f i None mismatches
  ended_with_edges within k among =
      let e = from.within k among in
      let to = at_place f.states e.0.to (within k e.0 e.1.0) in
      let there : Contains (map (meant_edge s.signature ts) f.edges) (meant_edge s.signature ts e.0) = map_contains (meant_edge s.signature ts) f.edges e.0 (contains_at f.edges k e.0 e.1.0) in
      let one : SomeEdge (system_in s ts f) i (λ n o. EachMove [] (λ m. Differ s (sorts_in s ts l) m n o)) = record {
        label = label_of (entries_of s.signature ts) e.0.label;
        to = e.0.to;
        state = meant_state s.signature ts to.0;
        edge = subst (λ (z : ℕ). Contains (map (meant_edge s.signature ts) f.edges) (record { from = z; label = label_of (entries_of s.signature ts) e.0.label; to = e.0.to })) e.1.1 there;
        at = map_at (meant_state s.signature ts) f.states e.0.to to.0 to.1;
        is = λ m j. absurd (contains_none m j);
      } in
      record { moves = []; opens = []; can_do = nothing; comes = one_differs refl (λ m j. absurd (contains_none m j)) (λ n j o edge at. inr (λ m h. absurd (contains_none m h))) (inr one) }

  pub ended_comes : EdgesAreStates f → (answer : StateVerdict) → (numbers ≡ [] → answer ≡ Good) → ((k : ℕ) → Contains numbers k → answer ≡ Differs) → StateIs s ts l f i None (state_answer answer)
  ended_comes within answer f_none f_some = by_numbers numbers refl
    where
      by_numbers : (xs : List ℕ) → numbers ≡ xs → StateIs s ts l f i None (state_answer answer)
      by_numbers [] e = subst (λ (z : StateVerdict). StateIs s ts l f i None (state_answer z)) (sym (f_none e)) (ended_without_edges e)
      by_numbers (k ∷ ks) e =
          let among : Contains numbers k = subst (λ (z : List ℕ). Contains z k) (sym e) (contains_first k ks) in
          subst (λ (z : StateVerdict). StateIs s ts l f i None (state_answer z)) (sym (f_some k among)) (ended_with_edges within k among)
