-- What was said over a pool holds over the pools before it.
use Rattle.std.specs.Prelude.{◌≡◌, ℕ, List, [], ◌∷◌, map, length, Option, Some, None, IfSome, slice_get}
use Rattle.std.proofs.Common.{refl, subst, ap, ap₂}
use Rattle.std.specs.List.{All, AllZip}
use Rattle.std.proofs.lemmas.List.Elements.{All-head, All-tail, All-weaker}
use Rattle.data_theory.specs.IdTrees.{Tree}
use Rattle.data_theory.specs.Provable.{Equation}
use Rattle.data_theory.specs.Signature.{Sig}
use Rattle.data_theory.specs.Terms.{Sort, Term}
use Rattle.data_theory.specs.WholeSignatures.{IsSignature}
use Rattle.data_theory.specs.declared.ids.TermId.{TermId}
use Rattle.data_theory.specs.declared.ids.VarId.{VarId}
use Rattle.term_pool.specs.Pools.{Extends}
use Rattle.process_terms.specs.SignatureEntries.{entries_of}
use Rattle.bisim_laws.specs.LinearProcesses.{Linear, Summand, sorts}
use Rattle.lps_core.specs.Fitting.{Fits}
use Rattle.lps_core.specs.PlainLinears.{PlainLinear, PlainSummand, linear_of, summand_of}
use Rattle.lps_core.proofs.Members.{all_at}
use Rattle.lps_core.proofs.Staying.{what_fits_stays}
use Rattle.lps_simulator.specs.declared.options.Open.{Open}
use Rattle.lps_simulator.specs.Options.{TermMove, Tried, IsTried}
use Rattle.lps_simulator.specs.OptionsInCode.{PlainMove, PlainOptions, AreOptions, IsMove, IsState, IsTriedAt, terms_at}
use Rattle.lps_simulator.proofs.FittingSummands.{ids_stay, label_stays, move_stays}
use Rattle.lps_simulator.proofs.SessionLemmas.{next_state_stays}
use Rattle.lps_simulator.proofs.TriedSummands.{both_grow}
use Rattle.aut_check.specs.PlainSystems.{PlainEdge, PlainSystem, IsEdge, IsSystem, meant_edge, meant_state, meant_system}
use Rattle.trace_replay.specs.Settings.{Setting}
use Rattle.aut_check.specs.Systems.{Edge, FileState, System}
use Rattle.aut_check.specs.Verdicts.{CanDo, nothing, options, StateAnswer, StateComes, StateIs, sorts_in, system_in}

module _ (g : Sig) (stands : IsSignature g) (ts us : List Tree) (grows : Extends ts us) where
  -- ---- systems
  edge_means : (count : ℕ) (e : PlainEdge) → IsEdge g ts count e → meant_edge g us e ≡ meant_edge g ts e
  edge_means count e h = ap (λ m. record { from = e.from; label = m; to = e.to }) (label_stays g ts us grows e.label h.label)

  edges_mean : (count : ℕ) (es : List PlainEdge) → All (IsEdge g ts count) es → map (meant_edge g us) es ≡ map (meant_edge g ts) es
  edges_mean count [] h = refl
  edges_mean count (e ∷ es) h = ap₂ (λ (x : Edge) xs. x ∷ xs) (edge_means count e (All-head (IsEdge g ts count) e es h)) (edges_mean count es (All-tail (IsEdge g ts count) e es h))

  pub state_means : (ps : List VarId) (o : Option (List TermId)) → IfSome o (IsState g ts ps) → meant_state g us o ≡ meant_state g ts o
  state_means ps None h = refl
  state_means ps (Some ids) h = ap (λ (z : List Term). Some z) (ids_stay g ts us grows ids h.terms.within)

  states_mean : (ps : List VarId) (os : List (Option (List TermId))) → All (λ (o : Option (List TermId)). IfSome o (IsState g ts ps)) os → map (meant_state g us) os ≡ map (meant_state g ts) os
  states_mean ps [] h = refl
  states_mean ps (o ∷ os) h =
      ap₂ (λ (x : FileState) xs. x ∷ xs) (state_means ps o (All-head (λ (o : Option (List TermId)). IfSome o (IsState g ts ps)) o os h)) (states_mean ps os (All-tail (λ (o : Option (List TermId)). IfSome o (IsState g ts ps)) o os h))

  pub system_means : (ps : List VarId) (f : PlainSystem) → IsSystem g ts ps f → meant_system g us f ≡ meant_system g ts f
  system_means ps f h = ap₂ (λ es os. record { first = f.first; edges = es; states = os }) (edges_mean (length f.states) f.edges h.edges) (states_mean ps f.states h.states)

  pub edge_stays : (ps : List VarId) (count : ℕ) (e : PlainEdge) → IsEdge g ts count e → IsEdge g us count e
  edge_stays ps count e h =
      let m : PlainMove = record { summand = 0; label = e.label; next = None } in
      let k : IsMove g us ps m = move_stays g ts us grows ps m (record { label = h.label; closed = h.closed; next = tt }) in
      record { from = h.from; to = h.to; label = k.label; closed = k.closed }

  pub system_stays : (ps : List VarId) (f : PlainSystem) → IsSystem g ts ps f → IsSystem g us ps f
  system_stays ps f h = record {
    first = h.first;
    edges = All-weaker (IsEdge g ts (length f.states)) (IsEdge g us (length f.states)) (λ e k. edge_stays ps (length f.states) e k) f.edges h.edges;
    states = All-weaker (λ (o : Option (List TermId)). IfSome o (IsState g ts ps)) (λ (o : Option (List TermId)). IfSome o (IsState g us ps)) (λ o k. next_state_stays g ts us ps o grows k) f.states h.states;
  }

  -- ---- options
  pub linear_means : (l : PlainLinear) → Fits g ts l → linear_of (entries_of g us) l ≡ linear_of (entries_of g ts) l
  linear_means l fits = (what_fits_stays g g ts us l stands.table stands.complete (both_grow g ts us grows) fits).0

  tried_on : (own : List Equation) (fuel bound : ℕ) (l : PlainLinear) (state : List TermId) → linear_of (entries_of g us) l ≡ linear_of (entries_of g ts) l → terms_at g us state ≡ terms_at g ts state → (xs : List PlainSummand) (tried : List Tried)
      → map (summand_of (entries_of g us)) xs ≡ map (summand_of (entries_of g ts)) xs → AllZip (IsTriedAt g own fuel bound us l state) xs tried → AllZip (IsTriedAt g own fuel bound ts l state) xs tried
  tried_on own fuel bound l state e q [] [] r h = tt
  tried_on own fuel bound l state e q [] (t ∷ tried) r h = absurd h
  tried_on own fuel bound l state e q (x ∷ xs) [] r h = absurd h
  tried_on own fuel bound l state e q (x ∷ xs) (t ∷ tried) r h =
      let first : summand_of (entries_of g us) x ≡ summand_of (entries_of g ts) x = cc in
      let rest : map (summand_of (entries_of g us)) xs ≡ map (summand_of (entries_of g ts)) xs = cc in (
        subst (λ (z : Linear). IsTried g own fuel bound z (terms_at g ts state) x.sums (summand_of (entries_of g ts) x) t) e
            (subst (λ (z : List Term). IsTried g own fuel bound (linear_of (entries_of g us) l) z x.sums (summand_of (entries_of g ts) x) t) q
            (subst (λ (z : Summand). IsTried g own fuel bound (linear_of (entries_of g us) l) (terms_at g us state) x.sums z t) first h.0)),
        tried_on own fuel bound l state e q xs tried rest h.1,
      )

  options_on : (own : List Equation) (fuel bound : ℕ) (vs : List Tree) (l : PlainLinear) (state : List TermId) (found : PlainOptions) → Fits g ts l → IsState g ts l.params state → AreOptions g own fuel bound us vs l state found → AreOptions g own fuel bound ts vs l state found
  options_on own fuel bound vs l state found fits st h = record {
    tried = h.tried;
    each = tried_on own fuel bound l state (linear_means l fits) (ids_stay g ts us grows state st.terms.within) l.summands h.tried (ap (λ (z : Linear). z.summands) (linear_means l fits)) h.each;
    moves = h.moves;
    undecided = h.undecided;
    cut = h.cut;
  }

module _ (s : Setting) (stands : IsSignature s.signature) (ts us : List Tree) (grows : Extends ts us) where
  can_do_on : (l : PlainLinear) → Fits s.signature ts l → (o : Option (List TermId)) → IfSome o (IsState s.signature ts l.params) → (moves : List TermMove) (opens : List Open) → CanDo s us l o moves opens → CanDo s ts l o moves opens
  can_do_on l fits _ st _ _ nothing = nothing
  can_do_on l fits _ st _ _ (options {state = state} vs found are closed) = options vs found (options_on s.signature stands ts us grows s.equations s.fuel s.bound vs l state found fits st are) closed

  -- how a state comes out over a later pool, it does over the earlier one
  pub state_is_settled : (l : PlainLinear) (f : PlainSystem) → Fits s.signature ts l → IsSystem s.signature ts l.params f → (i : ℕ) (o : Option (List TermId)) → slice_get f.states i ≡ Some o → (a : StateAnswer) → StateIs s us l f i o a → StateIs s ts l f i o a
  state_is_settled l f fits system i o at a h = record {
    moves = h.moves;
    opens = h.opens;
    can_do = can_do_on l fits o (all_at (λ (q : Option (List TermId)). IfSome q (IsState s.signature ts l.params)) f.states i o system.states at) h.moves h.opens h.can_do;
    comes = subst (λ (z : List Sort). StateComes s z (system_in s ts f) i h.moves h.opens a) (ap (λ (z : Linear). sorts z.params) (linear_means s.signature stands ts us grows l fits))
        (subst (λ (z : System). StateComes s (sorts_in s us l) z i h.moves h.opens a) (system_means s.signature stands ts us grows l.params f system) h.comes);
  }
