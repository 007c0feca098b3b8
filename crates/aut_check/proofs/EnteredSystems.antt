-- A system that was read over one pool and entered into another.
use Rattle.std.specs.Prelude.{◌≡◌, ◌<◌, ℕ, suc, List, [], ◌∷◌, length, map, Option, Some, None, IfSome, Result, Ok, Err, IfErr, IsErrAnd}
use Rattle.std.proofs.Common.{refl, sym, subst, ap, ap₂, ◌∙◌}
use Rattle.std.specs.List.{All}
use Rattle.std.proofs.lemmas.List.Elements.{All-nil, All-cons, All-head, All-tail}
use Rattle.data_theory.specs.Declarations.{HaveSorts}
use Rattle.data_theory.specs.Environments.{terms_of}
use Rattle.data_theory.specs.IdData.{data_meant}
use Rattle.data_theory.specs.IdTerms.{sort_under}
use Rattle.data_theory.specs.IdTrees.{Tree}
use Rattle.data_theory.specs.Signature.{Sig}
use Rattle.data_theory.specs.Terms.{Sort, Term}
use Rattle.data_theory.specs.WholeSignatures.{IsSignature}
use Rattle.data_theory.specs.declared.ids.SortId.{SortId}
use Rattle.data_theory.specs.declared.ids.TermId.{TermId}
use Rattle.data_theory.specs.declared.ids.VarId.{VarId}
use Rattle.data_rewriter.specs.Standing.{term_at}
use Rattle.process_terms.specs.Labels.{Action, Label}
use Rattle.process_terms.specs.Meanings.{action_of, label_of}
use Rattle.process_terms.specs.PlainProcesses.{PlainAction}
use Rattle.process_terms.specs.SignatureEntries.{entries_of}
use Rattle.bisim_laws.specs.LinearProcesses.{LabelIsSorted, no_action_to_sort, action_sorted}
use Rattle.lps_core.specs.Fitting.{AreTermsOf, IsActionOf, IsVariable}
use Rattle.lps_core.proofs.Staying.{action_is, sorts_of_variables}
use Rattle.lps_simulator.specs.OptionsInCode.{IsState, terms_at}
use Rattle.lps_simulator.proofs.FittingSummands.{key_within, sorts_within, terms_back}
use Rattle.trace_replay.specs.Entering.{number_in, AreEntered}
use Rattle.trace_replay.specs.Pairings.{IsClosedAction, IsClosedLabel}
use Rattle.trace_replay.specs.Traces.{SpellsLabel}
use Rattle.trace_replay.specs.Ways.{ActionIs, LabelIs}
use Rattle.trace_replay.proofs.EnteredTerms.{entered_terms, label_entered, label_places, places_of, same_terms}
use Rattle.trace_replay.proofs.EqualityTerms.{terms_meant}
use Rattle.aut_check.specs.declared.reading.AutFault.{AutFault}
use Rattle.aut_check.specs.declared.reading.AutFault.TheVariants.{BadAut, BadStates, NoMemory}
use Rattle.aut_check.specs.EnteredSystems.{entered_edge, entered_state, EdgeHasPlaces, StateHasPlaces}
use Rattle.aut_check.specs.PlainSystems.{PlainEdge, PlainSystem, meant_edge, meant_state, IsEdge}
use Rattle.aut_check.specs.ReadSystems.{EdgesAre, FileStateIs, FileStatesAre, IsAutFault, IsReadAut, IsReadSystem, IsStatesFault, IsSystemFault, SpellsTerms, TermsAre, sorts_of_parameters}
use Rattle.aut_check.specs.Systems.{Edge, FileState}
use Rattle.aut_check.specs.SystemTexts.{Counts, AreAutLines, white_first, header_first, AreEdgeLines, no_edge_left, white_line, edge_line, AreStateLines, no_state_left, white_between, state_line, AreStates, IsAut, IsBadStates}

-- ---- into another pool
module _ (g : Sig) (ts us : List Tree) (ids : List TermId) (h : AreEntered ts us ids) where
  pub edges_places : (xs : List PlainEdge) (es : List Edge) → EdgesAre g ts xs es → All (EdgeHasPlaces ids) xs
  edges_places [] [] are = All-nil (EdgeHasPlaces ids)
  edges_places [] (e ∷ es) are = absurd are
  edges_places (x ∷ xs) [] are = absurd are
  edges_places (x ∷ xs) (e ∷ es) are = All-cons (EdgeHasPlaces ids) x xs (label_places g ts us ids h x.label e.label are.0.label) (edges_places xs es are.1)

  pub edges_entered : (xs : List PlainEdge) (es : List Edge) → EdgesAre g ts xs es → EdgesAre g us (map (entered_edge ids) xs) es
  edges_entered [] [] are = tt
  edges_entered [] (e ∷ es) are = absurd are
  edges_entered (x ∷ xs) [] are = absurd are
  edges_entered (x ∷ xs) (e ∷ es) are = (record { from = are.0.from; to = are.0.to; label = label_entered g ts us ids h x.label e.label are.0.label; closed = are.0.closed }, edges_entered xs es are.1)

  terms_entered : (ss : List SortId) (terms : List TermId) (vs : List Term) → TermsAre g ts ss terms vs → TermsAre g us ss (map (number_in ids) terms) vs
  terms_entered ss terms vs are =
      let same : map (term_at g us) (map (number_in ids) terms) ≡ map (term_at g ts) terms = same_terms g ts us ids h terms are.closed.over in
      record {
        closed = record { over = entered_terms g ts us ids h terms are.closed.over; closed = subst (λ (z : List Term). HaveSorts (data_meant g) [] (terms_of z) (map (sort_under g) ss)) (sym same) are.closed.closed };
        are = same ∙ are.are;
      }

  state_places : (ss : List SortId) (x : Option (List TermId)) (o : FileState) → FileStateIs g ts ss x o → StateHasPlaces ids x
  state_places ss None None is = tt
  state_places ss None (Some vs) is = absurd is
  state_places ss (Some terms) None is = absurd is
  state_places ss (Some terms) (Some vs) is = places_of g ts us ids h terms is.closed.over

  state_entered : (ss : List SortId) (x : Option (List TermId)) (o : FileState) → FileStateIs g ts ss x o → FileStateIs g us ss (entered_state ids x) o
  state_entered ss None None is = tt
  state_entered ss None (Some vs) is = absurd is
  state_entered ss (Some terms) None is = absurd is
  state_entered ss (Some terms) (Some vs) is = terms_entered ss terms vs is

  pub states_places : (ss : List SortId) (xs : List (Option (List TermId))) (os : List FileState) → FileStatesAre g ts ss xs os → All (StateHasPlaces ids) xs
  states_places ss [] [] are = All-nil (StateHasPlaces ids)
  states_places ss [] (o ∷ os) are = absurd are
  states_places ss (x ∷ xs) [] are = absurd are
  states_places ss (x ∷ xs) (o ∷ os) are = All-cons (StateHasPlaces ids) x xs (state_places ss x o are.0) (states_places ss xs os are.1)

  pub states_entered : (ss : List SortId) (xs : List (Option (List TermId))) (os : List FileState) → FileStatesAre g ts ss xs os → FileStatesAre g us ss (map (entered_state ids) xs) os
  states_entered ss [] [] are = tt
  states_entered ss [] (o ∷ os) are = absurd are
  states_entered ss (x ∷ xs) [] are = absurd are
  states_entered ss (x ∷ xs) (o ∷ os) are = (state_entered ss x o are.0, states_entered ss xs os are.1)

-- ---- what the texts say of numbers
pub record IsBetween (count : ℕ) (e : Edge) : Type 0 where
  pub from : e.from < count
  pub to : e.to < count

edges_between : {g : Sig} {c : Counts} {left : ℕ} {lines : List (List ℕ)} {es : List Edge} → AreEdgeLines (SpellsLabel g) c left lines es → All (IsBetween c.states) es
edges_between {c = c} no_edge_left = All-nil (IsBetween c.states)
edges_between (white_line w more) = edges_between more
edges_between {c = c} (edge_line {e = e} {es = es} h more) = All-cons (IsBetween c.states) e es (record { from = h.from_within; to = h.to_within }) (edges_between more)

aut_between : {g : Sig} {lines : List (List ℕ)} {c : Counts} {es : List Edge} → AreAutLines (SpellsLabel g) lines c es → All (IsBetween c.states) es
aut_between (white_first w more) = aut_between more
aut_between (header_first h more) = edges_between more

first_within : {g : Sig} {lines : List (List ℕ)} {c : Counts} {es : List Edge} → AreAutLines (SpellsLabel g) lines c es → c.first < c.states
first_within (white_first w more) = first_within more
first_within (header_first h more) = h.within

states_many : {g : Sig} {ss : List SortId} {count : ℕ} {lines : List (List ℕ)} {os : List FileState} → AreStateLines (SpellsTerms g ss) count lines os → length os ≡ count
states_many no_state_left = refl
states_many (white_between w more) = states_many more
states_many (state_line h more) = ap suc (states_many more)

as_many_states : (g : Sig) (ts : List Tree) (ss : List SortId) (xs : List (Option (List TermId))) (os : List FileState) → FileStatesAre g ts ss xs os → length xs ≡ length os
as_many_states g ts ss [] [] are = refl
as_many_states g ts ss [] (o ∷ os) are = absurd are
as_many_states g ts ss (x ∷ xs) [] are = absurd are
as_many_states g ts ss (x ∷ xs) (o ∷ os) are = ap suc (as_many_states g ts ss xs os are.1)

-- ---- over one pool
module _ (g : Sig) (stands : IsSignature g) (ts : List Tree) where
  -- closed terms of sorts of the signature
  closed_terms : (ss : List SortId) (ids : List TermId) (vs : List Term) → All (λ (s : SortId). s.0 < length g.sorts) ss → TermsAre g ts ss ids vs → AreTermsOf g ts ss ids
  closed_terms ss ids vs inside h =
      terms_back g stands ts ss ids h.closed.over inside (subst (λ (z : List Term). HaveSorts (data_meant g) [] (terms_of z) (map (sort_under g) ss)) (terms_meant g ts ids h.closed.over) h.closed.closed)

  -- an action that is a closed one
  action_stands : (x : PlainAction) (a : Action) → ActionIs g ts x a → IsClosedAction (data_meant g) a → IsActionOf g ts x
  action_stands x a is closed = record {
    key = is.key;
    stands = is.stands;
    args = terms_back g stands ts is.key.sorts x.args is.over (key_within g stands ts is.key x.act.0 is.stands)
        (subst (λ (z : List Term). HaveSorts (data_meant g) [] (terms_of z) (map (sort_under g) is.key.sorts)) (sym is.args ∙ terms_meant g ts x.args is.over)
        (subst (λ (z : List Sort). HaveSorts (data_meant g) [] (terms_of a.args) z) (sym is.sorts) closed));
  }

  action_meant : (x : PlainAction) (a : Action) (is : ActionIs g ts x a) → IsClosedAction (data_meant g) a → action_of (entries_of g ts) x ≡ a
  unfolding action_stands
  action_meant x a is closed =
      let here = action_is g ts x (action_stands x a is closed) in
      same_action (ap (λ z. z.name) here ∙ is.name) (ap (λ z. z.sorts) here ∙ is.sorts) (sym (terms_meant g ts x.args is.over) ∙ is.args)
    where
      same_action : {m n : Action} → m.name ≡ n.name → m.sorts ≡ n.sorts → m.args ≡ n.args → m ≡ n
      same_action {m} {n} p q r = ap₂ (λ (x : List ℕ) (y : List Sort × List Term). record { name = x; sorts = y.0; args = y.1 }) p (ap₂ (λ (ss : List Sort) (us : List Term). (ss, us)) q r)

  label_stands : (xs : List PlainAction) (m : Label) → LabelIs g ts xs m → IsClosedLabel (data_meant g) m → All (IsActionOf g ts) xs
  label_stands [] [] is closed = All-nil (IsActionOf g ts)
  label_stands [] (a ∷ m) is closed = absurd is
  label_stands (x ∷ xs) [] is closed = absurd is
  label_stands (x ∷ xs) (a ∷ m) is closed = All-cons (IsActionOf g ts) x xs (action_stands x a is.0 closed.0) (label_stands xs m is.1 closed.1)

  label_meant : (xs : List PlainAction) (m : Label) → LabelIs g ts xs m → IsClosedLabel (data_meant g) m → label_of (entries_of g ts) xs ≡ m
  label_meant [] [] is closed = refl
  label_meant [] (a ∷ m) is closed = absurd is
  label_meant (x ∷ xs) [] is closed = absurd is
  label_meant (x ∷ xs) (a ∷ m) is closed = ap₂ (λ (b : Action) (n : Label). b ∷ n) (action_meant x a is.0 closed.0) (label_meant xs m is.1 closed.1)

  label_sorted : (m : Label) → IsClosedLabel (data_meant g) m → LabelIsSorted (data_meant g) [] m
  label_sorted [] closed = no_action_to_sort
  label_sorted (a ∷ m) closed = action_sorted closed.0 (label_sorted m closed.1)

  edges_meant : (xs : List PlainEdge) (es : List Edge) → EdgesAre g ts xs es → map (meant_edge g ts) xs ≡ es
  edges_meant [] [] are = refl
  edges_meant [] (e ∷ es) are = absurd are
  edges_meant (x ∷ xs) [] are = absurd are
  edges_meant (x ∷ xs) (e ∷ es) are = ap₂ (λ (f : Edge) (fs : List Edge). f ∷ fs) (same_edge are.0.from (label_meant x.label e.label are.0.label are.0.closed) are.0.to) (edges_meant xs es are.1)
    where
      same_edge : {m n : Edge} → m.from ≡ n.from → m.label ≡ n.label → m.to ≡ n.to → m ≡ n
      same_edge {m} {n} p q r = ap₂ (λ (i : ℕ) (y : Label × ℕ). record { from = i; label = y.0; to = y.1 }) p (ap₂ (λ (l : Label) (j : ℕ). (l, j)) q r)

  edges_stand : (count : ℕ) (xs : List PlainEdge) (es : List Edge) → EdgesAre g ts xs es → All (IsBetween count) es → All (IsEdge g ts count) xs
  edges_stand count [] [] are between = All-nil (IsEdge g ts count)
  edges_stand count [] (e ∷ es) are between = absurd are
  edges_stand count (x ∷ xs) [] are between = absurd are
  edges_stand count (x ∷ xs) (e ∷ es) are between =
      let here = All-head (IsBetween count) e es between in
      All-cons (IsEdge g ts count) x xs
      (record {
        from = subst (λ (n : ℕ). n < count) (sym are.0.from) here.from;
        to = subst (λ (n : ℕ). n < count) (sym are.0.to) here.to;
        label = label_stands x.label e.label are.0.label are.0.closed;
        closed = subst (LabelIsSorted (data_meant g) []) (sym (label_meant x.label e.label are.0.label are.0.closed)) (label_sorted e.label are.0.closed);
      })
      (edges_stand count xs es are.1 (All-tail (IsBetween count) e es between))

  state_meant : (ss : List SortId) (x : Option (List TermId)) (o : FileState) → FileStateIs g ts ss x o → meant_state g ts x ≡ o
  state_meant ss None None is = refl
  state_meant ss None (Some vs) is = absurd is
  state_meant ss (Some ids) None is = absurd is
  state_meant ss (Some ids) (Some vs) is = ap (λ (z : List Term). Some z) (sym (terms_meant g ts ids is.closed.over) ∙ is.are)

  states_meant : (ss : List SortId) (xs : List (Option (List TermId))) (os : List FileState) → FileStatesAre g ts ss xs os → map (meant_state g ts) xs ≡ os
  states_meant ss [] [] are = refl
  states_meant ss [] (o ∷ os) are = absurd are
  states_meant ss (x ∷ xs) [] are = absurd are
  states_meant ss (x ∷ xs) (o ∷ os) are = ap₂ (λ (p : FileState) (ps : List FileState). p ∷ ps) (state_meant ss x o are.0) (states_meant ss xs os are.1)

  module _ (params : List VarId) (declared : All (IsVariable g) params) where
    state_stands : (x : Option (List TermId)) (o : FileState) → FileStateIs g ts (sorts_of_parameters g params) x o → IfSome x (IsState g ts params)
    state_stands None None is = tt
    state_stands None (Some vs) is = absurd is
    state_stands (Some ids) None is = absurd is
    state_stands (Some ids) (Some vs) is = record {
      terms = closed_terms (sorts_of_parameters g params) ids vs (sorts_within g stands ts params declared) is;
      closed = subst (HaveSorts (data_meant g) [] (terms_of (terms_at g ts ids))) (sym (sorts_of_variables g ts params declared))
          (subst (λ (z : List Term). HaveSorts (data_meant g) [] (terms_of z) (map (sort_under g) (sorts_of_parameters g params))) (terms_meant g ts ids is.closed.over) is.closed.closed);
    }

    states_stand : (xs : List (Option (List TermId))) (os : List FileState) → FileStatesAre g ts (sorts_of_parameters g params) xs os → All (λ (x : Option (List TermId)). IfSome x (IsState g ts params)) xs
    states_stand [] [] are = All-nil (λ (x : Option (List TermId)). IfSome x (IsState g ts params))
    states_stand [] (o ∷ os) are = absurd are
    states_stand (x ∷ xs) [] are = absurd are
    states_stand (x ∷ xs) (o ∷ os) are = All-cons (λ (y : Option (List TermId)). IfSome y (IsState g ts params)) x xs (state_stands x o are.0) (states_stand xs os are.1)

    -- the whole system
    pub system_read : (aut listed : List ℕ) (c : Counts) (f : PlainSystem) (es : List Edge) (os : List FileState) → f.first ≡ c.first → IsAut (SpellsLabel g) aut c es → EdgesAre g ts f.edges es → AreStates (SpellsTerms g (sorts_of_parameters g params)) listed c.states os
        → FileStatesAre g ts (sorts_of_parameters g params) f.states os → IsReadSystem g ts params aut listed f
    system_read aut listed c f es os first is_aut edges are_states states =
        let many : length f.states ≡ c.states = as_many_states g ts (sorts_of_parameters g params) f.states os states ∙ states_many are_states in
        record {
          counts = c;
          first = first;
          edges = subst (λ (z : List Edge). IsAut (SpellsLabel g) aut c z) (sym (edges_meant f.edges es edges)) is_aut;
          states = subst (λ (z : List FileState). AreStates (SpellsTerms g (sorts_of_parameters g params)) listed c.states z) (sym (states_meant (sorts_of_parameters g params) f.states os states)) are_states;
          system = record {
            first = subst (λ (n : ℕ). n < length f.states) (sym first) (subst (λ (n : ℕ). c.first < n) (sym many) (first_within is_aut));
            edges = subst (λ (n : ℕ). All (IsEdge g ts n) f.edges) (sym many) (edges_stand c.states f.edges es edges (aut_between is_aut));
            states = states_stand f.states os states;
          };
        }

-- ---- faults in code
pub aut_fault : (g : Sig) (params : List VarId) (aut listed : List ℕ) (fault : AutFault) → IsAutFault g aut fault → IsSystemFault g params aut listed fault
aut_fault g params aut listed (BadAut k) h = h
aut_fault g params aut listed (BadStates k) h = absurd h
aut_fault g params aut listed NoMemory h = tt

pub states_fault : (g : Sig) (ts : List Tree) (params : List VarId) (ss : List SortId) (aut listed : List ℕ) (c : Counts) (xs : List PlainEdge) (fault : AutFault) → ss ≡ sorts_of_parameters g params → IsReadAut g ts aut c xs → IsStatesFault g ss listed c.states fault → IsSystemFault g params aut listed fault
states_fault g ts params ss aut listed c xs (BadAut k) same read h = absurd h
states_fault g ts params ss aut listed c xs (BadStates k) same read h = record { counts = c; edges = read.edges; is_aut = read.is_aut; bad = subst (λ (z : List SortId). IsBadStates (SpellsTerms g z) listed c.states k) same h }
states_fault g ts params ss aut listed c xs NoMemory same read h = tt

pub passed_on : {T : Type 0} (P : AutFault → Type 0) (r : Result T AutFault) (fault : AutFault) → P fault → IsErrAnd r (λ given. given ≡ fault) → IfErr r P
passed_on P (Ok x) fault has same = absurd same
passed_on P (Err given) fault has same = subst P (sym same) has
