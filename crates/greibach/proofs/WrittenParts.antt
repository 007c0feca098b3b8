-- What the parts of a body write is what the body writes.
use Rattle.std.proofs.Common.{◌≡◌, ⊎_elim, ℕ, zero, suc, true, false, List, [], ◌∷◌, ◌++◌, map, subst}
use Rattle.std.specs.Prelude.{Contains}
use Rattle.std.proofs.lemmas.List.Elements.{Contains-append_left, Contains-append_right}
use Rattle.data_theory.specs.Terms.{Sort, Term}
use Rattle.process_terms.specs.PlainProcesses.{PlainDefinition, PlainComponent, call_of, term_of}
use Rattle.process_terms.specs.Processes.{Bound, Body, written_delta, written_act, written_choice, written_seq, written_cond, written_sum, written_call, written_merge, written_starting, written_around}
use Rattle.process_terms.specs.Meanings.{Entries, table_of, body_of, component_body}
use Rattle.bisim_laws.specs.BaseStates.{Piece}
use Rattle.bisim_laws.proofs.Firing.{contains_none}
use Rattle.lps_core.specs.MadeTerms.{Written, both_written, written_in, written_by}
use Rattle.lps_core.proofs.Members.{In, here, there, in_append}
use Rattle.greibach.specs.Places.{Path, Place, Factor, factors, Text, body_among, body_of_owner, follow, factors_from, factors_at}
use Rattle.greibach.specs.ComponentForms.{piece_of, own_body, text_of}

-- all of the first is in the second
pub record IsWithin (v w : Written) : Type 0 where
  pub sums : (s : Sort) → Contains v.sums s → Contains w.sums s
  pub conditions : (c : Term) → Contains v.conditions c → Contains w.conditions c
  pub action_arguments : (t : Term) → Contains v.action_arguments t → Contains w.action_arguments t
  pub call_arguments : (t : Term) → Contains v.call_arguments t → Contains w.call_arguments t

all_within : (w : Written) → IsWithin w w
all_within w = record { sums = λ s i. i; conditions = λ c i. i; action_arguments = λ t i. i; call_arguments = λ t i. i }

pub on_left : (u v w : Written) → IsWithin (both_written u v) w → IsWithin u w
on_left u v w h = record {
  sums = λ s i. h.sums s (Contains-append_left u.sums v.sums s i);
  conditions = λ c i. h.conditions c (Contains-append_left u.conditions v.conditions c i);
  action_arguments = λ t i. h.action_arguments t (Contains-append_left u.action_arguments v.action_arguments t i);
  call_arguments = λ t i. h.call_arguments t (Contains-append_left u.call_arguments v.call_arguments t i);
}

pub on_right : (u v w : Written) → IsWithin (both_written u v) w → IsWithin v w
on_right u v w h = record {
  sums = λ s i. h.sums s (Contains-append_right u.sums v.sums s i);
  conditions = λ c i. h.conditions c (Contains-append_right u.conditions v.conditions c i);
  action_arguments = λ t i. h.action_arguments t (Contains-append_right u.action_arguments v.action_arguments t i);
  call_arguments = λ t i. h.call_arguments t (Contains-append_right u.call_arguments v.call_arguments t i);
}

-- what a sum and a condition write beside their operands
abbrev of_sum : Sort → Written
of_sum s = record { sums = s ∷ []; conditions = []; action_arguments = []; call_arguments = []; communicates = false }

abbrev of_condition : Term → Written
of_condition c = record { sums = []; conditions = c ∷ []; action_arguments = []; call_arguments = []; communicates = false }

module _ (w : Written) where
  abbrev pub IsWritten : Body → Type 0
  IsWritten b = IsWithin (written_in b) w

  abbrev pub AreWritten : List Factor → Type 0
  AreWritten fs = (r : Factor) → In r fs → IsWritten r.body

  pub under_sum : (x : Bound) (p : Body) → IsWritten (written_sum x p) → IsWritten p
  under_sum x p h = on_right (of_sum x.sort) (written_in p) w h

  pub under_condition : (c : Term) (p q : Body) → IsWritten (written_cond c p q) → IsWritten p
  under_condition c p q h = on_left (written_in p) (written_in q) w (on_right (of_condition c) (both_written (written_in p) (written_in q)) w h)

  pub against_condition : (c : Term) (p q : Body) → IsWritten (written_cond c p q) → IsWritten q
  against_condition c p q h = on_right (written_in p) (written_in q) w (on_right (of_condition c) (both_written (written_in p) (written_in q)) w h)

  one_written : (path : Path) (b : Body) → IsWritten b → AreWritten (record { path = path; body = b } ∷ [])
  one_written path b h _ here = h
  one_written path b h r (there i) = elim i [ ]

  pub factors_written : (path : Path) (b : Body) → IsWritten b → AreWritten (factors path b)
  factors_written path (written_seq p q) h = λ r i. ⊎_elim
      (λ j. factors_written (path ++ false ∷ []) p (on_left (written_in p) (written_in q) w h) r j)
      (λ j. factors_written (path ++ true ∷ []) q (on_right (written_in p) (written_in q) w h) r j)
      (in_append (factors (path ++ false ∷ []) p) (factors (path ++ true ∷ []) q) i)
  factors_written path written_delta h = one_written path written_delta h
  factors_written path (written_act m) h = one_written path (written_act m) h
  factors_written path (written_choice p q) h = one_written path (written_choice p q) h
  factors_written path (written_cond c p q) h = one_written path (written_cond c p q) h
  factors_written path (written_sum x p) h = one_written path (written_sum x p) h
  factors_written path (written_call x ts) h = one_written path (written_call x ts) h
  factors_written path (written_merge p q) h = one_written path (written_merge p q) h
  factors_written path (written_starting start p q) h = one_written path (written_starting start p q) h
  factors_written path (written_around o p) h = one_written path (written_around o p) h

  pub more_written : (path : Path) (b : Body) (rest : List Factor) → IsWritten b → AreWritten rest → AreWritten (factors path b ++ rest)
  more_written path b rest h k r i = ⊎_elim (λ j. factors_written path b h r j) (λ j. k r j) (in_append (factors path b) rest i)

  follow_written : (path : Path) (b : Body) (rest : List Factor) (down : Path) → IsWritten b → AreWritten rest → AreWritten (follow path b rest down)
  follow_written path b rest [] h k = more_written path b rest h k
  follow_written path (written_seq p q) rest (false ∷ down) h k =
      follow_written (path ++ false ∷ []) p (factors (path ++ true ∷ []) q ++ rest) down (on_left (written_in p) (written_in q) w h) (more_written (path ++ true ∷ []) q rest (on_right (written_in p) (written_in q) w h) k)
  follow_written path (written_seq p q) rest (true ∷ down) h k = follow_written (path ++ true ∷ []) q rest down (on_right (written_in p) (written_in q) w h) k
  follow_written path (written_choice p q) rest (false ∷ down) h k = follow_written (path ++ false ∷ []) p rest down (on_left (written_in p) (written_in q) w h) k
  follow_written path (written_choice p q) rest (true ∷ down) h k = follow_written (path ++ true ∷ []) q rest down (on_right (written_in p) (written_in q) w h) k
  follow_written path (written_cond c p q) rest (false ∷ down) h k = follow_written (path ++ false ∷ []) p rest down (under_condition c p q h) k
  follow_written path (written_cond c p q) rest (true ∷ down) h k = follow_written (path ++ true ∷ []) q rest down (against_condition c p q h) k
  follow_written path (written_sum x p) rest (false ∷ down) h k = follow_written (path ++ false ∷ []) p rest down (under_sum x p h) k
  follow_written path (written_sum x p) rest (true ∷ down) h k = λ r i. elim i [ ]
  follow_written path written_delta rest (s ∷ down) h k = λ r i. elim i [ ]
  follow_written path (written_act m) rest (s ∷ down) h k = λ r i. elim i [ ]
  follow_written path (written_call x ts) rest (s ∷ down) h k = λ r i. elim i [ ]
  follow_written path (written_merge p q) rest (s ∷ down) h k = λ r i. elim i [ ]
  follow_written path (written_starting start p q) rest (s ∷ down) h k = λ r i. elim i [ ]
  follow_written path (written_around o p) rest (s ∷ down) h k = λ r i. elim i [ ]

  -- what stands at a place
  pub place_written : (t : Text) (place : Place) → IsWritten (body_of_owner t place.owner) → AreWritten (factors_at t place)
  place_written t place h = from_written place.path
    where
      from_written : (path : Path) → AreWritten (factors_from t place.owner path)
      from_written [] = one_written [] (body_of_owner t place.owner) h
      from_written (s ∷ path) = follow_written [] (body_of_owner t place.owner) [] (s ∷ path) h (λ r i. elim i [ ])

-- ---- the text of a component
nothing_within : (w : Written) → IsWithin (written_in written_delta) w
nothing_within w = record { sums = λ s i. absurd (contains_none s i); conditions = λ c i. absurd (contains_none c i); action_arguments = λ t i. absurd (contains_none t i); call_arguments = λ t i. absurd (contains_none t i) }

module _ (e : Entries) where
  starts_within : (ds : List PlainDefinition) (b : Body) (w : Written) → IsWithin (written_by (table_of e ds) b) w → IsWithin (written_in b) w
  starts_within [] b w h = h
  starts_within (d ∷ ds) b w h = starts_within ds b w (on_right (written_in (body_of e d.body)) (written_by (table_of e ds) b) w h)

  among_within : (ds : List PlainDefinition) (b : Body) (w : Written) → IsWithin (written_by (table_of e ds) b) w → (x : ℕ) → IsWithin (written_in (body_among (map (piece_of e) ds) x)) w
  among_within [] b w h x = nothing_within w
  among_within (d ∷ ds) b w h zero = on_left (written_in (body_of e d.body)) (written_by (table_of e ds) b) w h
  among_within (d ∷ ds) b w h (suc x) = among_within ds b w (on_right (written_in (body_of e d.body)) (written_by (table_of e ds) b) w h) x

  pub definition_written : (ds : List PlainDefinition) (b : Body) (x : ℕ) (f : Piece) → body_among (map (piece_of e) ds) x ≡ f.body → IsWithin (written_in f.body) (written_by (table_of e ds) b)
  definition_written ds b x f q = subst (λ z. IsWithin (written_in z) (written_by (table_of e ds) b)) q (among_within ds b (written_by (table_of e ds) b) (all_within _) x)

  own_written : (ds : List PlainDefinition) (c : PlainComponent) → IsWithin (written_in (own_body e c)) (written_by (table_of e ds) (component_body e c))
  own_written ds (call_of x ids) = nothing_within _
  own_written ds (term_of p) = starts_within ds (body_of e p) _ (all_within _)

  pub owner_written : (ds : List PlainDefinition) (reached : List ℕ) (c : PlainComponent) (o : ℕ) → IsWithin (written_in (body_of_owner (text_of e ds reached c) o)) (written_by (table_of e ds) (component_body e c))
  owner_written ds reached c zero = own_written ds c
  owner_written ds reached c (suc x) = among_within ds (component_body e c) _ (all_within _) x

  pub component_written : (ds : List PlainDefinition) (c : PlainComponent) → IsWithin (written_in (component_body e c)) (written_by (table_of e ds) (component_body e c))
  component_written ds c = starts_within ds (component_body e c) _ (all_within _)
