-- The loops over actions and summands, in the terms of the code.
use Rattle.std.specs.Prelude.{◌≡◌, ◌<◌, ◌≤◌, ◌+◌, ◌++◌, ℕ, List, [], ◌∷◌, map, length, drop, take, get_or, min}
use Rattle.std.proofs.Common.{refl, sym, subst, ap, ap₂, ◌∙◌, arith}
use Rattle.std.specs.List.{All, Contains}
use Rattle.std.proofs.lemmas.List.{get_or_default, length-map, map-append, take_more}
use Rattle.std.proofs.lemmas.List.Elements.{All-contains, All-get_or, Contains-get_or}
use Rattle.data_theory.specs.declared.ids.ActId.{ActId}
use Rattle.data_theory.specs.declared.ids.TermId.{TermId}
use Rattle.data_theory.specs.Terms.{Term}
use Rattle.data_theory.specs.IdTrees.{Tree}
use Rattle.data_theory.specs.Signature.{Sig}
use Rattle.data_theory.specs.WholeSignatures.{IsSignature}
use Rattle.term_pool.specs.Pools.{Extends}
use Rattle.data_rewriter.specs.Standing.{IsTerm, term_at}
use Rattle.process_terms.specs.declared.labels.Action.{Action as CodeAction}
use Rattle.process_terms.specs.Communication.{equalities}
use Rattle.process_terms.specs.Labels.{Action, Label}
use Rattle.process_terms.specs.Meanings as meanings
use Rattle.process_terms.specs.PlainProcesses.{PlainAction, plain_action}
use Rattle.process_terms.specs.SignatureEntries.{entries_of}
use Rattle.bisim_laws.specs.LinearProcesses.{Summand}
use Rattle.lps_core.specs.Fitting.{Fits, SummandFits}
use Rattle.lps_core.specs.PlainLinears.{PlainSummand, PlainLinear, summand_of}
use Rattle.lps_core.proofs.Members.{map_contains}
use Rattle.lps_core.proofs.Staying.{term_is, read_mapped}
use Rattle.trace_replay.specs.declared.ways.Way.{Way}
use Rattle.trace_replay.specs.Ways.{PlainWay, plain_way, action_at, actions_at, without, ActionIs, LabelIs, AddsNext, AreBegun, IsNextWay}
use Rattle.trace_replay.proofs.BegunWays.{at_place, begun_first, label_long}
use Rattle.trace_replay.proofs.EqualityTerms.{action_stays, fitting_label}
use Rattle.trace_replay.proofs.StateLemmas.{terms_kept}

-- the least of three numbers
pub min_inside : (a b d count i : ℕ) → count ≡ min (min a b) d → i < count → (i < a) × (i < b) × (i < d)
min_inside a b d count i e l = (omega (arith, e, l), omega (arith, e, l), omega (arith, e, l))

-- an action in code
pub action_in : (xs : List CodeAction) (i : ℕ) (a : CodeAction) → i < length xs → a ≡ get_or xs i a → (d : PlainAction) → plain_action a ≡ get_or (map plain_action xs) i d
action_in xs i a inside is d = ap plain_action is ∙ sym (read_mapped plain_action xs i d a inside)

pub action_there : (g : Sig) (ts : List Tree) (xs : List CodeAction) (m : Label) (i : ℕ) (a : CodeAction) → LabelIs g ts (map plain_action xs) m → i < length xs → a ≡ get_or xs i a → ActionIs g ts (plain_action a) (action_at m i)
action_there g ts xs m i a h inside is =
    subst (λ (z : PlainAction). ActionIs g ts z (action_at m i)) (sym (action_in xs i a inside is (plain_action a)))
    (at_place g ts (map plain_action xs) m i (plain_action a) h (subst (λ (n : ℕ). i < n) (sym (length-map xs plain_action)) inside))

-- the way with which a summand begins
pub begun_start : (g : Sig) (ts : List Tree) (s : PlainSummand) (m : Label) (k : ℕ) (acts given : List CodeAction) (way : Way) (count : ℕ) → IsTerm g ts s.condition → LabelIs g ts (map plain_action acts) (summand_of (entries_of g ts) s).label → LabelIs g ts (map plain_action given) m
    → length acts ≡ length given → count ≡ length given → way.summand ≡ k → way.conditions.items ≡ s.condition ∷ [] → length way.left.items ≡ count → All (λ (place : ℕ). place < count) way.left.items → ((n : Label) → length n ≡ count → actions_at n way.left.items ≡ n)
    → (none found : List Way) → none ≡ [] → found ≡ none ++ way ∷ [] → AreBegun g ts (summand_of (entries_of g ts) s) m k (summand_of (entries_of g ts) s).label (map plain_way found)
begun_start g ts s m k acts given way count stands label other many all number conditions long within places none found empty is =
    let a : Summand = summand_of (entries_of g ts) s in
    let first : length a.label ≡ length acts = sym (label_long g ts (map plain_action acts) a.label label) ∙ length-map acts plain_action in
    let second : length given ≡ length m = sym (length-map given plain_action) ∙ label_long g ts (map plain_action given) m other in
    let c : count ≡ length m = all ∙ second in
    subst (λ (z : List Way). AreBegun g ts a m k a.label (map plain_way z)) (sym (is ∙ ap (λ (z : List Way). z ++ way ∷ []) empty))
    (begun_first g ts a m k s.condition (plain_way way) stands (sym (term_is g ts s.condition stands.inside)) (first ∙ many ∙ second) number conditions (long ∙ c) (subst (λ (n : ℕ). All (λ (place : ℕ). place < n) way.left.items) c within) (places m (sym c)))

-- the label of a summand of a process that fits a pool
pub summand_label : (g : Sig) → IsSignature g → (ts : List Tree) (l : PlainLinear) (s : PlainSummand) → Fits g ts l → Contains l.summands s → LabelIs g ts s.label (summand_of (entries_of g ts) s).label
summand_label g stands ts l s fits among = fitting_label g stands ts s.label (All-contains (SummandFits g ts l.params) l.summands s fits.summands among).label

-- ---- one way more
module _ (given : List CodeAction) (left : List ℕ) (i place : ℕ) (other : CodeAction) (inside : i < length left) (at : place ≡ get_or left i place) (within : All (λ (p : ℕ). p < length given) left) (is : other ≡ get_or given place other) where
  pub place_is : get_or left i 0 ≡ place
  place_is = get_or_default left i 0 place inside ∙ sym at

  pub place_inside : place < length given
  place_inside = subst (λ (p : ℕ). p < length given) place_is (All-get_or (λ (p : ℕ). p < length given) left i 0 inside within)

  pub other_number : (act : ActId) → (get_or (map plain_action given) (get_or left i 0) (record { act = act; args = [] })).act ≡ other.act
  other_number act =
      ap (λ (p : ℕ). (get_or (map plain_action given) p (record { act = act; args = [] })).act) place_is
      ∙ ap (λ (x : PlainAction). x.act) (sym (action_in given place other place_inside is (record { act = act; args = [] })))

  pub other_there : (g : Sig) (ts : List Tree) (m : Label) → LabelIs g ts (map plain_action given) m → ActionIs g ts (plain_action other) (action_at m place)
  other_there g ts m h = action_there g ts given m place other h place_inside is

  pub other_differs : (act : ActId) → (other.act.0 ≡ act.0 → ⊥) → (get_or (map plain_action given) (get_or left i 0) (record { act = act; args = [] })).act ≡ act → ⊥
  other_differs act differs e = differs (ap (λ (n : ActId). n.0) (sym (other_number act) ∙ e))

  pub next_made : (g : Sig) (ts us vs : List Tree) → Extends ts us → (action : CodeAction) (begun w : Way) → begun.left.items ≡ left → other.act.0 ≡ action.act.0 → All (IsTerm g ts) begun.conditions.items → w.summand ≡ begun.summand → All (IsTerm g vs) w.conditions.items
      → ((a b : Action) → ActionIs g us (plain_action action) a → ActionIs g us (plain_action other) b → map (term_at g vs) w.conditions.items ≡ map (term_at g us) begun.conditions.items ++ equalities a.sorts a.args b.args)
      → w.left.items ≡ without i begun.left.items → (a : Action) (m : Label) → ActionIs g ts (plain_action action) a → LabelIs g ts (map plain_action given) m → IsNextWay g ts vs action.act a (map plain_action given) m (plain_way begun) i (plain_way w)
  next_made g ts us vs grows action begun w same number over summand made conditions rest a m h k = record {
    within = subst (λ (z : List ℕ). i < length z) (sym same) inside;
    same = subst (λ (z : List ℕ). (get_or (map plain_action given) (get_or z i 0) (record { act = action.act; args = [] })).act ≡ action.act) (sym same) (other_number action.act ∙ ap (λ (n : ℕ). record { 0 = n }) number);
    number = summand;
    over = made;
    conditions = subst (λ (z : List ℕ). map (term_at g vs) w.conditions.items ≡ map (term_at g ts) begun.conditions.items ++ equalities a.sorts a.args (action_at m (get_or z i 0)).args) (sym same)
        (conditions a (action_at m place) (action_stays g ts us grows (plain_action action) a h) (action_stays g ts us grows (plain_action other) (action_at m place) (other_there g ts m k))
        ∙ ap₂ (λ (x : List Term) (p : ℕ). x ++ equalities a.sorts a.args (action_at m p).args) (terms_kept g ts us grows begun.conditions.items over) (sym place_is));
    left = rest;
  }

-- for fewer places
pub added_all : (g : Sig) (ts us : List Tree) (act : ActId) (a : Action) (xs : List PlainAction) (m : Label) (b : PlainWay) (places count : ℕ) (old now : List PlainWay) → count ≤ places → AddsNext g ts us act a xs m b places old now → AddsNext g ts us act a xs m b count old now
added_all g ts us act a xs m b places count old now l h = record { kept = h.kept; sound = h.sound; complete = λ at k inside same. h.complete at (omega (arith, k, l)) inside same }

-- the way at an index
pub begun_at : (P : PlainWay → Type 0) (ways : List Way) (i : ℕ) (w : Way) → i < length ways → w ≡ get_or ways i w → All P (map plain_way ways) → P (plain_way w)
begun_at P ways i w inside is h = All-contains P (map plain_way ways) (plain_way w) h (map_contains plain_way ways w (subst (λ (z : Way). Contains ways z) (sym is) (Contains-get_or ways i w inside)))

pub begun_taken : (ways : List Way) (i : ℕ) (w : Way) → i < length ways → w ≡ get_or ways i w → map plain_way (take i ways) ++ plain_way w ∷ [] ≡ map plain_way (take (i + 1) ways)
begun_taken ways i w inside is =
    sym (map-append plain_way (take i ways) (w ∷ []))
    ∙ ap (map plain_way) (ap (λ (z : Way). take i ways ++ z ∷ []) is ∙ sym (take_more ways i w inside))

pub pushed_ways : (now new : List Way) (w : Way) → new ≡ now ++ w ∷ [] → map plain_way now ++ plain_way w ∷ [] ≡ map plain_way new
pushed_ways now new w e = sym (map-append plain_way now (w ∷ [])) ∙ ap (map plain_way) (sym e)
