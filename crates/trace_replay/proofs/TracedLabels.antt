-- The labels of a trace, one after the other.
use Rattle.std.specs.Prelude.{◌≡◌, ◌<◌, ◌≤◌, ◌+◌, ◌||◌, ℕ, zero, suc, Bool, true, false, cond, List, [], ◌∷◌, map, length, drop, get_or, Option, Some, slice_get}
use Rattle.std.proofs.Common.{refl, sym, subst, ap, ap₂, ◌∙◌, arith, add-one, drop-cons}
use Rattle.std.specs.List.{All, AllByRecursion, AllZip, Contains}
use Rattle.std.proofs.lemmas.List.{length-map}
use Rattle.std.proofs.lemmas.List.Elements.{All-nil, All-cons, All-head, All-tail, All-get_or, All-contains, Contains-get_or, All-weaker}
use Rattle.std.proofs.lemmas.Option.{slice_get-get_or}
use Rattle.data_theory.specs.declared.ids.TermId.{TermId}
use Rattle.data_theory.specs.IdTerms.{term_under, IsTreeWithin}
use Rattle.data_theory.specs.IdTrees.{Tree}
use Rattle.data_theory.specs.Keys.{Key, key}
use Rattle.data_theory.specs.Signature.{Sig}
use Rattle.data_theory.specs.Terms.{Term}
use Rattle.data_theory.specs.WholeSignatures.{IsSignature}
use Rattle.term_pool.specs.HeadTrees.{tree_at, no_tree, IsIn}
use Rattle.term_pool.specs.Pools.{Extends}
use Rattle.data_rewriter.specs.Standing.{IsTerm}
use Rattle.process_terms.specs.Labels.{Label}
use Rattle.process_terms.specs.Meanings.{action_at, action_of, label_of, HasTerm, HasAction, HasLabel}
use Rattle.process_terms.specs.PlainProcesses.{PlainAction}
use Rattle.process_terms.specs.SignatureEntries.{action_entry, entries_of}
use Rattle.bisim_laws.specs.LinearProcesses.{Linear}
use Rattle.lps_core.specs.Fitting.{Fits, sort_of_variable}
use Rattle.lps_core.specs.PlainLinears.{PlainLinear, initial_of}
use Rattle.lps_core.proofs.Staying.{read_mapped}
use Rattle.lps_simulator.proofs.Bindings.{terms_stay}
use Rattle.lps_simulator.proofs.FittingSummands.{all_sorted_within}
use Rattle.trace_replay.specs.declared.reading.Line.{Line}
use Rattle.trace_replay.specs.declared.replaying.Verdict.{Verdict}
use Rattle.trace_replay.specs.declared.replaying.Verdict.TheVariants.{Accepted, Rejected, Undecided}
use Rattle.trace_replay.specs.Pairings.{IsClosedLabel}
use Rattle.trace_replay.specs.ReadTraces.{PlainLine, plain_line, IsEntry, AreEntries, no_entries, entry_then}
use Rattle.trace_replay.specs.Replays.{State, Entry, LeadTo, Replays, accepted, leads_on, undecided, rejected}
use Rattle.trace_replay.specs.Settings.{Setting, data_in}
use Rattle.trace_replay.specs.States.{meant_state, StateStands}
use Rattle.trace_replay.specs.Verdicts.{LineIs, LinesAre}
use Rattle.trace_replay.specs.Ways.{ActionIs, LabelIs}
use Rattle.trace_replay.proofs.EqualityTerms.{label_stays, terms_meant}
use Rattle.trace_replay.proofs.StateLemmas.{terms_kept}

-- ---- labels that were read
module _ (g : Sig) (ts : List Tree) (within : All (IsTreeWithin g) ts) where
  term_there : (id : TermId) → HasTerm (entries_of g ts) id → IsTerm g ts id
  term_there id h =
      let inside : id.0 < length ts = subst (λ (n : ℕ). id.0 < n) (length-map ts (term_under g)) h in record { inside = inside; within = All-get_or (IsTreeWithin g) ts id.0 no_tree inside within }

  action_there : (x : PlainAction) → HasAction (entries_of g ts) x → ActionIs g ts x (action_of (entries_of g ts) x)
  action_there x h =
      let inside : x.act.0 < length g.actions = subst (λ (n : ℕ). x.act.0 < n) (length-map g.actions (action_entry g)) h.0 in
      let k : Key = get_or g.actions x.act.0 (key (record { 0 = 0 }) []) in
      let is : action_at (entries_of g ts) x.act ≡ action_entry g k = read_mapped (action_entry g) g.actions x.act.0 (record { name = []; sorts = [] }) (key (record { 0 = 0 }) []) inside in
      let over : All (IsTerm g ts) x.args = All-weaker (HasTerm (entries_of g ts)) (IsTerm g ts) term_there x.args h.1 in
      record {
        key = k;
        stands = slice_get-get_or g.actions x.act.0 (key (record { 0 = 0 }) []) inside;
        name = sym (ap (λ z. z.name) is);
        sorts = sym (ap (λ z. z.sorts) is);
        over = over;
        args = terms_meant g ts x.args over;
      }

  pub label_there : (xs : List PlainAction) → HasLabel (entries_of g ts) xs → LabelIs g ts xs (label_of (entries_of g ts) xs)
  label_there [] h = tt
  label_there (x ∷ xs) h = (action_there x (All-head (HasAction (entries_of g ts)) x xs h), label_there xs (All-tail (HasAction (entries_of g ts)) x xs h))

  pub lines_are : {xs : List PlainLine} {es : List Entry} → AreEntries g ts xs es → LinesAre g ts xs es
  lines_are no_entries = tt
  lines_are (entry_then {x = x} h are) = (record { number = h.number; label = subst (LabelIs g ts x.label) h.means (label_there x.label h.there); closed = h.closed }, lines_are are)

pub all_closed : {g : Sig} {ts : List Tree} {xs : List PlainLine} {es : List Entry} (s : Setting) → s.signature ≡ g → AreEntries g ts xs es → AllByRecursion (λ (e : Entry). IsClosedLabel (data_in s) e.label) es
all_closed s is no_entries = tt
all_closed s is (entry_then {e = e} h are) = (subst (λ (z : Sig). IsClosedLabel (data_in (record { signature = z; equations = s.equations; fuel = s.fuel; bound = s.bound })) e.label) (sym is) h.closed, all_closed s is are)

-- ---- a line in code
pub line_stays : (g : Sig) (ts us : List Tree) → Extends ts us → (x : PlainLine) (e : Entry) → LineIs g ts x e → LineIs g us x e
line_stays g ts us grows x e h = record { number = h.number; label = label_stays g ts us grows x.label e.label h.label; closed = h.closed }

pub lines_stay : (g : Sig) (ts us : List Tree) → Extends ts us → (xs : List PlainLine) (es : List Entry) → LinesAre g ts xs es → LinesAre g us xs es
lines_stay g ts us grows [] [] h = tt
lines_stay g ts us grows [] (e ∷ es) h = absurd h
lines_stay g ts us grows (x ∷ xs) [] h = absurd h
lines_stay g ts us grows (x ∷ xs) (e ∷ es) h = (line_stays g ts us grows x e h.0, lines_stay g ts us grows xs es h.1)

-- the entry of a line, and those behind it
pub record HasEntry (g : Sig) (ts : List Tree) (x : PlainLine) (i : ℕ) (es : List Entry) : Type 0 where
  pub entry : Entry
  pub line : LineIs g ts x entry
  pub here : drop i es ≡ entry ∷ drop (i + 1) es

pub has_entry : (g : Sig) (ts : List Tree) (xs : List PlainLine) (es : List Entry) (i : ℕ) (x : PlainLine) → LinesAre g ts xs es → i < length xs → x ≡ get_or xs i x → HasEntry g ts x i es
has_entry g ts [] es i x h l is = absurd (omega (arith, l))
has_entry g ts (y ∷ xs) [] i x h l is = absurd h
has_entry g ts (y ∷ xs) (e ∷ es) zero x h l is = record { entry = e; line = subst (λ (z : PlainLine). LineIs g ts z e) (sym is) h.0; here = refl }
has_entry g ts (y ∷ xs) (e ∷ es) (suc i) x h l is = let r = has_entry g ts xs es i x h.1 (omega (arith, l)) is in let q : suc (i + 1) ≡ suc i + 1 = omega arith in record { entry = r.entry; line = r.line; here = r.here ∙ ap (λ (n : ℕ). r.entry ∷ drop n (e ∷ es)) q }

pub no_entry_left : (g : Sig) (ts : List Tree) (xs : List PlainLine) (es : List Entry) (i : ℕ) → LinesAre g ts xs es → length xs ≤ i → drop i es ≡ []
no_entry_left g ts [] [] zero h l = refl
no_entry_left g ts [] [] (suc i) h l = refl
no_entry_left g ts [] (e ∷ es) i h l = absurd h
no_entry_left g ts (x ∷ xs) [] i h l = absurd h
no_entry_left g ts (x ∷ xs) (e ∷ es) zero h l = absurd (omega (arith, l))
no_entry_left g ts (x ∷ xs) (e ∷ es) (suc i) h l = no_entry_left g ts xs es i h.1 (omega (arith, l))

-- ---- verdicts
pub line_leads_on : (s : Setting) (l : Linear) (from to : List State) (before doubt now : Bool) (e : Entry) (es : List Entry) (v : Verdict) → LeadTo s l e.label from to doubt → (to ≡ [] → ⊥) → now ≡ (before || doubt) → Replays s l to now es v → Replays s l from before (e ∷ es) v
line_leads_on s l from [] before doubt now e es v lead some is rest = absurd (some refl)
line_leads_on s l from (o ∷ os) before doubt now e es v lead some is rest = leads_on lead (subst (λ (b : Bool). Replays s l (o ∷ os) b es v) is rest)

pub line_ends : (s : Setting) (l : Linear) (from to : List State) (before doubt now : Bool) (e : Entry) (es : List Entry) (number : ℕ) → LeadTo s l e.label from to doubt → to ≡ [] → now ≡ (before || doubt) → number ≡ e.number → Replays s l from before (e ∷ es) (cond now (Undecided number) (Rejected number))
line_ends s l from to before doubt now e es number lead none is same =
    subst (λ (n : ℕ). Replays s l from before (e ∷ es) (cond now (Undecided n) (Rejected n))) (sym same) (by_doubt now is)
  where
    ends : LeadTo s l e.label from [] doubt
    ends = subst (λ (os : List State). LeadTo s l e.label from os doubt) none lead

    by_doubt : (b : Bool) → b ≡ (before || doubt) → Replays s l from before (e ∷ es) (cond b (Undecided e.number) (Rejected e.number))
    by_doubt true q = undecided ends (sym q)
    by_doubt false q = rejected ends (sym q)

pub all_lines : (s : Setting) (l : Linear) (from : List State) (before : Bool) (es : List Entry) → (from ≡ [] → ⊥) → es ≡ [] → Replays s l from before es Accepted
all_lines s l [] before es some none = absurd (some refl)
all_lines s l (o ∷ os) before es some none = subst (λ (z : List Entry). Replays s l (o ∷ os) before z Accepted) (sym none) accepted

-- ---- in code
pub none_mapped : {A B : Type 0} (f : A → B) (xs : List A) → map f xs ≡ [] → xs ≡ []
none_mapped f [] e = refl
none_mapped f (x ∷ xs) e = absurd (cc e)

-- the line at an index
pub line_has_entry : (g : Sig) (ts : List Tree) (lines : List Line) (es : List Entry) (i : ℕ) (x : Line) → LinesAre g ts (map plain_line lines) es → i < length lines → x ≡ get_or lines i x → HasEntry g ts (plain_line x) i es
line_has_entry g ts lines es i x h inside is =
    has_entry g ts (map plain_line lines) es i (plain_line x) h (subst (λ (n : ℕ). i < n) (sym (length-map lines plain_line)) inside) (ap plain_line is ∙ sym (read_mapped plain_line lines i (plain_line x) x inside))

pub lead_kept : (s : Setting) (l k : Linear) (m : Label) (from to : List State) (doubt : Bool) → l ≡ k → LeadTo s l m from to doubt → LeadTo s k m from to doubt
lead_kept s l k m from to doubt e h = subst (λ (z : Linear). LeadTo s z m from to doubt) e h

-- ---- the initial state
pub init_over : (g : Sig) → IsSignature g → (ts us : List Tree) → Extends ts us → (l : PlainLinear) → Fits g ts l → All (IsTerm g us) l.init
init_over g stands ts us grows l fits = terms_stay g ts us l.init grows (all_sorted_within g stands ts (map (sort_of_variable g) l.params) l.init fits.init)

pub start_stands : (g : Sig) (us : List Tree) (ids init : List TermId) (os : List (Option (List TermId))) → ids ≡ init → All (IsTerm g us) init → os ≡ Some ids ∷ [] → All (StateStands g us) os
start_stands g us ids init os e over is =
    subst (All (StateStands g us)) (sym is) (All-cons (StateStands g us) (Some ids) [] (subst (All (IsTerm g us)) (sym e) over) (All-nil (StateStands g us)))

pub start_is : (g : Sig) → IsSignature g → (ts us : List Tree) → Extends ts us → (l : PlainLinear) → Fits g ts l → (ids : List TermId) (os : List (Option (List TermId))) → ids ≡ l.init → os ≡ Some ids ∷ [] → map (meant_state g us) os ≡ Some (initial_of (entries_of g ts) l) ∷ []
start_is g stands ts us grows l fits ids os e is =
    let over : All (IsTerm g ts) l.init = all_sorted_within g stands ts (map (sort_of_variable g) l.params) l.init fits.init in
    ap (map (meant_state g us)) (is ∙ ap (λ (z : List TermId). Some z ∷ []) e)
    ∙ ap (λ (z : List Term). Some z ∷ []) (terms_kept g ts us grows l.init over ∙ terms_meant g ts l.init over)

some_is_left : {A : Type 0} (x : A) (xs os : List A) → os ≡ x ∷ xs → os ≡ [] → ⊥
some_is_left x xs os e none = let q : x ∷ xs ≡ [] = sym e ∙ none in cc q

pub a_state_is_left : (ids : List TermId) (os : List (Option (List TermId))) → os ≡ Some ids ∷ [] → os ≡ [] → ⊥
a_state_is_left ids os e none = some_is_left (Some ids) [] os e none

-- the verdict over the first pool
pub replays_from_start : (s : Setting) (l k : Linear) (os starts : List State) (es : List Entry) (v : Verdict) → l ≡ k → os ≡ starts → Replays s l os false es v → Replays s k starts false es v
replays_from_start s l k os starts es v e q h = subst (λ (z : List State). Replays s k z false es v) q (subst (λ (z : Linear). Replays s z os false es v) e h)
