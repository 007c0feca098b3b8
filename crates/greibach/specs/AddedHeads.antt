-- Which summands are added for what stands at a place, by what the ids mean in the end.
use Rattle.std.specs.Prelude.{◌≡◌, ℕ, List, [], ◌∷◌, ◌++◌, map, reverse, length, Option, None, Some, slice_get}
use Rattle.std.specs.List.{AllZip, Contains}
use Rattle.data_theory.specs.declared.ids.VarId.{VarId}
use Rattle.data_theory.specs.declared.ids.TermId.{TermId}
use Rattle.data_theory.specs.Terms.{Term, variable, put}
use Rattle.data_theory.specs.Equations.{ !ᵗ◌}
use Rattle.data_theory.specs.Environments.{Environment, term_in}
use Rattle.data_theory.specs.Signature.{Sig}
use Rattle.data_theory.specs.IdTrees.{Tree}
use Rattle.data_theory.specs.WholeSignatures.{IsSignature}
use Rattle.process_terms.specs.PlainProcesses.{PlainAction}
use Rattle.process_terms.specs.Labels.{put_label}
use Rattle.process_terms.specs.Communication.{conjunction_of}
use Rattle.process_terms.specs.Meanings.{Entries, bound_at, term_at, label_of}
use Rattle.process_terms.specs.SignatureEntries.{entries_of, BothGrow}
use Rattle.lps_core.specs.Conditions.{parts as parts_of_condition, without_true}
use Rattle.lps_core.specs.TreeSummands.{numbers_of}
use Rattle.greibach.specs.PlainForms.{PlainFormSummand}
use Rattle.greibach.specs.ListedVariables.{paired}
use Rattle.greibach.specs.MeetingOrder.{IsNumberOf, Meets}
use Rattle.greibach.specs.PlacesInCode.{PlainPart, delta, act, choice, cond, sum, call, whole, PlainEntry, PlainPlaces}
use Rattle.greibach.specs.OnwardCalls.{part_at, rest_at, params_of_place, entry_place, RestIsListed}
use Rattle.greibach.specs.Surroundings.{PlainAround, PlainUnfolding}

-- whatever signature and pool grow to
abbrev pub Later : Sig → List Tree → (Entries → Type 0) → Type 0
Later h us P = (k : Sig) (ws : List Tree) → IsSignature k → BothGrow h k us ws → P (entries_of k ws)

-- the terms for variables, the first of which count
abbrev pub environment_of : Entries → List (VarId × TermId) → Environment
environment_of e by = map (λ p. record { var = p.0.0; term = term_at e p.1 }) by

abbrev pub put_in : Entries → List (VarId × TermId) → Term → Term
put_in e by t = put (term_in (environment_of e by)) t

-- ---- calls of places with terms
abbrev pub rest_terms : Entries → PlainPlaces → List (VarId × TermId) → Option ℕ → List (ℕ × List Term)
rest_terms e t by None = []
rest_terms e t by (Some n) = (n, map (λ (v : VarId). term_in (environment_of e by) v.0) (params_of_place t n)) ∷ []

-- a call at the beginning is kept, and the rest behind it is one call; else all of it is one
abbrev pub first_terms : Entries → PlainPlaces → List (VarId × TermId) → ℕ → PlainPart → List (ℕ × List Term)
first_terms e t by n (call k ids) = (entry_place t k, map (put_in e by) (map (term_at e) ids)) ∷ rest_terms e t by (rest_at t n)
first_terms e t by n _ = rest_terms e t by (Some n)

abbrev pub onward_terms : Entries → PlainPlaces → List (VarId × TermId) → Option ℕ → List (ℕ × List Term)
onward_terms e t by None = []
onward_terms e t by (Some n) = first_terms e t by n (part_at t n)

-- those that wait, the last one first
abbrev pub waiting_terms : Entries → List (ℕ × List TermId) → List (ℕ × List Term)
waiting_terms e ws = map (λ w. (w.0, map (term_at e) w.1)) (reverse ws)

-- a call has the number of its place, and these terms
pub record IsCallAt (e : Entries) (met : List ℕ) (wanted : ℕ × List Term) (c : ℕ × List TermId) : Type 0 where
  pub number : IsNumberOf met wanted.0 c.0
  pub args : map (term_at e) c.1 ≡ wanted.1

-- the parameters of what is called onward are listed
abbrev pub FirstIsCovered : PlainPlaces → List (VarId × TermId) → ℕ → PlainPart → Type 0
FirstIsCovered t by n (call k ids) = RestIsListed t by (rest_at t n)
FirstIsCovered t by n _ = RestIsListed t by (Some n)

abbrev pub OnwardIsCovered : PlainPlaces → List (VarId × TermId) → Option ℕ → Type 0
OnwardIsCovered t by None = Unit {0}
OnwardIsCovered t by (Some n) = FirstIsCovered t by n (part_at t n)

-- The summand of a label: the sums around, one chain of the conditions' parts, the label with the terms put in, and the calls of
-- what follows in its own body and then of what waits. Their places are met in this order.
pub record IsLabelSummand (e : Entries) (t : PlainPlaces) (a : PlainAround) (waiting : List (ℕ × List TermId)) (m : List PlainAction) (rest : Option ℕ) (old new : List ℕ) (s : PlainFormSummand) : Type 0 where
  pub sums : s.sums ≡ a.sums
  pub condition : term_at e s.condition ≡ conjunction_of (map (term_at e) a.parts)
  pub label : label_of e s.label ≡ put_label (environment_of e a.by) (label_of e m)
  pub next : AllZip (IsCallAt e new) (onward_terms e t a.by rest ++ waiting_terms e waiting) s.next
  pub met : Meets old (map (λ w. w.0) (onward_terms e t a.by rest ++ waiting_terms e waiting)) new
  pub covered : OnwardIsCovered t a.by rest

-- ---- what is around further in
abbrev pub with_parts : PlainAround → List TermId → PlainAround
with_parts a parts = record { params = a.params; sums = a.sums; by = a.by; parts = parts }

abbrev pub with_sum : PlainAround → VarId → VarId → TermId → PlainAround
with_sum a x y id = record { params = a.params; sums = a.sums ++ y ∷ []; by = (x, id) ∷ a.by; parts = a.parts }

abbrev pub with_terms : PlainAround → List (VarId × TermId) → PlainAround
with_terms a by = record { params = a.params; sums = a.sums; by = by; parts = a.parts }

-- a further condition as the last one
abbrev pub AreGuarding : Entries → PlainAround → Term → List TermId → Type 0
AreGuarding e a c parts = map (term_at e) parts ≡ map (term_at e) a.parts ++ without_true (parts_of_condition c)

-- another variable of the same sort, which stands for itself
pub record IsSumming (e : Entries) (a : PlainAround) (x y : VarId) (id : TermId) : Type 0 where
  pub itself : term_at e id ≡ variable y.0
  pub sort : (bound_at e y).sort ≡ (bound_at e x).sort
  pub new : Contains (numbers_of (a.sums ++ a.params)) y.0 → ⊥

-- the arguments of a call for the parameters of its definition
pub record IsEntering (e : Entries) (t : PlainPlaces) (a : PlainAround) (k : ℕ) (ids : List TermId) (entry : PlainEntry) (made : List TermId) : Type 0 where
  pub stands : slice_get t.entries k ≡ Some entry
  pub long : length made ≡ length entry.params
  pub args : map (term_at e) made ≡ map (put_in e a.by) (map (term_at e) ids)

-- a rest that waits behind a call
pub record IsWaiting (e : Entries) (t : PlainPlaces) (a : PlainAround) (n : ℕ) (behind : List TermId) : Type 0 where
  pub args : map (term_at e) behind ≡ map (λ (v : VarId). term_in (environment_of e a.by) v.0) (params_of_place t n)
  pub covered : RestIsListed t a.by (Some n)

mutual
  -- the summands of what stands at a place, from the left
  pub data Adds (e : Entries) (t : PlainPlaces) : PlainAround → List (ℕ × List TermId) → ℕ → List ℕ → List ℕ → List PlainFormSummand → Type 0 where
    adds_nothing : {a : PlainAround} {w : List (ℕ × List TermId)} {n : ℕ} {met : List ℕ} → part_at t n ≡ delta → Adds e t a w n met met []
    adds_label : {a : PlainAround} {w : List (ℕ × List TermId)} {n : ℕ} {old new : List ℕ} {s : PlainFormSummand} (m : List PlainAction) → part_at t n ≡ act m → IsLabelSummand e t a w m (rest_at t n) old new s → Adds e t a w n old new (s ∷ [])
    adds_operands : {a : PlainAround} {w : List (ℕ × List TermId)} {n : ℕ} {old new : List ℕ} {ss : List PlainFormSummand} (ns : List ℕ) → part_at t n ≡ choice ns → AddsEach e t a w ns old new ss → Adds e t a w n old new ss
    adds_branches : {a : PlainAround} {w : List (ℕ × List TermId)} {n : ℕ} {old mid new : List ℕ} {ss us : List PlainFormSummand} (c : TermId) (i j : ℕ) (first second : List TermId) → part_at t n ≡ cond c i j
        → AreGuarding e a (put_in e a.by (term_at e c)) first → Adds e t (with_parts a first) w i old mid ss
        → AreGuarding e a (!ᵗ put_in e a.by (term_at e c)) second → Adds e t (with_parts a second) w j mid new us → Adds e t a w n old new (ss ++ us)
    adds_summed : {a : PlainAround} {w : List (ℕ × List TermId)} {n : ℕ} {old new : List ℕ} {ss : List PlainFormSummand} (x y : VarId) (id : TermId) (i : ℕ) → part_at t n ≡ sum x i → IsSumming e a x y id
        → Adds e t (with_sum a x y id) w i old new ss → Adds e t a w n old new ss
    adds_entered : {a : PlainAround} {w : List (ℕ × List TermId)} {n : ℕ} {old new : List ℕ} {ss : List PlainFormSummand} (k : ℕ) (ids : List TermId) (entry : PlainEntry) (made : List TermId) → part_at t n ≡ call k ids → rest_at t n ≡ None
        → IsEntering e t a k ids entry made → Adds e t (with_terms a (paired entry.params made)) w entry.place old new ss → Adds e t a w n old new ss
    adds_called : {a : PlainAround} {w : List (ℕ × List TermId)} {n : ℕ} {old new : List ℕ} {ss : List PlainFormSummand} (k : ℕ) (ids : List TermId) (entry : PlainEntry) (made : List TermId) (m : ℕ) (behind : List TermId) → part_at t n ≡ call k ids → rest_at t n ≡ Some m
        → IsWaiting e t a m behind → IsEntering e t a k ids entry made → Adds e t (with_terms a (paired entry.params made)) (w ++ (m, behind) ∷ []) entry.place old new ss → Adds e t a w n old new ss
    adds_whole : {a : PlainAround} {w : List (ℕ × List TermId)} {n : ℕ} {old new : List ℕ} {ss : List PlainFormSummand} (i : ℕ) → part_at t n ≡ whole i → Adds e t a w i old new ss → Adds e t a w n old new ss

  -- one place after another
  pub data AddsEach (e : Entries) (t : PlainPlaces) : PlainAround → List (ℕ × List TermId) → List ℕ → List ℕ → List ℕ → List PlainFormSummand → Type 0 where
    adds_none : {a : PlainAround} {w : List (ℕ × List TermId)} {met : List ℕ} → AddsEach e t a w [] met met []
    adds_more : {a : PlainAround} {w : List (ℕ × List TermId)} {n : ℕ} {ns : List ℕ} {old mid new : List ℕ} {ss us : List PlainFormSummand} → Adds e t a w n old mid ss → AddsEach e t a w ns mid new us → AddsEach e t a w (n ∷ ns) old new (ss ++ us)

-- ---- a call in head position
abbrev pub AddsEntered : Entries → PlainPlaces → PlainAround → List (ℕ × List TermId) → ℕ → List TermId → List ℕ → List ℕ → List PlainFormSummand → Type 0
AddsEntered e t a w k ids old new ss = (entry : PlainEntry) × (made : List TermId) × IsEntering e t a k ids entry made × Adds e t (with_terms a (paired entry.params made)) w entry.place old new ss

abbrev pub AddsCalled : Entries → PlainPlaces → PlainAround → List (ℕ × List TermId) → ℕ → List TermId → Option ℕ → List ℕ → List ℕ → List PlainFormSummand → Type 0
AddsCalled e t a w k ids None old new ss = AddsEntered e t a w k ids old new ss
AddsCalled e t a w k ids (Some m) old new ss = (behind : List TermId) × IsWaiting e t a m behind × AddsEntered e t a (w ++ (m, behind) ∷ []) k ids old new ss

-- ---- with what is around
abbrev pub AddsGuarded : Entries → PlainPlaces → PlainAround → List (ℕ × List TermId) → TermId → ℕ → List ℕ → List ℕ → List PlainFormSummand → Type 0
AddsGuarded e t a w c n old new ss = (parts : List TermId) × AreGuarding e a (term_at e c) parts × Adds e t (with_parts a parts) w n old new ss

abbrev pub AddsSummed : Entries → PlainPlaces → PlainAround → List (ℕ × List TermId) → VarId → ℕ → List ℕ → List ℕ → List PlainFormSummand → Type 0
AddsSummed e t a w x n old new ss = (y : VarId) × (id : TermId) × IsSumming e a x y id × Adds e t (with_sum a x y id) w n old new ss

abbrev pub AddsBranches : Entries → PlainPlaces → PlainAround → List (ℕ × List TermId) → TermId → ℕ → ℕ → List ℕ → List ℕ → List PlainFormSummand → Type 0
AddsBranches e t a w c i j old new ss =
    (first : List TermId) × (second : List TermId) × (mid : List ℕ) × (ls : List PlainFormSummand) × (rs : List PlainFormSummand) × (ss ≡ ls ++ rs)
    × AreGuarding e a (put_in e a.by (term_at e c)) first × Adds e t (with_parts a first) w i old mid ls
    × AreGuarding e a (!ᵗ put_in e a.by (term_at e c)) second × Adds e t (with_parts a second) w j mid new rs

-- ---- what was added between two states of an equation under way
abbrev pub Grew : Sig → List Tree → PlainUnfolding → PlainUnfolding → (Entries → List ℕ → List ℕ → List PlainFormSummand → Type 0) → Type 0
Grew h us u v A = Later h us (λ e. (ss : List PlainFormSummand) × (v.summands ≡ u.summands ++ ss) × A e u.met v.met ss)
