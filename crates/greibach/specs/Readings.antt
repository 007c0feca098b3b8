-- What a reader has read of a specification.
use Rattle.std.specs.Prelude.{◌≡◌, ◌↔◌, ◌⊎◌, ◌++◌, ℕ, List, [], ◌∷◌, map, length, Option, None, Some, slice_get, IfSome}
use Rattle.std.specs.List.{Contains}
use Rattle.data_theory.specs.Complete.{BeginsWith}
use Rattle.data_theory.specs.declared.ids.ProcId.{ProcId}
use Rattle.data_theory.specs.declared.ids.VarId.{VarId}
use Rattle.data_theory.specs.declared.ids.TermId.{TermId}
use Rattle.data_theory.specs.IdTrees.{Tree}
use Rattle.process_terms.specs.PlainProcesses.{PlainProcess, PlainProcesses, PlainDefinition, plain_definition, PlainComponent, call_of, term_of}
use Rattle.process_terms.specs.Meanings.{Entries, body_of}
use Rattle.proc_unfold.specs.Parallel.{HasParallel}
use Rattle.greibach.specs.declared.reading.Reader.{Reader}
use Rattle.greibach.specs.declared.reading.Source.{Source}
use Rattle.greibach.specs.PlacesInCode.{PlainPart, PlainPlace, PlainEntry, plain_place}
use Rattle.greibach.specs.OccurringVariables.{OccursIn, rest_params}
use Rattle.greibach.specs.FittingPlaces.{IsThere, FitsInScope, FitInScope, ReadsFittingly, HasRead}
use Rattle.greibach.specs.TableReadings.{Reads}

abbrev pub definitions_in : Source → List PlainDefinition
definitions_in s = map plain_definition s.model.now.procs.items

abbrev pub places_in : Reader → List PlainPlace
places_in r = map plain_place r.places.items

-- what was read so far fits
abbrev pub IsReading : Source → Reader → Type 0
IsReading s r = ReadsFittingly s.sig.now s.pool.now.trees (definitions_in s) (places_in r) r.reached.keys r.scope.items

-- what follows is there
abbrev pub RestIsRead : Reader → Option ℕ → Type 0
RestIsRead r rest = IfSome rest (IsThere (places_in r) r.scope.items)

-- process terms over the variables in scope
abbrev pub CanRead : Source → Reader → PlainProcess → Type 0
CanRead s r p = FitsInScope s.sig.now s.pool.now.trees (definitions_in s) r.scope.items p

abbrev pub CanReadAll : Source → Reader → PlainProcesses → Type 0
CanReadAll s r ps = FitInScope s.sig.now s.pool.now.trees (definitions_in s) r.scope.items ps

-- from the old reader to the new one something was read, which begins at this place
abbrev pub ReadsOn : Source → Reader → Reader → List VarId → ℕ → Type 0
ReadsOn s old new scope n = HasRead s.sig.now s.pool.now.trees (definitions_in s) (places_in old) (places_in new) old.reached.keys new.reached.keys scope n

-- In each later table there stands what was read for the process term, where that has no parallel operator.
abbrev pub ReadsTerm : List Tree → List PlainPlace → List PlainPlace → List ProcId → List ProcId → List VarId → PlainProcess → Option ℕ → ℕ → Type 0
ReadsTerm ts old new before after scope p rest n =
    (e : Entries) (reached : List ProcId) (table : List PlainPlace) → BeginsWith after reached → BeginsWith new table → (HasParallel (body_of e p) → ⊥)
    → Reads e ts reached table scope (body_of e p) rest (length old) (length new) before after n

abbrev pub ReadsAs : Source → Reader → Reader → List VarId → PlainProcess → Option ℕ → ℕ → Type 0
ReadsAs s old new scope p rest n = ReadsTerm s.pool.now.trees (places_in old) (places_in new) old.reached.keys new.reached.keys scope p rest n

-- a place was added, with these parameters
abbrev pub IsPushed : List PlainPlace → PlainPart → Option ℕ → List VarId → List PlainPlace → ℕ → Type 0
IsPushed old part rest params new n = (new ≡ old ++ record { part = part; rest = rest; params = params } ∷ []) × (n ≡ length old)

-- the variables of terms, and the parameters of a rest
abbrev pub AreNeeded : List Tree → List TermId → List PlainPlace → Option ℕ → List VarId → Type 0
AreNeeded ts terms ps rest keys = (v : VarId) → Contains keys v ↔ (OccursIn ts terms v ⊎ Contains (rest_params ps rest) v)

-- a definition was read: its entry has the place of all of it
pub record ReadsDefinition (s : Source) (old new : Reader) (x : ProcId) (d : PlainDefinition) (e : PlainEntry) : Type 0 where
  pub places_begin : BeginsWith (places_in old) (places_in new)
  pub reached_begin : BeginsWith old.reached.keys new.reached.keys
  pub reading : IsReading s new
  pub process : e.process ≡ x
  pub params : e.params ≡ d.params
  pub place : PlainPlace
  pub at : slice_get (places_in new) e.place ≡ Some place
  pub all : place.params ≡ e.params

-- the component's own term stands at a place, or its definition is the first one that is reached
abbrev pub HasBegun : List PlainPlace → List ProcId → PlainComponent → Option ℕ → Type 0
HasBegun ps reached (call_of x ids) own = (own ≡ None) × (slice_get reached 0 ≡ Some x)
HasBegun ps reached (term_of p) own = (n : ℕ) × (own ≡ Some n) × IsThere ps [] n
