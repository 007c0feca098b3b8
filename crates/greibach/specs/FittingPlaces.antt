-- When a table of places fits a pool and a signature.
use Rattle.std.specs.Prelude.{◌≡◌, ◌<◌, ℕ, List, [], ◌∷◌, length, Some, IfSome, slice_get}
use Rattle.std.specs.List.{All, Contains}
use Rattle.data_theory.specs.declared.ids.ProcId.{ProcId}
use Rattle.data_theory.specs.declared.ids.VarId.{VarId}
use Rattle.data_theory.specs.declared.ids.TermId.{TermId}
use Rattle.data_theory.specs.Table.{bool_sort}
use Rattle.data_theory.specs.Signature.{Sig}
use Rattle.data_theory.specs.Complete.{BeginsWith}
use Rattle.data_theory.specs.IdTrees.{Tree}
use Rattle.data_theory.specs.WholeSignatures.{IsSignature}
use Rattle.process_terms.specs.PlainProcesses.{PlainDefinition, PlainProcess, PlainProcesses, PlainComponent, call_of, term_of}
use Rattle.process_terms.specs.SignatureEntries.{BothGrow}
use Rattle.lps_core.specs.Fitting.{IsVariable}
use Rattle.lps_core.specs.TreeSummands.{numbers_of}
use Rattle.proc_unfold.specs.FittingModels.{TermFits, ActionFits, CallFits, ProcessFits, ProcessesFit}
use Rattle.greibach.specs.PlacesInCode.{PlainPart, delta, act, choice, cond, sum, call, whole, PlainPlace, PlainEntry, PlainPlaces}

-- each of these variables is among the others
abbrev pub AreAmong : List VarId → List VarId → Type 0
AreAmong xs ys = (v : ℕ) → Contains (numbers_of xs) v → Contains (numbers_of ys) v

-- the place is there, and its parameters are among these variables
pub record IsThere (ps : List PlainPlace) (xs : List VarId) (n : ℕ) : Type 0 where
  pub place : PlainPlace
  pub stands : slice_get ps n ≡ Some place
  pub among : AreAmong place.params xs

-- a call of a reached definition, with an argument for each parameter
pub record CallOfReached (g : Sig) (ts : List Tree) (ds : List PlainDefinition) (reached : List ProcId) (xs : List VarId) (k : ℕ) (ids : List TermId) : Type 0 where
  pub process : ProcId
  pub stands : slice_get reached k ≡ Some process
  pub fits : CallFits g ts ds xs process ids

-- over these variables the terms have their sorts, and the parts are there
abbrev pub PartFits : Sig → List Tree → List PlainDefinition → List ProcId → List PlainPlace → List VarId → PlainPart → Type 0
PartFits g ts ds reached ps xs delta = Unit {0}
PartFits g ts ds reached ps xs (act m) = All (ActionFits g ts xs) m
PartFits g ts ds reached ps xs (choice ns) = All (IsThere ps xs) ns
PartFits g ts ds reached ps xs (cond c i j) = TermFits g ts xs bool_sort c × IsThere ps xs i × IsThere ps xs j
PartFits g ts ds reached ps xs (sum x i) = IsVariable g x × IsThere ps (x ∷ xs) i
PartFits g ts ds reached ps xs (call k ids) = CallOfReached g ts ds reached xs k ids
PartFits g ts ds reached ps xs (whole i) = IsThere ps xs i

pub record PlaceFits (g : Sig) (ts : List Tree) (ds : List PlainDefinition) (reached : List ProcId) (ps : List PlainPlace) (p : PlainPlace) : Type 0 where
  pub params : All (IsVariable g) p.params
  pub part : PartFits g ts ds reached ps p.params p.part
  pub rest : IfSome p.rest (IsThere ps p.params)

-- the place of all of a definition, with all its parameters
pub record EntryFits (g : Sig) (ds : List PlainDefinition) (ps : List PlainPlace) (x : ProcId) (e : PlainEntry) : Type 0 where
  pub definition : PlainDefinition
  pub stands : slice_get ds x.0 ≡ Some definition
  pub params : e.params ≡ definition.params
  pub variables : All (IsVariable g) e.params
  pub place : PlainPlace
  pub at : slice_get ps e.place ≡ Some place
  pub all : place.params ≡ e.params

-- each reached definition has its entry
pub record PlacesFit (g : Sig) (ts : List Tree) (t : PlainPlaces) : Type 0 where
  pub definitions : List PlainDefinition
  pub reached : List ProcId
  pub places : All (PlaceFits g ts definitions reached t.places) t.places
  pub entries : (k : ℕ) (x : ProcId) → slice_get reached k ≡ Some x → (e : PlainEntry) × (slice_get t.entries k ≡ Some e) × EntryFits g definitions t.places x e

-- where a component starts: at all of the called definition, with its parameters, or at its own term
abbrev pub StartsAt : List PlainDefinition → PlainComponent → PlainPlaces → Type 0
StartsAt ds (call_of x ids) t = (d : PlainDefinition) × (slice_get ds x.0 ≡ Some d) × (p : PlainPlace) × (slice_get t.places t.start ≡ Some p) × (p.params ≡ d.params)
StartsAt ds (term_of p) t = IsThere t.places [] t.start

-- the same over a signature and a pool that have grown since
pub record PlacesFitSince (g : Sig) (ts : List Tree) (t : PlainPlaces) : Type 0 where
  pub old : Sig
  pub trees : List Tree
  pub signature : IsSignature old
  pub grown : BothGrow old g trees ts
  pub fit : PlacesFit old trees t

-- ---- under way
-- a process term fits over variables that are all in scope
pub record FitsInScope (g : Sig) (ts : List Tree) (ds : List PlainDefinition) (scope : List VarId) (p : PlainProcess) : Type 0 where
  pub variables : List VarId
  pub among : AreAmong variables scope
  pub fits : ProcessFits g ts ds variables p

pub record FitInScope (g : Sig) (ts : List Tree) (ds : List PlainDefinition) (scope : List VarId) (ps : PlainProcesses) : Type 0 where
  pub variables : List VarId
  pub among : AreAmong variables scope
  pub fit : ProcessesFit g ts ds variables ps

-- what was read so far fits, and the reached processes have definitions
pub record ReadsFittingly (g : Sig) (ts : List Tree) (ds : List PlainDefinition) (ps : List PlainPlace) (reached : List ProcId) (scope : List VarId) : Type 0 where
  pub places : All (PlaceFits g ts ds reached ps) ps
  pub variables : All (IsVariable g) scope
  pub known : All (λ (x : ProcId). x.0 < length ds) reached

-- places and reached processes come behind the old ones, and what begins at the answered place is over the variables in scope
pub record HasRead (g : Sig) (ts : List Tree) (ds : List PlainDefinition) (old new : List PlainPlace) (old_reached reached : List ProcId) (scope : List VarId) (n : ℕ) : Type 0 where
  pub places_begin : BeginsWith old new
  pub reached_begin : BeginsWith old_reached reached
  pub fits : ReadsFittingly g ts ds new reached scope
  pub there : IsThere new scope n
