-- How the table of a component's places is read, one body after another.
use Rattle.std.specs.Prelude.{◌≡◌, ◌≤◌, ◌==◌, ℕ, List, [], ◌∷◌, ◌++◌, length, Option, None, Some, slice_get}
use Rattle.std.specs.List.{Contains, IsDistinct}
use Rattle.data_theory.specs.declared.ids.ProcId.{ProcId}
use Rattle.data_theory.specs.declared.ids.VarId.{VarId}
use Rattle.data_theory.specs.declared.ids.TermId.{TermId}
use Rattle.data_theory.specs.Complete.{BeginsWith}
use Rattle.data_theory.specs.IdTrees.{Tree}
use Rattle.process_terms.specs.PlainProcesses.{PlainProcess, PlainDefinition, PlainComponent, call_of, term_of}
use Rattle.greibach.specs.PlacesInCode.{PlainPlace, PlainEntry, PlainPlaces, whole}
use Rattle.greibach.specs.Readings.{ReadsTerm}

-- a body with these parameters, and the place of all of it behind its own places
pub record ReadsWhole (ts : List Tree) (ps us : List PlainPlace) (rs ss : List ProcId) (params : List VarId) (p : PlainProcess) (n : ℕ) : Type 0 where
  pub mid : List PlainPlace
  pub begins : ℕ
  pub reads : ReadsTerm ts ps mid rs ss params p None begins
  pub is : us ≡ mid ++ record { part = whole begins; rest = None; params = params } ∷ []
  pub at : n ≡ length mid

-- The component's own term comes first, or its definition is reached first. Then comes each reached definition.
pub data ReadsTable (ts : List Tree) (ds : List PlainDefinition) : PlainComponent → List PlainPlace → List ProcId → List PlainEntry → ℕ → Type 0 where
  reads_called : {x : ProcId} {ids : List TermId} {rs : List ProcId} → slice_get rs 0 ≡ Some x → ((y : ProcId) → Contains rs y → x ≡ y) → (first : ℕ) → ReadsTable ts ds (call_of x ids) [] rs [] first
  reads_own : {p : PlainProcess} {ps : List PlainPlace} {rs : List ProcId} (n : ℕ) → ReadsWhole ts [] ps [] rs [] p n → ReadsTable ts ds (term_of p) ps rs [] n
  reads_entry : {c : PlainComponent} {ps us : List PlainPlace} {rs ss : List ProcId} {es : List PlainEntry} {first : ℕ} (x : ProcId) (d : PlainDefinition) (n : ℕ) → ReadsTable ts ds c ps rs es first → slice_get rs (length es) ≡ Some x → slice_get ds x.0 ≡ Some d
      → BeginsWith ps us → BeginsWith rs ss → ReadsWhole ts ps us rs ss d.params d.body n → ReadsTable ts ds c us ss (es ++ record { process = x; place = n; params = d.params } ∷ []) first

-- what is read first
abbrev pub Begins : List Tree → PlainComponent → List PlainPlace → List ProcId → Option ℕ → Type 0
Begins ts (call_of x ids) ps rs own = (own ≡ None) × (ps ≡ []) × (slice_get rs 0 ≡ Some x) × ((y : ProcId) → Contains rs y → x ≡ y)
Begins ts (term_of p) ps rs own = (n : ℕ) × (own ≡ Some n) × ReadsWhole ts [] ps [] rs [] p n

-- a called definition's place is that of the first entry
abbrev pub StartsFirst : PlainComponent → PlainPlaces → Type 0
StartsFirst (call_of x ids) t = (e : PlainEntry) → slice_get t.entries 0 ≡ Some e → t.start ≡ e.place
StartsFirst (term_of p) t = Unit {0}

-- the table of a component: all that is reached was read
pub record IsTableOf (ts : List Tree) (ds : List PlainDefinition) (c : PlainComponent) (t : PlainPlaces) : Type 0 where
  pub reached : List ProcId
  pub table : ReadsTable ts ds c t.places reached t.entries t.start
  pub unique : IsDistinct (λ (x y : ProcId). x.0 == y.0) reached
  pub all : length reached ≤ length t.entries
  pub first : StartsFirst c t
