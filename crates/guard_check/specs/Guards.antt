-- When recursion is guarded, and what says that it isn't.
use Rattle.std.specs.Prelude.{◌≡◌, ◌<◌, ℕ, List, map, length, slice_index, Contains}
use Rattle.data_theory.specs.declared.ids.NameId.{NameId}
use Rattle.graphs.specs.Cycles.{IsFirstCycle}
use Rattle.process_terms.specs.PlainProcesses.{PlainDefinition, PlainModel}
use Rattle.process_terms.specs.Processes.{Body, Table}
use Rattle.process_terms.specs.Meanings.{Entries, table_of, body_of}
use Rattle.guard_check.specs.declared.calls.Extent.TheVariants.{Everywhere}
use Rattle.guard_check.specs.Calls.{calls, Calls, Leads, By, Reaches, FromReached}

-- ---- of a table and the process term that starts
-- each called name is declared
pub record CallsAreDeclared (d : Table) (init : Body) : Type 0 where
  pub start : (x : ℕ) → Contains (calls Everywhere init) x → x < length d
  pub bodies : (x y : ℕ) → Calls Everywhere d x y → y < length d

-- no name that the term reaches leads round to itself
abbrev pub IsGuarded : Table → Body → Type 0
IsGuarded d p = (x : ℕ) → Reaches d p x → By (Leads d) x x → ⊥

-- along links from reached names the numbers fall
abbrev pub FallAlong : Table → Body → (ℕ → ℕ → Type 0) → List ℕ → Type 0
FallAlong d p Link ranks = (x y : ℕ) → Reaches d p x → Link x y → slice_index ranks y < slice_index ranks x

-- ---- of a specification, whatever stands under its numbers
abbrev pub HasDeclaredCalls : PlainModel → Type 0
HasDeclaredCalls m = (g : Entries) → CallsAreDeclared (table_of g m.definitions) (body_of g m.init)

abbrev pub IsGuardedModel : PlainModel → Type 0
IsGuardedModel m = (g : Entries) → IsGuarded (table_of g m.definitions) (body_of g m.init)

-- each definition has a rank, and each reached one leads only to names of smaller rank
pub record HasRanks (m : PlainModel) (ranks : List ℕ) : Type 0 where
  pub size : length ranks ≡ length m.definitions
  pub falls : (g : Entries) → FallAlong (table_of g m.definitions) (body_of g m.init) (Leads (table_of g m.definitions)) ranks

-- the names of these definitions
abbrev pub AreNamesOf : List PlainDefinition → List ℕ → List NameId → Type 0
AreNamesOf ds xs names = map (λ (n : NameId). n.0) names ≡ map (slice_index (map (λ (d : PlainDefinition). d.name.0) ds)) xs

-- the names of the first cycle along the links from reached names; the order is that of the definitions
pub record AreOfFirstCycle (m : PlainModel) (Link : Table → ℕ → ℕ → Type 0) (names : List NameId) : Type 0 where
  pub cycle : List ℕ
  pub first : (g : Entries) → IsFirstCycle (FromReached (table_of g m.definitions) (body_of g m.init) (Link (table_of g m.definitions))) cycle
  pub named : AreNamesOf m.definitions cycle names
