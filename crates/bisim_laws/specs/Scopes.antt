-- Which labels matter around a process.
use Rattle.std.specs.Prelude.{List}
use Rattle.process_terms.specs.Names.{Name}
use Rattle.process_terms.specs.Communication.{Rule}
use Rattle.bisim_laws.specs.Completable.{AreAllowed, IsCompletable}

-- all labels; those that an `allow` keeps; those that can be completed by a `comm` under an `allow`
pub data Scope : Type 0 where
  everything : Scope
  allowed : List (List Name) → Scope
  completable : List Rule → List (List Name) → Scope

abbrev pub Matters : Scope → List Name → Type 0
Matters everything ns = Unit {0}
Matters (allowed sets) ns = AreAllowed sets ns
Matters (completable rules sets) ns = IsCompletable rules sets ns
