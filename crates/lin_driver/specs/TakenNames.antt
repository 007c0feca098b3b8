-- The names of variables: which are taken, and that they are identifiers.
use Rattle.std.specs.Prelude.{◌≡◌, ◌<◌, ℕ, List, slice_get, Some}
use Rattle.data_theory.specs.declared.ids.NameId.{NameId}
use Rattle.data_theory.specs.declared.ids.VarId.{VarId}
use Rattle.data_theory.specs.Signature.{Sig}
use Rattle.lps_core.specs.Fitting.{HasTakenName, IsVariable}
use Rattle.lps_core.specs.Naming.{name_of}
use Rattle.lps_printer.specs.DataLayout.{IsIdentifier}

-- of those with numbers below this one
abbrev pub HaveTakenNames : Sig → ℕ → Type 0
HaveTakenNames g n = (x : VarId) → x.0 < n → HasTakenName g x

-- the name has a text, which is an identifier
abbrev pub HasIdentifierText : Sig → NameId → Type 0
HasIdentifierText g n = (t : List ℕ) × (slice_get g.texts n.0 ≡ Some t) × IsIdentifier t

-- so have the names of all variables
abbrev pub HaveIdentifiers : Sig → Type 0
HaveIdentifiers g = (x : VarId) → IsVariable g x → HasIdentifierText g (name_of g x)
