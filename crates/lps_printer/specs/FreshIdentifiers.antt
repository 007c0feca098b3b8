-- Fresh names are identifiers.
use Rattle.std.specs.Prelude.{ℕ, List, ◌++◌, codes}
use Rattle.data_theory.specs.Fresh.{candidate}
use Rattle.lps_printer.specs.DataLayout.{IsIdentifier}

-- those to an identifier
abbrev pub FreshNamesAreIdentifiers : Type 0
FreshNamesAreIdentifiers = (base : List ℕ) → IsIdentifier base → (k : ℕ) → IsIdentifier (candidate base k)

-- and those of constants of sorts, whose base has `dc_` in front
abbrev pub ConstantNamesAreIdentifiers : Type 0
ConstantNamesAreIdentifiers = (x : List ℕ) → IsIdentifier x → (k : ℕ) → IsIdentifier (candidate (codes "dc_" ++ x) k)
