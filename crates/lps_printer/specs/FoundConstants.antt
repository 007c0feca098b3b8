-- Constants for empty lists that stand for some sorts, and their equations.
use Rattle.std.specs.Prelude.{◌≡◌, ℕ, suc, cond, List, [], ◌∷◌, ◌++◌, Some, None}
use Rattle.data_theory.specs.Places.{HaveOnePlace}
use Rattle.data_theory.specs.Provable.{Equation}
use Rattle.data_theory.specs.Terms.{Sort}
use Rattle.data_typing.specs.Typings.{sort_eq}
use Rattle.process_terms.specs.Theories.{Theory}
use Rattle.lps_printer.specs.AddedConstants.{AreConstants}
use Rattle.lps_printer.specs.EmptyEquations.{empty_equations}
use Rattle.lps_printer.specs.FilledLinears.{Constants, HasEquations}

-- the first of these sorts, where the constants for them are declared behind so many functions
abbrev pub constant_among : ℕ → List Sort → Constants
constant_among d [] s = None
constant_among d (r ∷ rs) s = cond (sort_eq r s) (Some d) (constant_among (suc d) rs s)

-- for sorts that differ these are their constants
abbrev pub ThereAreConstants : Type 0
ThereAreConstants = (d : ℕ) (ss : List Sort) → HaveOnePlace ss → AreConstants d ss (constant_among d ss)

-- each constant has its equation, where a theory has those of all these sorts
abbrev pub ConstantsHaveEquations : Type 0
ConstantsHaveEquations = (th : Theory) (es : List Equation) (d : ℕ) (ss : List Sort) (c : Constants) → th.equations ≡ es ++ empty_equations d ss → AreConstants d ss c → HasEquations th c
