-- The equations of constants for empty lists elaborate.
use Rattle.std.specs.Prelude.{◌≡◌, ◌<◌, ℕ, suc, List, [], ◌∷◌, length, None}
use Rattle.data_theory.specs.Terms.{Sort, list}
use Rattle.data_theory.specs.Declarations.{function_at}
use Rattle.data_theory.specs.Provable.{Equation}
use Rattle.sort_table.specs.Expressions.{Name, word, listed, none}
use Rattle.data_typing.specs.Meanings.{meaning}
use Rattle.sort_checker.specs.FullVocabularies.{FullVocabulary}
use Rattle.sort_checker.specs.Elaborations.{WrittenEquation, ElaboratesEquation}
use Rattle.lps_printer.specs.FilledLinears.{empty_equation}
use Rattle.lps_printer.specs.ReadableNames.{ReadsNames}
use Rattle.lps_printer.specs.WrittenTerms.{Names}

-- `n = []`
abbrev pub written_empty : Name → WrittenEquation
written_empty x = record { variables = []; condition = None; left = word x none; right = listed none }

-- the equations of constants for the empty lists over these sorts, which are declared behind so many functions
abbrev pub empty_equations : ℕ → List Sort → List Equation
empty_equations k [] = []
empty_equations k (s ∷ ss) = empty_equation k s ∷ empty_equations (suc k) ss

-- The equation of a constant of lists elaborates, where names read back.
abbrev pub EmptyEquationsElaborate : Type 0
EmptyEquationsElaborate =
    (v : FullVocabulary) (n : Names) → ReadsNames v.declared.tables [] [] n (meaning v.declared []) → (k : ℕ) (s : Sort) → k < length v.declared.tables.functions
    → (function_at v.declared.tables k).arguments ≡ [] → (function_at v.declared.tables k).result ≡ list s → ElaboratesEquation v (written_empty (n.function k)) (empty_equation k s)
