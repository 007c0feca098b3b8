-- What is said of a text doesn't hang on the numbers that a vocabulary gives to its sorts and functions, nor on those of variables.
use Rattle.std.specs.Prelude.{◌≡◌, List}
use Rattle.process_terms.specs.Theories.{Theory}
use Rattle.process_terms.specs.Processes.{Process}
use Rattle.guard_check.specs.Guards.{IsGuarded}
use Rattle.proc_unfold.specs.Parallel.{IsOutsideRecursion}
use Rattle.sort_table.specs.BareDeclarations.{Section, declarations_in}
use Rattle.sort_checker.specs.FullVocabularies.{FullVocabulary, IsFullVocabularyOf}
use Rattle.sort_checker.specs.Refusals.{type_fault}
use Rattle.sort_checker.specs.Systems.{IsSystem}

-- over each vocabulary of a text the first fault of typing is the same
abbrev pub TypingNeedsNoNumbering : Type 0
TypingNeedsNoNumbering = (ss : List Section) (v w : FullVocabulary) → IsFullVocabularyOf (declarations_in ss) v → IsFullVocabularyOf (declarations_in ss) w → type_fault v ss ≡ type_fault w ss

-- in each reading of a text its parallelism stands outside recursion where it does so in one, and its recursion is guarded where it is in one
abbrev pub RecursionNeedsNoNumbering : Type 0
RecursionNeedsNoNumbering =
    (ss : List Section) (v w : FullVocabulary) (th other_th : Theory) (p q : Process) (one : IsSystem ss v th p) (other : IsSystem ss w other_th q)
    → (IsOutsideRecursion one.table one.start → IsOutsideRecursion other.table other.start) × (IsGuarded one.table one.start → IsGuarded other.table other.start)
