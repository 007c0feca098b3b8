-- Which texts can be linearised, in the order of reading.
use Rattle.std.specs.Prelude.{ℕ, List}
use Rattle.mcrl2_syntax.specs.Declarations.{PlainSpec}
use Rattle.sort_table.specs.BareDeclarations.{Section, bare_sections}
use Rattle.sort_checker.specs.FullVocabularies.{FullVocabulary}
use Rattle.sort_checker.specs.Systems.{IsSystem}
use Rattle.process_terms.specs.Theories.{Theory}
use Rattle.process_terms.specs.Processes.{Process}
use Rattle.guard_check.specs.Guards.{IsGuarded}
use Rattle.proc_unfold.specs.Parallel.{IsOutsideRecursion}
use Rattle.lin_driver.specs.Refusals.{IsParsedAs, IsRefusedWith}
use Rattle.lin_driver.specs.declared.fault.ModelFault.{ModelFault}
use Rattle.lin_driver.specs.declared.fault.ModelFault.TheVariants as model
use Rattle.lin_driver.specs.declared.fault.LinFault.{LinFault}
use Rattle.lin_driver.specs.declared.fault.LinFault.TheVariants.{Lex, Parse, Sort, «Type», Net, Guard}

-- ---- what is asked of a text
-- Over the vocabulary the text is well typed, its parallelism stands outside recursion, and its recursion is guarded.
pub record IsGuardedSystem (ss : List Section) (v : FullVocabulary) : Type 0 where
  pub theory : Theory
  pub process : Process
  pub system : IsSystem ss v theory process
  pub outside : IsOutsideRecursion system.table system.start
  pub guarded : IsGuarded system.table system.start

-- The text spells a specification within the limits, for which this holds over a vocabulary of what it declares.
pub record CanBeLinearised (text : List ℕ) : Type 0 where
  pub spec : PlainSpec
  pub parsed : IsParsedAs text spec
  pub vocabulary : FullVocabulary
  pub guarded : IsGuardedSystem (bare_sections spec) vocabulary

-- ---- what says that it isn't so
-- the faults of a specification up to its recursion; the other one is that of its form
abbrev pub IsUpToRecursion : ModelFault → Type 0
IsUpToRecursion (model.Net fault) = Unit {0}
IsUpToRecursion (model.Guard fault) = Unit {0}
IsUpToRecursion model.NoMemory = Unit {0}
IsUpToRecursion _ = ⊥

-- the same of a text; want of memory is no fault of it
abbrev pub IsOfTheText : LinFault → Type 0
IsOfTheText (Lex fault) = Unit {0}
IsOfTheText (Parse fault) = Unit {0}
IsOfTheText (Sort fault) = Unit {0}
IsOfTheText («Type» fault) = Unit {0}
IsOfTheText (Net fault) = Unit {0}
IsOfTheText (Guard fault) = Unit {0}
IsOfTheText _ = ⊥

-- a text with such a fault can't be linearised
abbrev pub FaultyTextsCannotBeLinearised : Type 0
FaultyTextsCannotBeLinearised = (text : List ℕ) (texts : List (List ℕ)) (fault : LinFault) → IsOfTheText fault → IsRefusedWith text texts fault → ¬ (CanBeLinearised text)
