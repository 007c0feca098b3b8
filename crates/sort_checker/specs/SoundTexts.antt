-- What has no fault elaborates.
use Rattle.std.specs.Prelude.{◌≡◌, true, false, Option, Some, None}
use Rattle.std.specs.List.{AllByRecursion}
use Rattle.data_theory.specs.Terms.{Sort}
use Rattle.data_theory.specs.Provable.{Equation}
use Rattle.process_terms.specs.Processes.{Around, Body, Definition}
use Rattle.sort_table.specs.Expressions.{Name, Expression}
use Rattle.sort_table.specs.BareSorts.{SortExpression}
use Rattle.sort_table.specs.BareProcesses.{Variables, Process, sums_in}
use Rattle.sort_table.specs.Vocabularies.{Vocabulary, sort_in}
use Rattle.sort_checker.specs.FullVocabularies.{FullVocabulary, Written}
use Rattle.sort_checker.specs.Operators.{operators_in, renamed_twice, has_comm_fault}
use Rattle.sort_checker.specs.Parts.{an_equation, ScopedPart, scoped, parts_in}
use Rattle.sort_checker.specs.Scopes.{scope_of}
use Rattle.sort_checker.specs.Faults.{unknown_name, is_typed, free_variable, is_variable}
use Rattle.sort_checker.specs.Elaborations.{Elaborates, ElaboratesDefinition, ElaboratesEquation}

-- none of the faults 12 to 14
pub record IsSoundPart (v : FullVocabulary) (p : ScopedPart) : Type 0 where
  pub known : unknown_name v p ≡ None
  pub typed : is_typed v p ≡ true
  pub closed : free_variable v p ≡ None

-- none of 16 and 17
pub record IsSoundOperator (v : FullVocabulary) (o : Around) : Type 0 where
  pub rules : has_comm_fault v.declared o ≡ false
  pub once : renamed_twice o ≡ None

-- each variable has a sort
abbrev pub HaveSorts : Vocabulary → Variables → Type 0
HaveSorts v xs = AllByRecursion (λ (x : Name × SortExpression). (s : Sort) × (sort_in v.sort_names x.1 ≡ Some s)) xs

-- a process term without a fault, where these variables are in scope
pub record IsSoundProcess (v : FullVocabulary) (xs : Variables) (p : Process) : Type 0 where
  pub parts : AllByRecursion (IsSoundPart v) (parts_in xs p)
  pub operators : AllByRecursion (IsSoundOperator v) (operators_in p)
  pub sums : AllByRecursion (HaveSorts v.declared) (sums_in p)

abbrev pub SoundProcessesElaborate : Type 0
SoundProcessesElaborate = (v : FullVocabulary) (xs : Variables) (p : Process) → IsSoundProcess v xs p → (b : Body) × Elaborates v (scope_of v.declared xs) p b

abbrev pub SoundDefinitionsElaborate : Type 0
SoundDefinitionsElaborate = (v : FullVocabulary) (w : Written) → HaveSorts v.declared w.parameters → IsSoundProcess v w.parameters w.body → (d : Definition) × ElaboratesDefinition v w d

-- and what elaborates has none
abbrev pub ElaboratedProcessesAreSound : Type 0
ElaboratedProcessesAreSound = (v : FullVocabulary) (xs : Variables) (p : Process) (b : Body) → Elaborates v (scope_of v.declared xs) p b → IsSoundProcess v xs p

-- an equation that elaborates has none, and its left side is no variable
abbrev pub ElaboratedEquationsAreSound : Type 0
ElaboratedEquationsAreSound =
    (v : FullVocabulary) (xs : Variables) (c : Option Expression) (l r : Expression) (q : Equation) → ElaboratesEquation v (record { variables = xs; condition = c; left = l; right = r }) q
    → IsSoundPart v (scoped xs (an_equation c l r)) × (is_variable xs l ≡ false)
