-- What comes behind a vocabulary changes nothing in what elaborates.
use Rattle.std.specs.Prelude.{◌≡◌, []}
use Rattle.data_theory.specs.Provable.{Equation}
use Rattle.process_terms.specs.Processes.{Body, Definition}
use Rattle.sort_table.specs.BareProcesses.{Process}
use Rattle.sort_table.specs.Growth.{More, with_more}
use Rattle.sort_table.specs.Expressions.{Expression}
use Rattle.data_typing.specs.TypingLaws.{EachWord, StandsNotAmong, IsOverData}
use Rattle.data_typing.specs.Meanings.{Scope}
use Rattle.sort_checker.specs.FullVocabularies.{FullVocabulary, Written}
use Rattle.sort_checker.specs.Elaborations.{Elaborates, ElaboratesDefinition, WrittenEquation, ElaboratesEquation}
use Rattle.sort_checker.specs.FittingBodies.{EachExpression, EachOption}

-- sorts, functions and actions behind those that there are
abbrev pub fuller : FullVocabulary → More → FullVocabulary
fuller v m = record { declared = with_more v.declared m; processes = v.processes }

-- none of the new functions' names stands in the expression
abbrev pub HasNoneOf : More → Expression → Type 0
HasNoneOf m e = EachWord (StandsNotAmong m.function_names) e

-- where no action comes behind
abbrev pub ProcessesStayAlike : Type 0
ProcessesStayAlike =
    (v : FullVocabulary) (m : More) → m.actions ≡ [] → IsOverData v.declared → (scope : Scope) (p : Process) (b : Body) → EachExpression (HasNoneOf m) p → Elaborates v scope p b → Elaborates (fuller v m) scope p b

abbrev pub DefinitionsStayAlike : Type 0
DefinitionsStayAlike =
    (v : FullVocabulary) (m : More) → m.actions ≡ [] → IsOverData v.declared → (w : Written) (d : Definition) → EachExpression (HasNoneOf m) w.body → ElaboratesDefinition v w d → ElaboratesDefinition (fuller v m) w d

abbrev pub EquationsStayAlike : Type 0
EquationsStayAlike =
    (v : FullVocabulary) (m : More) → IsOverData v.declared → (e : WrittenEquation) (q : Equation)
    → EachOption (HasNoneOf m) e.condition → HasNoneOf m e.left → HasNoneOf m e.right → ElaboratesEquation v e q → ElaboratesEquation (fuller v m) e q
