-- Summands whose names are identifiers.
use Rattle.std.specs.Prelude.{◌≡◌, ℕ, List, [], ◌∷◌, Option, Some, None}
use Rattle.mcrl2_lexer.specs.declared.token.Token.{Token}
use Rattle.mcrl2_lexer.specs.Lexing.{HasTokens}
use Rattle.mcrl2_syntax.specs.ProcessTrees.{PlainProcess}
use Rattle.mcrl2_syntax.specs.SpelledProcesses.{SpellsProcess}
use Rattle.lps_printer.specs.Pieces.{bytes_of}
use Rattle.lps_printer.specs.PrintedExpressions.{Expression}
use Rattle.lps_printer.specs.DataLayout.{IsIdentifier, IsSpellable, AreSpellable}
use Rattle.sort_table.specs.BareSorts.{SortExpression, truth_values, positives, naturals, integers, lists_of, a_name}
use Rattle.lps_printer.specs.PrintedProcesses.{Action, tau_, act, Assignment, Next, ends, goes_bare, goes, Variable, Summand, Process, bare_process, choice_process}
use Rattle.lps_printer.specs.SummandLayout.{print_summand, print_summands}

abbrev pub IsNamed : SortExpression → Type 0
IsNamed truth_values = Unit {0}
IsNamed positives = Unit {0}
IsNamed naturals = Unit {0}
IsNamed integers = Unit {0}
IsNamed (lists_of s) = IsNamed s
IsNamed (a_name x) = IsIdentifier x

abbrev pub IsNamedAction : Action → Type 0
IsNamedAction tau_ = Unit {0}
IsNamedAction (act x es) = IsIdentifier x × AreSpellable es

abbrev pub AreNamedActions : List Action → Type 0
AreNamedActions [] = Unit {0}
AreNamedActions (a ∷ as_) = IsNamedAction a × AreNamedActions as_

abbrev pub IsNamedAssignment : Assignment → Type 0
IsNamedAssignment x = IsIdentifier x.name × IsSpellable x.value

abbrev pub AreNamedAssignments : List Assignment → Type 0
AreNamedAssignments [] = Unit {0}
AreNamedAssignments (x ∷ xs) = IsNamedAssignment x × AreNamedAssignments xs

abbrev pub IsNamedNext : Next → Type 0
IsNamedNext ends = Unit {0}
IsNamedNext (goes_bare x) = IsIdentifier x
IsNamedNext (goes x as_) = IsIdentifier x × AreNamedAssignments as_

abbrev pub IsNamedVariable : Variable → Type 0
IsNamedVariable v = IsIdentifier v.name × IsNamed v.sort

abbrev pub AreNamedVariables : List Variable → Type 0
AreNamedVariables [] = Unit {0}
AreNamedVariables (v ∷ vs) = IsNamedVariable v × AreNamedVariables vs

abbrev pub IsNamedCondition : Option Expression → Type 0
IsNamedCondition None = Unit {0}
IsNamedCondition (Some c) = IsSpellable c

pub record IsNamedSummand (s : Summand) : Type 0 where
  pub sums : AreNamedVariables s.sums
  pub condition : IsNamedCondition s.condition
  pub first : IsNamedAction s.first
  pub others : AreNamedActions s.others
  pub next : IsNamedNext s.next

abbrev pub AreNamedSummands : List Summand → Type 0
AreNamedSummands [] = Unit {0}
AreNamedSummands (s ∷ ss) = IsNamedSummand s × AreNamedSummands ss

-- the tokens of the bytes spell a process term that is this one
pub record SpellsProcessBack (text : List ℕ) (p : Process) : Type 0 where
  pub tokens : List Token
  pub cut : HasTokens text tokens
  pub tree : PlainProcess
  pub spells : SpellsProcess text tree tokens []
  pub is : bare_process tree ≡ p

abbrev pub SummandsSpellBack : Type 0
SummandsSpellBack = (s : Summand) (ss : List Summand) → IsNamedSummand s → AreNamedSummands ss → SpellsProcessBack (bytes_of (print_summand s [] (print_summands ss [])) (10 ∷ [])) (choice_process s ss)
