-- The bytes that are printed for the summands of a linear process elaborate to its definition.
use Rattle.std.specs.Prelude.{ℕ, List, [], ◌∷◌, map}
use Rattle.data_theory.specs.Terms.{Term}
use Rattle.mcrl2_lexer.specs.declared.token.Token.{Token}
use Rattle.mcrl2_lexer.specs.Lexing.{HasTokens}
use Rattle.mcrl2_syntax.specs.ProcessTrees.{PlainProcess}
use Rattle.mcrl2_syntax.specs.SpelledProcesses.{SpellsProcess}
use Rattle.process_terms.specs.Labels.{Action}
use Rattle.process_terms.specs.Processes.{Bound, Body, choice_of}
use Rattle.bisim_laws.specs.LinearProcesses.{Summand, Linear, summand_body}
use Rattle.data_typing.specs.Meanings.{Scope}
use Rattle.lps_printer.specs.Pieces.{bytes_of}
use Rattle.lps_printer.specs.DataLayout.{IsIdentifier}
use Rattle.lps_printer.specs.SummandLayout.{print_summand, print_summands}
use Rattle.sort_table.specs.BareProcesses.{bare_process}
use Rattle.sort_checker.specs.FullVocabularies.{FullVocabulary}
use Rattle.std.specs.List.{AllByRecursion}
use Rattle.sort_checker.specs.Elaborations.{Elaborates}
use Rattle.lps_printer.specs.WrittenProcesses.{TextNames, summand_written, scope_behind}
use Rattle.lps_printer.specs.LinearBack.{LinearReads}

-- the names of these variables are identifiers
abbrev pub HaveIdentifiers : TextNames → List Bound → Type 0
HaveIdentifiers n xs = AllByRecursion (λ (x : Bound). IsIdentifier (n.terms.variable x.var)) xs

-- and so are those of the sums and the actions
pub record HasIdentifiers (n : TextNames) (s : Summand) : Type 0 where
  pub sums : HaveIdentifiers n s.sums
  pub actions : AllByRecursion (λ (a : Action). IsIdentifier a.name) s.label

-- the names that are printed for a linear process are identifiers
pub record AreNamed (n : TextNames) (l : Linear) : Type 0 where
  pub functions : (k : ℕ) → IsIdentifier (n.terms.function k)
  pub sorts : (d : ℕ) → IsIdentifier (n.sort d)
  pub process : IsIdentifier n.process
  pub params : HaveIdentifiers n l.params
  pub summands : AllByRecursion (HasIdentifiers n) l.summands

pub record ElaboratesText (v : FullVocabulary) (scope : Scope) (text : List ℕ) (b : Body) : Type 0 where
  pub tokens : List Token
  pub cut : HasTokens text tokens
  pub tree : PlainProcess
  pub spells : SpellsProcess text tree tokens []
  pub elaborates : Elaborates v scope (bare_process tree) b

abbrev pub summands_text : TextNames → List Bound → Summand → List Summand → List ℕ
summands_text n params s ss = bytes_of (print_summand (summand_written n params s) [] (print_summands (map (summand_written n params) ss) [])) (10 ∷ [])

abbrev pub SummandTextsElaborate : Type 0
SummandTextsElaborate =
    (v : FullVocabulary) (n : TextNames) (params : List Bound) (s : Summand) (ss : List Summand) (initial : List Term) → LinearReads v n (record { params = params; summands = s ∷ ss }) initial → AreNamed n (record { params = params; summands = s ∷ ss })
    → ElaboratesText v (scope_behind n [] params) (summands_text n params s ss) (choice_of (map summand_body (s ∷ ss)))
