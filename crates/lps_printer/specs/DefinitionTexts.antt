-- The layout of the definition of a process and of its start, without their words and semicolons, and what these spell.
use Rattle.std.specs.Prelude.{◌≡◌, ℕ, List, [], ◌∷◌, map, codes}
use Rattle.std.specs.List.{flat_map}
use Rattle.mcrl2_lexer.specs.declared.token.Token.{Token}
use Rattle.mcrl2_lexer.specs.declared.kind.Kind.TheVariants as kind_
use Rattle.mcrl2_lexer.specs.Lexing.{HasTokens}
use Rattle.mcrl2_syntax.specs.declared.declaration.SectionWord.TheVariants as sections
use Rattle.mcrl2_syntax.specs.ProcessTrees.{PlainProcess}
use Rattle.mcrl2_syntax.specs.Declarations.{PlainDecl}
use Rattle.mcrl2_syntax.specs.SpelledDeclarations.{SpellsDecl}
use Rattle.data_theory.specs.Terms.{Term}
use Rattle.data_theory.specs.Environments.{terms_of}
use Rattle.bisim_laws.specs.LinearProcesses.{Linear}
use Rattle.sort_table.specs.BareProcesses as bare
use Rattle.sort_table.specs.BareProcesses.{Variables, bare_process}
use Rattle.sort_table.specs.BareDeclarations.{process, initial, bare_declaration}
use Rattle.sort_checker.specs.FullVocabularies.{FullVocabulary}
use Rattle.lps_printer.specs.Pieces.{Piece, bytes_of}
use Rattle.lps_printer.specs.DataLayout.{piece, space, IsIdentifier}
use Rattle.lps_printer.specs.WrittenTerms.{places, written_all}
use Rattle.lps_printer.specs.PrintedProcesses as printed_
use Rattle.lps_printer.specs.PrintedProcesses.{Action, act, Variable, Summand, one_variable, choice_process}
use Rattle.lps_printer.specs.SummandLayout.{print_action, print_variable, print_variables, print_summand, print_summands}
use Rattle.lps_printer.specs.NamedSummands.{IsNamedAction, AreNamedVariables, AreNamedSummands}
use Rattle.lps_printer.specs.WrittenProcesses.{TextNames, variable_written, summand_written, body_written, start_written, parameters_written, plain_action, plain_group}
use Rattle.lps_printer.specs.LinearBack.{LinearReads}
use Rattle.lps_printer.specs.SummandTexts.{AreNamed}

-- ---- layout
abbrev pub print_parameters : List Variable → List Piece → List Piece
print_parameters [] rest = rest
print_parameters (v ∷ vs) rest = piece [] kind_.LeftParen (codes "(") ∷ print_variable v [] (print_variables vs (piece [] kind_.RightParen (codes ")") ∷ rest))

-- without summands the body is `delta`
abbrev pub print_choice : List Summand → List Piece → List Piece
print_choice [] rest = piece space kind_.Delta (codes "delta") ∷ rest
print_choice (s ∷ ss) rest = print_summand s space (print_summands ss rest)

-- `P(x: S) = ..`
abbrev pub print_definition : List ℕ → List Variable → List Summand → List Piece → List Piece
print_definition x vs ss rest = piece space kind_.Identifier x ∷ print_parameters vs (piece space kind_.Equals (codes "=") ∷ print_choice ss rest)

-- `P(d)`
abbrev pub print_start : Action → List Piece → List Piece
print_start a rest = print_action a space rest

-- ---- what is spelled
abbrev pub choice_of_all : List Summand → printed_.Process
choice_of_all [] = printed_.delta
choice_of_all (s ∷ ss) = choice_process s ss

-- the tokens of the bytes spell a definition of this process, with a tree of the body
pub record SpellsDefinition (text x : List ℕ) (xs : Variables) (p : printed_.Process) : Type 0 where
  pub tokens : List Token
  pub cut : HasTokens text tokens
  pub declaration : PlainDecl
  pub spells : SpellsDecl text sections.Proc declaration tokens
  pub tree : PlainProcess
  pub body : printed_.bare_process tree ≡ p
  pub is : bare_declaration declaration ≡ process x xs (bare_process tree)

-- and this start
pub record SpellsStart (text : List ℕ) (p : bare.Process) : Type 0 where
  pub tokens : List Token
  pub cut : HasTokens text tokens
  pub declaration : PlainDecl
  pub spells : SpellsDecl text sections.Init declaration tokens
  pub is : bare_declaration declaration ≡ initial p

abbrev pub DefinitionsSpellBack : Type 0
DefinitionsSpellBack =
    (x : List ℕ) (vs : List Variable) (ss : List Summand) → IsIdentifier x → AreNamedVariables vs → AreNamedSummands ss
    → SpellsDefinition (bytes_of (print_definition x vs ss []) (10 ∷ [])) x (flat_map plain_group (map one_variable vs)) (choice_of_all ss)

abbrev pub StartsSpellBack : Type 0
StartsSpellBack = (a : Action) → IsNamedAction a → SpellsStart (bytes_of (print_start a []) (10 ∷ [])) (bare.acts (plain_action a ∷ []))

-- ---- of a linear process
abbrev pub definition_text : TextNames → Linear → List ℕ
definition_text n l = bytes_of (print_definition n.process (map (variable_written n) l.params) (map (summand_written n l.params) l.summands) []) (10 ∷ [])

abbrev pub start_action : TextNames → List Term → Action
start_action n ts = act n.process (places (written_all n.terms (terms_of ts)))

abbrev pub start_text : TextNames → List Term → List ℕ
start_text n ts = bytes_of (print_start (start_action n ts) []) (10 ∷ [])

pub record PrintsBack (n : TextNames) (l : Linear) (initial_terms : List Term) : Type 0 where
  pub definition : SpellsDefinition (definition_text n l) n.process (parameters_written n l.params) (body_written n l)
  pub start : SpellsStart (start_text n initial_terms) (start_written n initial_terms)

-- The bytes that are printed for a linear process spell its definition and its start.
abbrev pub LinearTextsSpellBack : Type 0
LinearTextsSpellBack = (v : FullVocabulary) (n : TextNames) (l : Linear) (initial_terms : List Term) → LinearReads v n l initial_terms → AreNamed n l → PrintsBack n l initial_terms
