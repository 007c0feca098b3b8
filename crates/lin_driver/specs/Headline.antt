-- What is promised of the text that is printed for a text, in the order of reading.
use Rattle.std.specs.Prelude.{◌≡◌, ◌⊎◌, ◌++◌, ℕ, List, [], ◌∷◌, None, option_to_list}
use Rattle.std.specs.List.{AllByRecursion, Contains, flat_map}
use Rattle.data_theory.specs.FirstNames.{first_names}
use Rattle.data_theory.specs.Terms.{Sort}
use Rattle.mcrl2_lexer.specs.declared.token.Token.{Token}
use Rattle.mcrl2_lexer.specs.Lexing.{HasTokens}
use Rattle.mcrl2_syntax.specs.Declarations.{PlainSpec}
use Rattle.mcrl2_syntax.specs.SpelledDeclarations.{SpellsSpec}
use Rattle.sort_table.specs.Expressions.{Name, word, listed, none}
use Rattle.sort_table.specs.Identifiers.{copied_identifiers}
use Rattle.sort_table.specs.BareDeclarations.{Field, Constructor, Declaration, struct, mappings, actions, bare_sections, declarations_in}
use Rattle.sort_table.specs.Growth.{More, with_more}
use Rattle.sort_checker.specs.FullVocabularies.{FullVocabulary}
use Rattle.sort_checker.specs.Elaborations.{WrittenEquation}
use Rattle.sort_checker.specs.Systems.{equations_in, IsSystem}
use Rattle.process_terms.specs.Theories.{Theory, IsConsistent}
use Rattle.process_terms.specs.Processes.{Process}
use Rattle.bisim_laws.specs.LinearProcesses.{Linear, IsLinearText}
use Rattle.bisim_laws.specs.Links.{Link, IsGood, IsGoodWithTerminate}
use Rattle.bisim_laws.specs.Terminations.{terminate_name}
use Rattle.lps_core.specs.Sealing.{NeverEnds}
use Rattle.lps_printer.specs.CopiedParts.{data_in}
use Rattle.lin_driver.specs.declared.ending.Ending.{Ending}
use Rattle.lin_driver.specs.declared.ending.Ending.TheVariants.{End, Terminate}

-- ---- what a text says
-- The longest-match tokens of the bytes spell a specification. Over a vocabulary, which has its sorts and functions under numbers, it
-- is well typed, its equations are those of the theory, and its `init` under its definitions is the process.
pub record Specifies (text : List ℕ) (v : FullVocabulary) (th : Theory) (p : Process) : Type 0 where
  pub tokens : List Token
  pub cut : HasTokens text tokens
  pub spec : PlainSpec
  pub spelled : SpellsSpec text spec tokens
  pub system : IsSystem (bare_sections spec) v th p

-- ---- what becomes of the end
-- The link pairs both processes, and its relation is a bisimulation. With `Terminate` it pairs the end of the first process with states of the second one that
-- do `Terminate` and nothing else.
abbrev pub IsGoodBy : Ending → Theory → Link → Process → Process → Type 0
IsGoodBy End th l p q = IsGood th l p q
IsGoodBy Terminate th l p q = IsGoodWithTerminate th l p q

-- with `Terminate` each summand goes on
abbrev pub EndsBy : Ending → Linear → Type 0
EndsBy End l = Unit {0}
EndsBy Terminate l = NeverEnds l

-- an action is declared with this name
abbrev pub DeclaresAction : Name → Declaration → Type 0
DeclaresAction a (actions as_ es) = Contains as_ a
DeclaresAction a _ = ⊥

abbrev pub DeclareNoAction : Name → List Declaration → Type 0
DeclareNoAction a ds = AllByRecursion (λ (d : Declaration). ¬ (DeclaresAction a d)) ds

-- with `Terminate` the specification declares no action of this name
abbrev pub LeavesTerminate : Ending → PlainSpec → Type 0
LeavesTerminate End spec = Unit {0}
LeavesTerminate Terminate spec = DeclareNoAction terminate_name (declarations_in (bare_sections spec))

-- ---- what is printed of its data, and what is added
-- what may be added: a `struct`, or mappings without arguments; with `Terminate` also the action of this name without arguments
abbrev pub IsAddition : Ending → Declaration → Type 0
IsAddition ending (struct x cs) = Unit {0}
IsAddition ending (mappings xs [] e) = Unit {0}
IsAddition ending (actions as_ []) = (ending ≡ Terminate) × (as_ ≡ terminate_name ∷ [])
IsAddition ending _ = ⊥

abbrev pub names_of_constructor : Constructor → List Name
names_of_constructor c = c.name ∷ (flat_map (λ (f : Field). option_to_list f.name) c.fields ++ option_to_list c.recogniser)

abbrev pub names_of_addition : Declaration → List Name
names_of_addition (struct x cs) = x ∷ flat_map names_of_constructor cs
names_of_addition (mappings xs es e) = xs
names_of_addition _ = []

-- the equation `n = []` of one of these names
pub record IsOfAnEmptyList (names : List Name) (e : WrittenEquation) : Type 0 where
  pub name : Name
  pub added : Contains names name
  pub condition : e.condition ≡ None
  pub left : e.left ≡ word name none
  pub right : e.right ≡ listed none

-- The declarations and the equations of the first specification are copied. Behind them the second one has only structs, mappings
-- without arguments, equations `n = []` of these, and perhaps the action `Terminate`. The names of structs and mappings don't stand in what is copied, and are no
-- words and no names of built-in functions.
pub record AddsOnly (ending : Ending) (own printed : PlainSpec) : Type 0 where
  pub declarations : List Declaration
  pub equations : List WrittenEquation
  pub all_declarations : data_in (bare_sections printed) ≡ data_in (bare_sections own) ++ declarations
  pub all_equations : equations_in (bare_sections printed) ≡ equations_in (bare_sections own) ++ equations
  pub each_declaration : AllByRecursion (IsAddition ending) declarations
  pub new_names : AllByRecursion (λ x. ¬ (Contains first_names x) × ¬ (Contains (copied_identifiers own) x)) (flat_map names_of_addition declarations)
  pub each_equation : AllByRecursion (IsOfAnEmptyList (flat_map names_of_addition declarations)) equations

-- the actions that come behind: none, or with `Terminate` the one of this name without arguments
abbrev pub AreAddedActions : Ending → List (Name × List Sort) → Type 0
AreAddedActions End as_ = as_ ≡ []
AreAddedActions Terminate as_ = (as_ ≡ []) ⊎ (as_ ≡ (terminate_name, []) ∷ [])

-- What was there has the number that it had: so no two functions of the same sorts change places.
abbrev pub KeepsNumbers : Ending → FullVocabulary → FullVocabulary → Type 0
KeepsNumbers ending v w = (m : More) × (w.declared ≡ with_more v.declared m) × AreAddedActions ending m.actions

-- ---- when the printed text stands for the text
-- Both are read over the data of the printed text. It is linear, and where its data are consistent, a named relation pairs both
-- processes and is a bisimulation. With `Terminate` the linear process never ends, and that action comes behind the end of the text's process.
pub record StandsFor (ending : Ending) (text printed : List ℕ) : Type 0 where
  pub vocabulary : FullVocabulary
  pub own_theory : Theory
  pub process : Process
  pub specifies : Specifies text vocabulary own_theory process
  pub printed_vocabulary : FullVocabulary
  pub theory : Theory
  pub linear : Process
  pub printed_specifies : Specifies printed printed_vocabulary theory linear
  pub leaves_terminate : LeavesTerminate ending specifies.spec
  pub adds_only : AddsOnly ending specifies.spec printed_specifies.spec
  pub numbers : KeepsNumbers ending vocabulary printed_vocabulary
  pub is_linear : IsLinearText theory linear
  pub ends : EndsBy ending is_linear.process
  pub link : Link
  pub bisimilar : IsConsistent theory → IsGoodBy ending theory link process linear
