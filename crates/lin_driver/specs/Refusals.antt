-- Why a text is refused.
use Rattle.std.specs.Prelude.{◌≡◌, ◌≢◌, ◌++◌, ◌∷◌, ℕ, suc, List, All, count_by, length}
use Rattle.mcrl2_lexer.specs.declared.token.Token.{Token}
use Rattle.mcrl2_lexer.specs.Lexing as lexing
use Rattle.mcrl2_lexer.specs.Lexing.{HasTokens}
use Rattle.mcrl2_syntax.specs.Declarations.{PlainSpec}
use Rattle.mcrl2_syntax.specs.SpelledDeclarations.{SpellsSpec}
use Rattle.mcrl2_parser.specs.declared.faults.ParseFault.{ParseFault}
use Rattle.mcrl2_parser.specs.Declarations.{declarations_of}
use Rattle.mcrl2_parser.specs.Faults as parsing
use Rattle.mcrl2_parser.specs.Faults.{IsSound, is_init}
use Rattle.data_theory.specs.Complete.{BeginsWith}
use Rattle.data_theory.specs.Signature.{Sig}
use Rattle.term_pool.specs.Pools.{PoolContents}
use Rattle.process_terms.specs.PlainProcesses.{PlainModel}
use Rattle.bisim_laws.specs.Terminations.{terminate_name}
use Rattle.sort_table.specs.BareDeclarations.{Declaration, bare_sections, declarations_in}
use Rattle.sort_table.specs.Expressions.{Name}
use Rattle.sort_table.specs.Built.{IsFaultOf}
use Rattle.sort_table.specs.declared.building.SortFault.TheVariants as sort
use Rattle.sort_checker.specs.TextModels.{IsModelOf, IsTypeFaultOf}
use Rattle.sort_checker.specs.declared.elaborating.TypeFault.{TypeFault}
use Rattle.sort_checker.specs.declared.elaborating.TypeFault.TheVariants as type
use Rattle.lin_driver.specs.Headline.{DeclaresAction, DeclareNoAction}
use Rattle.lin_driver.specs.ModelLinears.{IsModelFaultOf}
use Rattle.lin_driver.specs.declared.fault.ModelFault.{ModelFault}
use Rattle.lin_driver.specs.declared.fault.ModelFault.TheVariants as model
use Rattle.lin_driver.specs.declared.fault.LinFault.{LinFault}
use Rattle.lin_driver.specs.declared.fault.LinFault.TheVariants.{Lex, Parse, Sort, «Type», Net, Guard, NotTail, TerminateDeclared, NoMemory}

-- the text has tokens, and their declarations have the fault
pub record HasParseFault (text : List ℕ) (fault : ParseFault) : Type 0 where
  pub tokens : List Token
  pub has_tokens : HasTokens text tokens
  pub has_fault : parsing.HasFault text tokens fault

-- the text has tokens, they spell the specification, all its declarations are sound and one of them starts
pub record IsParsedAs (text : List ℕ) (spec : PlainSpec) : Type 0 where
  pub tokens : List Token
  pub has_tokens : HasTokens text tokens
  pub spelled : SpellsSpec text spec tokens
  pub sound : All (IsSound text tokens) (declarations_of tokens)
  pub one_init : count_by is_init (declarations_of tokens) ≡ 1

-- ---- of a specification, with names by their places among texts
-- it has the fault of typing over a signature with these texts
pub record IsTypeFaultOver (spec : PlainSpec) (texts : List (List ℕ)) (fault : TypeFault) : Type 0 where
  pub signature : Sig
  pub names : signature.texts ≡ texts
  pub has_fault : IsTypeFaultOf spec signature fault

-- it is well typed, and its model has the fault; the texts begin with those of the signature
pub record IsModelFaultOver (spec : PlainSpec) (texts : List (List ℕ)) (fault : ModelFault) : Type 0 where
  pub signature : Sig
  pub pool : PoolContents
  pub model : PlainModel
  pub is_model : IsModelOf spec signature pool model
  pub names : BeginsWith signature.texts texts
  pub has_fault : IsModelFaultOf model fault

-- Want of memory is no fault of a specification, nor are those of its tokens and its
-- declarations. That it declares `Terminate` is none either, as long as its process may end.
abbrev pub IsSpecFault : PlainSpec → List (List ℕ) → LinFault → Type 0
IsSpecFault spec texts (Lex fault) = ⊥
IsSpecFault spec texts (Parse fault) = ⊥
IsSpecFault spec texts (Sort fault) = IsFaultOf spec texts fault × (fault ≢ sort.NoMemory)
IsSpecFault spec texts («Type» fault) = IsTypeFaultOver spec texts fault × (fault ≢ type.NoMemory)
IsSpecFault spec texts (Net fault) = IsModelFaultOver spec texts (model.Net fault)
IsSpecFault spec texts (Guard fault) = IsModelFaultOver spec texts (model.Guard fault)
IsSpecFault spec texts (NotTail component summand) = IsModelFaultOver spec texts (model.NotTail component summand)
IsSpecFault spec texts (TerminateDeclared number) = ⊥
IsSpecFault spec texts NoMemory = ⊥

-- ---- of a text
-- it spells a specification with the fault
pub record HasSpecFault (text : List ℕ) (texts : List (List ℕ)) (fault : LinFault) : Type 0 where
  pub spec : PlainSpec
  pub parsed : IsParsedAs text spec
  pub has_fault : IsSpecFault spec texts fault

-- the declaration with this number is the first of an action of this name
pub record IsFirstOfAction (a : Name) (ds : List Declaration) (number : ℕ) : Type 0 where
  pub front : List Declaration
  pub declaration : Declaration
  pub behind : List Declaration
  pub text : ds ≡ front ++ declaration ∷ behind
  pub place : number ≡ suc (length front)
  pub others : DeclareNoAction a front
  pub declares : DeclaresAction a declaration

-- it spells a specification of which that declaration is the first of an action `Terminate`
pub record DeclaresTerminateAt (text : List ℕ) (number : ℕ) : Type 0 where
  pub spec : PlainSpec
  pub parsed : IsParsedAs text spec
  pub first : IsFirstOfAction terminate_name (declarations_in (bare_sections spec)) number

-- the fault is that of the text
abbrev pub IsRefusedWith : List ℕ → List (List ℕ) → LinFault → Type 0
IsRefusedWith text texts (Lex fault) = lexing.HasFault text fault
IsRefusedWith text texts (Parse fault) = HasParseFault text fault
IsRefusedWith text texts (Sort fault) = HasSpecFault text texts (Sort fault)
IsRefusedWith text texts («Type» fault) = HasSpecFault text texts («Type» fault)
IsRefusedWith text texts (Net fault) = HasSpecFault text texts (Net fault)
IsRefusedWith text texts (Guard fault) = HasSpecFault text texts (Guard fault)
IsRefusedWith text texts (NotTail component summand) = HasSpecFault text texts (NotTail component summand)
IsRefusedWith text texts (TerminateDeclared number) = DeclaresTerminateAt text number
IsRefusedWith text texts NoMemory = ⊥
