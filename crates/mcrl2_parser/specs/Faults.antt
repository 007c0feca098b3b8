-- What is accepted of a list of declarations, and why a list of tokens is refused.
use Rattle.std.specs.Prelude.{◌≡◌, ◌≤◌, ◌<◌, ℕ, ◌+◌, Bool, true, false, Option, Some, List, [], ◌∷◌, ◌++◌, length, slice_range, All, count_by}
use Rattle.mcrl2_lexer.specs.declared.token.Token.{Token}
use Rattle.mcrl2_syntax.specs.declared.declaration.SectionWord.{SectionWord}
use Rattle.mcrl2_syntax.specs.declared.declaration.SectionWord.TheVariants.{Init}
use Rattle.mcrl2_syntax.specs.Declarations.{PlainDecl}
use Rattle.mcrl2_syntax.specs.SpelledDeclarations.{SpellsDecl}
use Rattle.mcrl2_parser.specs.declared.declaring.Declaration.{Declaration}
use Rattle.mcrl2_parser.specs.declared.faults.ParseFault.{ParseFault}
use Rattle.mcrl2_parser.specs.declared.faults.ParseFault.TheVariants.{Syntax, TooDeep, NoInit, TwoInits, NoMemory}
use Rattle.mcrl2_parser.specs.Declarations.{declarations_of}
use Rattle.mcrl2_parser.specs.Levels.{level_of}

-- the declaration's tokens, without its `;`
abbrev pub tokens_of : List Token → Declaration → List Token
tokens_of tokens declaration = slice_range tokens declaration.start declaration.end

abbrev pub level_at : List Token → Declaration → ℕ
level_at tokens declaration = level_of (tokens_of tokens declaration)

-- it is in a section and ends at a `;`, and its tokens spell that declaration of the section
pub record IsSpelled (text : List ℕ) (tokens : List Token) (declaration : Declaration) (tree : PlainDecl) : Type 0 where
  pub word : SectionWord
  pub in_section : declaration.section ≡ Some word
  pub ended : declaration.is_ended ≡ true
  pub spells : SpellsDecl text word tree (tokens_of tokens declaration)

-- it is in a section and ends at a `;`, and its tokens spell a declaration of that section
pub record IsWhole (text : List ℕ) (tokens : List Token) (declaration : Declaration) : Type 0 where
  pub tree : PlainDecl
  pub spelled : IsSpelled text tokens declaration tree

-- each declaration is spelled as the tree that stands at its place in the other list
pub data AreSpelled (text : List ℕ) (tokens : List Token) : List Declaration → List PlainDecl → Type 0 where
  none_spelled : AreSpelled text tokens [] []
  more_spelled : {declaration : Declaration} {tree : PlainDecl} {declarations : List Declaration} {trees : List PlainDecl} → IsSpelled text tokens declaration tree
      → AreSpelled text tokens declarations trees → AreSpelled text tokens (declaration ∷ declarations) (tree ∷ trees)

-- it is whole, and its level is 1,000 at most
pub record IsSound (text : List ℕ) (tokens : List Token) (declaration : Declaration) : Type 0 where
  pub whole : IsWhole text tokens declaration
  pub level : level_at tokens declaration ≤ 1000

abbrev pub is_init_section : Option SectionWord → Bool
is_init_section (Some Init) = true
is_init_section _ = false

-- it is in an init section
abbrev pub is_init : Declaration → Bool
is_init declaration = is_init_section declaration.section

-- the number of a declaration, where that is in an init section
abbrev pub init_number : ℕ → Bool → List ℕ
init_number number true = number ∷ []
init_number number false = []

-- the numbers of those in an init section, where the first has that number
abbrev pub init_numbers : ℕ → List Declaration → List ℕ
init_numbers number [] = []
init_numbers number (declaration ∷ declarations) = init_number number (is_init declaration) ++ init_numbers (number + 1) declarations

-- there isn't one number, and the fault tells the second one, if any
abbrev pub IsNotOne : List ℕ → ParseFault → Type 0
IsNotOne numbers NoInit = numbers ≡ []
IsNotOne numbers (TwoInits d) = (first : ℕ) × (others : List ℕ) × (numbers ≡ first ∷ d ∷ others)
IsNotOne numbers (Syntax d) = ⊥
IsNotOne numbers (TooDeep d) = ⊥
IsNotOne numbers NoMemory = ⊥

-- Why one declaration of that number is refused. Want of memory is no fault of it.
abbrev pub IsRefused : List ℕ → List Token → ℕ → Declaration → ParseFault → Type 0
IsRefused text tokens number declaration (TooDeep d) = (d ≡ number) × (1000 < level_at tokens declaration)
IsRefused text tokens number declaration (Syntax d) = (d ≡ number) × (level_at tokens declaration ≤ 1000) × (IsWhole text tokens declaration → ⊥)
IsRefused text tokens number declaration NoInit = ⊥
IsRefused text tokens number declaration (TwoInits d) = ⊥
IsRefused text tokens number declaration NoMemory = ⊥

-- the fault is that of the first declaration that isn't sound
pub record IsFirstRefused (text : List ℕ) (tokens : List Token) (fault : ParseFault) : Type 0 where
  pub front : List Declaration
  pub refused : Declaration
  pub behind : List Declaration
  pub stands : declarations_of tokens ≡ front ++ refused ∷ behind
  pub sound : All (IsSound text tokens) front
  pub cause : IsRefused text tokens (length front + 1) refused fault

-- that declaration is the second one in an init section
pub record IsSecondInit (declarations : List Declaration) (number : ℕ) : Type 0 where
  pub front : List Declaration
  pub second : Declaration
  pub behind : List Declaration
  pub stands : declarations ≡ front ++ second ∷ behind
  pub number_is : number ≡ length front + 1
  pub one_before : count_by is_init front ≡ 1
  pub init : is_init second ≡ true

-- no declaration is in an init section, or more than one
abbrev pub HasInitFault : List Declaration → ParseFault → Type 0
HasInitFault declarations NoInit = count_by is_init declarations ≡ 0
HasInitFault declarations (TwoInits d) = IsSecondInit declarations d
HasInitFault declarations (Syntax d) = ⊥
HasInitFault declarations (TooDeep d) = ⊥
HasInitFault declarations NoMemory = ⊥

-- The tokens have that fault: one of the first declaration that isn't sound, or, where all are, one of the init sections.
abbrev pub HasFault : List ℕ → List Token → ParseFault → Type 0
HasFault text tokens (TooDeep d) = IsFirstRefused text tokens (TooDeep d)
HasFault text tokens (Syntax d) = IsFirstRefused text tokens (Syntax d)
HasFault text tokens NoInit = All (IsSound text tokens) (declarations_of tokens) × HasInitFault (declarations_of tokens) NoInit
HasFault text tokens (TwoInits d) = All (IsSound text tokens) (declarations_of tokens) × HasInitFault (declarations_of tokens) (TwoInits d)
HasFault text tokens NoMemory = ⊥
