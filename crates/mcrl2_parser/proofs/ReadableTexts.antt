-- Texts whose tokens a reader may go through, as the code comes to them.
use Rattle.std.proofs.Common.{◌≡◌, ◌≢◌, ◌≤◌, ◌<◌, ℕ, List, [], refl, sym, ap, ◌∙◌, subst, arith}
use Rattle.mcrl2_lexer.specs.declared.token.Token.{Token}
use Rattle.mcrl2_lexer.specs.declared.token.LexFault.{LexFault}
use Rattle.mcrl2_lexer.specs.declared.token.LexFault.TheVariants as lex_fault
use Rattle.mcrl2_lexer.specs.Lexing.{HasTokens, HasFault}
use Rattle.mcrl2_lexer.proofs.Single.{tokens_once}
use Rattle.mcrl2_lexer.proofs.Faulty.{fault_no_tokens}
use Rattle.mcrl2_parser.specs.declared.words.Fault.{Fault}
use Rattle.mcrl2_parser.specs.declared.words.Fault.TheVariants.{Syntax, NoMemory}
use Rattle.mcrl2_parser.specs.Levels.{level_of}
use Rattle.mcrl2_parser.specs.ReadableTexts.{IsReadable, of_lexing}

-- the tokens of a text are those that were found
same_tokens : {text : List ℕ} {found tokens : List Token} → HasTokens text found → HasTokens text tokens → tokens ≡ found
same_tokens {text = text} {found = found} {tokens = tokens} has other = tokens_once text tokens found other.lexes has.lexes

-- no text of the lexer's faults can be read
pub not_lexed : {text : List ℕ} {tokens : List Token} (fault : LexFault) → (fault ≢ lex_fault.NoMemory → HasFault text fault) → of_lexing fault ≡ Syntax → IsReadable text tokens → ⊥
not_lexed lex_fault.NoMemory faulty n is = let same : NoMemory ≡ Syntax = n in cc
not_lexed {text = text} {tokens = tokens} (lex_fault.BadByte at) faulty n is = fault_no_tokens text (lex_fault.BadByte at) tokens (faulty (λ e. cc)) is.has_tokens
not_lexed {text = text} {tokens = tokens} (lex_fault.NumeralTooLarge at) faulty n is = fault_no_tokens text (lex_fault.NumeralTooLarge at) tokens (faulty (λ e. cc)) is.has_tokens
not_lexed {text = text} {tokens = tokens} (lex_fault.OutOfProfile at) faulty n is = fault_no_tokens text (lex_fault.OutOfProfile at) tokens (faulty (λ e. cc)) is.has_tokens

-- nor can one whose level is too great
pub too_deep : {text : List ℕ} {found list tokens : List Token} → list ≡ found → HasTokens text found → 1000 < level_of list → IsReadable text tokens → ⊥
too_deep {list = list} {tokens = tokens} e has deep is =
    let same : level_of tokens ≡ level_of list = ap level_of (same_tokens has is.has_tokens ∙ sym e) in
    let shallow : level_of tokens ≤ 1000 = is.level in
    omega arith

pub by_tokens : {text : List ℕ} {found list : List Token} → list ≡ found → HasTokens text found → level_of list ≤ 1000 → IsReadable text found
by_tokens e has shallow = record { has_tokens = has; level = subst (λ (x : List Token). level_of x ≤ 1000) e shallow }

-- what the text's tokens spell is what the code reads
pub read_whole : {text : List ℕ} {found list tokens : List Token} (Spells : List Token → Type 0) → HasTokens text found → list ≡ found → HasTokens text tokens → Spells tokens → Spells list
read_whole Spells has e other spelled = subst Spells (same_tokens has other ∙ sym e) spelled

-- what is read and leaves nothing is what all of them spell
pub spelled_whole : {found list rest : List Token} (Spells : List Token → List Token → Type 0) → list ≡ found → Spells list rest → rest ≡ [] → Spells found []
spelled_whole {list = list} Spells e read f = subst (λ (x : List Token). Spells x []) e (subst (Spells list) f read)

-- a reader's fault that is given on as another one
module _ {Given : Type 0} (gives : Fault → Given) {none : Given} (differs : gives NoMemory ≢ none) where
  pub syntax_given : (e : Fault) → gives e ≡ none → e ≡ Syntax
  syntax_given Syntax n = refl
  syntax_given NoMemory n = absurd (differs n)

  pub memory_given : {e : Fault} → e ≡ NoMemory → gives e ≡ none → ⊥
  memory_given e n = differs (sym (ap gives e) ∙ n)
