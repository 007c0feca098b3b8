-- From the bytes that are printed for a term back to the term.
use Rattle.std.specs.Prelude.{◌≡◌, ℕ, false, List, [], ◌∷◌, Some}
use Rattle.std.specs.List.{Contains}
use Rattle.mcrl2_lexer.specs.declared.token.Token.{Token}
use Rattle.mcrl2_lexer.specs.Lexing.{HasTokens}
use Rattle.mcrl2_syntax.specs.DataTrees.{PlainData}
use Rattle.mcrl2_syntax.specs.SpelledData.{SpellsData}
use Rattle.data_theory.specs.Terms.{Sort, Term}
use Rattle.data_theory.specs.Declarations.{HasSort}
use Rattle.data_theory.specs.Environments.{IsOver}
use Rattle.sort_table.specs.BareData.{bare_data}
use Rattle.sort_table.specs.Vocabularies.{Vocabulary}
use Rattle.data_typing.specs.Meanings.{Scope, typing_in}
use Rattle.lps_printer.specs.Pieces.{bytes_of}
use Rattle.lps_printer.specs.DataLayout.{print, IsIdentifier}
use Rattle.lps_printer.specs.WrittenTerms.{Names, written}
use Rattle.lps_printer.specs.ReadableNames.{IsWritable, is_nil}
use Rattle.lps_printer.specs.FittingNames.{FitNames, numbers}

-- the names of these variables and of the functions
pub record AreIdentifiers (xs : List ℕ) (n : Names) : Type 0 where
  pub variable : (v : ℕ) → Contains xs v → IsIdentifier (n.variable v)
  pub function : (k : ℕ) → IsIdentifier (n.function k)

-- the tokens of the bytes spell a tree that infers the term and its sort
pub record ReadsAs (d : Vocabulary) (scope : Scope) (text : List ℕ) (t : Term) (s : Sort) : Type 0 where
  pub tokens : List Token
  pub cut : HasTokens text tokens
  pub tree : PlainData
  pub spells : SpellsData text tree tokens []
  pub infers : (typing_in d scope (bare_data tree)).infers ≡ Some (record { term = t; sort = s })

-- what is printed for a term in an open place
abbrev pub term_text : Names → Term → List ℕ
term_text n t = bytes_of (print (written n t).opened [] []) (10 ∷ [])

abbrev pub TermTextsReadBack : Type 0
TermTextsReadBack =
    (d : Vocabulary) (vs : List Sort) (scope : Scope) (n : Names) → FitNames d vs scope n → AreIdentifiers (numbers scope) n → (t : Term) (s : Sort) → HasSort d.tables vs t s → IsWritable n t → IsOver (numbers scope) t → is_nil t ≡ false
    → ReadsAs d scope (term_text n t) t s
