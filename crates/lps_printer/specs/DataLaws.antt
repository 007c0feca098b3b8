-- What is promised of a printed expression.
use Rattle.std.specs.Prelude.{◌≡◌, ℕ, false, List, [], ◌∷◌, Some}
use Rattle.mcrl2_lexer.specs.declared.token.Token.{Token}
use Rattle.mcrl2_lexer.specs.Lexing.{HasTokens}
use Rattle.mcrl2_syntax.specs.DataTrees.{PlainData}
use Rattle.mcrl2_syntax.specs.SpelledData.{SpellsData}
use Rattle.sort_table.specs.Expressions.{Name}
use Rattle.sort_table.specs.BareData.{bare_data}
use Rattle.data_typing.specs.Typings.{Meaning, typing}
use Rattle.data_theory.specs.Terms.{Sort, Term}
use Rattle.data_theory.specs.Declarations.{Data, HasSort}
use Rattle.data_theory.specs.Environments.{IsOver}
use Rattle.lps_printer.specs.Pieces.{bytes_of}
use Rattle.lps_printer.specs.PrintedExpressions.{Expression}
use Rattle.lps_printer.specs.PlainExpressions.{plain}
use Rattle.lps_printer.specs.DataLayout.{print, IsSpellable}
use Rattle.lps_printer.specs.WrittenTerms.{Names, written}
use Rattle.lps_printer.specs.ReadableNames.{ReadsNames, IsWritable, is_nil}

-- the tokens of the bytes spell a tree of the expression
pub record SpellsBack (text : List ℕ) (e : Expression) : Type 0 where
  pub tokens : List Token
  pub cut : HasTokens text tokens
  pub tree : PlainData
  pub spells : SpellsData text tree tokens []
  pub is : bare_data tree ≡ plain e

abbrev pub ExpressionsSpellBack : Type 0
ExpressionsSpellBack = (e : Expression) → IsSpellable e → SpellsBack (bytes_of (print e [] []) (10 ∷ [])) e

-- in an open place a printed term infers itself and its sort, in a place of declared sort it checks as itself
abbrev pub TermsReadBack : Type 0
TermsReadBack =
    (g : Data) (vs : List Sort) (xs : List ℕ) (n : Names) (m : Name → Meaning) → ReadsNames g vs xs n m → (t : Term) (s : Sort) → HasSort g vs t s → IsWritable n t → IsOver xs t
    → (is_nil t ≡ false → (typing m (plain (written n t).opened)).infers ≡ Some (record { term = t; sort = s }))
    × ((typing m (plain (written n t).placed)).checks s ≡ Some t)
