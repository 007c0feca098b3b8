-- What is printed for a linear process reads back.
use Rattle.std.specs.Prelude.{◌≢◌, ◌<◌, ℕ, List, length}
use Rattle.mcrl2_lexer.specs.declared.token.Token.{Token}
use Rattle.mcrl2_lexer.specs.Lexing.{HasTokens}
use Rattle.mcrl2_syntax.specs.Declarations.{PlainSpec}
use Rattle.mcrl2_syntax.specs.SpelledDeclarations.{SpellsSpec}
use Rattle.data_theory.specs.declared.ids.NameId.{NameId}
use Rattle.data_theory.specs.Declarations.{NoSortIsEmpty}
use Rattle.data_theory.specs.IdData.{data_meant}
use Rattle.data_theory.specs.IdTrees.{Tree}
use Rattle.data_theory.specs.Signature.{Sig, IsTaken}
use Rattle.data_theory.specs.WholeSignatures.{IsSignature}
use Rattle.sort_table.specs.SignatureVocabularies.{text_under}
use Rattle.bisim_laws.specs.Terminations.{terminate_name}
use Rattle.lps_core.specs.Fitting.{Fits}
use Rattle.lps_core.specs.PlainLinears.{PlainLinear}
use Rattle.lps_printer.specs.DataLayout.{IsIdentifier}
use Rattle.lps_printer.specs.FittingLinears.{VariablesHaveOwnNames, NamesAreIdentifiers}
use Rattle.lps_printer.specs.GrowingByAdditions.{GrowsByAdditions, added_actions}
use Rattle.lps_printer.specs.PrintedLinears.{IsPrinted}
use Rattle.lps_printer.specs.PrintedTheories.{ElaboratesOver}
use Rattle.lin_driver.specs.Additions.{AreTerminate}
use Rattle.lin_driver.specs.Linearised.{ReadsBack}
use Rattle.lin_driver.specs.declared.ending.Ending.{Ending}

-- The text elaborates over a signature, which has grown by structs and constants, and with `Terminate` perhaps by this action. The linear process fits this
-- one, its names are identifiers and tell its variables apart, and the name of the process is an identifier that wasn't taken.
pub record CanBePrinted (ending : Ending) (spec : PlainSpec) (g : Sig) (ts : List Tree) (x : NameId) (l : PlainLinear) : Type 0 where
  pub text : List ℕ
  pub tokens : List Token
  pub cut : HasTokens text tokens
  pub spelled : SpellsSpec text spec tokens
  pub own_signature : Sig
  pub own : ElaboratesOver spec own_signature
  pub grown : GrowsByAdditions own_signature g
  pub added : AreTerminate ending g (added_actions grown)
  pub stands : IsSignature g
  pub inhabited : NoSortIsEmpty (data_meant g)
  pub fits : Fits g ts l
  pub names : VariablesHaveOwnNames g l
  pub identifiers : NamesAreIdentifiers g l
  pub process_there : x.0 < length g.texts
  pub process_new : ¬ (IsTaken own_signature (text_under g x))
  pub process_apart : text_under g x ≢ terminate_name
  pub process_named : IsIdentifier (text_under g x)

-- The signature g becomes h as the text is printed.
abbrev pub PrintedTextsReadBack : Type 0
PrintedTextsReadBack =
    (ending : Ending) (spec : PlainSpec) (g h : Sig) (ts : List Tree) (x : NameId) (l : PlainLinear) (printed : List ℕ) → CanBePrinted ending spec g ts x l → IsSignature h → IsPrinted spec g h ts x l printed → ReadsBack ending spec g ts l printed
