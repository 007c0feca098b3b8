-- What a text of words declares is named by identifiers.
use Rattle.data_theory.specs.Signature.{Sig}
use Rattle.mcrl2_syntax.specs.Declarations.{PlainSpec}
use Rattle.mcrl2_syntax.specs.TreeWords.{IsSpecOfWords}
use Rattle.sort_table.specs.BareDeclarations.{bare_sections, declarations_in}
use Rattle.sort_table.specs.SignatureVocabularies.{vocabulary_of}
use Rattle.sort_table.specs.SortMeanings.{under_names}
use Rattle.sort_table.specs.Vocabularies.{IsVocabularyOf}
use Rattle.lps_printer.specs.GrownIdentifiers.{DeclaresIdentifiers}

abbrev pub TextsDeclareIdentifiers : Type 0
TextsDeclareIdentifiers = (spec : PlainSpec) (g : Sig) → IsSpecOfWords spec → IsVocabularyOf (under_names (declarations_in (bare_sections spec))) (vocabulary_of g) → DeclaresIdentifiers g
