-- The vocabulary of a signature that has grown.
use Rattle.std.specs.Prelude.{◌≡◌, map}
use Rattle.data_theory.specs.Signature.{Sig}
use Rattle.data_theory.specs.Complete.{IsComplete}
use Rattle.data_theory.specs.IdTables.{IsTable}
use Rattle.data_theory.specs.IdRoles.{AreRoles}
use Rattle.data_theory.specs.IdTerms.{IsGrown}
use Rattle.sort_table.specs.SignatureVocabularies.{action_under, vocabulary_of}
use Rattle.sort_table.specs.Growth.{More, with_more}

-- what a signature gets behind its tables stands behind its vocabulary
abbrev pub GrownSignaturesHaveMore : Type 0
GrownSignaturesHaveMore =
    (g h : Sig) → IsComplete g → IsTable g → AreRoles g → AreRoles h → (grown : IsGrown g h)
    → (m : More) × (vocabulary_of h ≡ with_more (vocabulary_of g) m) × (m.actions ≡ map (action_under h) grown.new_actions)
