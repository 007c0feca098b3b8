-- A tree whose term has a sort of the signature has that sort itself.
use Rattle.std.specs.Prelude.{◌<◌, length}
use Rattle.data_theory.specs.declared.ids.SortId.{SortId}
use Rattle.data_theory.specs.Declarations.{HasSort}
use Rattle.data_theory.specs.IdData.{data_meant}
use Rattle.data_theory.specs.IdTerms.{sort_under, term_under, variable_sorts, IsTreeWithin}
use Rattle.data_theory.specs.IdTrees.{Tree}
use Rattle.data_theory.specs.IdTreeSorts.{HasTreeSort}
use Rattle.data_theory.specs.Signature.{Sig}
use Rattle.data_theory.specs.WholeSignatures.{IsSignature}

abbrev pub SortedTermsHaveSortedTrees : Type 0
SortedTermsHaveSortedTrees =
    (g : Sig) → IsSignature g → (t : Tree) (s : SortId) → IsTreeWithin g t → s.0 < length g.sorts → HasSort (data_meant g) (variable_sorts g) (term_under g t) (sort_under g s) → HasTreeSort g t s
