-- Inhabited sorts of a signature, and of the data that it means.
use Rattle.std.specs.Prelude.{◌<◌, ◌↔◌, [], length}
use Rattle.data_theory.specs.declared.ids.SortId.{SortId}
use Rattle.data_theory.specs.Terms.{Term}
use Rattle.data_theory.specs.Declarations.{IsConstructed, HasSort, NoSortIsEmpty}
use Rattle.data_theory.specs.Signature.{Sig}
use Rattle.data_theory.specs.IdData.{data_meant}
use Rattle.data_theory.specs.IdTerms.{sort_under}
use Rattle.data_theory.specs.WholeSignatures.{IsSignature}
use Rattle.term_pool.specs.ConstructorValues.{HasValue}

-- no sort of the data is empty exactly where each sort of the signature has a value
abbrev pub SortsHaveValuesWhereNoneIsEmpty : Type 0
SortsHaveValuesWhereNoneIsEmpty = (g : Sig) → IsSignature g → NoSortIsEmpty (data_meant g) ↔ ((s : SortId) → s.0 < length g.sorts → HasValue g s)

-- a sort of the signature has a value exactly where the sort that it means has a closed term of constructors
abbrev pub ValuesAreConstructedTerms : Type 0
ValuesAreConstructedTerms = (g : Sig) → IsSignature g → (s : SortId) → s.0 < length g.sorts → HasValue g s ↔ ((t : Term) × (IsConstructed (data_meant g) t × HasSort (data_meant g) [] t (sort_under g s)))
