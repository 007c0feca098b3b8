-- Laws of first values.
use Rattle.std.specs.Prelude.{◌≡◌, ℕ, List, []}
use Rattle.data_theory.specs.declared.ids.SortId.{SortId}
use Rattle.data_theory.specs.Declarations.{HasSort}
use Rattle.data_theory.specs.Signature.{Sig}
use Rattle.data_theory.specs.IdTrees.{Tree}
use Rattle.data_theory.specs.IdTreeSorts.{HasTreeSort}
use Rattle.data_theory.specs.IdData.{data_meant}
use Rattle.data_theory.specs.IdTerms.{sort_under, term_under}
use Rattle.data_theory.specs.WholeSignatures.{IsSignature}
use Rattle.term_pool.specs.ConstructorValues.{ConstructorValue}
use Rattle.value_enum.specs.Values.{AreFirst, IsPlainValueOf, value_tree}

-- a sort has one list of first values for a bound
abbrev pub FirstValuesAreOne : Type 0
FirstValuesAreOne = (g : Sig) (s : SortId) (bound : ℕ) (vs ws : List ConstructorValue) → AreFirst g s bound vs → AreFirst g s bound ws → vs ≡ ws

-- the tree of a constructor value has the value's sort, and the term that it means has it over no variables: it is closed
pub record IsClosedTermOf (g : Sig) (s : SortId) (t : Tree) : Type 0 where
  pub sorted : HasTreeSort g t s
  pub closed : HasSort (data_meant g) [] (term_under g t) (sort_under g s)

abbrev pub ValuesAreClosedTerms : Type 0
ValuesAreClosedTerms = (g : Sig) → IsSignature g → (s : SortId) (v : ConstructorValue) → IsPlainValueOf g s v → IsClosedTermOf g s (value_tree v)
