-- What stays where a signature grows.
use Rattle.std.specs.Prelude.{List}
use Rattle.data_theory.specs.declared.ids.SortId.{SortId}
use Rattle.data_theory.specs.declared.ids.FunId.{FunId}
use Rattle.data_theory.specs.Signature.{Sig}
use Rattle.data_theory.specs.IdTerms.{IsGrown}
use Rattle.term_pool.specs.ConstructorValues.{HasValue}
use Rattle.term_pool.specs.Constants.{AreConstants}

abbrev pub InhabitedSortsStayInhabited : Type 0
InhabitedSortsStayInhabited = (g h : Sig) → IsGrown g h → (s : SortId) → HasValue g s → HasValue h s

abbrev pub ConstantsStay : Type 0
ConstantsStay = (g h : Sig) → IsGrown g h → (cs : List (SortId × FunId)) → AreConstants g cs → AreConstants h cs
