-- What the definitions of the two texts come to: a text that is bad tells nothing, and has one first bad line.
use Rattle.std.specs.Prelude.{◌≡◌, ℕ, List}
use Rattle.data_theory.specs.Signature.{Sig}
use Rattle.data_theory.specs.declared.ids.SortId.{SortId}
use Rattle.trace_replay.specs.Traces.{SpellsLabel}
use Rattle.aut_check.specs.ReadSystems.{SpellsTerms}
use Rattle.aut_check.specs.Systems.{Edge, FileState}
use Rattle.aut_check.specs.SystemTexts.{Counts, AreStates, IsAut, IsBadAut, IsBadStates}

abbrev pub AutTextsHaveOneHeader : Type 0
AutTextsHaveOneHeader = (g : Sig) (text : List ℕ) (c d : Counts) (es fs : List Edge) → IsAut (SpellsLabel g) text c es → IsAut (SpellsLabel g) text d fs → c ≡ d

abbrev pub BadAutTextsHaveNoEdges : Type 0
BadAutTextsHaveNoEdges = (g : Sig) (text : List ℕ) (k : ℕ) (c : Counts) (es : List Edge) → IsBadAut (SpellsLabel g) text k → IsAut (SpellsLabel g) text c es → ⊥

abbrev pub BadAutTextsHaveOneFirstBadLine : Type 0
BadAutTextsHaveOneFirstBadLine = (g : Sig) (text : List ℕ) (k n : ℕ) → IsBadAut (SpellsLabel g) text k → IsBadAut (SpellsLabel g) text n → k ≡ n

abbrev pub BadStateTextsHaveNoStates : Type 0
BadStateTextsHaveNoStates = (g : Sig) (ss : List SortId) (text : List ℕ) (count k : ℕ) (os : List FileState) → IsBadStates (SpellsTerms g ss) text count k → AreStates (SpellsTerms g ss) text count os → ⊥

abbrev pub BadStateTextsHaveOneFirstBadLine : Type 0
BadStateTextsHaveOneFirstBadLine = (g : Sig) (ss : List SortId) (text : List ℕ) (count k n : ℕ) → IsBadStates (SpellsTerms g ss) text count k → IsBadStates (SpellsTerms g ss) text count n → k ≡ n
