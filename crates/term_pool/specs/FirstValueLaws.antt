-- Laws of first values.
use Rattle.std.specs.Prelude.{◌≡◌, ◌≤◌, ℕ, ℤ, pos, cond, ◌==◌, List, length, Some, slice_get}
use Rattle.data_theory.specs.declared.ids.SortId.{SortId}
use Rattle.data_theory.specs.declared.ids.FunId.{FunId}
use Rattle.data_theory.specs.declared.words.Word.{Word}
use Rattle.data_theory.specs.Words.{text_of}
use Rattle.data_theory.specs.Complete.{IsComplete}
use Rattle.data_theory.specs.Functions.{Function, arguments_of}
use Rattle.data_theory.specs.Signature.{Sig}
use Rattle.term_pool.specs.ConstructorValues.{ConstructorValue, ConstructorValues, a_number, built, IsFirstValue, AreFirstOf}

-- the arguments of a first value are the first values of their sorts
abbrev pub ArgumentsAreFirst : Type 0
ArgumentsAreFirst = (g : Sig) (s : SortId) (f : FunId) (vs : ConstructorValues) → IsFirstValue g s (built f vs) → (e : Function) → slice_get g.functions f.0 ≡ Some e → AreFirstOf g vs (arguments_of e)

-- a sort has one first value at most
abbrev pub FirstValuesAreOne : Type 0
FirstValuesAreOne = (g : Sig) (s : SortId) (v w : ConstructorValue) → IsFirstValue g s v → IsFirstValue g s w → v ≡ w

-- The second signature has the sorts of the first one, and its texts and functions at their places. None of the functions behind
-- them has the name of a built-in one.
pub record AddsFunctions (g h : Sig) : Type 0 where
  pub sorts : h.sorts ≡ g.sorts
  pub texts : (n : ℕ) (t : List ℕ) → slice_get g.texts n ≡ Some t → slice_get h.texts n ≡ Some t
  pub functions : (f : FunId) (e : Function) → slice_get g.functions f.0 ≡ Some e → slice_get h.functions f.0 ≡ Some e
  pub added : (f : FunId) (e : Function) (w : Word) → length g.functions ≤ f.0 → slice_get h.functions f.0 ≡ Some e → ¬ (slice_get h.texts e.name.0 ≡ Some (text_of w))

-- a first value stays so where functions are added
abbrev pub FirstValuesStay : Type 0
FirstValuesStay = (g h : Sig) → IsComplete g → AddsFunctions g h → (s : SortId) (v : ConstructorValue) → IsFirstValue g s v → IsFirstValue h s v

-- a first value that is a number is 1 of Pos, and 0 of Nat and Int
abbrev pub FirstNumbersAreFirst : Type 0
FirstNumbersAreFirst = (g : Sig) (s : SortId) (z : ℤ) → IsFirstValue g s (a_number s z) → z ≡ cond (s.0 == 1) (pos 1) (pos 0)
