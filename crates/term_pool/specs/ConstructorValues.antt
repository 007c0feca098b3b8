-- Constructor values: the values that closed terms of constructors and numerals stand for, over the numbers of a signature, and
-- their order. A sort without constructors has one value here, its constant.
use Rattle.std.specs.Prelude.{◌≡◌, ◌⊎◌, ◌<◌, ℕ, zero, suc, ◌+◌, ◌*◌, List, [], ◌∷◌, cond, ◌==◌, Some, slice_get, ℤ, pos, negsuc}
use Rattle.data_theory.specs.declared.ids.SortId.{SortId}
use Rattle.data_theory.specs.declared.ids.FunId.{FunId}
use Rattle.data_theory.specs.declared.words.Word.TheVariants as words
use Rattle.data_theory.specs.declared.words.ListWord.TheVariants as lists
use Rattle.data_theory.specs.Words.{text_of}
use Rattle.data_theory.specs.Functions.{Function, arguments_of}
use Rattle.data_theory.specs.Sorts.{Kind, SortInfo, booleans, positives, naturals, integers, lists_over, without_constructors, by_declarations, structured}
use Rattle.data_theory.specs.IdSorts.{HasKind}
use Rattle.data_theory.specs.Signature.{Sig, IsFun}
use Rattle.data_theory.specs.IdTreeSorts.{HasNumber}

-- a number of Pos, Nat or Int, a constructor over values, or the constant of a sort without constructors
mutual
  pub data ConstructorValue : Type 0 where
    a_number : SortId → ℤ → ConstructorValue
    built : FunId → ConstructorValues → ConstructorValue
    a_constant : SortId → ConstructorValue

  pub data ConstructorValues : Type 0 where
    no_value : ConstructorValues
    value_then : ConstructorValue → ConstructorValues → ConstructorValues

-- ---- the values of a sort
-- The constructors of a sort of this kind, by their places: those of Bool are `true` and `false`, those of a list sort `[]` and `|>`.
abbrev pub IsConstructorOf : Sig → SortId → Kind → ℕ → FunId → Type 0
IsConstructorOf g s booleans k f = ((k ≡ 0) × IsFun g (text_of words.True) [] f.0) ⊎ ((k ≡ 1) × IsFun g (text_of words.False) [] f.0)
IsConstructorOf g s positives k f = ⊥
IsConstructorOf g s naturals k f = ⊥
IsConstructorOf g s integers k f = ⊥
IsConstructorOf g s (lists_over e) k f = ((k ≡ 0) × IsFun g (text_of (words.List lists.Empty)) (s ∷ []) f.0) ⊎ ((k ≡ 1) × IsFun g (text_of (words.List lists.Cons)) (e ∷ s ∷ []) f.0)
IsConstructorOf g s without_constructors k f = ⊥
IsConstructorOf g s (by_declarations fs) k f = slice_get fs k ≡ Some f
IsConstructorOf g s (structured fs) k f = slice_get fs k ≡ Some f

abbrev pub IsConstructorAt : Sig → SortId → ℕ → FunId → Type 0
IsConstructorAt g s k f = (i : SortInfo) × (slice_get g.sorts s.0 ≡ Some i) × IsConstructorOf g s i.kind k f

abbrev mutual
  pub IsValueOf : Sig → ConstructorValue → SortId → Type 0
  IsValueOf g (a_number a z) s = (a ≡ s) × HasNumber s z
  IsValueOf g (built f vs) s = (k : ℕ) × IsConstructorAt g s k f × ((e : Function) × (slice_get g.functions f.0 ≡ Some e) × AreValuesOf g vs (arguments_of e))
  IsValueOf g (a_constant d) s = (d ≡ s) × HasKind g.sorts s.0 without_constructors

  pub AreValuesOf : Sig → ConstructorValues → List SortId → Type 0
  AreValuesOf g no_value [] = Unit {0}
  AreValuesOf g (value_then v vs) (s ∷ ss) = IsValueOf g v s × AreValuesOf g vs ss
  AreValuesOf g no_value (s ∷ ss) = ⊥
  AreValuesOf g (value_then v vs) [] = ⊥

-- the sort isn't empty
abbrev pub HasValue : Sig → SortId → Type 0
HasValue g s = (v : ConstructorValue) × IsValueOf g v s

-- ---- the order of values
-- Numbers weigh so much that those of each sort have an order: Pos n weighs n, Nat n weighs n + 1, and Int goes 0, 1, -1, 2, -2 ..
abbrev pub number_weight : SortId → ℤ → ℕ
number_weight s (pos zero) = 1
number_weight s (pos (suc n)) = cond (s.0 == 1) (suc n) (cond (s.0 == 2) (suc n + 1) (2 * suc n))
number_weight s (negsuc n) = 2 * suc n + 1

-- a constructor weighs 1 more than its arguments
abbrev mutual
  pub weight : ConstructorValue → ℕ
  weight (a_number s z) = number_weight s z
  weight (built f vs) = 1 + weights vs
  weight (a_constant d) = 1

  pub weights : ConstructorValues → ℕ
  weights no_value = 0
  weights (value_then v vs) = weight v + weights vs

-- the first constructor of the sort stands in front of each place of the second
abbrev pub IsEarlier : Sig → SortId → FunId → FunId → Type 0
IsEarlier g s f h = (j : ℕ) × IsConstructorAt g s j f × ((k : ℕ) → IsConstructorAt g s k h → j < k)

-- Values of a sort are ordered by weight, then by the places of their constructors, then by their arguments from the left.
mutual
  pub data ComesBefore (g : Sig) : SortId → ConstructorValue → ConstructorValue → Type 0 where
    lighter : {s : SortId} {v w : ConstructorValue} → weight v < weight w → ComesBefore g s v w
    of_earlier_constructor : {s : SortId} {f h : FunId} {vs ws : ConstructorValues} → weights vs ≡ weights ws → IsEarlier g s f h → ComesBefore g s (built f vs) (built h ws)
    over_earlier_arguments : {s : SortId} {f h : FunId} {vs ws : ConstructorValues} → weights vs ≡ weights ws → f ≡ h → (e : Function) → slice_get g.functions f.0 ≡ Some e
        → ComeBefore g (arguments_of e) vs ws → ComesBefore g s (built f vs) (built h ws)

  pub data ComeBefore (g : Sig) : List SortId → ConstructorValues → ConstructorValues → Type 0 where
    here : {s : SortId} {ss : List SortId} {v w : ConstructorValue} {vs ws : ConstructorValues} → ComesBefore g s v w → ComeBefore g (s ∷ ss) (value_then v vs) (value_then w ws)
    later : {s : SortId} {ss : List SortId} {v w : ConstructorValue} {vs ws : ConstructorValues} → v ≡ w → ComeBefore g ss vs ws → ComeBefore g (s ∷ ss) (value_then v vs) (value_then w ws)

-- a value of the sort that comes before all its other ones
pub record IsFirstValue (g : Sig) (s : SortId) (v : ConstructorValue) : Type 0 where
  pub of_sort : IsValueOf g v s
  pub first : (w : ConstructorValue) → IsValueOf g w s → (v ≡ w) ⊎ ComesBefore g s v w

-- each value is the first one of its sort
abbrev pub AreFirstOf : Sig → ConstructorValues → List SortId → Type 0
AreFirstOf g no_value [] = Unit {0}
AreFirstOf g (value_then v vs) (s ∷ ss) = IsFirstValue g s v × AreFirstOf g vs ss
AreFirstOf g no_value (s ∷ ss) = ⊥
AreFirstOf g (value_then v vs) [] = ⊥
