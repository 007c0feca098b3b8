-- How left sides begin, in code.
use Rattle.std.specs.Prelude.{◌≡◌}
use Rattle.data_theory.specs.declared.ids.FunId.{FunId}
use Rattle.data_theory.specs.declared.ids.SortId.{SortId}
use Rattle.data_theory.specs.declared.num.Num.{Num}
use Rattle.data_theory.specs.Whole.{whole_of}
use Rattle.term_pool.specs.declared.terms.Head.{Head}
use Rattle.term_pool.specs.declared.terms.Head.TheVariants.{Num as Number, Fun}

pub record IsOtherFunction (f : FunId) (h : Head) : Type 0 where
  pub function : FunId
  pub is : h ≡ Fun function
  pub differs : f ≡ function → ⊥

-- a numeral of another number
pub record IsOtherNumber (n : Num) (h : Head) : Type 0 where
  pub sort : SortId
  pub number : Num
  pub is : h ≡ Number sort number
  pub differs : whole_of n ≡ whole_of number → ⊥

-- different functions, or numerals of different numbers
abbrev pub AreApart : Head → Head → Type 0
AreApart (Fun f) h = IsOtherFunction f h
AreApart (Number s n) h = IsOtherNumber n h
AreApart _ h = ⊥
