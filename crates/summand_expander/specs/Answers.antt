-- Answers whether names can be completed.
use Rattle.std.specs.Prelude.{◌≡◌, ℕ, Bool, List, [], ◌∷◌, map, Option, Some}
use Rattle.std.specs.BTreeMap.{BTreeMap, get_by}
use Rattle.std.specs.Cmp.Lexicographic.{slice_cmp}
use Rattle.std.specs.Ordering.{nat_cmp}
use Rattle.std.specs.Global.{Vec}
use Rattle.data_theory.specs.declared.ids.NameId.{NameId}
use Rattle.action_filters.specs.NameTests.{is_among}
use Rattle.action_filters.specs.Filters.{same_name}
use Rattle.summand_expander.specs.PlainAllowed.{PlainAllowed, can_complete_ids}
use Rattle.summand_expander.specs.declared.answers.KnownAnswers.{KnownAnswers}

abbrev pub name_numbers : List NameId → List ℕ
name_numbers ns = map (λ (n : NameId). n.0) ns

-- what a map has under a list of numbers
abbrev pub answer_under : BTreeMap (Vec ℕ) Bool → List ℕ → Option Bool
answer_under m code = get_by (λ (k : Vec ℕ). slice_cmp nat_cmp code k.items) m

-- each answer that a map has is right
abbrev pub AreKnown : PlainAllowed → BTreeMap (Vec ℕ) Bool → Type 0
AreKnown a m = (ns : List NameId) (can : Bool) → answer_under m (name_numbers ns) ≡ Some can → can ≡ can_complete_ids a ns

-- so are all answers, and the names that can be completed alone are known
pub record AreAnswers (a : PlainAllowed) (answers : KnownAnswers) : Type 0 where
  pub alone : (x : NameId) → is_among same_name answers.alone.keys x ≡ can_complete_ids a (x ∷ [])
  pub known : AreKnown a answers.known
