-- When a form has no regular encoding.
use Rattle.std.specs.Prelude.{◌≡◌, ◌≤◌, ◌-◌, ℕ, Bool, List, nat_le, length, take, slice_get, Some}
use Rattle.std.specs.List.{All, flat_map}
use Rattle.greibach.specs.declared.forms.GreibachSummand.{GreibachSummand}
use Rattle.greibach.specs.PlainForms.{PlainFormSummand, PlainEquation, PlainForm}
use Rattle.greibach.specs.Tails.{HasTail}
use Rattle.regular_encoder.specs.declared.faults.EncodeFault.{EncodeFault}
use Rattle.regular_encoder.specs.declared.faults.EncodeFault.TheVariants.{NotTail, NoMemory}

-- the summands of all equations, in their order
abbrev pub all_summands : List PlainEquation → List PlainFormSummand
all_summands qs = flat_map (λ (q : PlainEquation). q.summands) qs

-- summand k, counted from 1 over the equations in their order, is the first with two calls or more
pub record IsFirstWithTwoCalls (f : PlainForm) (k : ℕ) : Type 0 where
  pub summand : PlainFormSummand
  pub from_one : 1 ≤ k
  pub stands : slice_get (all_summands f.equations) (k - 1) ≡ Some summand
  pub calls : 2 ≤ length summand.next
  pub first : All HasTail (take (k - 1) (all_summands f.equations))

-- want of memory has no cause here
abbrev pub IsEncodeFaultOf : PlainForm → EncodeFault → Type 0
IsEncodeFaultOf f (NotTail k) = IsFirstWithTwoCalls f k
IsEncodeFaultOf f NoMemory = Unit {0}

-- as a test
abbrev pub has_two_calls : GreibachSummand → Bool
has_two_calls s = nat_le 2 (length s.next.items)
