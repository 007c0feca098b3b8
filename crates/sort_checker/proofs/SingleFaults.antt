-- A text has one fault at most.
use Rattle.std.proofs.Common.{◌≡◌}
use Rattle.std.specs.Prelude.{Option, Some}
use Rattle.sort_checker.specs.Refusals.{RefusalsAreSingle}

same : {A : Type 0} {o : Option A} {x y : A} → o ≡ Some x → o ≡ Some y → x ≡ y
same f g = cc

pub refusals_are_single : RefusalsAreSingle
refusals_are_single v ss f g a b = same a.first b.first
