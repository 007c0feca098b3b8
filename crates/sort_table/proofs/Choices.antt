-- What follows from where a choice has an answer.
use Rattle.std.proofs.Common.{◌≡◌, Bool, true, false, cond, refl}
use Rattle.std.specs.Prelude.{Option, Some}

pub chosen : {A P : Type 0} (b : Bool) (o p : Option A) (y : A) → cond b o p ≡ Some y → (b ≡ true → o ≡ Some y → P) → (b ≡ false → p ≡ Some y → P) → P
chosen true o p y e f g = f refl e
chosen false o p y e f g = g refl e
