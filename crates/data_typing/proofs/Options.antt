-- What follows from where an option is there.
use Rattle.std.proofs.Common.{◌≡◌, Bool, true, false, cond, List, [], ◌∷◌, refl}
use Rattle.std.specs.Prelude.{Option, Some, None, option_map}
use Rattle.std.specs.Option.{option_or}
use Rattle.std.specs.List.{AllByRecursion}
use Rattle.std.proofs.lemmas.Option.{none-some, same_Some}
use Rattle.data_typing.specs.Typings.{first_of}

pub one_or_other : {A P : Type 0} (a b : Option A) (y : A) → option_or a b ≡ Some y → (a ≡ Some y → P) → (b ≡ Some y → P) → P
one_or_other None b y e f g = g e
one_or_other (Some x) b y e f g = f e

pub mapped : {A B P : Type 0} (f : A → B) (o : Option A) (y : B) → option_map f o ≡ Some y → ((x : A) → o ≡ Some x → f x ≡ y → P) → P
mapped f None y e k = absurd (none-some y e)
mapped f (Some x) y e k = k x refl (same_Some (f x) y e)

pub chosen : {A P : Type 0} (b : Bool) (o p : Option A) (y : A) → cond b o p ≡ Some y → (b ≡ true → o ≡ Some y → P) → (b ≡ false → p ≡ Some y → P) → P
chosen true o p y e f g = f refl e
chosen false o p y e f g = g refl e

pub first_there : {A B R : Type 0} (P : A → Type 0) (f : A → Option B) (xs : List A) (y : B) → AllByRecursion P xs → first_of f xs ≡ Some y → ((x : A) → P x → f x ≡ Some y → R) → R
first_there P f [] y all e k = absurd (none-some y e)
first_there P f (x ∷ xs) y all e k = one_or_other (f x) (first_of f xs) y e (λ h. k x all.0 h) (λ h. first_there P f xs y all.1 h k)
