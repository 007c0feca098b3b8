-- Laws of truth values that the table's lines on Bool come down to.
use Rattle.std.proofs.Common.{◌≡◌, Bool, true, false, ◌&&◌, ◌||◌, refl, sym}
use Rattle.std.specs.Prelude.{not}

pub not_not_is : (a : Bool) → not (not a) ≡ a
not_not_is true = refl
not_not_is false = refl

pub and_true_is : (a : Bool) → (a && true) ≡ a
and_true_is true = refl
and_true_is false = refl

pub and_false_is : (a : Bool) → (a && false) ≡ false
and_false_is true = refl
and_false_is false = refl

pub and_same_is : (a : Bool) → (a && a) ≡ a
and_same_is true = refl
and_same_is false = refl

pub or_true_is : (a : Bool) → (a || true) ≡ true
or_true_is true = refl
or_true_is false = refl

pub or_false_is : (a : Bool) → (a || false) ≡ a
or_false_is true = refl
or_false_is false = refl

pub or_same_is : (a : Bool) → (a || a) ≡ a
or_same_is true = refl
or_same_is false = refl

pub and_commutes_is : (a b : Bool) → (a && b) ≡ (b && a)
and_commutes_is true b = sym (and_true_is b)
and_commutes_is false b = sym (and_false_is b)

pub or_commutes_is : (a b : Bool) → (a || b) ≡ (b || a)
or_commutes_is true b = sym (or_true_is b)
or_commutes_is false b = sym (or_false_is b)

pub and_associates_is : (a b c : Bool) → ((a && b) && c) ≡ (a && (b && c))
and_associates_is true b c = refl
and_associates_is false b c = refl

pub or_associates_is : (a b c : Bool) → ((a || b) || c) ≡ (a || (b || c))
or_associates_is true b c = refl
or_associates_is false b c = refl

pub and_distributes_is : (a b c : Bool) → (a && (b || c)) ≡ ((a && b) || (a && c))
and_distributes_is true b c = refl
and_distributes_is false b c = refl

pub or_distributes_is : (a b c : Bool) → (a || (b && c)) ≡ ((a || b) && (a || c))
or_distributes_is true b c = refl
or_distributes_is false b c = refl

pub and_absorbs_is : (a b : Bool) → (a && (a || b)) ≡ a
and_absorbs_is true b = refl
and_absorbs_is false b = refl

pub or_absorbs_is : (a b : Bool) → (a || (a && b)) ≡ a
or_absorbs_is true b = refl
or_absorbs_is false b = refl

pub not_and_is : (a b : Bool) → not (a && b) ≡ (not a || not b)
not_and_is true b = refl
not_and_is false b = refl

pub not_or_is : (a b : Bool) → not (a || b) ≡ (not a && not b)
not_or_is true b = refl
not_or_is false b = refl

pub and_not_is : (a : Bool) → (a && not a) ≡ false
and_not_is true = refl
and_not_is false = refl

pub or_not_is : (a : Bool) → (a || not a) ≡ true
or_not_is true = refl
or_not_is false = refl
