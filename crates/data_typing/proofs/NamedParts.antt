-- What a list has under a name.
use Rattle.std.proofs.Common.{◌≡◌, ℕ, Bool, true, false, cond, List, [], ◌∷◌, ◌++◌, map, refl, subst, ap, ◌∙◌, append-nil}
use Rattle.std.specs.Prelude.{Some, bytes_eq}
use Rattle.std.specs.List.{AllByRecursion}
use Rattle.std.proofs.lemmas.Option.{none-some, same_Some}
use Rattle.sort_table.specs.Expressions.{Name}
use Rattle.sort_table.specs.NamedLists.{all_named, first_named}
use Rattle.data_typing.specs.TypingLaws.{StandsNotAmong}
use Rattle.data_typing.proofs.Options.{chosen}

pub all_mapped : {A B : Type 0} (P : B → Type 0) (f : A → B) (xs : List A) → AllByRecursion (λ x. P (f x)) xs → AllByRecursion P (map f xs)
all_mapped P f [] all = tt
all_mapped P f (x ∷ xs) all = (all.0, all_mapped P f xs all.1)

pub all_appended : {A : Type 0} (P : A → Type 0) (xs ys : List A) → AllByRecursion P xs → AllByRecursion P ys → AllByRecursion P (xs ++ ys)
all_appended P [] ys all more = more
all_appended P (x ∷ xs) ys all more = (all.0, all_appended P xs ys all.1 more)

if_named : {A : Type 0} (P : A → Type 0) (b : Bool) (x : A) (xs : List A) → P x → AllByRecursion P xs → AllByRecursion P (cond b (x ∷ xs) xs)
if_named P true x xs h all = (h, all)
if_named P false x xs h all = all

pub all_named_are : {A : Type 0} (P : A → Type 0) (f : Name) (rs : List (Name × A)) → AllByRecursion (λ r. P r.1) rs → AllByRecursion P (all_named f rs)
all_named_are P f [] all = tt
all_named_are P f (r ∷ rs) all = if_named P (bytes_eq r.0 f) r.1 (all_named f rs) all.0 (all_named_are P f rs all.1)

pub first_named_is : {A : Type 0} (P : A → Type 0) (f : Name) (rs : List (Name × A)) → AllByRecursion (λ r. P r.1) rs → (x : A) → first_named f rs ≡ Some x → P x
first_named_is P f [] all x e = absurd (none-some x e)
first_named_is P f (r ∷ rs) all x e = chosen (bytes_eq r.0 f) (Some r.1) (first_named f rs) x e (λ q w. subst P (same_Some _ _ w) all.0) (λ q w. first_named_is P f rs all.1 x w)

named_behind : {A : Type 0} (f : Name) (rs qs : List (Name × A)) (b : Bool) (x : A) → cond b (x ∷ all_named f (rs ++ qs)) (all_named f (rs ++ qs)) ≡ cond b (x ∷ (all_named f rs ++ all_named f qs)) (all_named f rs ++ all_named f qs) → cond b (x ∷ all_named f (rs ++ qs)) (all_named f (rs ++ qs)) ≡ cond b (x ∷ all_named f rs) (all_named f rs) ++ all_named f qs
named_behind f rs qs true x e = e
named_behind f rs qs false x e = e

all_named_behind : {A : Type 0} (f : Name) (rs qs : List (Name × A)) → all_named f (rs ++ qs) ≡ all_named f rs ++ all_named f qs
all_named_behind f [] qs = refl
all_named_behind f (r ∷ rs) qs = named_behind f rs qs (bytes_eq r.0 f) r.1 (ap (λ xs. cond (bytes_eq r.0 f) (r.1 ∷ xs) xs) (all_named_behind f rs qs))

none_named : (f : Name) (rs : List (Name × ℕ)) → StandsNotAmong rs f → all_named f rs ≡ []
none_named f [] h = refl
none_named f (r ∷ rs) h = ap (λ b. cond b (r.1 ∷ all_named f rs) (all_named f rs)) h.0 ∙ none_named f rs h.1

pub same_named : (f : Name) (rs qs : List (Name × ℕ)) → StandsNotAmong qs f → all_named f (rs ++ qs) ≡ all_named f rs
same_named f rs qs new = all_named_behind f rs qs ∙ ap (λ ks. all_named f rs ++ ks) (none_named f qs new) ∙ append-nil (all_named f rs)
