-- What comes out of a label under `allow`, `block`, `hide` and `rename`.
use Rattle.std.specs.Prelude.{◌||◌, Bool, List, [], ◌∷◌, map, Option, Some, None, if◌then◌else◌}
use Rattle.std.specs.List.{list_any}
use Rattle.action_filters.specs.NameTests.{is_among, is_nothing, is_permuted}

-- how the name of an action is read, and whether two names are the same
pub record Naming (A N : Type 0) : Type 0 where
  pub name : A → N
  pub same : N → N → Bool

-- no names, or those of a set, each as often
abbrev pub are_allowed : {N : Type 0} → (N → N → Bool) → List (List N) → List N → Bool
are_allowed same sets ns = is_nothing ns || list_any (λ v. is_permuted same ns v) sets

abbrev pub are_blocked : {N : Type 0} → (N → N → Bool) → List N → List N → Bool
are_blocked same blocked ns = list_any (λ x. is_among same blocked x) ns

-- the whole label, where it is empty, or its names are allowed together
abbrev pub allowed_label : {A N : Type 0} → Naming A N → List (List N) → List A → Option (List A)
allowed_label w sets m = if are_allowed w.same sets (map w.name m) then Some m else None

-- the whole label, where none of its names is blocked
abbrev pub unblocked_label : {A N : Type 0} → Naming A N → List N → List A → Option (List A)
unblocked_label w blocked m = if are_blocked w.same blocked (map w.name m) then None else Some m

-- the actions that aren't hidden
abbrev pub shown : {A N : Type 0} → Naming A N → List N → List A → List A
shown w hidden [] = []
shown w hidden (a ∷ m) = if is_among w.same hidden (w.name a) then shown w hidden m else a ∷ shown w hidden m

abbrev pub shown_label : {A N : Type 0} → Naming A N → List N → List A → Option (List A)
shown_label w hidden m = Some (shown w hidden m)

-- the name that stands for this one in the first pair that has it, and else this one
abbrev pub new_name : {N : Type 0} → (N → N → Bool) → List (N × N) → N → N
new_name same [] x = x
new_name same (r ∷ rs) x = if same r.0 x then r.1 else new_name same rs x
