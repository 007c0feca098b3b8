-- What a list has under a name.
use Rattle.std.specs.Prelude.{List, [], ◌∷◌, cond, Option, Some, None, bytes_eq}
use Rattle.sort_table.specs.Expressions.{Name}

-- all that a list has under a name, in order
abbrev pub all_named : {A : Type 0} → Name → List (Name × A) → List A
all_named f [] = []
all_named f (r ∷ rs) = cond (bytes_eq r.0 f) (r.1 ∷ all_named f rs) (all_named f rs)

-- the first that a list has under a name
abbrev pub first_named : {A : Type 0} → Name → List (Name × A) → Option A
first_named f [] = None
first_named f (r ∷ rs) = cond (bytes_eq r.0 f) (Some r.1) (first_named f rs)
