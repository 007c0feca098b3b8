-- Whether names are completed by a set, told by the first of them.
use Rattle.std.specs.Prelude.{Bool, ◌||◌, List, [], ◌∷◌, filter, Option, Some, None}
use Rattle.std.specs.List.{list_any}
use Rattle.action_filters.specs.NameTests.{is_among, where_some, without_one}
use Rattle.communication.specs.Ways.{Joining}
use Rattle.summand_expander.specs.CompletableTests.{completes}

abbrev pub or_else : {A : Type 0} → A → Option A → A
or_else x None = x
or_else x (Some y) = y

-- names without those of a piece, each as often as it is there
abbrev pub without_all : {N : Type 0} → (N → N → Bool) → List N → List N → List N
without_all same ns [] = ns
without_all same ns (p ∷ ps) = without_all same (or_else ns (without_one same p ns)) ps

-- a name that stays
abbrev pub alone : {N : Type 0} → N → Joining N
alone n = record { left = n ∷ []; result = n }

-- a member of the set gives this left side, and the other members complete the names that are left
abbrev pub gives : {N : Type 0} → (N → N → Bool) → List (Joining N) → List N → List N → Joining N → Bool
gives same rules ns v c = where_some (λ w. completes same rules (without_all same ns c.left) w) (without_one same c.result v)

-- the rules that have a name on their left side
abbrev pub rules_with : {N : Type 0} → (N → N → Bool) → N → List (Joining N) → List (Joining N)
rules_with same n rules = filter (λ c. is_among same c.left n) rules

-- the first name stays in the set, or one of these left sides has it, and the rest is completed
abbrev pub completes_first : {N : Type 0} → (N → N → Bool) → List (Joining N) → N → List N → List N → Bool
completes_first same rules n ns v = gives same rules (n ∷ ns) v (alone n) || list_any (gives same rules (n ∷ ns) v) (rules_with same n rules)
