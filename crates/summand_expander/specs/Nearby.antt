-- What is allowed near a name: the sets in which it can stand, and the rules with results in these.
use Rattle.std.specs.Prelude.{◌≡◌, Bool, false, ◌||◌, List, ◌++◌, map, filter}
use Rattle.std.specs.List.{Contains, list_any}
use Rattle.data_theory.specs.declared.ids.NameId.{NameId}
use Rattle.data_theory.specs.Signature.{Sig}
use Rattle.action_filters.specs.NameTests.{is_among}
use Rattle.action_filters.specs.Filters.{naming, same_name}
use Rattle.communication.specs.Ways.{Joining}
use Rattle.summand_expander.specs.ByFirst.{rules_with}
use Rattle.summand_expander.specs.Drafts.{PlainMove}
use Rattle.summand_expander.specs.PlainAllowed.{PlainAllowed, can_complete_ids}

-- a name is in the set, or one of these rules, which have it on their left sides, has a result in the set
abbrev pub is_home : {N : Type 0} → (N → N → Bool) → List (Joining N) → N → List N → Bool
is_home same candidates n v = is_among same v n || list_any (λ c. is_among same v c.result) candidates

-- the sets in which a name can stand
abbrev pub homes : {N : Type 0} → (N → N → Bool) → List (Joining N) → List (List N) → N → List (List N)
homes same rules sets n = filter (is_home same (rules_with same n rules) n) sets

-- the result is in one of the sets
abbrev pub has_result : {N : Type 0} → (N → N → Bool) → List (List N) → Joining N → Bool
has_result same sets c = list_any (λ v. is_among same v c.result) sets

abbrev pub near_rules : {N : Type 0} → (N → N → Bool) → List (Joining N) → List (List N) → List (Joining N)
near_rules same rules sets = filter (has_result same sets) rules

-- a name of one of the sets, or of a left side
abbrev pub stands_in : {N : Type 0} → (N → N → Bool) → List (Joining N) → List (List N) → N → Bool
stands_in same rules sets n = list_any (λ v. is_among same v n) sets || list_any (λ c. is_among same c.left n) rules

-- behind these names the same can be completed by what is near, and nothing with a name that isn't among the keys
pub record AreNear (a : PlainAllowed) (ns : List NameId) (b : PlainAllowed) (keys : List NameId) : Type 0 where
  pub same : (ms : List NameId) → can_complete_ids b (ns ++ ms) ≡ can_complete_ids a (ns ++ ms)
  pub apart : (ms : List NameId) (x : NameId) → Contains ms x → is_among same_name keys x ≡ false → can_complete_ids a (ns ++ ms) ≡ false

-- ---- partners
-- names that have one that isn't among the keys can't be completed together with these
abbrev pub ArePartners : PlainAllowed → List NameId → List NameId → Type 0
ArePartners a keys ns = (ms : List NameId) (x : NameId) → Contains ms x → is_among same_name keys x ≡ false → can_complete_ids a (ms ++ ns) ≡ false

-- nor together with those of a summand's label
abbrev pub IsPartnerOf : Sig → PlainAllowed → List NameId → PlainMove → Type 0
IsPartnerOf g a keys m = ArePartners a keys (map (naming g).name m.label)
