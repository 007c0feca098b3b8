-- Rules by the names on their left sides.
use Rattle.std.specs.Prelude.{◌≡◌, ◌<◌, ◌⊎◌, ℕ, true, List, [], take, drop, length, filter, cond, Option, Some, None}
use Rattle.std.specs.Map.{lookup}
use Rattle.data_theory.specs.declared.ids.NameId.{NameId}
use Rattle.process_terms.specs.PlainProcesses.{PlainRule}
use Rattle.action_filters.specs.NameTests.{is_among}
use Rattle.action_filters.specs.Filters.{same_name}

-- the rules with a name on their left sides
abbrev pub rules_with : NameId → List PlainRule → List PlainRule
rules_with x rules = filter (λ (c : PlainRule). is_among same_name c.left x) rules

-- the place at which a name is entered
abbrev pub place_of_name : List (NameId × ℕ) → NameId → Option ℕ
place_of_name entries x = lookup (same_name x) entries

-- a rule is the only one with a name, or there is none with it
abbrev pub KnowsRule : List PlainRule → NameId → Option ℕ → Type 0
KnowsRule rules x None = rules_with x rules ≡ []
KnowsRule rules x (Some i) = (i < length rules) × (rules_with x (take 1 (drop i rules)) ≡ rules_with x rules)

unfoldable pub KnowsRules : List PlainRule → List (NameId × ℕ) → Type 0
KnowsRules rules entries = (x : NameId) → KnowsRule rules x (place_of_name entries x)

-- a name has got a place that it may have had before; the others keep theirs
pub record IsEntered (n : NameId) (i : ℕ) (old new : List (NameId × ℕ)) : Type 0 where
  pub entered : (x : NameId) → place_of_name new x ≡ cond (same_name x n) (Some i) (place_of_name old x)
  pub fresh : (place_of_name old n ≡ None) ⊎ (place_of_name old n ≡ Some i)

-- so have these names
pub record AreEntered (ns : List NameId) (i : ℕ) (old new : List (NameId × ℕ)) : Type 0 where
  pub entered : (x : NameId) → place_of_name new x ≡ cond (is_among same_name ns x) (Some i) (place_of_name old x)
  pub fresh : (x : NameId) → is_among same_name ns x ≡ true → (place_of_name old x ≡ None) ⊎ (place_of_name old x ≡ Some i)
