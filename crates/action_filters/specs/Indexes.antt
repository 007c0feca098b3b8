-- What an index of names has to be.
use Rattle.std.specs.Prelude.{◌≡◌, List, Contains, Option, Vec}
use Rattle.std.specs.List.{All}
use Rattle.std.specs.List.Sorted.{IsNonDecreasingBy}
use Rattle.std.specs.Map.{lookup}
use Rattle.std.specs.Global.{Global}
use Rattle.data_theory.specs.declared.ids.NameId.{NameId}
use Rattle.action_filters.specs.Filters.{same_name}

-- in ascending order
abbrev pub IsInOrder : List NameId → Type 0
IsInOrder ns = IsNonDecreasingBy (λ (n : NameId). n.0) ns

-- each of the sets is
abbrev pub AreInOrder : List (Vec NameId Global) → Type 0
AreInOrder sets = All (λ (set : Vec NameId Global). IsInOrder set.items) sets

-- what stands beside a name in the first pair with it
abbrev pub beside : List (NameId × NameId) → NameId → Option NameId
beside pairs x = lookup (same_name x) pairs

-- some of these pairs, among them the first one of each name
pub record AreFirst (pairs found : List (NameId × NameId)) : Type 0 where
  pub among : (r : NameId × NameId) → Contains found r → Contains pairs r
  pub same : (x : NameId) → beside found x ≡ beside pairs x
