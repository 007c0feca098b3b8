-- Pairs of a name and a list of sorts.
use Rattle.std.specs.Prelude.{◌≡◌, ◌<◌, ℕ, List, [], Some, slice_get, map, get_or, length}
use Rattle.data_theory.specs.declared.ids.NameId.{NameId}
use Rattle.data_theory.specs.declared.ids.SortId.{SortId}
use Rattle.data_theory.specs.declared.keys.Place.{Place}
use Rattle.data_theory.specs.Places.{HaveOnePlace}

pub record Key : Type 0 where
  pub name : NameId
  pub sorts : List SortId

abbrev pub key : NameId → List SortId → Key
key name sorts = record { name = name; sorts = sorts }

-- the pair of a name and the list at a place
abbrev pub key_at : List (List SortId) → Place → Key
key_at lists p = key p.name (get_or lists p.list [])

abbrev pub keys_at : List (List SortId) → List Place → List Key
keys_at lists ps = map (key_at lists) ps

-- two places have two lists, and there is a list at each place
pub record AreKeys (lists : List (List SortId)) (ps : List Place) : Type 0 where
  pub different : HaveOnePlace lists
  pub within : (i : ℕ) (p : Place) → slice_get ps i ≡ Some p → p.list < length lists
