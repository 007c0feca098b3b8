-- The index of the declared sort names.
use Rattle.std.specs.Prelude.{◌≡◌, ℕ, suc, List, [], ◌∷◌, map, cond, Option, Some, None, option_map, bytes_eq}
use Rattle.std.specs.Option.{option_or}
use Rattle.std.specs.BTreeMap.{BTreeMap, get_by}
use Rattle.std.specs.Cmp.Lexicographic.{slice_cmp}
use Rattle.std.specs.Ordering.{nat_cmp}
use denote.Ref.{Bor}
use Rattle.mcrl2_syntax.specs.SortTrees.{plain_sort}
use Rattle.sort_table.specs.declared.sort_entries.Definition.{Definition}
use Rattle.sort_table.specs.declared.sort_entries.Definition.TheVariants.{Alone, Struct, Alias}
use Rattle.sort_table.specs.Expressions.{Name}
use Rattle.sort_table.specs.BareSorts.{bare_sort}
use Rattle.sort_table.specs.SortMeanings.{Kind, alone, a_struct, equal_to}

abbrev pub kind_of : Definition → Kind
kind_of Alone = alone
kind_of Struct = a_struct
kind_of (Alias tree) = equal_to (bare_sort (plain_sort tree.now))

abbrev pub entry_of : Bor Name × Definition → Name × Kind
entry_of e = (e.0.now, kind_of e.1)

abbrev pub entries_of : List (Bor Name × Definition) → List (Name × Kind)
entries_of es = map entry_of es

-- the first place of a name in a list
abbrev pub first_place : {A : Type 0} → Name → List (Name × A) → Option ℕ
first_place n [] = None
first_place n (r ∷ rs) = cond (bytes_eq r.0 n) (Some 0) (option_map suc (first_place n rs))

-- what a map has under a name
abbrev pub place_under : BTreeMap (Bor Name) ℕ → Name → Option ℕ
place_under places n = get_by (λ (k : Bor Name). slice_cmp nat_cmp n k.now) places

-- the map has this place under the name, where it had none, and nothing else changes
abbrev pub GetsPlace : BTreeMap (Bor Name) ℕ → Name → ℕ → BTreeMap (Bor Name) ℕ → Type 0
GetsPlace old name place new = (n : Name) → place_under new n ≡ option_or (place_under old n) (cond (bytes_eq name n) (Some place) None)

-- the map finds the first place of each name
abbrev pub KnowsFirstPlaces : BTreeMap (Bor Name) ℕ → List (Name × Kind) → Type 0
KnowsFirstPlaces places entries = (n : Name) → place_under places n ≡ first_place n entries
