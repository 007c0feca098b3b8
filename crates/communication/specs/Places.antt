-- Ways in code, as plain data, and how the actions of a label are read by their places.
use Rattle.std.specs.Prelude.{◌==◌, ℕ, suc, List, [], ◌∷◌, map, if◌then◌else◌}
use Rattle.std.specs.Str.{bytes_eq}
use Rattle.data_theory.specs.declared.ids.NameId.{NameId}
use Rattle.data_theory.specs.Signature.{Sig}
use Rattle.process_terms.specs.PlainProcesses.{PlainAction, PlainRule}
use Rattle.action_filters.specs.Filters.{same_name, key_of_action, sort_numbers}
use Rattle.communication.specs.declared.places.Place.{Place}
use Rattle.communication.specs.declared.places.Group.{Group}
use Rattle.communication.specs.declared.places.Start.{Start}
use Rattle.communication.specs.declared.places.Draft.{Draft}
use Rattle.communication.specs.declared.places.Item.{Item}
use Rattle.communication.specs.declared.places.Item.TheVariants.{Stays, Joins}
use Rattle.communication.specs.declared.places.Way.{Way}
use Rattle.communication.specs.Ways as ways
use Rattle.communication.specs.Ways.{Reading, Joining}
use Rattle.communication.specs.Rounds as rounds

-- a place tells its action's name, and the first place with the same sorts
abbrev pub placed : Reading Place NameId
placed = record { name = λ p. p.name; same = same_name; alike = λ p q. p.class == q.class }

abbrev pub joining_of : PlainRule → Joining NameId
joining_of c = record { left = c.left; result = c.result }

-- ---- plain data
abbrev pub plain_group : Group → ways.Group Place NameId
plain_group g = record { result = g.result; first = g.first; others = g.others.items }

abbrev pub plain_start : Start → ways.Start Place NameId
plain_start s = record { group = plain_group s.group; behind = s.behind.items }

abbrev pub plain_draft : Draft → rounds.Draft Place NameId
plain_draft d = record { wanted = d.wanted.items; chosen = d.chosen.items; passed = d.passed.items }

abbrev pub plain_item : Item → ways.Item Place NameId
plain_item (Stays p) = ways.stays p
plain_item (Joins g) = ways.joins (plain_group g)

abbrev pub plain_way : Way → rounds.OpenWay Place NameId
plain_way v = record { items = map plain_item v.items.items; waiting = v.waiting.items }

-- ---- the places of a label
-- the number of the first action whose arguments have the same sorts
abbrev pub same_sort_numbers : Sig → PlainAction → PlainAction → ℕ → ℕ → ℕ
same_sort_numbers g a b n m = if bytes_eq (sort_numbers (key_of_action g a).sorts) (sort_numbers (key_of_action g b).sorts) then n else m

abbrev pub class_of : Sig → List PlainAction → PlainAction → ℕ
class_of g [] a = 0
class_of g (b ∷ m) a = same_sort_numbers g b a 0 (suc (class_of g m a))

abbrev pub place_of : Sig → List PlainAction → ℕ → PlainAction → Place
place_of g m i a = record { index = i; name = (key_of_action g a).name; class = class_of g m a }

-- those of the actions from a number on
abbrev pub places_from : Sig → List PlainAction → ℕ → List PlainAction → List Place
places_from g m i [] = []
places_from g m i (a ∷ l) = place_of g m i a ∷ places_from g m (suc i) l

abbrev pub places_of : Sig → List PlainAction → List Place
places_of g m = places_from g m 0 m
