-- The ways of a label's places mean the ways of the label.
use Rattle.std.proofs.Common.{◌≡◌, List, map, length, refl, sym, ap, ap₂, ◌∙◌}
use Rattle.std.specs.List.{All}
use Rattle.std.proofs.lemmas.List.{length-map}
use Rattle.std.proofs.lemmas.List.Elements.{All-weaker}
use Rattle.data_theory.specs.declared.ids.NameId.{NameId}
use Rattle.data_theory.specs.Signature.{Sig}
use Rattle.data_theory.specs.IdTrees.{Tree}
use Rattle.data_theory.specs.WholeSignatures.{IsSignature}
use Rattle.process_terms.specs.PlainProcesses.{PlainAction, PlainRule}
use Rattle.process_terms.specs.Meanings.{name_at, label_of, rule_of}
use Rattle.process_terms.specs.SignatureEntries.{entries_of}
use Rattle.lps_core.specs.Fitting.{IsActionOf}
use Rattle.action_filters.specs.Filters.{IsNameIn}
use Rattle.communication.specs.declared.places.Place.{Place}
use Rattle.communication.specs.Ways.{Joining, Item, stays, joins, ways, rest, further, ItemHas}
use Rattle.communication.specs.Communicated.{joining, label_ways, further_groups, texts}
use Rattle.communication.specs.Places.{placed, joining_of, places_of}
use Rattle.communication.specs.PlaceConditions.{RuleNamesIn}
use Rattle.communication.specs.WayMeanings.{place_meant, group_meant, item_meant, place_ways, WaysMeanWays, FurtherGroupsMeanFurtherGroups}
use Rattle.communication.proofs.Rounds.{map_map, map_same}
use Rattle.communication.proofs.Mapped.{all_map, item_along, joining_along, ways_have, rest_has, ways_along, rest_along, further_along}
use Rattle.communication.proofs.MeantPlaces.{IsPlaceOf, places_are_places, places_mean_actions, places_read}

module _ (g : Sig) (ts : List Tree) (stands : IsSignature g) (rules : List PlainRule) (named : All (RuleNamesIn g) rules) (m : List PlainAction) (acts : All (IsActionOf g ts) m) where
  abbrev pub IsPlace : Place → Type 0
  IsPlace = IsPlaceOf g ts stands m acts

  abbrev pub read_by : List (Joining NameId)
  read_by = map joining_of rules

  lefts : All (λ (c : Joining NameId). All (IsNameIn g) c.left) read_by
  lefts = all_map (RuleNamesIn g) (λ (c : Joining NameId). All (IsNameIn g) c.left) joining_of (λ c h. h.0) rules named

  rules_meant : map joining (map (rule_of (entries_of g ts)) rules) ≡ map (joining_along placed texts (place_meant (entries_of g ts) m) (name_at (entries_of g ts)) IsPlace (IsNameIn g) (places_read g ts stands m acts)) read_by
  rules_meant = map_map joining (rule_of (entries_of g ts)) rules ∙ sym (map_map (joining_along placed texts (place_meant (entries_of g ts) m) (name_at (entries_of g ts)) IsPlace (IsNameIn g) (places_read g ts stands m acts)) joining_of rules)

  one_item : (i : Item Place NameId) → item_along placed texts (place_meant (entries_of g ts) m) (name_at (entries_of g ts)) IsPlace (IsNameIn g) (places_read g ts stands m acts) i ≡ item_meant (entries_of g ts) m i
  one_item (stays p) = refl
  one_item (joins z) = refl

  items_same : (v : List (Item Place NameId)) → map (item_along placed texts (place_meant (entries_of g ts) m) (name_at (entries_of g ts)) IsPlace (IsNameIn g) (places_read g ts stands m acts)) v ≡ map (item_meant (entries_of g ts) m) v
  items_same v = map_same (item_along placed texts (place_meant (entries_of g ts) m) (name_at (entries_of g ts)) IsPlace (IsNameIn g) (places_read g ts stands m acts)) (item_meant (entries_of g ts) m) one_item v

  label_long : length (label_of (entries_of g ts) m) ≡ length (places_of g m)
  label_long = ap length (sym (places_mean_actions g ts stands m acts)) ∙ length-map (places_of g m) (place_meant (entries_of g ts) m)

  ways_meant : label_ways (map (rule_of (entries_of g ts)) rules) (label_of (entries_of g ts) m) ≡ map (map (item_meant (entries_of g ts) m)) (place_ways g rules m)
  ways_meant =
      ap (λ n. ways texts (map joining (map (rule_of (entries_of g ts)) rules)) n (label_of (entries_of g ts) m)) label_long
      ∙ ap₂ (λ r l. ways texts r (length (places_of g m)) l) rules_meant (sym (places_mean_actions g ts stands m acts))
      ∙ ways_along placed texts (place_meant (entries_of g ts) m) (name_at (entries_of g ts)) IsPlace (IsNameIn g) (places_read g ts stands m acts) read_by (length (places_of g m)) (places_of g m) lefts (places_are_places g ts stands m acts)
      ∙ map_same (map (item_along placed texts (place_meant (entries_of g ts) m) (name_at (entries_of g ts)) IsPlace (IsNameIn g) (places_read g ts stands m acts))) (map (item_meant (entries_of g ts) m)) items_same (place_ways g rules m)

  pub one_further : (v : List (Item Place NameId)) → All (ItemHas IsPlace) v
      → further_groups (map (rule_of (entries_of g ts)) rules) (rest (map (item_meant (entries_of g ts) m) v)) ≡ map (group_meant (entries_of g ts) m) (further placed read_by (rest v))
  one_further v h =
      ap (λ u. further_groups (map (rule_of (entries_of g ts)) rules) (rest u)) (sym (items_same v))
      ∙ ap₂ (λ r l. further texts r l) rules_meant (rest_along placed texts (place_meant (entries_of g ts) m) (name_at (entries_of g ts)) IsPlace (IsNameIn g) (places_read g ts stands m acts) v)
      ∙ further_along placed texts (place_meant (entries_of g ts) m) (name_at (entries_of g ts)) IsPlace (IsNameIn g) (places_read g ts stands m acts) read_by (rest v) lefts (rest_has IsPlace placed v h)

  further_meant : All (λ v. further_groups (map (rule_of (entries_of g ts)) rules) (rest (map (item_meant (entries_of g ts) m) v)) ≡ map (group_meant (entries_of g ts) m) (further placed read_by (rest v))) (place_ways g rules m)
  further_meant =
      All-weaker (All (ItemHas IsPlace)) (λ v. further_groups (map (rule_of (entries_of g ts)) rules) (rest (map (item_meant (entries_of g ts) m) v)) ≡ map (group_meant (entries_of g ts) m) (further placed read_by (rest v)))
      one_further (place_ways g rules m) (ways_have IsPlace placed read_by (length (places_of g m)) (places_of g m) (places_are_places g ts stands m acts))

pub ways_mean_ways : WaysMeanWays
ways_mean_ways g ts stands rules named m acts = ways_meant g ts stands rules named m acts

pub further_groups_mean_further_groups : FurtherGroupsMeanFurtherGroups
further_groups_mean_further_groups g ts stands rules named m acts = further_meant g ts stands rules named m acts
