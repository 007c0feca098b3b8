-- What the ways of a label in code mean.
use Rattle.std.specs.Prelude.{◌≡◌, List, map, length}
use Rattle.std.specs.List.{All}
use Rattle.data_theory.specs.declared.ids.NameId.{NameId}
use Rattle.data_theory.specs.Signature.{Sig}
use Rattle.data_theory.specs.IdTrees.{Tree}
use Rattle.data_theory.specs.WholeSignatures.{IsSignature}
use Rattle.process_terms.specs.Names.{Name}
use Rattle.process_terms.specs.Labels.{Action}
use Rattle.process_terms.specs.PlainProcesses.{PlainAction, PlainRule}
use Rattle.process_terms.specs.Meanings.{Entries, name_at, action_of, label_of, rule_of}
use Rattle.process_terms.specs.SignatureEntries.{entries_of}
use Rattle.lps_core.specs.Fitting.{IsActionOf}
use Rattle.communication.specs.declared.places.Place.{Place}
use Rattle.communication.specs.Ways.{Group, Item, stays, joins, ways, rest, further}
use Rattle.communication.specs.Communicated.{ActionGroup, label_ways, further_groups}
use Rattle.communication.specs.Places.{placed, joining_of, places_of}
use Rattle.communication.specs.Plans.{action_at_place}
use Rattle.communication.specs.PlaceConditions.{RuleNamesIn}

abbrev pub place_meant : Entries → List PlainAction → Place → Action
place_meant e m p = action_of e (action_at_place m p)

abbrev pub group_meant : Entries → List PlainAction → Group Place NameId → ActionGroup
group_meant e m z = record { result = name_at e z.result; first = place_meant e m z.first; others = map (place_meant e m) z.others }

abbrev pub item_meant : Entries → List PlainAction → Item Place NameId → Item Action Name
item_meant e m (stays p) = stays (place_meant e m p)
item_meant e m (joins z) = joins (group_meant e m z)

abbrev pub place_ways : Sig → List PlainRule → List PlainAction → List (List (Item Place NameId))
place_ways g rules m = ways placed (map joining_of rules) (length (places_of g m)) (places_of g m)

-- the ways of a label's places mean the ways of the label that they mean
abbrev pub WaysMeanWays : Type 0
WaysMeanWays =
    (g : Sig) (ts : List Tree) → IsSignature g → (rules : List PlainRule) → All (RuleNamesIn g) rules → (m : List PlainAction) → All (IsActionOf g ts) m
    → label_ways (map (rule_of (entries_of g ts)) rules) (label_of (entries_of g ts) m) ≡ map (map (item_meant (entries_of g ts) m)) (place_ways g rules m)

-- and so do the further groups of each
abbrev pub FurtherGroupsMeanFurtherGroups : Type 0
FurtherGroupsMeanFurtherGroups =
    (g : Sig) (ts : List Tree) → IsSignature g → (rules : List PlainRule) → All (RuleNamesIn g) rules → (m : List PlainAction) → All (IsActionOf g ts) m
    → All (λ v. further_groups (map (rule_of (entries_of g ts)) rules) (rest (map (item_meant (entries_of g ts) m) v)) ≡ map (group_meant (entries_of g ts) m) (further placed (map joining_of rules) (rest v))) (place_ways g rules m)
