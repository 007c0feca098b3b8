-- When places, groups and ways are those of a label, and names of results stand for actions.
use Rattle.std.specs.Prelude.{◌<◌, ℕ, List}
use Rattle.std.specs.List.{All, Contains}
use Rattle.data_theory.specs.declared.ids.NameId.{NameId}
use Rattle.data_theory.specs.declared.ids.SortId.{SortId}
use Rattle.data_theory.specs.Keys.{key}
use Rattle.data_theory.specs.Signature.{Sig}
use Rattle.process_terms.specs.PlainProcesses.{PlainAction, PlainRule}
use Rattle.action_filters.specs.Filters.{key_of_action, IsNameIn}
use Rattle.communication.specs.declared.places.Place.{Place}
use Rattle.communication.specs.Ways.{Item, stays, joins}
use Rattle.communication.specs.Plans.{action_at_place}

abbrev pub IsWithin : ℕ → Place → Type 0
IsWithin n p = p.index < n

-- there is an action with this name and the sorts of an action
abbrev pub HasResult : Sig → NameId → PlainAction → Type 0
HasResult g n a = Contains g.actions (key n (key_of_action g a).sorts)

-- the result of a group has an action with the sorts of the group's first one
abbrev pub ItemHasResult : Sig → List PlainAction → Item Place NameId → Type 0
ItemHasResult g m (stays p) = Unit {0}
ItemHasResult g m (joins z) = HasResult g z.result (action_at_place m z.first)

abbrev pub RuleNamesIn : Sig → PlainRule → Type 0
RuleNamesIn g c = All (IsNameIn g) c.left × IsNameIn g c.result

-- each of these names has an action with these sorts
abbrev pub AllHave : Sig → List SortId → List NameId → Type 0
AllHave g ss names = All (λ n. Contains g.actions (key n ss)) names

-- a rule's result has an action with each list of sorts that all names on its left side have
abbrev pub HaveResults : Sig → List PlainRule → Type 0
HaveResults g rules = (c : PlainRule) (n : NameId) (ss : List SortId) → Contains rules c → Contains c.left n → AllHave g ss c.left → Contains g.actions (key c.result ss)
