-- What a way of a label makes: its actions and the equalities that it asks for, over numbers.
use Rattle.std.specs.Prelude.{List, [], ◌∷◌, map, flat_map, get_or, Vec}
use Rattle.std.specs.Global.{Global}
use Rattle.data_theory.specs.declared.ids.NameId.{NameId}
use Rattle.data_theory.specs.declared.ids.SortId.{SortId}
use Rattle.data_theory.specs.declared.ids.TermId.{TermId}
use Rattle.data_theory.specs.Keys.{key}
use Rattle.data_theory.specs.Signature.{Sig}
use Rattle.process_terms.specs.PlainProcesses.{PlainAction, PlainRule, plain_label}
use Rattle.action_filters.specs.Filters.{key_of_action, place_of_key}
use Rattle.communication.specs.declared.places.Place.{Place}
use Rattle.communication.specs.declared.plans.Equality.{Equality}
use Rattle.communication.specs.declared.plans.Plan.{Plan}
use Rattle.communication.specs.Ways.{Group, Item, stays, joins, rest, further}
use Rattle.communication.specs.Places.{placed, joining_of}

pub record PlainPlan : Type 0 where
  pub label : List PlainAction
  pub equal : List Equality
  pub further : List (List Equality)

abbrev pub equalities_of_each : List (Vec Equality Global) → List (List Equality)
equalities_of_each groups = map (λ (es : Vec Equality Global). es.items) groups

abbrev pub plain_plan : Plan → PlainPlan
plain_plan p = record { label = plain_label p.label; equal = p.equal.items; further = equalities_of_each p.further.items }

-- the action at a place
abbrev pub action_at_place : List PlainAction → Place → PlainAction
action_at_place m p = get_or m p.index (record { act = record { 0 = 0 }; args = [] })

-- ---- equalities
-- the arguments side by side, with their sorts
abbrev pub paired : List SortId → List TermId → List TermId → List Equality
paired [] ts us = []
paired (s ∷ ss) [] us = []
paired (s ∷ ss) (t ∷ ts) [] = []
paired (s ∷ ss) (t ∷ ts) (u ∷ us) = record { sort = s; left = t; right = u } ∷ paired ss ts us

-- the arguments of one action with those of another one
abbrev pub equated_with : Sig → PlainAction → PlainAction → List Equality
equated_with g a b = paired (key_of_action g a).sorts a.args b.args

-- those of a group's first action with those of each other one
abbrev pub equated : Sig → List PlainAction → Group Place NameId → List Equality
equated g m z = flat_map (λ p. equated_with g (action_at_place m z.first) (action_at_place m p)) z.others

abbrev pub item_equated : Sig → List PlainAction → Item Place NameId → List Equality
item_equated g m (stays p) = []
item_equated g m (joins z) = equated g m z

-- ---- actions
-- an action with another name, the same sorts and the same arguments
abbrev pub under_name : Sig → NameId → PlainAction → PlainAction
under_name g n a = record { act = record { 0 = place_of_key g.actions (key n (key_of_action g a).sorts) }; args = a.args }

abbrev pub action_of_place_item : Sig → List PlainAction → Item Place NameId → PlainAction
action_of_place_item g m (stays p) = action_at_place m p
action_of_place_item g m (joins z) = under_name g z.result (action_at_place m z.first)

-- ---- plans
abbrev pub planned : Sig → List PlainRule → List PlainAction → List (Item Place NameId) → PlainPlan
planned g rules m v = record {
  label = map (action_of_place_item g m) v;
  equal = flat_map (item_equated g m) v;
  further = map (equated g m) (further placed (map joining_of rules) (rest v));
}
