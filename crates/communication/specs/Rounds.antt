-- The ways of a list, found round by round.
use Rattle.std.specs.Prelude.{ℕ, zero, suc, List, [], ◌∷◌, ◌++◌, map, flat_map, filter, Option, Some, None, Bool, if◌then◌else◌}
use Rattle.action_filters.specs.NameTests.{is_nothing, without_one}
use Rattle.communication.specs.Ways.{Reading, Joining, Start, starts, Item, stays, joins}

-- ---- choices
-- a choice that isn't complete yet: the names that are wanted still, the actions chosen, and those passed over
pub record Draft (A N : Type 0) : Type 0 where
  pub wanted : List N
  pub chosen : List A
  pub passed : List A

-- with one more action chosen
abbrev pub with_chosen : {A N : Type 0} → A → Draft A N → List N → Draft A N
with_chosen b d left = record { wanted = left; chosen = d.chosen ++ b ∷ []; passed = d.passed }

-- where its name is wanted
abbrev pub if_wanted : {A N : Type 0} → A → Draft A N → Option (List N) → List (Draft A N)
if_wanted b d None = []
if_wanted b d (Some left) = with_chosen b d left ∷ []

abbrev pub taking : {A N : Type 0} → Reading A N → A → A → Draft A N → List (Draft A N)
taking w a b d = if w.alike a b then if_wanted b d (without_one w.same (w.name b) d.wanted) else []

abbrev pub passing : {A N : Type 0} → A → Draft A N → Draft A N
passing b d = record { wanted = d.wanted; chosen = d.chosen; passed = d.passed ++ b ∷ [] }

-- with the next action b, for a group that a begins
abbrev pub grown : {A N : Type 0} → Reading A N → A → A → Draft A N → List (Draft A N)
grown w a b d = taking w a b d ++ passing b d ∷ []

-- with all of these
abbrev pub grown_by : {A N : Type 0} → Reading A N → A → List A → List (Draft A N) → List (Draft A N)
grown_by w a [] ds = ds
grown_by w a (b ∷ m) ds = grown_by w a m (flat_map (grown w a b) ds)

abbrev pub is_whole : {A N : Type 0} → Draft A N → Bool
is_whole d = is_nothing d.wanted

abbrev pub started : {A N : Type 0} → N → A → Draft A N → Start A N
started result a d = record { group = record { result = result; first = a; others = d.chosen }; behind = d.passed }

abbrev pub if_whole : {A N : Type 0} → N → A → Draft A N → List (Start A N)
if_whole result a d = if is_whole d then started result a d ∷ [] else []

-- the draft in front of the later actions, where the first one has a name of the left side
abbrev pub first_drafts : {A N : Type 0} → Option (List N) → List (Draft A N)
first_drafts None = []
first_drafts (Some left) = record { wanted = left; chosen = []; passed = [] } ∷ []

abbrev pub drafts : {A N : Type 0} → Reading A N → List N → A → List A → List (Draft A N)
drafts w left a m = grown_by w a m (first_drafts (without_one w.same (w.name a) left))

abbrev pub drafted : {A N : Type 0} → Reading A N → A → List A → Joining N → List (Start A N)
drafted w a m c = map (started c.result a) (filter is_whole (drafts w c.left a m))

-- ---- ways
-- a way that isn't complete yet: what stands at its places, and the actions that aren't looked at yet
pub record OpenWay (A N : Type 0) : Type 0 where
  pub items : List (Item A N)
  pub waiting : List A

abbrev pub with_start : {A N : Type 0} → OpenWay A N → Start A N → OpenWay A N
with_start v s = record { items = v.items ++ joins s.group ∷ []; waiting = s.behind }

abbrev pub with_stay : {A N : Type 0} → OpenWay A N → A → List A → OpenWay A N
with_stay v a m = record { items = v.items ++ stays a ∷ []; waiting = m }

-- the next action begins a group or stays
abbrev pub continued_by : {A N : Type 0} → Reading A N → List (Joining N) → OpenWay A N → List A → List (OpenWay A N)
continued_by w rules v [] = v ∷ []
continued_by w rules v (a ∷ m) = map (with_start v) (starts w rules a m) ++ with_stay v a m ∷ []

abbrev pub continued : {A N : Type 0} → Reading A N → List (Joining N) → OpenWay A N → List (OpenWay A N)
continued w rules v = continued_by w rules v v.waiting

abbrev pub rounds : {A N : Type 0} → Reading A N → List (Joining N) → ℕ → List (OpenWay A N) → List (OpenWay A N)
rounds w rules zero vs = vs
rounds w rules (suc n) vs = rounds w rules n (flat_map (continued w rules) vs)

abbrev pub items_of : {A N : Type 0} → OpenWay A N → List (Item A N)
items_of v = v.items
