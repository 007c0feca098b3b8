-- The ways to group a list of actions.
use Rattle.std.specs.Prelude.{ℕ, zero, suc, pred, Bool, ◌&&◌, List, [], ◌∷◌, ◌++◌, map, flat_map, filter, length}
use Rattle.std.specs.List.{All, list_all}
use Rattle.action_filters.specs.NameTests.{is_permuted}

-- how the name of an action is read, whether two names are the same, and whether two actions have arguments of the same sorts
pub record Reading (A N : Type 0) : Type 0 where
  pub name : A → N
  pub same : N → N → Bool
  pub alike : A → A → Bool

-- the names of actions that join, and the name of what they join to
pub record Joining (N : Type 0) : Type 0 where
  pub left : List N
  pub result : N

-- ---- choices
-- a choice of actions, and the others, both in their order
pub record Pick (A : Type 0) : Type 0 where
  pub chosen : List A
  pub others : List A

abbrev pub take_it : {A : Type 0} → A → Pick A → Pick A
take_it a p = record { chosen = a ∷ p.chosen; others = p.others }

abbrev pub leave_it : {A : Type 0} → A → Pick A → Pick A
leave_it a p = record { chosen = p.chosen; others = a ∷ p.others }

-- the choices of so many actions, in lexicographic order of their places
abbrev pub picks : {A : Type 0} → ℕ → List A → List (Pick A)
picks zero m = record { chosen = []; others = m } ∷ []
picks (suc k) [] = []
picks (suc k) (a ∷ m) = map (take_it a) (picks k m) ++ map (leave_it a) (picks (suc k) m)

-- the actions have the names of a left side, each as often, and arguments of the same sorts
abbrev pub is_group : {A N : Type 0} → Reading A N → List N → A → List A → Bool
is_group w left a others = is_permuted w.same (map w.name (a ∷ others)) left && list_all (w.alike a) others

-- the choices of later actions that complete a left side
abbrev pub choices : {A N : Type 0} → Reading A N → List N → A → List A → List (Pick A)
choices w left a m = filter (λ p. is_group w left a p.chosen) (picks (pred (length left)) m)

-- ---- groups
-- actions that join: the name of what they join to, the first of them, and the others
pub record Group (A N : Type 0) : Type 0 where
  pub result : N
  pub first : A
  pub others : List A

-- a group, and the actions behind its first one that aren't in it
pub record Start (A N : Type 0) : Type 0 where
  pub group : Group A N
  pub behind : List A

abbrev pub start : {A N : Type 0} → N → A → Pick A → Start A N
start result a p = record { group = record { result = result; first = a; others = p.chosen }; behind = p.others }

abbrev pub starts_by : {A N : Type 0} → Reading A N → A → List A → Joining N → List (Start A N)
starts_by w a m c = map (start c.result a) (choices w c.left a m)

-- the groups that an action begins: the rules in their order, and for each the choices of later actions
abbrev pub starts : {A N : Type 0} → Reading A N → List (Joining N) → A → List A → List (Start A N)
starts w rules a m = flat_map (starts_by w a m) rules

-- ---- ways
-- what stands at a place of a way: an action that stays, or a group, at the place of its first action
pub data Item (A N : Type 0) : Type 0 where
  stays : A → Item A N
  joins : Group A N → Item A N

-- First the ways in which the first action begins a group, each group followed by the ways for the actions that it leaves; last
-- those in which the first action stays. The number bounds the length.
abbrev pub ways : {A N : Type 0} → Reading A N → List (Joining N) → ℕ → List A → List (List (Item A N))
ways w rules zero m = [] ∷ []
ways w rules (suc n) [] = [] ∷ []
ways w rules (suc n) (a ∷ m) =
    flat_map (λ s. map (λ v. joins s.group ∷ v) (ways w rules n s.behind)) (starts w rules a m)
    ++ map (λ v. stays a ∷ v) (ways w rules n m)

abbrev pub staying_of : {A N : Type 0} → Item A N → List A
staying_of (stays a) = a ∷ []
staying_of (joins g) = []

-- the actions that stay
abbrev pub rest : {A N : Type 0} → List (Item A N) → List A
rest v = flat_map staying_of v

-- the groups that these actions could form, by their first action, then by their rule, then by the choice of later actions
abbrev pub further : {A N : Type 0} → Reading A N → List (Joining N) → List A → List (Group A N)
further w rules [] = []
further w rules (a ∷ m) = map (λ s. s.group) (starts w rules a m) ++ further w rules m

-- ---- what holds of the actions of groups and items
abbrev pub GroupHas : {A N : Type 0} → (A → Type 0) → Group A N → Type 0
GroupHas P g = P g.first × All P g.others

abbrev pub ItemHas : {A N : Type 0} → (A → Type 0) → Item A N → Type 0
ItemHas P (stays a) = P a
ItemHas P (joins g) = GroupHas P g
