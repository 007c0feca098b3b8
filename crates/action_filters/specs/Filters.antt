-- A linear process with its summands filtered by their labels.
use Rattle.std.specs.Prelude.{◌≡◌, ◌==◌, ◌&&◌, ◌<◌, ℕ, suc, Bool, List, [], ◌∷◌, map, flat_map, length, get_or, Option, Some, None, if◌then◌else◌}
use Rattle.std.specs.List.{All, Contains}
use Rattle.std.specs.Str.{bytes_eq}
use Rattle.data_theory.specs.declared.ids.NameId.{NameId}
use Rattle.data_theory.specs.declared.ids.SortId.{SortId}
use Rattle.data_theory.specs.Keys.{Key, key}
use Rattle.data_theory.specs.Signature.{Sig}
use Rattle.data_theory.specs.IdTrees.{Tree}
use Rattle.process_terms.specs.PlainProcesses.{PlainAction, PlainAround}
use Rattle.process_terms.specs.Meanings.{Entries, around_of}
use Rattle.process_terms.specs.SignatureEntries.{entries_of}
use Rattle.process_terms.specs.Processes.{around}
use Rattle.bisim_laws.specs.Links.{Wrapped}
use Rattle.lps_core.specs.PlainLinears.{PlainSummand, PlainLinear, linear_of, linear_state}
use Rattle.lps_core.specs.GoingOn.{IsGoodOver}
use Rattle.action_filters.specs.LabelFilters.{Naming, allowed_label, unblocked_label, shown_label, new_name}

abbrev pub same_name : NameId → NameId → Bool
same_name x y = x.0 == y.0

-- the name and the sorts of an action
abbrev pub key_of_action : Sig → PlainAction → Key
key_of_action g a = get_or g.actions a.act.0 (key (record { 0 = 0 }) [])

abbrev pub naming : Sig → Naming PlainAction NameId
naming g = record { name = λ a. (key_of_action g a).name; same = same_name }

-- ---- summands
-- a summand with another label, if there is one
abbrev pub labelled : PlainSummand → Option (List PlainAction) → List PlainSummand
labelled s None = []
labelled s (Some m) = record { sums = s.sums; condition = s.condition; label = m; next = s.next } ∷ []

abbrev pub by_label : (List PlainAction → Option (List PlainAction)) → PlainSummand → List PlainSummand
by_label f s = labelled s (f s.label)

-- each summand in place, with the label that comes out, where one does
abbrev pub with_labels : (List PlainAction → Option (List PlainAction)) → PlainLinear → PlainLinear
with_labels f l = record { params = l.params; init = l.init; summands = flat_map (by_label f) l.summands }

-- ---- the four operators
abbrev pub allowed : Sig → List (List NameId) → PlainLinear → PlainLinear
allowed g sets = with_labels (allowed_label (naming g) sets)

abbrev pub unblocked : Sig → List NameId → PlainLinear → PlainLinear
unblocked g names = with_labels (unblocked_label (naming g) names)

abbrev pub hidden : Sig → List NameId → PlainLinear → PlainLinear
hidden g names = with_labels (shown_label (naming g) names)

abbrev pub sort_numbers : List SortId → List ℕ
sort_numbers ss = map (λ (s : SortId). s.0) ss

abbrev pub same_key : Key → Key → Bool
same_key k j = same_name k.name j.name && bytes_eq (sort_numbers k.sorts) (sort_numbers j.sorts)

-- the place of a name with sorts among the actions
abbrev pub place_of_key : List Key → Key → ℕ
place_of_key [] k = 0
place_of_key (j ∷ js) k = if same_key j k then 0 else suc (place_of_key js k)

abbrev pub renamed_key : List (NameId × NameId) → Key → Key
renamed_key pairs k = key (new_name same_name pairs k.name) k.sorts

-- the action with the new name and the same sorts
abbrev pub renamed_action : Sig → List (NameId × NameId) → PlainAction → PlainAction
renamed_action g pairs a = record { act = record { 0 = place_of_key g.actions (renamed_key pairs (key_of_action g a)) }; args = a.args }

abbrev pub renamed_label : Sig → List (NameId × NameId) → List PlainAction → Option (List PlainAction)
renamed_label g pairs m = Some (map (renamed_action g pairs) m)

abbrev pub renamed : Sig → List (NameId × NameId) → PlainLinear → PlainLinear
renamed g pairs = with_labels (renamed_label g pairs)

-- ---- conditions
abbrev pub IsActionIn : Sig → PlainAction → Type 0
IsActionIn g a = a.act.0 < length g.actions

abbrev pub AreActionsIn : Sig → List PlainAction → Type 0
AreActionsIn g m = All (IsActionIn g) m

abbrev pub HasActionsIn : Sig → PlainSummand → Type 0
HasActionsIn g s = AreActionsIn g s.label

abbrev pub IsNameIn : Sig → NameId → Type 0
IsNameIn g n = n.0 < length g.texts

-- no name is replaced by two
abbrev pub RenamesOnce : List (NameId × NameId) → Type 0
RenamesOnce pairs = (x y z : NameId) → Contains pairs (x, y) → Contains pairs (x, z) → y ≡ z

-- a new name has an action with each list of sorts that the old one has
abbrev pub HaveTargets : Sig → List (NameId × NameId) → Type 0
HaveTargets g pairs = (x y : NameId) (ss : List SortId) → Contains pairs (x, y) → Contains g.actions (key x ss) → Contains g.actions (key y ss)

-- ---- what a filter owes
-- the second process is the operator around the first one: by `Wrapped`, in each later theory over consistent data
abbrev pub IsGoodAround : Sig → List Tree → PlainAround → PlainLinear → PlainLinear → Type 0
IsGoodAround g ts o l k =
    let e : Entries = entries_of g ts in
    IsGoodOver g (Wrapped (around_of e o) (linear_of e l) (linear_of e k)) (around (around_of e o) (linear_state e l)) (linear_state e k)
