-- A linear process under `allow`, `block`, `hide` and `rename`.
use Rattle.std.specs.Prelude.{List, [], ◌∷◌, map, flat_map, if◌then◌else◌}
use Rattle.std.specs.Str.{bytes_eq}
use Rattle.process_terms.specs.Names.{Name}
use Rattle.process_terms.specs.Labels.{Action, Label, names}
use Rattle.process_terms.specs.Processes.{Renaming}
use Rattle.bisim_laws.specs.LinearProcesses.{Summand, Linear}
use Rattle.action_filters.specs.LabelFilters.{Naming, are_allowed, are_blocked, shown, new_name}

-- the names of actions are texts
abbrev pub texts : Naming Action Name
texts = record { name = λ a. a.name; same = bytes_eq }

-- ---- one summand
-- the summand itself, where its label has no names or those of one of the sets
abbrev pub if_allowed : List (List Name) → Summand → List Summand
if_allowed sets s = if are_allowed bytes_eq sets (names s.label) then s ∷ [] else []

-- the summand itself, where no name of its label is blocked
abbrev pub if_unblocked : List Name → Summand → List Summand
if_unblocked blocked s = if are_blocked bytes_eq blocked (names s.label) then [] else s ∷ []

abbrev pub with_label : Summand → Label → Summand
with_label s m = record { sums = s.sums; condition = s.condition; label = m; next = s.next }

-- the summand with those of its actions whose names aren't hidden
abbrev pub without_hidden : List Name → Summand → Summand
without_hidden hidden s = with_label s (shown texts hidden s.label)

abbrev pub pairs_of : List Renaming → List (Name × Name)
pairs_of rs = map (λ (r : Renaming). (r.from, r.to)) rs

-- the action with the new name
abbrev pub renamed_action : List (Name × Name) → Action → Action
renamed_action ps a = record { name = new_name bytes_eq ps a.name; sorts = a.sorts; args = a.args }

-- the summand with the new names
abbrev pub with_new_names : List Renaming → Summand → Summand
with_new_names rs s = with_label s (map (renamed_action (pairs_of rs)) s.label)

-- ---- each summand in its place
abbrev pub allowing : List (List Name) → Linear → Linear
allowing sets l = record { params = l.params; summands = flat_map (if_allowed sets) l.summands }

abbrev pub blocking : List Name → Linear → Linear
blocking blocked l = record { params = l.params; summands = flat_map (if_unblocked blocked) l.summands }

abbrev pub hiding : List Name → Linear → Linear
hiding hidden l = record { params = l.params; summands = map (without_hidden hidden) l.summands }

abbrev pub renaming : List Renaming → Linear → Linear
renaming rs l = record { params = l.params; summands = map (with_new_names rs) l.summands }
