-- A linear process with the summands of its communications.
use Rattle.std.specs.Prelude.{ℕ, Bool, List, [], ◌∷◌, ◌++◌, map, flat_map, length, if◌then◌else◌}
use Rattle.std.specs.List.{list_any}
use Rattle.std.specs.Str.{bytes_eq}
use Rattle.std.specs.Cmp.Lexicographic.{pointwise}
use Rattle.data_theory.specs.Terms.{Sort, boolean, positive, natural, integer, list, named, Term}
use Rattle.data_theory.specs.Equations.{ !ᵗ◌}
use Rattle.process_terms.specs.Names.{Name}
use Rattle.process_terms.specs.Labels.{Action, Label}
use Rattle.process_terms.specs.Communication.{Rule, group_equalities, conjunction_of}
use Rattle.bisim_laws.specs.LinearProcesses.{Summand, Linear}
use Rattle.lps_core.specs.Conditions.{parts, conjoined}
use Rattle.action_filters.specs.NameTests.{is_nothing}
use Rattle.communication.specs.Ways.{Reading, Joining, Group, Item, stays, joins, ways, rest, further}

-- ---- sorts, compared
abbrev pub sort_code : Sort → List ℕ
sort_code boolean = 0 ∷ []
sort_code positive = 1 ∷ []
sort_code natural = 2 ∷ []
sort_code integer = 3 ∷ []
sort_code (list s) = 4 ∷ sort_code s
sort_code (named d) = 5 ∷ d ∷ []

abbrev pub same_sort : Sort → Sort → Bool
same_sort s t = bytes_eq (sort_code s) (sort_code t)

abbrev pub same_sorts : List Sort → List Sort → Bool
same_sorts ss ts = pointwise same_sort ss ts

-- actions have texts as names
abbrev pub texts : Reading Action Name
texts = record { name = λ a. a.name; same = bytes_eq; alike = λ a b. same_sorts a.sorts b.sorts }

abbrev pub joining : Rule → Joining Name
joining c = record { left = c.left; result = c.result }

abbrev pub ActionGroup : Type 0
ActionGroup = Group Action Name

abbrev pub Way : Type 0
Way = List (Item Action Name)

-- ---- the label
abbrev pub action_of_item : Item Action Name → Action
action_of_item (stays a) = a
action_of_item (joins g) = record { name = g.result; sorts = g.first.sorts; args = g.first.args }

-- each group's result at the place of its first action, and each action that stays at its own
abbrev pub way_label : Way → Label
way_label v = map action_of_item v

-- ---- the condition
abbrev pub equalities_of : ActionGroup → List Term
equalities_of g = group_equalities g.first g.others

abbrev pub item_equalities : Item Action Name → List Term
item_equalities (stays a) = []
item_equalities (joins g) = equalities_of g

-- the groups that could still be formed
abbrev pub further_groups : List Rule → Label → List ActionGroup
further_groups rules m = further texts (map joining rules) m

-- not all arguments of a group are equal
abbrev pub is_no_group : ActionGroup → Term
is_no_group g = !ᵗ (conjunction_of (equalities_of g))

-- the equalities of each group, and then that none of the further groups is one
abbrev pub way_parts : List Rule → Way → List Term
way_parts rules v = flat_map item_equalities v ++ map is_no_group (further_groups rules (rest v))

-- a further group without arguments
abbrev pub has_no_arguments : ActionGroup → Bool
has_no_arguments g = is_nothing (equalities_of g)

-- ---- summands
-- the summand of a way, with the parts behind those of the condition
abbrev pub with_way : List Rule → Summand → Way → Summand
with_way rules s v = record { sums = s.sums; condition = conjoined (parts s.condition ++ way_parts rules v); label = way_label v; next = s.next }

-- a way with a further group without arguments drops out
abbrev pub of_way : List Rule → Summand → Way → List Summand
of_way rules s v = if list_any has_no_arguments (further_groups rules (rest v)) then [] else with_way rules s v ∷ []

abbrev pub label_ways : List Rule → Label → List Way
label_ways rules m = ways texts (map joining rules) (length m) m

-- the summands that one becomes
abbrev pub communicated : List Rule → Summand → List Summand
communicated rules s = flat_map (of_way rules s) (label_ways rules s.label)

-- each summand in its place
abbrev pub communicating : List Rule → Linear → Linear
communicating rules l = record { params = l.params; summands = flat_map (communicated rules) l.summands }
