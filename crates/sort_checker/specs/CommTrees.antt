-- The rules of a `comm` as trees.
use Rattle.std.specs.Prelude.{Bool, List, map}
use Rattle.std.specs.List.{flat_map, list_any}
use Rattle.mcrl2_syntax.specs.declared.process_tree.CommRule.{CommRule}
use Rattle.mcrl2_syntax.specs.Words.{word_of}
use Rattle.process_terms.specs.Communication.{Rule}
use Rattle.process_terms.specs.Processes.{Around}
use Rattle.sort_table.specs.Expressions.{Name}
use Rattle.sort_table.specs.BareProcesses.{bare_names}
use Rattle.sort_table.specs.Vocabularies.{Vocabulary}
use Rattle.sort_checker.specs.Operators.{has_comm_fault}
use Rattle.sort_checker.specs.Stops.{operators_by}
use Rattle.sort_checker.specs.StopTrees.{stop_of, stops_of}
use Rattle.sort_checker.specs.declared.stops.StopTree.{StopTree}

abbrev pub rule_at : CommRule → Rule
rule_at c = record { left = bare_names (map word_of c.names.items); result = c.outcome.bytes.items }

abbrev pub rules_at : List CommRule → List Rule
rules_at cs = map rule_at cs

-- the names of the left sides
abbrev pub left_names : List Rule → List Name
left_names cs = flat_map (λ (c : Rule). c.left) cs

abbrev pub fault_among : Vocabulary → List Around → Bool
fault_among v os = list_any (has_comm_fault v) os

abbrev pub fault_at : Vocabulary → StopTree → Bool
fault_at v s = fault_among v (operators_by (stop_of s))

abbrev pub fault_along : Vocabulary → List StopTree → Bool
fault_along v ss = fault_among v (flat_map operators_by (stops_of ss))
