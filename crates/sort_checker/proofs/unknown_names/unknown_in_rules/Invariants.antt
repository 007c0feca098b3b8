use Rattle.std.proofs.Common.{◌≡◌, None, map, take}
use Rattle.std.specs.List.{flat_map}
use Rattle.mcrl2_syntax.specs.ProcessParts.{comm_rule_of}
use Rattle.sort_table.specs.Identifiers.{in_rule}
use Rattle.sort_checker.specs.UnknownTrees.{unknown_action}
use Rattle.sort_checker.proofs.unknown_names.unknown_in_rules.Given as goal

abbrev pub invariant-loop-rule : goal.invariant-loop-rule
invariant-loop-rule l = unknown_action l.known (flat_map in_rule (map comm_rule_of (take l.rule-index l.rules))) ≡ None
