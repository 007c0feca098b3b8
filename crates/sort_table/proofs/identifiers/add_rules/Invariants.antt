use Rattle.std.proofs.Common.{◌≡◌, ◌++◌, map, take}
use Rattle.std.specs.List.{flat_map}
use Rattle.mcrl2_syntax.specs.ProcessParts.{comm_rule_of}
use Rattle.sort_table.specs.Identifiers.{in_rule}
use Rattle.sort_table.specs.LentTexts.{texts_of}
use Rattle.sort_table.proofs.identifiers.add_rules.Given as goal

abbrev pub invariant-loop-rule : goal.invariant-loop-rule
invariant-loop-rule l = texts_of l.list.items ≡ texts_of l.fn.list.items ++ flat_map in_rule (map comm_rule_of (take l.rule-index l.rules))
