use Rattle.std.proofs.Common.{◌≡◌, map, take}
use Rattle.data_rewriter.specs.Written.{rule_of}
use Rattle.data_rewriter.proofs.building.kept_rules.Given as goal

abbrev pub invariant-loop-equation : goal.invariant-loop-equation
invariant-loop-equation l = l.rules.items ≡ map rule_of (take l.equation-index l.equations)
