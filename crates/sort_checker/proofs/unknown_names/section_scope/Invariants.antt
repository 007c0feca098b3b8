use Rattle.std.proofs.Common.{◌≡◌, take}
use Rattle.sort_checker.specs.LeftTrees.{names_before}
use Rattle.sort_checker.proofs.unknown_names.section_scope.Given as goal

abbrev pub invariant-loop-declaration : goal.invariant-loop-declaration
invariant-loop-declaration l = l.scope ≡ names_before (take l.declaration-index l.declarations)
