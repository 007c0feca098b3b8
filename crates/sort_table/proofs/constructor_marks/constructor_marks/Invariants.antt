use Rattle.std.proofs.Common.{◌≡◌, take}
use Rattle.sort_table.specs.TextFunctions.{functions_in}
use Rattle.sort_table.specs.DeclarationTrees.{declarations_under}
use Rattle.sort_table.specs.ConstructorMarks.{marks_of}
use Rattle.sort_table.proofs.constructor_marks.constructor_marks.Given as goal

abbrev pub invariant-loop-declaration : goal.invariant-loop-declaration
invariant-loop-declaration l = l.marks.items ≡ marks_of (functions_in (declarations_under (take l.declaration-index l.declarations)))
