use Rattle.std.proofs.Common.{◌≡◌, ◌++◌, map, take}
use Rattle.mcrl2_syntax.specs.Declarations.{constructor_of}
use Rattle.sort_table.specs.BareDeclarations.{bare_constructor}
use Rattle.sort_table.specs.ConstructorMarks.{projection_marks}
use Rattle.sort_table.proofs.constructor_marks.mark_projections.Given as goal

abbrev pub invariant-loop-constructor : goal.invariant-loop-constructor
invariant-loop-constructor l = l.marks.items ≡ l.fn.marks.items ++ projection_marks (map bare_constructor (map constructor_of (take l.constructor-index l.constructors)))
