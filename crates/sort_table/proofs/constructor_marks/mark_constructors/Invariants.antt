use Rattle.std.proofs.Common.{◌≡◌, ◌++◌, map, take}
use Rattle.mcrl2_syntax.specs.Declarations.{constructor_of}
use Rattle.sort_table.specs.BareDeclarations.{bare_constructor}
use Rattle.sort_table.specs.ConstructorMarks.{own_marks}
use Rattle.sort_table.proofs.constructor_marks.mark_constructors.Given as goal

abbrev pub invariant-loop-constructor : goal.invariant-loop-constructor
invariant-loop-constructor l = l.marks.items ≡ l.fn.marks.items ++ own_marks (map bare_constructor (map constructor_of (take l._constructor-index l.constructors)))
