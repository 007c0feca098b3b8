use Rattle.std.proofs.Common.{◌≡◌, ◌++◌, map, take}
use Rattle.std.specs.List.{flat_map}
use Rattle.mcrl2_syntax.specs.Declarations.{constructor_of}
use Rattle.sort_table.specs.BareDeclarations.{bare_constructor}
use Rattle.sort_table.specs.Built.{sorts_of_constructor}
use Rattle.sort_table.specs.LentTrees.{expressions_of}
use Rattle.sort_table.proofs.sort_trees.add_constructors.Given as goal

abbrev pub invariant-loop-constructor : goal.invariant-loop-constructor
invariant-loop-constructor l = expressions_of l.list.items ≡ expressions_of l.fn.list.items ++ flat_map sorts_of_constructor (map bare_constructor (map constructor_of (take l.constructor-index l.constructors)))
