use Rattle.std.proofs.Common.{◌≡◌, ◌++◌, map, take}
use Rattle.sort_table.specs.DeclarationTrees.{declarations_under, declaration_of}
use Rattle.lin_driver.proofs.terminating.add_declarations.Given as goal

abbrev pub invariant-loop-declaration : goal.invariant-loop-declaration
invariant-loop-declaration l = declarations_under l.list.items ≡ declarations_under l.fn.list.items ++ map declaration_of (take l.declaration-index l.declarations)
