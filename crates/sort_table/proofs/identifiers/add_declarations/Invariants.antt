use Rattle.std.proofs.Common.{◌≡◌, ◌++◌, map, take}
use Rattle.std.specs.List.{flat_map}
use Rattle.mcrl2_syntax.specs.Declarations.{plain_decl}
use Rattle.sort_table.specs.Identifiers.{in_declaration}
use Rattle.sort_table.specs.LentTexts.{texts_of}
use Rattle.sort_table.proofs.identifiers.add_declarations.Given as goal

abbrev pub invariant-loop-declaration : goal.invariant-loop-declaration
invariant-loop-declaration l = texts_of l.list.items ≡ texts_of l.fn.list.items ++ flat_map in_declaration (map plain_decl (take l.declaration-index l.declarations))
