use Rattle.std.proofs.Common.{◌≡◌, ◌++◌, map, take}
use Rattle.mcrl2_syntax.specs.Declarations.{field_of}
use Rattle.sort_table.specs.BareDeclarations as bare
use Rattle.sort_table.specs.BareDeclarations.{bare_constructor, bare_field}
use Rattle.sort_table.specs.LentTrees.{expressions_of}
use Rattle.sort_table.proofs.sort_trees.add_constructor.Given as goal

abbrev pub invariant-loop-field : goal.invariant-loop-field
invariant-loop-field l = expressions_of l.list.items ≡ expressions_of l.fn.list.items ++ map (λ (f : bare.Field). f.sort) (map bare_field (map field_of (take l.field-index l.field-items)))
