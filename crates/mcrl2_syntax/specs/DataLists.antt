-- The data expressions of a list, where there are none, or a lone one has a block for itself, or several have one in common.
use Rattle.std.specs.Prelude.{List, [], ◌∷◌}
use Rattle.mcrl2_syntax.specs.declared.data_tree.DataTree.{DataTree}
use Rattle.mcrl2_syntax.specs.declared.data_list.Kept.{Kept}
use Rattle.mcrl2_syntax.specs.declared.data_list.Kept.TheVariants.{Nowhere, Lone, Block}

abbrev pub kept_data : Kept → List DataTree
kept_data Nowhere = []
kept_data (Lone tree) = tree.value ∷ []
kept_data (Block all) = all.value.items
