-- Data expressions, as a list.
use Rattle.std.specs.Prelude.{List}
use Rattle.mcrl2_syntax.specs.declared.data_tree.DataTree.{DataTree}

pub record ListedData : Type 0 where
  pub items : List DataTree
