use Rattle.mcrl2_syntax.specs.DataTrees.{plain_data}
use Rattle.data_typing.proofs.ReadableWords.{data_are_readable}
use Rattle.sort_checker.proofs.typed_parts.read_in.Goals as goal

pub read_expression-requires-clause-tree : goal.read_expression-requires-clause-tree
read_expression-requires-clause-tree c = data_are_readable (plain_data c.args.tree.now) c.requires.words
