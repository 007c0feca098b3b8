use Rattle.std.proofs.Common.{rules}
use Rattle.data_typing.specs.Nodes.{sortings}
use Rattle.data_typing.proofs.NodeLemmas.{sort_check_lengths}
use Rattle.data_typing.proofs.nodes.all_check_sorts.Goals as goal

pub returns-then-arguments-sorts : goal.returns-then-arguments-sorts
returns-then-arguments-sorts c = sort_check_lengths (sortings c.args.nodes.now) c.args.sorts.now c.args.arguments.now (search rules)
