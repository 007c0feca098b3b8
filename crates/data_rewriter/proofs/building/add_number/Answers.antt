use Rattle.data_rewriter.proofs.HeadNumbers.{number_added}
use Rattle.data_rewriter.proofs.building.add_number.Goals as goal

pub returns-clause-added : goal.returns-clause-added
returns-clause-added c = number_added c.args.lists.now.items c.args.place c.index_mut.result.now c.push.new.self c.args.number c.requires c.index_mut.ensures.value c.in_ok-push.ensures.items
