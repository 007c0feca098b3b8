use Rattle.sort_checker.proofs.PartsOfTrees.{sequence_made, parallel_made, sync_made, choice_made}
use Rattle.sort_checker.proofs.form_trees.joined.Goals as goal

pub returns-in-Sequence : goal.returns-in-Sequence
returns-in-Sequence c = λ list is v variables g p. sequence_made v variables g p c.args.parts c.args.tree.now list c.in-Sequence.field-0 c.in-Sequence.field-1 c.in-Sequence.is is

pub returns-in-Parallel : goal.returns-in-Parallel
returns-in-Parallel c = λ list is v variables g p. parallel_made v variables g p c.args.parts c.args.tree.now list c.in-Parallel.field-0 c.in-Parallel.field-1 c.in-Parallel.is is

pub returns-in-Sync : goal.returns-in-Sync
returns-in-Sync c = λ list is v variables g p. sync_made v variables g p c.args.parts c.args.tree.now list c.in-Sync.field-0 c.in-Sync.field-1 c.in-Sync.is is

pub returns-in_default : goal.returns-in_default
returns-in_default c = λ list is v variables g p. choice_made v variables g p c.args.parts c.args.tree.now list (λ span e. c.in_default.not-Sequence span list e) (λ span e. c.in_default.not-Parallel span list e) (λ span e. c.in_default.not-Sync span list e) is
