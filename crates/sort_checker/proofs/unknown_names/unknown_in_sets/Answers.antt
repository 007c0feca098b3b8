use Rattle.sort_table.proofs.Searches.{further, here}
use Rattle.sort_checker.specs.UnknownTrees.{is_unknown_action}
use Rattle.sort_checker.proofs.NameLists.{of_set, of_sets, sets_listed}
use Rattle.sort_checker.proofs.unknown_names.unknown_in_sets.Goals as goal

pub returns-in-Some : goal.returns-in-Some
returns-in-Some c =
    here of_sets of_set (is_unknown_action c.args.known.now) sets_listed c.args.sets.now c.loop-set.set-index c.set-item.result c.unknown_in_set.result c.in-Some.name c.loop-set-test.true c.set-item.is c.loop-set.invariant c.unknown_in_set.ensures c.in-Some.is

pub loop-set-preserved : goal.loop-set-preserved
loop-set-preserved c =
    further of_sets of_set (is_unknown_action c.args.known.now) sets_listed c.args.sets.now c.loop-set.set-index c.set-item.result c.unknown_in_set.result c.loop-set-test.true c.set-item.is c.loop-set.invariant c.unknown_in_set.ensures c.in_default.is
