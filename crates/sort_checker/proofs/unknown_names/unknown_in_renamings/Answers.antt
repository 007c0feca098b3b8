use Rattle.sort_table.proofs.Searches.{further, here}
use Rattle.sort_checker.specs.UnknownTrees.{is_unknown_action}
use Rattle.sort_checker.proofs.NameLists.{of_renaming, of_renamings, renamings_listed}
use Rattle.sort_checker.proofs.unknown_names.unknown_in_renamings.Goals as goal

pub returns-in-Some : goal.returns-in-Some
returns-in-Some c =
    here of_renamings of_renaming (is_unknown_action c.args.known.now) renamings_listed c.args.renamings.now c.loop-renaming.renaming-index c.renaming-item.result c.unknown_in_renaming.result c.in-Some.name c.loop-renaming-test.true c.renaming-item.is c.loop-renaming.invariant c.unknown_in_renaming.ensures c.in-Some.is

pub loop-renaming-preserved : goal.loop-renaming-preserved
loop-renaming-preserved c =
    further of_renamings of_renaming (is_unknown_action c.args.known.now) renamings_listed c.args.renamings.now c.loop-renaming.renaming-index c.renaming-item.result c.unknown_in_renaming.result c.loop-renaming-test.true c.renaming-item.is c.loop-renaming.invariant c.unknown_in_renaming.ensures c.in_default.is
