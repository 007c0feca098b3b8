use Rattle.std.specs.Prelude.{not, is_some}
use Rattle.sort_table.specs.NamedLists.{first_named}
use Rattle.sort_table.specs.IndexedKinds.{kinds_of_index}
use Rattle.sort_table.specs.UsedNames.{names_of_group, names_of_groups}
use Rattle.sort_table.proofs.Searches.{further, here}
use Rattle.sort_table.proofs.UsedNameLemmas.{groups_listed}
use Rattle.sort_table.proofs.unknown_sorts.unknown_in_groups.Goals as goal

pub returns-in-Some : goal.returns-in-Some
returns-in-Some c =
    here names_of_groups (names_of_group) (λ n. not (is_some (first_named n (kinds_of_index c.args.index.now)))) groups_listed c.args.groups.now c.loop-group.group-index c.group-item.result c.unknown_in_group.result c.in-Some.name c.loop-group-test.true c.group-item.is c.loop-group.invariant c.unknown_in_group.ensures c.in-Some.is

pub loop-group-preserved : goal.loop-group-preserved
loop-group-preserved c =
    further names_of_groups (names_of_group) (λ n. not (is_some (first_named n (kinds_of_index c.args.index.now)))) groups_listed c.args.groups.now c.loop-group.group-index c.group-item.result c.unknown_in_group.result c.loop-group-test.true c.group-item.is c.loop-group.invariant c.unknown_in_group.ensures c.in_default.is
