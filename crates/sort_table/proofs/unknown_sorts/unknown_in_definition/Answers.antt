use Rattle.std.proofs.Common.{◌++◌, refl}
use Rattle.mcrl2_syntax.specs.ProcessTrees.{plain_process}
use Rattle.sort_table.specs.IndexedKinds.{kinds_of_index}
use Rattle.sort_table.specs.UsedNames.{names_of_groups, names_of_sums}
use Rattle.sort_table.proofs.UsedNameLemmas.{in_front, in_back}
use Rattle.sort_table.proofs.unknown_sorts.unknown_in_definition.Goals as goal

pub returns-in-Some : goal.returns-in-Some
returns-in-Some c = in_front (kinds_of_index c.args.index.now) (names_of_groups c.args.parameters.now ++ names_of_sums (plain_process c.args.body.now)) (names_of_groups c.args.parameters.now) (names_of_sums (plain_process c.args.body.now)) c.unknown_in_groups.result c.in-Some.name refl c.unknown_in_groups.ensures c.in-Some.is

pub returns-in-None : goal.returns-in-None
returns-in-None c = in_back (kinds_of_index c.args.index.now) (names_of_groups c.args.parameters.now ++ names_of_sums (plain_process c.args.body.now)) (names_of_groups c.args.parameters.now) (names_of_sums (plain_process c.args.body.now)) c.unknown_in_groups.result c.unknown_in_process.result refl c.unknown_in_groups.ensures c.in-None.is c.unknown_in_process.ensures
