use Rattle.std.proofs.Common.{◌++◌, refl}
use Rattle.mcrl2_syntax.specs.SortTrees.{plain_sort}
use Rattle.sort_table.specs.BareSorts.{bare_sort}
use Rattle.sort_table.specs.UnknownSorts.{name_in}
use Rattle.sort_table.specs.IndexedKinds.{kinds_of_index}
use Rattle.sort_table.specs.UsedNames.{names_of_trees}
use Rattle.sort_table.proofs.UsedNameLemmas.{in_front, in_back}
use Rattle.sort_table.proofs.unknown_sorts.unknown_in_type.Goals as goal

pub returns-in-Some : goal.returns-in-Some
returns-in-Some c = in_front (kinds_of_index c.args.index.now) (names_of_trees c.args.domain.now ++ name_in (bare_sort (plain_sort c.args.sort.now))) (names_of_trees c.args.domain.now) (name_in (bare_sort (plain_sort c.args.sort.now))) c.unknown_in_sorts.result c.in-Some.name refl c.unknown_in_sorts.ensures c.in-Some.is

pub returns-in-None : goal.returns-in-None
returns-in-None c = in_back (kinds_of_index c.args.index.now) (names_of_trees c.args.domain.now ++ name_in (bare_sort (plain_sort c.args.sort.now))) (names_of_trees c.args.domain.now) (name_in (bare_sort (plain_sort c.args.sort.now))) c.unknown_in_sorts.result c.unknown_in_sort.result refl c.unknown_in_sorts.ensures c.in-None.is c.unknown_in_sort.ensures
