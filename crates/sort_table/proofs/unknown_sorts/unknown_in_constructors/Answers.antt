use Rattle.std.specs.Prelude.{not, is_some}
use Rattle.sort_table.specs.NamedLists.{first_named}
use Rattle.sort_table.specs.IndexedKinds.{kinds_of_index}
use Rattle.sort_table.specs.UsedNames.{names_of_constructor, names_of_constructors}
use Rattle.sort_table.proofs.Searches.{further, here}
use Rattle.sort_table.proofs.UsedNameLemmas.{constructors_listed}
use Rattle.sort_table.proofs.unknown_sorts.unknown_in_constructors.Goals as goal

pub returns-in-Some : goal.returns-in-Some
returns-in-Some c =
    here names_of_constructors (names_of_constructor) (λ n. not (is_some (first_named n (kinds_of_index c.args.index.now)))) constructors_listed c.args.constructors.now c.loop-constructor.constructor-index c.constructor-item.result c.unknown_in_constructor.result c.in-Some.name c.loop-constructor-test.true c.constructor-item.is c.loop-constructor.invariant c.unknown_in_constructor.ensures c.in-Some.is

pub loop-constructor-preserved : goal.loop-constructor-preserved
loop-constructor-preserved c =
    further names_of_constructors (names_of_constructor) (λ n. not (is_some (first_named n (kinds_of_index c.args.index.now)))) constructors_listed c.args.constructors.now c.loop-constructor.constructor-index c.constructor-item.result c.unknown_in_constructor.result c.loop-constructor-test.true c.constructor-item.is c.loop-constructor.invariant c.unknown_in_constructor.ensures c.in_default.is
