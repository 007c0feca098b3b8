use Rattle.sort_table.specs.IndexedKinds.{kinds_of_index}
use Rattle.std.proofs.Common.{sym, ◌∙◌}
use Rattle.sort_table.proofs.UsedNameLemmas.{declared_name, undeclared_name}
use Rattle.sort_table.proofs.unknown_sorts.unknown_name.Goals as goal

pub returns-in-Some : goal.returns-in-Some
returns-in-Some c = declared_name (kinds_of_index c.args.index.now) c.args.name.now c.in-Some.field-0 (sym c.find.ensures ∙ c.in-Some.is)

pub returns-in-None : goal.returns-in-None
returns-in-None c = undeclared_name (kinds_of_index c.args.index.now) c.args.name.now (sym c.find.ensures ∙ c.in-None.is)
