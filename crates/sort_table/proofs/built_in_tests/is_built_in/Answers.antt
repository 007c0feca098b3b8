use Rattle.std.proofs.Common.{sym}
use Rattle.sort_table.proofs.BuiltInLemmas.{no_text_no_rows}
use Rattle.sort_table.proofs.built_in_tests.is_built_in.Goals as goal

pub returns-in_default : goal.returns-in_default
returns-in_default c = sym (no_text_no_rows c.args.name.now c.args.sorts.now c.in_default.ensures.cases.0)
