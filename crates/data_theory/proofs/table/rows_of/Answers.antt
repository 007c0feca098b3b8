use Rattle.std.proofs.Common.{◌≡◌, ◌∙◌, false, ap, sym}
use Rattle.data_theory.specs.RowsOfWords.{names_rows}
use Rattle.data_theory.specs.Table.{language_table}
use Rattle.data_theory.proofs.NamelessRows.{no_rows}
use Rattle.data_theory.proofs.table.rows_of.Goals as goal

pub returns-then-not-names_rows : goal.returns-then-not-names_rows
returns-then-not-names_rows c =
    let none : names_rows c.args.name.now ≡ false = sym (ap names_rows c.as_bytes.ensures.value) ∙ (sym c.names_rows.ensures ∙ c.if-not-names_rows.true) in
    c.new.ensures.items ∙ sym (no_rows c.args.name.now (language_table c.args.sort c.args.list) none)
