use Rattle.std.proofs.Common.{◌∙◌, ap, sym, subst}
use Rattle.std.specs.List.{Contains}
use Rattle.data_theory.specs.Words.{text_of}
use Rattle.data_theory.proofs.RowLemmas.{row_entered, some_if_there}
use Rattle.data_theory.proofs.built_ins.entries_of.Goals as goal

pub unwrap-name-requires : goal.unwrap-name-requires
unwrap-name-requires c =
    some_if_there c.find.result _ c.find.ensures.found
    (subst (Contains c.args.names.now) (sym (c.text.ensures ∙ ap text_of c.word.ensures)) (c.requires c.loop-row.row-index _ c.loop-row-test.true))

pub loop-row-preserved : goal.loop-row-preserved
loop-row-preserved c =
    row_entered c.args.names.now c.loop-row.entries.items c.push.new.self.items c.in_ok-entry.field-0 c.args.rows.now c.loop-row.row-index _ c.text.result.now c.unwrap-name.result c.find.result c.loop-row-test.true
    c.loop-row.invariant c.find.ensures.different c.unwrap-name.ensures c.find.ensures.found (c.text.ensures ∙ ap text_of c.word.ensures) c.in_ok-entry.ensures c.in_ok-push.ensures.items
