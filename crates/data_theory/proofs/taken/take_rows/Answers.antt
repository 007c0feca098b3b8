use Rattle.std.proofs.Common.{◌∙◌, ap}
use Rattle.data_theory.specs.Names.{with_text, place_in}
use Rattle.data_theory.specs.Rows.{row_text}
use Rattle.data_theory.specs.Taken.{with_name}
use Rattle.data_theory.specs.Words.{text_of}
use Rattle.data_theory.proofs.NameLemmas.{takes_more}
use Rattle.data_theory.proofs.taken.take_rows.Goals as goal

pub loop-row-preserved : goal.loop-row-preserved
loop-row-preserved c =
    let text = c.text.ensures ∙ ap text_of c.word.ensures in
    takes_more row_text c.args.rows.now c.loop-row.row-index _ c.args.names.now c.args.taken.now.keys c.loop-row.names c.loop-row.taken.keys c.take_text.new.names c.take_text.new.taken.keys c.loop-row-test.true c.loop-row.invariant
    (c.in_ok-take_text.ensures.texts ∙ ap (with_text c.loop-row.names) text)
    (c.in_ok-take_text.ensures.taken ∙ ap (λ t. with_name c.loop-row.taken.keys (place_in c.take_text.new.names t)) text)
