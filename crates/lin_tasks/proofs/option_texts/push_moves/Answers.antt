use Rattle.std.proofs.Common.{◌∙◌, ◌++◌, length, refl, ap}
use Rattle.std.specs.Prelude.{codes}
use Rattle.std.proofs.lemmas.Option.{slice_get_read}
use Rattle.process_terms.specs.Meanings.{label_of}
use Rattle.process_terms.specs.PlainProcesses.{plain_label}
use Rattle.process_terms.specs.SignatureEntries.{entries_of}
use Rattle.lin_tasks.specs.Shown.{label_line}
use Rattle.lin_tasks.proofs.ShownLines.{move_shown, moves_more}
use Rattle.lin_tasks.proofs.option_texts.push_moves.Goals as goal

pub push_label-requires : goal.push_label-requires
push_label-requires c =
    let there_is = slice_get_read c.args.moves.now (length c.args.moves.now) c.loop-index.index c.index-moves-index.result refl c.loop-index-test.true c.index-moves-index.is in
    move_shown c.args.sig.now c.args.pool.now.trees c.args.moves.now c.loop-index.index c.index-moves-index.result c.requires there_is

pub loop-index-preserved : goal.loop-index-preserved
loop-index-preserved c =
    let there_is = slice_get_read c.args.moves.now (length c.args.moves.now) c.loop-index.index c.index-moves-index.result refl c.loop-index-test.true c.index-moves-index.is in
    let line = label_line c.args.sig.now (label_of (entries_of c.args.sig.now c.args.pool.now.trees) (plain_label c.index-moves-index.result.label)) in
    moves_more c.args.sig.now c.args.pool.now.trees c.args.moves.now c.loop-index.index c.index-moves-index.result c.args.text.now.items c.loop-index.text.items c.push_label.new.text.items there_is c.loop-index.invariant
    (c.in_ok-push_label.ensures ∙ ap (λ z. z ++ line) (c.in_ok-extend_from_slice.ensures.items ∙ ap (λ z. z ++ codes " ") c.in_ok-push_number.ensures))
