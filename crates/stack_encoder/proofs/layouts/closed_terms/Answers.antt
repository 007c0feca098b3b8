use Rattle.std.proofs.Common.{◌<◌, ◌+◌, length, sym, subst, ap, ◌∙◌}
use Rattle.std.proofs.lemmas.Option.{slice_get_within}
use Rattle.term_pool.specs.ConstructorValues.{HasValue}
use Rattle.term_pool.proofs.GrownSignatures.{inhabited_sorts_stay_inhabited}
use Rattle.lps_core.proofs.Members.{all_at}
use Rattle.stack_encoder.specs.StackColumns.{sort_of_column}
use Rattle.stack_encoder.proofs.ClosedColumns.{IsClosing, closing_none, closing_more, closed_answer, column_sort, read_needed}
use Rattle.stack_encoder.proofs.layouts.closed_terms.Goals as goal

pub loop-number-init : goal.loop-number-init
loop-number-init c = subst (λ z. IsClosing c.args.kinds.now.keys c.args.needed.now.keys c.args.sig.now c.args.pool.now 0 c.args.sig.now c.args.pool.now z) (sym c.new-terms.ensures.items) (closing_none _ _ _ _ c.requires.constants)

pub index-requires-in-loop-number : goal.index-requires-in-loop-number
index-requires-in-loop-number c = all_at (λ x. x < length c.args.kinds.now.keys) c.args.needed.now.keys c.loop-number.number c.index.result.now c.requires.within c.index.ensures

pub closed_term-requires-clause-inhabited : goal.closed_term-requires-clause-inhabited
closed_term-requires-clause-inhabited c =
    inhabited_sorts_stay_inhabited c.args.sig.now c.loop-number.sig c.loop-number.invariant.grown c.index-in-loop-number.result.now.1
    (subst (HasValue c.args.sig.now) (column_sort c.args.kinds.now.keys c.index.result.now c.index-in-loop-number.result.now c.index-in-loop-number.ensures)
    (all_at (λ x. HasValue c.args.sig.now (sort_of_column c.args.kinds.now.keys x)) c.args.needed.now.keys c.loop-number.number c.index.result.now c.requires.inhabited c.index.ensures))

pub loop-number-preserved : goal.loop-number-preserved
loop-number-preserved c =
    let s = c.index-in-loop-number.result.now.1 in
    let w = slice_get_within c.args.needed.now.keys c.loop-number.number c.index.result.now c.index.ensures in
    subst (λ z. IsClosing c.args.kinds.now.keys c.args.needed.now.keys c.args.sig.now c.args.pool.now (c.loop-number.number + 1) c.closed_term.new.sig c.closed_term.new.self z) (sym c.in_ok-push.ensures.items)
    (closing_more c.args.kinds.now.keys c.args.needed.now.keys c.args.sig.now c.args.pool.now c.loop-number.number c.loop-number.sig c.loop-number.pool c.loop-number.terms.items c.index.result.now c.loop-number.invariant w
    c.closed_term.new.sig c.closed_term.new.self s c.in_ok-closed_term.field-0
    (sym (ap (sort_of_column c.args.kinds.now.keys) (read_needed c.args.needed.now.keys c.loop-number.number c.index.result.now c.index.result.now c.index.ensures) ∙ column_sort c.args.kinds.now.keys c.index.result.now c.index-in-loop-number.result.now c.index-in-loop-number.ensures))
    (closed_answer c.loop-number.sig c.loop-number.pool c.closed_term.new.sig c.closed_term.new.self c.in_ok-closed_term.field-0 s c.in_ok-closed_term.ensures.has c.in_ok-closed_term.ensures.first c.in_ok-closed_term.ensures.declared
    c.in_ok-closed_term.ensures.within c.in_ok-closed_term.ensures.sorted c.closed_term.ensures.grown c.closed_term.ensures.kept)
    c.closed_term.ensures.constants c.closed_term.ensures.constants_kept)
