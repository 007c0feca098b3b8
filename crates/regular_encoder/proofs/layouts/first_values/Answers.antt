use Rattle.std.proofs.Common.{◌+◌, sym, subst}
use Rattle.regular_encoder.proofs.FirstTerms.{IsFinding, finding_no_value, finding_one_value, inhabited_kept}
use Rattle.regular_encoder.proofs.layouts.first_values.Goals as goal

pub loop-column-init : goal.loop-column-init
loop-column-init c =
    subst (λ z. IsFinding c.args.place.now c.args.args.now c.args.sig.now c.args.pool.now c.args.columns.now 0 c.args.sig.now c.args.pool.now z) (sym c.new-firsts.ensures.items) (finding_no_value _ _ _ _ _ c.requires.constants)

pub first_value-requires-clause-inhabited : goal.first_value-requires-clause-inhabited
first_value-requires-clause-inhabited c =
    inhabited_kept c.args.sig.now c.loop-column.sig c.args.columns.now c.loop-column.column-index _ c.loop-column.invariant.grown c.loop-column-test.true c.requires.variables c.requires.inhabited

pub loop-column-preserved : goal.loop-column-preserved
loop-column-preserved c =
    subst (λ z. IsFinding c.args.place.now c.args.args.now c.args.sig.now c.args.pool.now c.args.columns.now (c.loop-column.column-index + 1) c.first_value.new.sig c.first_value.new.pool z) (sym c.in_ok-push.ensures.items)
    (finding_one_value c.args.place.now c.args.args.now c.args.sig.now c.args.pool.now c.args.columns.now c.loop-column.column-index c.loop-column.sig c.loop-column.pool c.loop-column.firsts.items (record { 0 = 0 }) c.loop-column.invariant c.loop-column-test.true
    c.first_value.new.sig c.first_value.new.pool c.in_ok-first_value.field-0 c.in_ok-first_value.ensures.value c.first_value.ensures.grown c.first_value.ensures.kept c.first_value.ensures.constants c.first_value.ensures.constants_kept)
