use Rattle.std.proofs.Common.{◌+◌, sym, subst}
use Rattle.lps_core.proofs.NamedSums.{names_none, names_then}
use Rattle.regular_encoder.proofs.NewColumns.{IsAddingColumns, adding_no_column, adding_column_at, kind_in_grown}
use Rattle.regular_encoder.proofs.layouts.add_columns.Goals as goal

pub returns-in_err-names-clause-grown : goal.returns-in_err-names-clause-grown
returns-in_err-names-clause-grown c = names_none _ c.signature_stands.ensures

pub loop-number-init : goal.loop-number-init
loop-number-init c =
    subst (λ z. IsAddingColumns c.args.sig.now c.args.kinds.now.keys 0 c.args.sig.now z c.in_ok-names.names.keys) (sym c.new-columns.ensures.items)
    (adding_no_column c.args.sig.now c.args.kinds.now.keys c.in_ok-names.names.keys c.signature_stands.ensures c.in_ok-names.ensures)

pub add_column-requires-clause-name : goal.add_column-requires-clause-name
add_column-requires-clause-name c = (kind_in_grown c.args.sig.now c.loop-number.sig c.args.kinds.now.keys c.loop-number.number c.index.result.now c.loop-number.invariant.on c.requires c.index.ensures).0

pub add_column-requires-clause-sort : goal.add_column-requires-clause-sort
add_column-requires-clause-sort c = (kind_in_grown c.args.sig.now c.loop-number.sig c.args.kinds.now.keys c.loop-number.number c.index.result.now c.loop-number.invariant.on c.requires c.index.ensures).1

pub returns-in_err-add_column-clause-grown : goal.returns-in_err-add_column-clause-grown
returns-in_err-add_column-clause-grown c = names_then _ _ _ c.loop-number.invariant.on c.add_column.ensures.grown

pub returns-in_err-push-clause-grown : goal.returns-in_err-push-clause-grown
returns-in_err-push-clause-grown c = names_then _ _ _ c.loop-number.invariant.on c.add_column.ensures.grown

pub loop-number-preserved : goal.loop-number-preserved
loop-number-preserved c =
    subst (λ z. IsAddingColumns c.args.sig.now c.args.kinds.now.keys (c.loop-number.number + 1) c.add_column.new.sig z c.add_column.new.names.keys) (sym c.in_ok-push.ensures.items)
    (adding_column_at c.args.sig.now c.args.kinds.now.keys c.loop-number.number c.loop-number.sig c.loop-number.columns.items c.loop-number.names.keys c.index.result.now c.loop-number.invariant c.index.ensures
    c.add_column.new.sig c.in_ok-add_column.field-0 c.add_column.new.names.keys c.add_column.ensures.grown c.in_ok-add_column.ensures.column c.in_ok-add_column.ensures.names)
