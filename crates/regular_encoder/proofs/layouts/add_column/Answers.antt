use Rattle.regular_encoder.proofs.NewColumns.{own_within, column_made, variable_grows}
use Rattle.regular_encoder.proofs.layouts.add_column.Goals as goal

pub add_var-requires-clause-name : goal.add_var-requires-clause-name
add_var-requires-clause-name c = own_within _ c.args.sig.now c.args.kind.0 c.own_name.new.sig c.in_ok-name.name c.requires.name c.in_ok-name.ensures.named

pub returns-in_err-insert-clause-grown : goal.returns-in_err-insert-clause-grown
returns-in_err-insert-clause-grown c =
    variable_grows c.args.sig.now c.own_name.new.sig c.add_var.new.self c.in_ok-name.name c.args.kind.1 c.own_name.ensures.grown
    (own_within _ c.args.sig.now c.args.kind.0 c.own_name.new.sig c.in_ok-name.name c.requires.name c.in_ok-name.ensures.named) c.requires.sort c.in_ok-column.ensures.added

pub returns-clause-column : goal.returns-clause-column
returns-clause-column c =
    column_made _ c.args.sig.now c.args.kind c.own_name.new.sig c.add_var.new.self c.in_ok-name.name c.in_ok-column.column c.in_ok-name.ensures.named c.in_ok-column.ensures.added c.in_ok-column.ensures.number

pub returns-clause-grown : goal.returns-clause-grown
returns-clause-grown c =
    variable_grows c.args.sig.now c.own_name.new.sig c.add_var.new.self c.in_ok-name.name c.args.kind.1 c.own_name.ensures.grown
    (own_within _ c.args.sig.now c.args.kind.0 c.own_name.new.sig c.in_ok-name.name c.requires.name c.in_ok-name.ensures.named) c.requires.sort c.in_ok-column.ensures.added
