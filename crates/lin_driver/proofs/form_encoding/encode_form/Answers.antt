use Rattle.greibach.specs.PlainForms.{plain_form}
use Rattle.lin_driver.proofs.MethodForms.{uses_none, columns_refused}
use Rattle.lin_driver.proofs.form_encoding.encode_form.Goals as goal

pub returns-else-uses_stack-clause-refused : goal.returns-else-uses_stack-clause-refused
returns-else-uses_stack-clause-refused c =
    let form = plain_form c.args.form.now in
    columns_refused c.encode_with_columns.result c.args.method form (uses_none c.args.method form c.uses_stack.ensures c.if-uses_stack.false) c.encode_with_columns.ensures.refused
