use Rattle.std.proofs.Common.{sym, ap, ◌∙◌}
use Rattle.std.specs.Prelude.{option_map}
use Rattle.sort_checker.specs.FreeTrees.{assigned}
use Rattle.sort_checker.specs.ParameterTables.{parameters_under}
use Rattle.sort_checker.proofs.FreeParts.{none_left_out, some_left_out}
use Rattle.sort_checker.proofs.free_variables.free_in_call.Goals as goal

pub left_out_among-requires : goal.left_out_among-requires
left_out_among-requires c = c.requires.parameters c.as_slice.result.now c.in-Some.parameters.now (sym c.get.ensures ∙ ap (option_map (λ ps. ps.now)) c.in-Some.is)

pub returns-in_default : goal.returns-in_default
returns-in_default c = λ v xs over inside.
    none_left_out v xs c.args.context.now over c.args.name.now.bytes.items (assigned c.args.assignments.now) (ap (parameters_under c.args.context.now.processes) (sym c.as_slice.ensures.value) ∙ (sym c.get.ensures ∙ ap (option_map (λ ps. ps.now)) c.in_default.is))

pub returns : goal.returns
returns c = λ v xs over inside.
    c.left_out_among.ensures xs c.args.assignments.now inside c.in_ok-names.ensures
    ∙ some_left_out v xs c.args.context.now over c.args.name.now.bytes.items (assigned c.args.assignments.now) c.in-Some.parameters.now (ap (parameters_under c.args.context.now.processes) (sym c.as_slice.ensures.value) ∙ (sym c.get.ensures ∙ ap (option_map (λ ps. ps.now)) c.in-Some.is))
