use Rattle.std.proofs.Common.{map, sym, ap, ◌∙◌, subst}
use Rattle.std.specs.Prelude.{option_map}
use Rattle.mcrl2_syntax.specs.DataTrees.{plain_data}
use Rattle.mcrl2_syntax.specs.ProcessParts.{plain_action}
use Rattle.sort_table.specs.BareData.{bare_data}
use Rattle.sort_table.specs.Expressions.{Name}
use Rattle.sort_checker.specs.declared.stops.PartTree.{PartTree}
use Rattle.sort_checker.specs.Faults.{is_typed}
use Rattle.sort_checker.specs.FreeTrees.{assigned}
use Rattle.sort_checker.specs.ParameterTables.{parameters_of, parameters_under}
use Rattle.sort_checker.specs.Parts.{scoped}
use Rattle.sort_checker.specs.ReadyTrees.{AreReadyLeaves, leaves_of_part}
use Rattle.sort_checker.specs.StopTrees.{part_of}
use Rattle.sort_checker.specs.TypedTrees.{are_values}
use Rattle.sort_checker.proofs.Firsts.{ok_then}
use Rattle.sort_checker.proofs.TypedParts.{condition_told, step_told, steps_told, values_told, renamings_told}
use Rattle.sort_checker.proofs.untyped_parts.is_part_typed.Goals as goal

pub is_step-requires-clause-ready : goal.is_step-requires-clause-ready
is_step-requires-clause-ready c = subst (λ (p : PartTree). AreReadyLeaves c.args.context.now.sig.now.texts (leaves_of_part p)) c.in-Action.is c.requires.ready

pub are_steps-requires-clause-ready : goal.are_steps-requires-clause-ready
are_steps-requires-clause-ready c = subst (λ (p : PartTree). AreReadyLeaves c.args.context.now.sig.now.texts (leaves_of_part p)) c.in-Multi.is c.requires.ready

pub are_values-requires-clause-ready : goal.are_values-requires-clause-ready
are_values-requires-clause-ready c = subst (λ (p : PartTree). AreReadyLeaves c.args.context.now.sig.now.texts (leaves_of_part p)) c.in-Call.is c.requires.ready

pub is_truth-requires-clause-words : goal.is_truth-requires-clause-words
is_truth-requires-clause-words c = (subst (λ (p : PartTree). AreReadyLeaves c.args.context.now.sig.now.texts (leaves_of_part p)) c.in-Condition.is c.requires.ready).0

pub returns-in-Action : goal.returns-in-Action
returns-in-Action c =
    ok_then c.is_step.result c.is_step.ensures
    (λ b h v xs over inside. h ∙ (step_told v xs c.args.context.now c.args.scope.now over inside (plain_action c.in-Action.action.now) ∙ ap (λ (p : PartTree). is_typed v (scoped xs (part_of p))) (sym c.in-Action.is)))

pub returns-in-Multi : goal.returns-in-Multi
returns-in-Multi c =
    ok_then c.are_steps.result c.are_steps.ensures
    (λ b h v xs over inside.
    h ∙ (steps_told v xs c.args.context.now c.args.scope.now over inside (map plain_action c.in-Multi.actions.now) ∙ ap (λ (p : PartTree). is_typed v (scoped xs (part_of p))) (sym c.in-Multi.is)))

pub returns-in-Call : goal.returns-in-Call
returns-in-Call c =
    ok_then c.are_values.result c.are_values.ensures
    (λ b h v xs over inside.
    h ∙ (ap (λ (n : Name). are_values c.args.context.now c.args.scope.now (assigned c.in-Call.assignments.now) (option_map (parameters_of c.args.context.now.sig.now) (parameters_under c.args.context.now.processes n))) c.as_slice.ensures.value
    ∙ (values_told v xs c.args.context.now c.args.scope.now over inside c.in-Call.name.now.bytes.items (assigned c.in-Call.assignments.now) ∙ ap (λ (p : PartTree). is_typed v (scoped xs (part_of p))) (sym c.in-Call.is))))

pub returns-in-Condition : goal.returns-in-Condition
returns-in-Condition c =
    ok_then c.is_truth.result c.is_truth.ensures
    (λ b h v xs over inside. h ∙ (condition_told v xs c.args.context.now c.args.scope.now over inside (bare_data (plain_data c.in-Condition.condition.now)) ∙ ap (λ (p : PartTree). is_typed v (scoped xs (part_of p))) (sym c.in-Condition.is)))

pub returns-in-Rename : goal.returns-in-Rename
returns-in-Rename c = λ v xs over inside.
    c.renamings_fit.ensures ∙ (renamings_told v xs c.args.context.now c.args.scope.now over inside c.in-Rename.renamings.now ∙ ap (λ (p : PartTree). is_typed v (scoped xs (part_of p))) (sym c.in-Rename.is))
