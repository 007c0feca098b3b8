use Rattle.std.proofs.lemmas.Result.{IfOk-weaker}
use Rattle.data_typing.specs.Nodes.{profile_of, any_profile_of}
use Rattle.data_typing.proofs.StepsWithin.{plan_code_within}
use Rattle.std.proofs.Common.{map, sym, ap, ◌∙◌}
use Rattle.std.specs.Prelude.{Option, option_map, option_and_then}
use Rattle.data_typing.specs.declared.plans.CallPlan.{CallPlan}
use Rattle.data_typing.specs.Plans.{planned}
use Rattle.data_typing.specs.CodePlans.{plan_of}
use Rattle.data_typing.specs.Typings.{call_infers}
use Rattle.data_typing.specs.NodeTypings.{signature_of, scheme_of}
use Rattle.data_typing.specs.CodeSteps.{typings_at, term_in, parts_limit}
use Rattle.data_typing.proofs.StepLemmas.{comes_as, call_planned}
use Rattle.data_typing.proofs.steps.call_expansion.Goals as goal

pub returns-in-Some-clause-comes : goal.returns-in-Some-clause-comes
returns-in-Some-clause-comes c =
    let n = c.args.nodes.now in
    let js = c.args.arguments.now in
    comes_as n (parts_limit n js) (λ y. term_in (planned (map (signature_of y) c.args.signatures.now) (option_map scheme_of c.args.any.now) (typings_at y n js) (plan_of c.in-Some.plan)))
    (λ y. term_in (call_infers (map (signature_of y) c.args.signatures.now) (option_map scheme_of c.args.any.now) (typings_at y n js)))
    (λ y.
    ap term_in (sym (call_planned n js c.args.signatures.now c.args.any.now (option_map plan_of c.in_ok-plan.field-0) c.in_ok-plan.ensures.infers y
    ∙ ap (λ (o : Option CallPlan). option_and_then (planned (map (signature_of y) c.args.signatures.now) (option_map scheme_of c.args.any.now) (typings_at y n js)) (option_map plan_of o)) c.in-Some.is)))
    c.planned_expansion.result c.planned_expansion.ensures.comes

pub returns-in-None-clause-comes : goal.returns-in-None-clause-comes
returns-in-None-clause-comes c = λ y.
    let n = c.args.nodes.now in
    let js = c.args.arguments.now in
    ap term_in (call_planned n js c.args.signatures.now c.args.any.now (option_map plan_of c.in_ok-plan.field-0) c.in_ok-plan.ensures.infers y
    ∙ ap (λ (o : Option CallPlan). option_and_then (planned (map (signature_of y) c.args.signatures.now) (option_map scheme_of c.args.any.now) (typings_at y n js)) (option_map plan_of o)) c.in-None.is)

pub returns-in-Some-clause-within : goal.returns-in-Some-clause-within
returns-in-Some-clause-within c =
    IfOk-weaker c.planned_expansion.result _ _
    (λ o k n m nodes fs a. k n m fs a (plan_code_within n m c.args.nodes.now nodes c.args.arguments.now (map profile_of c.args.signatures.now) (option_map any_profile_of c.args.any.now) c.in_ok-plan.field-0 c.in_ok-plan.ensures.plan c.in-Some.plan c.in-Some.is)) c.planned_expansion.ensures.within
