use Rattle.std.proofs.Common.{◌≡◌, ◌+◌, map, subst, sym, ◌∙◌, arith, Some, None}
use Rattle.std.specs.List.{position}
use Rattle.greibach.specs.PlainForms.{plain_equation}
use Rattle.regular_encoder.specs.Refusals.{has_two_calls, IsFirstWithTwoCalls}
use Rattle.regular_encoder.proofs.Refused.{one_equation_more, two_calls_found}
use Rattle.regular_encoder.proofs.faults.check_tail.Goals as goal

pub returns-in-Some-two_calls_at-clause-fault : goal.returns-in-Some-two_calls_at-clause-fault
returns-in-Some-two_calls_at-clause-fault c =
    let found : position has_two_calls c.equation-item.result.summands.items ≡ Some c.in-Some-two_calls_at.place = sym c.two_calls_at.ensures ∙ c.in-Some-two_calls_at.is in
    subst (λ qs. IsFirstWithTwoCalls (record { equations = map plain_equation qs; init = c.args.form.now.init.items }) (c.loop-equation.before + c.in-Some-two_calls_at.place + 1)) c.deref-equation-items.ensures.value
    (two_calls_found c.deref-equation-items.result.now c.args.form.now.init.items c.loop-equation.equation-index c.loop-equation.before c.in-Some-two_calls_at.place c.equation-item.result c.loop-equation.invariant c.loop-equation-test.true c.equation-item.is found)

pub loop-equation-preserved : goal.loop-equation-preserved
loop-equation-preserved c =
    let none : position has_two_calls c.equation-item.result.summands.items ≡ None = sym c.two_calls_at.ensures ∙ c.in_default-two_calls_at.is in
    let now = c.in-Some.ensures.1 in
    let long = c.len-count.ensures in
    one_equation_more c.deref-equation-items.result.now c.loop-equation.equation-index c.loop-equation.before c.in-Some.after c.equation-item.result c.loop-equation.invariant c.loop-equation-test.true c.equation-item.is none (omega (arith, now, long))
