use Rattle.data_typing.proofs.WithinLemmas.{overload_same}
use Rattle.std.proofs.Common.{rules, ◌≡◌, refl, ◌∙◌}
use Rattle.data_typing.proofs.steps.copy_overload.Goals as goal

pub returns-clause-within : goal.returns-clause-within
returns-clause-within c = λ n k h.
    let same : c.in_ok-arguments.arguments.items ≡ c.as_slice.result.now = search rules in
    overload_same n k c.args.overload.now (record { callee = c.args.overload.now.callee; arguments = c.in_ok-arguments.arguments; result = c.args.overload.now.result }) refl (same ∙ c.as_slice.ensures.value) refl h
