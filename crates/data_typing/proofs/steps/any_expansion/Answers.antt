use Rattle.std.proofs.Common.{subst, ap}
use Rattle.data_typing.specs.Typings.{Signature, checked, applied}
use Rattle.data_typing.specs.CodeSteps.{typings_at, term_in, parts_limit, Comes}
use Rattle.data_typing.proofs.steps.any_expansion.Goals as goal

pub returns-clause-comes : goal.returns-clause-comes
returns-clause-comes c = λ y.
    subst (Comes y c.args.nodes.now (parts_limit c.args.nodes.now c.args.arguments.now) c.in_ok-expansion.expansion)
    (ap (λ (g : Signature). term_in (applied checked (typings_at y c.args.nodes.now c.args.arguments.now) g)) (c.in_ok-overload.ensures.means y)) (c.in_ok-expansion.ensures.comes y)

pub returns-clause-within : goal.returns-clause-within
returns-clause-within c = λ n k h s. c.in_ok-expansion.ensures.within n k (c.in_ok-overload.ensures.within n k h s)
