use Rattle.std.proofs.Common.{ℕ, subst}
use Rattle.std.specs.Prelude.{Option, IfSome}
use Rattle.data_typing.specs.Within.{IsOverloadWithin}
use Rattle.data_typing.proofs.StepsWithin.{one_function}
use Rattle.std.proofs.Common.{rules, get_or, refl, sym, ap, ◌∙◌}
use Rattle.std.specs.Prelude.{None, option_map}
use Rattle.data_typing.specs.declared.nodes.Overload as code
use Rattle.data_typing.specs.FlatSorts.{flat_sort}
use Rattle.data_typing.specs.NodeTypings.{signature_of}
use Rattle.data_typing.proofs.StepLemmas.{embeds_not, embeds_same, embeds_up, embeds_nowhere}
use Rattle.data_typing.proofs.steps.embedded_expansion.Goals as goal

pub returns-in_default-clause-comes : goal.returns-in_default-clause-comes
returns-in_default-clause-comes c = λ y. embeds_not y c.args.nodes.now c.args.known.now c.requires.known c.args.at c.requires.there (flat_sort c.args.sort) (get_or c.args.known.now c.args.at None) refl (search rules)

pub returns-then-is-clause-comes : goal.returns-then-is-clause-comes
returns-then-is-clause-comes c = λ y.
    embeds_same y c.args.nodes.now c.args.known.now c.requires.known c.args.at c.requires.there c.args.sort c.in-Some.inferred (get_or c.args.known.now c.args.at None) refl c.in-Some.is c.is.result c.is.ensures c.if-is.true
    c.new-steps.result c.in_ok-tasks.tasks c.new-steps.ensures.items c.in_ok-tasks.ensures.items

pub returns-in_ok-steps-in-Some-2-clause-comes : goal.returns-in_ok-steps-in-Some-2-clause-comes
returns-in_ok-steps-in-Some-2-clause-comes c = λ y.
    embeds_up y c.args.nodes.now c.args.known.now c.requires.known c.args.at c.requires.there c.args.sort c.in-Some.inferred (get_or c.args.known.now c.args.at None) refl c.in-Some.is c.is.result c.is.ensures c.if-is.false
    c.in-Some-2.upcast (ap (option_map (λ (f : code.Overload). (signature_of y f).symbol)) (sym c.in-Some-2.is) ∙ c.in_ok-upcast.ensures.means y) c.in_ok-steps-in-Some-2.steps c.in_ok-tasks.tasks c.in_ok-steps-in-Some-2.ensures.items c.in_ok-tasks.ensures.items

pub returns-in-None-clause-comes : goal.returns-in-None-clause-comes
returns-in-None-clause-comes c = λ y.
    embeds_nowhere y c.args.nodes.now c.args.known.now c.requires.known c.args.at c.requires.there c.args.sort c.in-Some.inferred (get_or c.args.known.now c.args.at None) refl c.in-Some.is c.is.result c.is.ensures c.if-is.false
    (ap (option_map (λ (f : code.Overload). (signature_of y f).symbol)) (sym c.in-None.is) ∙ c.in_ok-upcast.ensures.means y)

pub returns-in_ok-steps-in-Some-2-clause-within : goal.returns-in_ok-steps-in-Some-2-clause-within
returns-in_ok-steps-in-Some-2-clause-within c = λ n k h.
    one_function n k (record { steps = c.in_ok-steps-in-Some-2.steps; tasks = c.in_ok-tasks.tasks }) c.in-Some-2.upcast 1 _ c.in_ok-steps-in-Some-2.ensures.items c.in_ok-tasks.ensures.items
    (subst (λ (o : Option code.Overload). IfSome o (λ f. (i j : ℕ) → IsOverloadWithin i j f)) c.in-Some-2.is c.in_ok-upcast.ensures.within n k) (tt, tt)
