use Rattle.std.proofs.Common.{rules, ◌≡◌, map, false, true, cond, sym, ap, ◌∙◌}
use Rattle.std.specs.Prelude.{None, is_some, option_map, option_and_then, Option}
use Rattle.data_typing.specs.FlatSorts.{flat_sort}
use Rattle.data_typing.specs.declared.nodes.AnyOverload as code_any
use Rattle.data_typing.specs.Typings.{Scheme, by_result, first_exact}
use Rattle.data_typing.specs.Typings as typings
use Rattle.data_typing.specs.NodeTypings.{signature_of, scheme_of}
use Rattle.data_typing.specs.CodeSteps.{typings_at, parts_limit}
use Rattle.data_typing.proofs.StepLemmas.{comes_as, exact_there}
use Rattle.data_typing.proofs.steps.call_by_sort.Goals as goal

pub returns-then-is_some-clause-comes : goal.returns-then-is_some-clause-comes
returns-then-is_some-clause-comes c = λ y.
    let there : is_some c.first_exact.result ≡ true = search rules in
    ap (λ b. cond b None (option_and_then (λ (k : Scheme). by_result (typings_at y c.args.nodes.now c.args.arguments.now) k (flat_sort c.args.sort)) (option_map scheme_of c.args.any.now)))
    (exact_there y c.args.nodes.now c.args.arguments.now c.args.signatures.now c.first_exact.result c.first_exact.ensures ∙ there)

pub returns-in-Some-clause-comes : goal.returns-in-Some-clause-comes
returns-in-Some-clause-comes c =
    let none : is_some c.first_exact.result ≡ false = search rules in
    comes_as c.args.nodes.now (parts_limit c.args.nodes.now c.args.arguments.now) (λ y. by_result (typings_at y c.args.nodes.now c.args.arguments.now) (scheme_of c.in-Some.any) (flat_sort c.args.sort))
    (λ y. typings.call_by_sort (map (signature_of y) c.args.signatures.now) (option_map scheme_of c.args.any.now) (typings_at y c.args.nodes.now c.args.arguments.now) (flat_sort c.args.sort))
    (λ y.
    sym (ap (λ b. cond b None (option_and_then (λ (k : Scheme). by_result (typings_at y c.args.nodes.now c.args.arguments.now) k (flat_sort c.args.sort)) (option_map scheme_of c.args.any.now)))
    (exact_there y c.args.nodes.now c.args.arguments.now c.args.signatures.now c.first_exact.result c.first_exact.ensures ∙ none)
    ∙ ap (λ (o : Option code_any.AnyOverload). option_and_then (λ (k : Scheme). by_result (typings_at y c.args.nodes.now c.args.arguments.now) k (flat_sort c.args.sort)) (option_map scheme_of o)) c.in-Some.is))
    c.any_by_result.result c.any_by_result.ensures.comes
