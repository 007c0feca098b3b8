use Rattle.std.proofs.Common.{List, map, refl, ap, ◌∙◌}
use Rattle.data_typing.specs.declared.nodes.Callee.TheVariants as callees
use Rattle.data_typing.specs.declared.flat_sorts.SortPlace.{SortPlace}
use Rattle.data_typing.specs.FlatSorts.{flat_sort, place_of}
use Rattle.data_typing.specs.Typings.{over}
use Rattle.data_typing.proofs.WithinLemmas.{overload_within}
use Rattle.data_typing.proofs.StepLemmas.{overload_is}
use Rattle.data_typing.proofs.steps.overload_at.Goals as goal

pub returns-clause-means : goal.returns-clause-means
returns-clause-means c = λ y. overload_is y c.args.any.now c.args.sort c.as_slice.result.now c.as_slice.ensures.value c.in_ok-arguments.arguments c.in_ok-arguments.ensures c.in_ok-result.result c.in_ok-result.ensures

pub returns-clause-within : goal.returns-clause-within
returns-clause-within c = λ n k h s.
    overload_within n k c.args.any.now c.args.sort (record { callee = callees.BuiltIn c.args.any.now.word; arguments = c.in_ok-arguments.arguments; result = c.in_ok-result.result }) refl
    (c.in_ok-arguments.ensures ∙ ap (λ (ps : List SortPlace). map (λ p. over (flat_sort c.args.sort) (place_of p)) ps) c.as_slice.ensures.value) c.in_ok-result.ensures h s
