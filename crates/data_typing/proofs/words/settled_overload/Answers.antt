use Rattle.std.proofs.Common.{List, map, refl, ap, ◌∙◌}
use Rattle.data_theory.specs.Terms.{boolean}
use Rattle.data_typing.specs.declared.flat_sorts.Base.TheVariants as bases
use Rattle.data_typing.specs.declared.flat_sorts.SortPlace.{SortPlace}
use Rattle.data_typing.specs.Typings.{over}
use Rattle.data_typing.proofs.WithinLemmas.{overload_within}
use Rattle.data_typing.specs.FlatSorts.{flat_sort, place_of}
use Rattle.data_typing.proofs.WordLemmas.{settled_is}
use Rattle.data_typing.proofs.words.settled_overload.Goals as goal

pub returns-clause-means : goal.returns-clause-means
returns-clause-means c = λ y. settled_is c.args.any.now.word (map flat_sort c.in_ok-arguments.arguments.items) c.as_slice.result.now c.args.any.now.arguments.items (flat_sort c.in_ok-result.result) (place_of c.args.any.now.result) c.args.any.now.by_result c.in_ok-arguments.ensures c.as_slice.ensures.value c.in_ok-result.ensures

pub returns-clause-within : goal.returns-clause-within
returns-clause-within c =
    overload_within 0 0 c.args.any.now (record { depth = 0; base = bases.Bool }) _ refl (c.in_ok-arguments.ensures ∙ ap (λ (ps : List SortPlace). map (λ p. over boolean (place_of p)) ps) c.as_slice.ensures.value) c.in_ok-result.ensures c.requires tt
