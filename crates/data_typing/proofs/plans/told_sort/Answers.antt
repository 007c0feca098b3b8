use Rattle.std.proofs.Common.{List, map, ap, ◌∙◌, arith}
use Rattle.data_typing.specs.declared.flat_sorts.SortPlace.{SortPlace}
use Rattle.data_typing.specs.FlatSorts.{place_of}
use Rattle.data_typing.specs.Nodes.{any_profile_of, sortings_at, sortings}
use Rattle.data_typing.specs.Sortings.{Sorting}
use Rattle.data_typing.specs.Plans.{first_sort}
use Rattle.data_typing.proofs.NodeLemmas.{sort_told_ends}
use Rattle.data_typing.proofs.plans.told_sort.Goals as goal

pub returns : goal.returns
returns c =
    let ts : List Sorting = sortings_at (sortings c.args.nodes.now) c.args.arguments.now in
    sort_told_ends ts (sortings c.args.nodes.now) (any_profile_of c.args.any.now) c.as_slice-places.result.now c.args.arguments.now c.loop-k.k (omega arith) c.loop-k.invariant
    ∙ ap (λ (ps : List SortPlace). first_sort ts (any_profile_of c.args.any.now) (map place_of ps) ts) c.as_slice-places.ensures.value
