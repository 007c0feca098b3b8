use Rattle.std.proofs.Common.{◌∙◌, sym, ap}
use Rattle.std.specs.Prelude.{is_some}
use Rattle.data_typing.specs.FlatSorts.{flat_sort}
use Rattle.sort_checker.specs.declared.typed_parts.Way.{Way}
use Rattle.sort_checker.specs.TypedTrees.{how_of}
use Rattle.sort_checker.proofs.TypedArguments.{exactly_told, exactly_none}
use Rattle.sort_checker.proofs.typed_parts.fits.Goals as goal

pub returns-in-Some : goal.returns-in-Some
returns-in-Some c = λ g t is.
    c.is.ensures
    ∙ (exactly_told t (flat_sort c.args.sort) c.sort.result c.in-Some.inferred (c.sort.ensures g t is) c.in-Some.is ∙ ap (λ (w : Way). is_some (how_of w (flat_sort c.args.sort) t)) (sym c.in-Exactly.is))

pub returns-in-None : goal.returns-in-None
returns-in-None c = λ g t is. exactly_none t (flat_sort c.args.sort) c.sort.result (c.sort.ensures g t is) c.in-None.is ∙ ap (λ (w : Way). is_some (how_of w (flat_sort c.args.sort) t)) (sym c.in-Exactly.is)
