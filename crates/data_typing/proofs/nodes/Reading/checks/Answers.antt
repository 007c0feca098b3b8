use Rattle.std.proofs.Common.{List, ap, ◌∙◌}
use Rattle.std.specs.Prelude.{is_some}
use Rattle.data_theory.specs.IdTerms.{symbol_under}
use Rattle.data_typing.specs.declared.nodes.Node.{Node}
use Rattle.data_typing.specs.FlatSorts.{flat_sort}
use Rattle.data_typing.specs.Nodes.{sorting_at, sortings}
use Rattle.data_typing.specs.Typings.{Typing}
use Rattle.data_typing.proofs.NodeTells.{node_tells}
use Rattle.data_typing.proofs.nodes.Reading.checks.Goals as goal

pub returns : goal.returns
returns c = λ g t is.
    c.in_ok-checks.ensures ∙ ap (λ (ns : List Node). (sorting_at (sortings ns) c.args.self.now.at).checks (flat_sort c.args.sort)) c.as_slice.ensures.value
    ∙ (node_tells (symbol_under g) c.args.self.now.nodes.items c.args.self.now.at).checks (flat_sort c.args.sort) ∙ ap (λ (x : Typing). is_some (x.checks (flat_sort c.args.sort))) is.typing
