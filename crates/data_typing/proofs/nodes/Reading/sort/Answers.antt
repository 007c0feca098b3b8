use Rattle.std.proofs.Common.{◌<◌, List, length, get_or, sym, subst, ap, ◌∙◌}
use Rattle.std.specs.Prelude.{Option, None, option_map}
use Rattle.data_theory.specs.IdTerms.{symbol_under}
use Rattle.data_typing.specs.declared.flat_sorts.FlatSort.{FlatSort}
use Rattle.data_typing.specs.FlatSorts.{flat_sort}
use Rattle.data_typing.specs.Typings.{Inferred, Typing}
use Rattle.data_typing.proofs.NodeTells.{node_tells}
use Rattle.data_typing.proofs.nodes.Reading.sort.Goals as goal

pub returns : goal.returns
returns c = λ g t is.
    let at = c.args.self.now.at in
    let within : at < length c.args.self.now.known.items = subst (λ n. at < n) (sym c.requires.all) c.requires.there in
    ap (λ (ks : List (Option FlatSort)). option_map flat_sort (get_or ks at None)) c.as_slice-known.ensures.value ∙ c.requires.known_sorts.told at within
    ∙ (node_tells (symbol_under g) c.args.self.now.nodes.items at).infers ∙ ap (λ (x : Typing). option_map (λ (i : Inferred). i.sort) x.infers) is.typing
