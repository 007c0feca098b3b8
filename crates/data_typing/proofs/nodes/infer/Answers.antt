use Rattle.std.proofs.Common.{ℕ, List, map, sym, ap, ◌∙◌}
use Rattle.std.specs.Prelude.{Option, option_map}
use Rattle.data_theory.specs.Terms.{Sort}
use Rattle.data_typing.specs.declared.nodes.Overload as code
use Rattle.data_typing.specs.declared.nodes.AnyOverload.{AnyOverload}
use Rattle.data_typing.specs.declared.nodes.WordFunctions.{WordFunctions}
use Rattle.data_typing.specs.declared.nodes.Kind.{Kind}
use Rattle.data_typing.specs.Nodes.{profile_of, any_profile_of, kind_sorting, sortings_at, sortings}
use Rattle.data_typing.specs.Sortings.{call_sort}
use Rattle.data_typing.proofs.NodeLemmas.{told_along}
use Rattle.data_typing.proofs.nodes.infer.Goals as goal

pub returns-in-Call : goal.returns-in-Call
returns-in-Call c =
    let w = c.in-Call in
    let parts : List ℕ = c.args.node.now.arguments.items in
    let from : List ℕ → List code.Overload → Option AnyOverload → Option Sort = λ js gs a. call_sort (map profile_of gs) (option_map any_profile_of a) (sortings_at (sortings c.args.nodes.now) js) in
    told_along c.call_sort_of.result _ _
    (ap (λ js. from js c.deref-in-Call-2.result.now c.deref-in-Call-3.result.now.any) c.deref.ensures.value
    ∙ ap (λ gs. from parts gs c.deref-in-Call-3.result.now.any) (c.deref-in-Call-2.ensures.value ∙ ap (λ (them : WordFunctions). them.signatures.items) c.deref-in-Call.ensures)
    ∙ ap (λ (them : WordFunctions). from parts w.functions.value.signatures.items them.any) c.deref-in-Call-3.ensures
    ∙ sym (ap (λ (k : Kind). (kind_sorting k (sortings_at (sortings c.args.nodes.now) parts)).infers) w.is))
    c.call_sort_of.ensures
