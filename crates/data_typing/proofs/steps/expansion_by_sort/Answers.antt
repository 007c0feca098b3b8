use Rattle.std.proofs.lemmas.Result.{IfOk-weaker}
use Rattle.data_typing.specs.Typings.{elements}
use Rattle.data_typing.proofs.WithinLemmas.{read_off_within}
use Rattle.std.proofs.Common.{ℕ, List, map, sym, subst, ap, ◌∙◌}
use Rattle.std.specs.Prelude.{Option, IfOk, option_map}
use Rattle.data_theory.specs.declared.ids.FunId.{FunId}
use Rattle.data_theory.specs.Terms.{Symbol, Term}
use Rattle.data_typing.specs.declared.nodes.AnyOverload.{AnyOverload}
use Rattle.data_typing.specs.declared.nodes.WordFunctions.{WordFunctions}
use Rattle.data_typing.specs.declared.nodes.Kind.{Kind}
use Rattle.data_typing.specs.declared.nodes.Overload as code
use Rattle.data_typing.specs.FlatSorts.{flat_sort}
use Rattle.data_typing.specs.Typings as typings
use Rattle.data_typing.specs.NodeTypings.{signature_of, scheme_of}
use Rattle.data_typing.specs.CodeSteps.{kind_by_sort, typings_at, parts_limit, Comes}
use Rattle.data_typing.proofs.StepLemmas.{comes_as}
use Rattle.data_typing.proofs.steps.expansion_by_sort.Goals as goal

pub returns-in-Call-clause-comes : goal.returns-in-Call-clause-comes
returns-in-Call-clause-comes c =
    let n = c.args.nodes.now in
    let js : List ℕ = c.as_slice-arguments.result.now in
    let from : (FunId → Symbol) → List code.Overload → Option AnyOverload → Option Term = λ y gs a. typings.call_by_sort (map (signature_of y) gs) (option_map scheme_of a) (typings_at y n js) (flat_sort c.args.sort) in
    subst (λ (ks : List ℕ). IfOk c.call_by_sort.result (λ o. (y : FunId → Symbol) → Comes y n (parts_limit n ks) o (kind_by_sort y c.args.node.now.kind (typings_at y n ks) (flat_sort c.args.sort)))) c.as_slice-arguments.ensures.value
    (comes_as n (parts_limit n js) (λ y. from y c.deref-in-Call.result.now c.deref-in-Call-2.result.now.any)
    (λ y. kind_by_sort y c.args.node.now.kind (typings_at y n js) (flat_sort c.args.sort))
    (λ y.
    ap (λ gs. from y gs c.deref-in-Call-2.result.now.any) (c.deref-in-Call.ensures.value ∙ ap (λ (them : WordFunctions). them.signatures.items) c.deref.ensures)
    ∙ ap (λ (them : WordFunctions). from y c.in-Call.functions.value.signatures.items them.any) c.deref-in-Call-2.ensures
    ∙ ap (λ (k : Kind). kind_by_sort y k (typings_at y n js) (flat_sort c.args.sort)) (sym c.in-Call.is))
    c.call_by_sort.result c.call_by_sort.ensures.comes)

pub returns-in-Some-clause-within : goal.returns-in-Some-clause-within
returns-in-Some-clause-within c =
    IfOk-weaker c.list_expansion.result _ _ (λ o k n m h s. k n m (read_off_within n c.args.sort elements c.read_off.result c.read_off.ensures c.in-Some.element c.in-Some.is s)) c.list_expansion.ensures.within
