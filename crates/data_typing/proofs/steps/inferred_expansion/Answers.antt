use Rattle.std.proofs.lemmas.Result.{IfOk-weaker}
use Rattle.data_typing.proofs.WithinLemmas.{widest_is_within}
use Rattle.std.proofs.Common.{ℕ, List, map, refl, sym, subst, ap, ◌∙◌, arith}
use Rattle.std.specs.Prelude.{Option, Some, IfOk, option_map}
use Rattle.data_theory.specs.declared.ids.FunId.{FunId}
use Rattle.data_theory.specs.Terms.{Symbol, Term, variable}
use Rattle.data_theory.specs.Terms as terms
use Rattle.std.specs.Prelude.{pos}
use Rattle.data_typing.specs.declared.nodes.AnyOverload.{AnyOverload}
use Rattle.data_typing.specs.declared.nodes.WordFunctions.{WordFunctions}
use Rattle.data_typing.specs.declared.nodes.Kind.{Kind}
use Rattle.data_typing.specs.declared.nodes.Overload as code
use Rattle.data_typing.specs.declared.steps.Step.TheVariants as steps
use Rattle.data_typing.specs.FlatSorts.{flat_sort}
use Rattle.data_typing.specs.Typings.{call_infers, list_of, least_sort}
use Rattle.data_typing.specs.NodeTypings.{signature_of, scheme_of}
use Rattle.data_typing.specs.CodeSteps.{kind_infers, term_in, typings_at, parts_limit, Comes}
use Rattle.data_typing.proofs.StepLemmas.{comes_as, leaf_comes, list_inferred, list_infers_none}
use Rattle.data_typing.proofs.steps.inferred_expansion.Goals as goal

pub returns-in_ok-expansion-in-Variable-clause-comes : goal.returns-in_ok-expansion-in-Variable-clause-comes
returns-in_ok-expansion-in-Variable-clause-comes c = λ y.
    let n = c.args.nodes.now in
    let ks : List ℕ = c.args.node.now.arguments.items in
    subst (λ (k : Kind). Comes y n (parts_limit n ks) (Some c.in_ok-expansion-in-Variable.expansion) (term_in (kind_infers y k (typings_at y n ks)))) (sym c.in-Variable.is)
    (leaf_comes y n (parts_limit n ks) (omega arith) (steps.Variable c.in-Variable.var) (variable c.in-Variable.var.0) refl c.in_ok-expansion-in-Variable.expansion c.in_ok-expansion-in-Variable.ensures.0 c.in_ok-expansion-in-Variable.ensures.1)

pub returns-in_ok-expansion-in-Numeral-clause-comes : goal.returns-in_ok-expansion-in-Numeral-clause-comes
returns-in_ok-expansion-in-Numeral-clause-comes c = λ y.
    let n = c.args.nodes.now in
    let ks : List ℕ = c.args.node.now.arguments.items in
    subst (λ (k : Kind). Comes y n (parts_limit n ks) (Some c.in_ok-expansion-in-Numeral.expansion) (term_in (kind_infers y k (typings_at y n ks)))) (sym c.in-Numeral.is)
    (leaf_comes y n (parts_limit n ks) (omega arith) (steps.Numeral c.in-Numeral.value) (terms.numeral (least_sort c.in-Numeral.value) (pos c.in-Numeral.value)) refl c.in_ok-expansion-in-Numeral.expansion c.in_ok-expansion-in-Numeral.ensures.0 c.in_ok-expansion-in-Numeral.ensures.1)

pub returns-in-Call-clause-comes : goal.returns-in-Call-clause-comes
returns-in-Call-clause-comes c =
    let n = c.args.nodes.now in
    let js : List ℕ = c.as_slice-arguments.result.now in
    let from : (FunId → Symbol) → List code.Overload → Option AnyOverload → Option Term = λ y gs a. term_in (call_infers (map (signature_of y) gs) (option_map scheme_of a) (typings_at y n js)) in
    subst (λ (ks : List ℕ). IfOk c.call_expansion.result (λ o. (y : FunId → Symbol) → Comes y n (parts_limit n ks) o (term_in (kind_infers y c.args.node.now.kind (typings_at y n ks))))) c.as_slice-arguments.ensures.value
    (comes_as n (parts_limit n js) (λ y. from y c.deref-in-Call.result.now c.deref-in-Call-2.result.now.any)
    (λ y. term_in (kind_infers y c.args.node.now.kind (typings_at y n js)))
    (λ y.
    ap (λ gs. from y gs c.deref-in-Call-2.result.now.any) (c.deref-in-Call.ensures.value ∙ ap (λ (them : WordFunctions). them.signatures.items) c.deref.ensures)
    ∙ ap (λ (them : WordFunctions). from y c.in-Call.functions.value.signatures.items them.any) c.deref-in-Call-2.ensures
    ∙ ap (λ (k : Kind). term_in (kind_infers y k (typings_at y n js))) (sym c.in-Call.is))
    c.call_expansion.result c.call_expansion.ensures.comes)

pub returns-in-Some-clause-comes : goal.returns-in-Some-clause-comes
returns-in-Some-clause-comes c =
    let n = c.args.nodes.now in
    let js : List ℕ = c.as_slice-arguments.result.now in
    subst (λ (ks : List ℕ). IfOk c.list_expansion.result (λ o. (y : FunId → Symbol) → Comes y n (parts_limit n ks) o (term_in (kind_infers y c.args.node.now.kind (typings_at y n ks))))) c.as_slice-arguments.ensures.value
    (comes_as n (parts_limit n js) (λ y. list_of (typings_at y n js) (flat_sort c.in-Some.element)) (λ y. term_in (kind_infers y c.args.node.now.kind (typings_at y n js)))
    (λ y. list_inferred y n js c.widest_of.result c.widest_of.ensures c.in-Some.element c.in-Some.is ∙ ap (λ (k : Kind). term_in (kind_infers y k (typings_at y n js))) (sym c.in-List.is))
    c.list_expansion.result c.list_expansion.ensures.comes)

pub returns-in-None-clause-comes : goal.returns-in-None-clause-comes
returns-in-None-clause-comes c = λ y.
    let n = c.args.nodes.now in
    let js : List ℕ = c.as_slice-arguments.result.now in
    ap (λ (ks : List ℕ). term_in (kind_infers y c.args.node.now.kind (typings_at y n ks))) (sym c.as_slice-arguments.ensures.value) ∙ ap (λ (k : Kind). term_in (kind_infers y k (typings_at y n js))) c.in-List.is
    ∙ list_infers_none y n js c.widest_of.result c.widest_of.ensures c.in-None.is

pub returns-in-Some-clause-within : goal.returns-in-Some-clause-within
returns-in-Some-clause-within c =
    IfOk-weaker c.list_expansion.result _ _ (λ o k n m nodes kind. k n m (widest_is_within n m c.args.nodes.now nodes c.as_slice-arguments.result.now c.in-Some.element c.widest_of.result c.widest_of.ensures c.in-Some.is)) c.list_expansion.ensures.within
