use Rattle.std.proofs.Common.{◌≡◌, ◌<◌, ◌∙◌, ℕ, List, length, subst, sym}
use Rattle.std.specs.Prelude.{Some, slice_get}
use Rattle.std.specs.List.{All}
use Rattle.std.proofs.lemmas.Bool.Decides.{Decides-eqb}
use Rattle.data_theory.specs.declared.ids.FunId.{FunId}
use Rattle.sort_table.specs.Vocabularies.{EachPair}
use Rattle.sort_table.specs.ConstructorMarks.{GivesOne, gives}
use Rattle.sort_table.proofs.GivenConstructors.{bare_told, other_told, no_places_told, all_within, all_declared, all_results, all_free, all_different, some_places}
use Rattle.sort_table.proofs.constructor_sorts.give_one.Goals as goal

pub returns-then-is_empty : goal.returns-then-is_empty
returns-then-is_empty c = no_places_told c.args.signature.now c.args.sort c.args.places.now ((Decides-eqb (length c.args.places.now) 0).0 (sym c.is_empty.ensures ∙ c.if-is_empty.true))

pub returns-then-not-is_bare : goal.returns-then-not-is_bare
returns-then-not-is_bare c = other_told c.args.signature.now c.args.sort c.args.places.now c.is_bare.result c.requires.within c.if-not-is_bare.true c.is_bare.ensures

pub functions_at-requires : goal.functions_at-requires
functions_at-requires c = subst (λ (l : List FunId). All (λ (p : ℕ). p < length l) c.args.places.now) (sym c.funs.ensures) (all_within c.args.signature.now c.args.sort c.args.places.now c.requires.places)

pub set_cons-requires-clause-bare : goal.set_cons-requires-clause-bare
set_cons-requires-clause-bare c = bare_told c.args.signature.now c.args.sort c.is_bare.result c.requires.within c.if-not-is_bare.false c.is_bare.ensures

pub set_cons-requires-clause-declared : goal.set_cons-requires-clause-declared
set_cons-requires-clause-declared c = all_declared c.args.signature.now c.args.sort c.args.places.now c.requires.places c.in_ok-cons.cons.items
    (subst (λ (l : List FunId). EachPair (λ p i. slice_get l p ≡ Some i) c.args.places.now c.in_ok-cons.cons.items) c.funs.ensures c.in_ok-cons.ensures)

pub set_cons-requires-clause-results : goal.set_cons-requires-clause-results
set_cons-requires-clause-results c = all_results c.args.signature.now c.args.sort c.args.places.now c.requires.places c.in_ok-cons.cons.items
    (subst (λ (l : List FunId). EachPair (λ p i. slice_get l p ≡ Some i) c.args.places.now c.in_ok-cons.cons.items) c.funs.ensures c.in_ok-cons.ensures)

pub set_cons-requires-clause-different : goal.set_cons-requires-clause-different
set_cons-requires-clause-different c = all_different c.args.signature.now c.args.sort c.args.places.now c.requires.places c.in_ok-cons.cons.items
    (subst (λ (l : List FunId). EachPair (λ p i. slice_get l p ≡ Some i) c.args.places.now c.in_ok-cons.cons.items) c.funs.ensures c.in_ok-cons.ensures) c.names.ensures.stands.table c.requires.different

pub set_cons-requires-clause-free : goal.set_cons-requires-clause-free
set_cons-requires-clause-free c = all_free c.args.signature.now c.args.sort c.args.places.now c.requires.places c.in_ok-cons.cons.items
    (subst (λ (l : List FunId). EachPair (λ p i. slice_get l p ≡ Some i) c.args.places.now c.in_ok-cons.cons.items) c.funs.ensures c.in_ok-cons.ensures)

pub returns : goal.returns
returns c =
    subst (GivesOne c.args.sort c.args.places.now c.args.signature.now) (sym c.set_cons.ensures)
    (gives c.in_ok-cons.cons.items (some_places c.args.places.now (λ none. (let told = sym ((Decides-eqb (length c.args.places.now) 0).1 none) ∙ (sym c.is_empty.ensures ∙ c.if-is_empty.false) in cc)))
    (bare_told c.args.signature.now c.args.sort c.is_bare.result c.requires.within c.if-not-is_bare.false c.is_bare.ensures)
    (subst (λ (l : List FunId). EachPair (λ p i. slice_get l p ≡ Some i) c.args.places.now c.in_ok-cons.cons.items) c.funs.ensures c.in_ok-cons.ensures))
