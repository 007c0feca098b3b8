use Rattle.std.proofs.Common.{◌≡◌, ◌<◌, ◌≤◌, [], ◌∷◌, ◌++◌, List, length, take, get_or, refl, subst, ap, arith}
use Rattle.std.specs.Prelude.{option_map}
use Rattle.mcrl2_syntax.specs.declared.data_tree.DataTree.{DataTree}
use Rattle.mcrl2_syntax.specs.DataTrees.{plain_data}
use Rattle.mcrl2_syntax.specs.TreeWords.{IsDataOfWords}
use Rattle.data_theory.specs.Environments.{list_of}
use Rattle.sort_table.specs.BareData.{bare_data}
use Rattle.data_typing.specs.declared.flat_sorts.Base.TheVariants as bases
use Rattle.data_typing.specs.Contexts.{IsFlatOver}
use Rattle.data_typing.specs.FlatSorts.{flat_sort}
use Rattle.data_typing.specs.Meanings.{typing_in}
use Rattle.data_typing.specs.Typings.{checked}
use Rattle.data_typing.proofs.Contexts.{flat_stays}
use Rattle.sort_checker.specs.declared.process_tables.Parameter.{Parameter}
use Rattle.sort_checker.specs.CodeContexts.{no_terms, the_terms}
use Rattle.sort_checker.proofs.Adding.{goes_nowhere, goes_then, it_is_grown}
use Rattle.sort_checker.proofs.ReadLists.{at_one, at_mapped, take_whole, same_there}
use Rattle.sort_checker.proofs.WhatStays.{sees_data_after, nothing_found, the_found}
use Rattle.sort_checker.proofs.CallArguments.{Fill, sorts_of, typings_of, none_terms, terms_more, next_filled, argument_has_none, unequal_has_none}
use Rattle.sort_checker.proofs.argument_terms.argument_terms.Goals as goal

-- what is read of the parameters where there is none
abbrev no_parameter : Parameter
no_parameter = record { name = record { ref_ptr = (0, 0); now = [] }; number = record { 0 = 0 }; sort = record { depth = 0; base = bases.Bool } }

pub returns-then-arguments-parameters-clause-kept : goal.returns-then-arguments-parameters-clause-kept
returns-then-arguments-parameters-clause-kept c = goes_nowhere c.args.sig.now c.args.pool.now

pub returns-then-arguments-parameters-clause-means : goal.returns-then-arguments-parameters-clause-means
returns-then-arguments-parameters-clause-means c = λ v s sees.
    no_terms (ap (option_map list_of) (unequal_has_none v s c.args.parameters.now c.args.arguments.now (λ e. let never : ⊥ = omega (arith, e, c.if-arguments-parameters.true) in never)))

pub loop-i-init : goal.loop-i-init
loop-i-init c = record { kept = goes_nowhere c.args.sig.now c.args.pool.now; ready = c.requires.ready; means = λ v s sees. ([], refl, none_terms c.args.sig.now c.args.pool.now c.new-terms.result.items c.new-terms.ensures.items) }

pub wished_term-requires-clause-tree : goal.wished_term-requires-clause-tree
wished_term-requires-clause-tree c =
    let l : c.loop-i.i < length c.args.arguments.now = omega (arith, c.loop-i-test.true) in
    at_mapped IsDataOfWords plain_data c.args.arguments.now c.loop-i.i c.index-arguments-i.result l c.index-arguments-i.is c.requires.words

pub wished_term-requires-clause-wanted : goal.wished_term-requires-clause-wanted
wished_term-requires-clause-wanted c =
    let l : c.loop-i.i < length c.args.parameters.now = omega (arith, c.loop-i-test.true, c.if-arguments-parameters.false) in
    let p : Parameter = get_or c.args.parameters.now c.loop-i.i no_parameter in
    let is : p ≡ get_or c.args.parameters.now c.loop-i.i p = same_there c.args.parameters.now c.loop-i.i no_parameter p l in
    flat_stays c.args.sig.now c.loop-i.sig (it_is_grown c.args.sig.now c.loop-i.sig c.requires.ready.signature c.loop-i.invariant.kept.added) p.sort
    (at_one (λ (p : Parameter). IsFlatOver c.args.sig.now p.sort) c.args.parameters.now c.loop-i.i p l is c.requires.sorts)

pub returns-in_err-found-clause-kept : goal.returns-in_err-found-clause-kept
returns-in_err-found-clause-kept c = goes_then c.args.sig.now c.args.pool.now c.loop-i.sig c.loop-i.pool c.wished_term.new.sig c.wished_term.new.pool c.loop-i.invariant.kept c.wished_term.ensures.kept

pub returns-in_default-clause-kept : goal.returns-in_default-clause-kept
returns-in_default-clause-kept c = goes_then c.args.sig.now c.args.pool.now c.loop-i.sig c.loop-i.pool c.wished_term.new.sig c.wished_term.new.pool c.loop-i.invariant.kept c.wished_term.ensures.kept

pub returns-in_default-clause-means : goal.returns-in_default-clause-means
returns-in_default-clause-means c = λ v s sees.
    let l : c.loop-i.i < length c.args.parameters.now = omega (arith, c.loop-i-test.true, c.if-arguments-parameters.false) in
    let m : c.loop-i.i < length c.args.arguments.now = omega (arith, c.loop-i-test.true) in
    let e : DataTree = c.index-arguments-i.result in
    let p : Parameter = get_or c.args.parameters.now c.loop-i.i no_parameter in
    let is : p ≡ get_or c.args.parameters.now c.loop-i.i p = same_there c.args.parameters.now c.loop-i.i no_parameter p l in
    let there = sees_data_after c.args.sig.now c.args.pool.now c.loop-i.sig c.loop-i.pool c.requires.ready.signature c.loop-i.invariant.kept c.args.scope.now v s sees in
    no_terms (ap (option_map list_of) (argument_has_none v s c.args.parameters.now c.args.arguments.now c.loop-i.i p e l is m c.index-arguments-i.is
    (nothing_found c.wished_term.new.sig c.wished_term.new.pool (checked (flat_sort p.sort) (typing_in v s (bare_data (plain_data e)))) c.in_ok-found.found c.in_default.is (c.in_ok-found.ensures.means v s there))))

pub returns-in_err-push-clause-kept : goal.returns-in_err-push-clause-kept
returns-in_err-push-clause-kept c = goes_then c.args.sig.now c.args.pool.now c.loop-i.sig c.loop-i.pool c.wished_term.new.sig c.wished_term.new.pool c.loop-i.invariant.kept c.wished_term.ensures.kept

pub loop-i-preserved : goal.loop-i-preserved
loop-i-preserved c = record {
  kept = goes_then c.args.sig.now c.args.pool.now c.loop-i.sig c.loop-i.pool c.wished_term.new.sig c.wished_term.new.pool c.loop-i.invariant.kept c.wished_term.ensures.kept;
  ready = c.in_ok-found.ensures.ready;
  means = λ v s sees.
      let l : c.loop-i.i < length c.args.parameters.now = omega (arith, c.loop-i-test.true, c.if-arguments-parameters.false) in
      let m : c.loop-i.i < length c.args.arguments.now = omega (arith, c.loop-i-test.true) in
      let e : DataTree = c.index-arguments-i.result in
      let p : Parameter = get_or c.args.parameters.now c.loop-i.i no_parameter in
      let is : p ≡ get_or c.args.parameters.now c.loop-i.i p = same_there c.args.parameters.now c.loop-i.i no_parameter p l in
      let there = sees_data_after c.args.sig.now c.args.pool.now c.loop-i.sig c.loop-i.pool c.requires.ready.signature c.loop-i.invariant.kept c.args.scope.now v s sees in
      let so_far = c.loop-i.invariant.means v s sees in
      let one = the_found c.wished_term.new.sig c.wished_term.new.pool (checked (flat_sort p.sort) (typing_in v s (bare_data (plain_data e)))) c.in_ok-found.found c.in-Some.term c.in-Some.is (c.in_ok-found.ensures.means v s there) in (
        so_far.0 ++ one.0 ∷ [],
        next_filled v s c.args.parameters.now c.args.arguments.now c.loop-i.i p e l is m c.index-arguments-i.is so_far.0 one.0 so_far.1 one.1,
        terms_more c.loop-i.sig c.loop-i.pool c.wished_term.new.sig c.wished_term.new.pool c.wished_term.ensures.kept c.loop-i.terms.items c.push.new.self.items so_far.0 c.in-Some.term one.0 c.in_ok-push.ensures.items so_far.2 one.2,
      );
}

pub returns-clause-means : goal.returns-clause-means
returns-clause-means c = λ v s sees.
    let m : length c.args.arguments.now ≤ c.loop-i.i = omega (arith, c.loop-i-test.false) in
    let l : length c.args.parameters.now ≤ c.loop-i.i = omega (arith, c.loop-i-test.false, c.if-arguments-parameters.false) in
    let so_far = c.loop-i.invariant.means v s sees in
    the_terms so_far.0
    (subst (λ (ps : List Parameter). Fill checked (sorts_of ps) (typings_of v s c.args.arguments.now) so_far.0) (take_whole c.loop-i.i c.args.parameters.now l)
    (subst (λ (es : List DataTree). Fill checked (sorts_of (take c.loop-i.i c.args.parameters.now)) (typings_of v s es) so_far.0) (take_whole c.loop-i.i c.args.arguments.now m) so_far.1))
    so_far.2
