use Rattle.std.proofs.Common.{◌≡◌, ◌<◌, ◌≤◌, List, [], ◌∷◌, ◌++◌, length, map, take, get_or, sym, subst, ap, ◌∙◌, arith}
use Rattle.std.proofs.lemmas.Option.{same_Some}
use Rattle.data_theory.specs.Terms.{Term}
use Rattle.data_typing.specs.declared.flat_sorts.Base.TheVariants as bases
use Rattle.data_typing.specs.declared.flat_sorts.FlatSort.{FlatSort}
use Rattle.data_typing.specs.CodeSteps.{wish_of}
use Rattle.data_typing.specs.Contexts.{IsFlatOver}
use Rattle.data_typing.specs.Making.{wished}
use Rattle.data_typing.proofs.Contexts.{flat_stays, read_stays, reading_stays}
use Rattle.sort_checker.specs.ElaboratedParts.{AreTerms}
use Rattle.sort_checker.specs.TypedTrees.{how_of}
use Rattle.sort_checker.proofs.Adding.{goes_nowhere, goes_then, it_is_grown}
use Rattle.sort_checker.proofs.CallArguments.{none_terms, terms_more}
use Rattle.sort_checker.proofs.ReadLists.{at_one, take_whole, same_there}
use Rattle.sort_checker.proofs.ReadTerms.{as_many, none_more, term_here, one_term_more}
use Rattle.sort_checker.proofs.WhatStays.{some_is_found, the_found}
use Rattle.sort_checker.proofs.argument_readings.terms_at.Goals as goal

-- what is read of the sorts where there is none
abbrev no_sort : FlatSort
no_sort = record { depth = 0; base = bases.Bool }

pub loop-i-init : goal.loop-i-init
loop-i-init c = record { kept = goes_nowhere c.args.sig.now c.args.pool.now; ready = λ bs ready. ready; means = λ ts us read have. none_terms c.args.sig.now c.args.pool.now c.new-terms.result.items c.new-terms.ensures.items }

pub bounds-sorts-i : goal.bounds-sorts-i
bounds-sorts-i c =
    let fit = c.requires.fit in
    let same = as_many (how_of c.args.way) c.args.sig.now c.args.readings.now fit.0 c.args.sorts.now fit.2 fit.1 fit.3 in
    omega (arith, c.loop-i-test.true, same)

pub reading_term-requires-clause-ready : goal.reading_term-requires-clause-ready
reading_term-requires-clause-ready c = (c.requires.ready.0, c.loop-i.invariant.ready c.requires.ready.0 c.requires.ready.1)

pub reading_term-requires-clause-reading : goal.reading_term-requires-clause-reading
reading_term-requires-clause-reading c =
    let g = c.args.sig.now in
    let fit = c.requires.fit in
    let l : c.loop-i.i < length c.args.readings.now = omega (arith, c.loop-i-test.true) in
    let same = as_many (how_of c.args.way) g c.args.readings.now fit.0 c.args.sorts.now fit.2 fit.1 fit.3 in
    let f : FlatSort = get_or c.args.sorts.now c.loop-i.i no_sort in
    let here = term_here (how_of c.args.way) g c.args.readings.now fit.0 c.args.sorts.now fit.2 fit.1 fit.3 c.loop-i.i c.index-readings-i.result f l c.index-readings-i.is (same_there c.args.sorts.now c.loop-i.i no_sort f (omega (arith, l, same))) in
    read_stays g c.loop-i.sig c.requires.ready.1.signature.table (it_is_grown g c.loop-i.sig c.requires.ready.1.signature c.loop-i.invariant.kept.added) c.index-readings-i.result here.read.over

pub reading_term-requires-clause-wanted : goal.reading_term-requires-clause-wanted
reading_term-requires-clause-wanted c =
    let g = c.args.sig.now in
    let fit = c.requires.fit in
    let l : c.loop-i.i < length c.args.readings.now = omega (arith, c.loop-i-test.true) in
    let same = as_many (how_of c.args.way) g c.args.readings.now fit.0 c.args.sorts.now fit.2 fit.1 fit.3 in
    let m : c.loop-i.i < length c.args.sorts.now = omega (arith, l, same) in
    let f : FlatSort = get_or c.args.sorts.now c.loop-i.i no_sort in
    c.wanted_in-wanted.ensures.over c.loop-i.sig
    (flat_stays g c.loop-i.sig (it_is_grown g c.loop-i.sig c.requires.ready.1.signature c.loop-i.invariant.kept.added) f (at_one (IsFlatOver g) c.args.sorts.now c.loop-i.i f m (same_there c.args.sorts.now c.loop-i.i no_sort f m) c.requires.sorts))

pub returns-in_err-term-clause-kept : goal.returns-in_err-term-clause-kept
returns-in_err-term-clause-kept c = goes_then c.args.sig.now c.args.pool.now c.loop-i.sig c.loop-i.pool c.reading_term.new.sig c.reading_term.new.pool c.loop-i.invariant.kept c.reading_term.ensures.kept

pub unreachable-requires : goal.unreachable-requires
unreachable-requires c =
    let g = c.args.sig.now in
    let fit = c.requires.fit in
    let l : c.loop-i.i < length c.args.readings.now = omega (arith, c.loop-i-test.true) in
    let same = as_many (how_of c.args.way) g c.args.readings.now fit.0 c.args.sorts.now fit.2 fit.1 fit.3 in
    let f : FlatSort = get_or c.args.sorts.now c.loop-i.i no_sort in
    let here = term_here (how_of c.args.way) g c.args.readings.now fit.0 c.args.sorts.now fit.2 fit.1 fit.3 c.loop-i.i c.index-readings-i.result f l c.index-readings-i.is (same_there c.args.sorts.now c.loop-i.i no_sort f (omega (arith, l, same))) in
    some_is_found c.reading_term.new.sig c.reading_term.new.pool (wished (wish_of c.wanted_in-wanted.result) here.typing) here.term (c.wanted_in-wanted.ensures.wished here.typing here.term here.has) c.in_ok-term.field-0 c.in_default.is
    (c.in_ok-term.ensures.means here.typing
    (reading_stays g c.loop-i.sig c.requires.ready.1.signature.table (it_is_grown g c.loop-i.sig c.requires.ready.1.signature c.loop-i.invariant.kept.added) c.index-readings-i.result here.typing here.read))

pub returns-in_err-push-clause-kept : goal.returns-in_err-push-clause-kept
returns-in_err-push-clause-kept c = goes_then c.args.sig.now c.args.pool.now c.loop-i.sig c.loop-i.pool c.reading_term.new.sig c.reading_term.new.pool c.loop-i.invariant.kept c.reading_term.ensures.kept

pub loop-i-preserved : goal.loop-i-preserved
loop-i-preserved c = record {
  kept = goes_then c.args.sig.now c.args.pool.now c.loop-i.sig c.loop-i.pool c.reading_term.new.sig c.reading_term.new.pool c.loop-i.invariant.kept c.reading_term.ensures.kept;
  ready = λ bs ready. c.in_ok-term.ensures.ready bs (c.loop-i.invariant.ready bs ready);
  means = λ ts us read have.
      let g = c.args.sig.now in
      let l : c.loop-i.i < length c.args.readings.now = omega (arith, c.loop-i-test.true) in
      let same = as_many (how_of c.args.way) g c.args.readings.now ts c.args.sorts.now us read have in
      let f : FlatSort = get_or c.args.sorts.now c.loop-i.i no_sort in
      let here = term_here (how_of c.args.way) g c.args.readings.now ts c.args.sorts.now us read have c.loop-i.i c.index-readings-i.result f l c.index-readings-i.is (same_there c.args.sorts.now c.loop-i.i no_sort f (omega (arith, l, same))) in
      let one = the_found c.reading_term.new.sig c.reading_term.new.pool (wished (wish_of c.wanted_in-wanted.result) here.typing) c.in_ok-term.field-0 c.in-Some.term c.in-Some.is
      (c.in_ok-term.ensures.means here.typing
      (reading_stays g c.loop-i.sig c.requires.ready.1.signature.table (it_is_grown g c.loop-i.sig c.requires.ready.1.signature c.loop-i.invariant.kept.added) c.index-readings-i.result here.typing here.read)) in
      let its : one.0 ≡ here.term = same_Some one.0 here.term (sym one.1 ∙ c.wanted_in-wanted.ensures.wished here.typing here.term here.has) in
      subst (λ (vs : List Term). AreTerms c.reading_term.new.sig c.reading_term.new.pool c.push.new.self.items vs) (ap (λ (u : Term). take c.loop-i.i us ++ u ∷ []) its ∙ one_term_more us c.loop-i.i here.term here.inside here.at)
      (terms_more c.loop-i.sig c.loop-i.pool c.reading_term.new.sig c.reading_term.new.pool c.reading_term.ensures.kept c.loop-i.terms.items c.push.new.self.items (take c.loop-i.i us) c.in-Some.term one.0 c.in_ok-push.ensures.items (c.loop-i.invariant.means ts us read have) one.2);
}

pub returns-clause-means : goal.returns-clause-means
returns-clause-means c = λ ts us read have.
    let many = none_more (how_of c.args.way) c.args.sig.now c.args.readings.now ts c.args.sorts.now us read have in
    let l : length us ≤ c.loop-i.i = omega (arith, c.loop-i-test.false, many) in
    subst (λ (vs : List Term). AreTerms c.loop-i.sig c.loop-i.pool c.loop-i.terms.items vs) (take_whole c.loop-i.i us l) (c.loop-i.invariant.means ts us read have)
