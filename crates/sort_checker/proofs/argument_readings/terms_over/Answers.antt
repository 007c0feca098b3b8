use Rattle.std.proofs.Common.{◌<◌, ◌≤◌, ◌+◌, List, length, map, take, get_or, sym, subst, arith}
use Rattle.data_theory.specs.IdTerms.{variable_sorts}
use Rattle.data_theory.specs.Terms.{Term}
use Rattle.data_typing.specs.declared.flat_sorts.Base.TheVariants as bases
use Rattle.data_typing.specs.declared.flat_sorts.FlatSort.{FlatSort}
use Rattle.data_typing.specs.CodeSteps.{wish_of}
use Rattle.data_typing.specs.Contexts.{IsFlatOver}
use Rattle.data_typing.specs.FlatSorts.{flat_sort}
use Rattle.data_typing.specs.Making.{wished}
use Rattle.data_typing.specs.StandingSorts.{HasItsSortsIn}
use Rattle.data_typing.proofs.StepsWithin.{all_read}
use Rattle.sort_checker.specs.ElaboratedParts.{AreTerms}
use Rattle.sort_checker.specs.TypedLabels.{HaveTheirSortsIn}
use Rattle.sort_checker.specs.TypedTrees.{how_of}
use Rattle.sort_checker.proofs.Adding.{goes_nowhere, goes_then}
use Rattle.sort_checker.proofs.CallArguments.{none_terms, terms_more}
use Rattle.sort_checker.proofs.LabelsOver.{sorted_here, all_and_one, found_here, not_found_here, goes_over, ready_over}
use Rattle.sort_checker.proofs.ReadLists.{at_one, take_whole, same_there}
use Rattle.sort_checker.proofs.ReadTerms.{as_many, none_more, term_here, one_term_more}
use Rattle.sort_checker.proofs.argument_readings.terms_over.Goals as goal

-- what is read of the sorts where there is none
abbrev no_sort : FlatSort
no_sort = record { depth = 0; base = bases.Bool }

pub loop-i-init : goal.loop-i-init
loop-i-init c = record { kept = goes_nowhere c.args.sig.now c.args.pool.now; ready = λ bs ready. ready; means = λ ts us read have. (none_terms c.args.sig.now c.args.pool.now c.new-terms.result.items c.new-terms.ensures.items, tt) }

pub bounds-sorts-i : goal.bounds-sorts-i
bounds-sorts-i c =
    let fit = c.requires.fit in
    let same = as_many (how_of c.args.way) c.args.sig.now c.args.readings.now fit.0 c.args.sorts.now fit.2 fit.1 fit.3 in
    omega (arith, c.loop-i-test.true, same)

pub term_over-requires-clause-tables : goal.term_over-requires-clause-tables
term_over-requires-clause-tables c = c.requires.ready.1.tables

pub term_over-requires-clause-trees : goal.term_over-requires-clause-trees
term_over-requires-clause-trees c = (c.loop-i.invariant.ready c.requires.ready.0 c.requires.ready.1).trees

pub term_over-requires-clause-reading : goal.term_over-requires-clause-reading
term_over-requires-clause-reading c =
    let g = c.args.sig.now in
    let fit = c.requires.fit in
    let l : c.loop-i.i < length c.args.readings.now = omega (arith, c.loop-i-test.true) in
    let same = as_many (how_of c.args.way) g c.args.readings.now fit.0 c.args.sorts.now fit.2 fit.1 fit.3 in
    let f : FlatSort = get_or c.args.sorts.now c.loop-i.i no_sort in
    (term_here (how_of c.args.way) g c.args.readings.now fit.0 c.args.sorts.now fit.2 fit.1 fit.3 c.loop-i.i c.index-readings-i.result f l c.index-readings-i.is (same_there c.args.sorts.now c.loop-i.i no_sort f (omega (arith, l, same)))).read.over

pub term_over-requires-clause-wanted : goal.term_over-requires-clause-wanted
term_over-requires-clause-wanted c =
    let g = c.args.sig.now in
    let fit = c.requires.fit in
    let l : c.loop-i.i < length c.args.readings.now = omega (arith, c.loop-i-test.true) in
    let same = as_many (how_of c.args.way) g c.args.readings.now fit.0 c.args.sorts.now fit.2 fit.1 fit.3 in
    let m : c.loop-i.i < length c.args.sorts.now = omega (arith, l, same) in
    let f : FlatSort = get_or c.args.sorts.now c.loop-i.i no_sort in
    c.wanted_in-wanted.ensures.over g (at_one (IsFlatOver g) c.args.sorts.now c.loop-i.i f m (same_there c.args.sorts.now c.loop-i.i no_sort f m) c.requires.sorts)

pub returns-in_err-term-clause-kept : goal.returns-in_err-term-clause-kept
returns-in_err-term-clause-kept c =
    let g = c.args.sig.now in
    goes_then g c.args.pool.now g c.loop-i.pool g c.term_over.new.pool c.loop-i.invariant.kept (goes_over g c.loop-i.pool c.term_over.new.pool c.term_over.ensures.kept c.term_over.ensures.constants)

pub returns-in_default-clause-kept : goal.returns-in_default-clause-kept
returns-in_default-clause-kept c =
    let g = c.args.sig.now in
    goes_then g c.args.pool.now g c.loop-i.pool g c.term_over.new.pool c.loop-i.invariant.kept (goes_over g c.loop-i.pool c.term_over.new.pool c.term_over.ensures.kept c.term_over.ensures.constants)

pub returns-in_default-clause-ready : goal.returns-in_default-clause-ready
returns-in_default-clause-ready c = λ bs ready. ready_over c.args.sig.now c.loop-i.pool c.term_over.new.pool c.args.tables.now bs (c.loop-i.invariant.ready bs ready) c.in_ok-term.ensures.trees

pub returns-in_default-clause-means : goal.returns-in_default-clause-means
returns-in_default-clause-means c = λ ts us read have. λ sorted all.
    let g = c.args.sig.now in
    let l : c.loop-i.i < length c.args.readings.now = omega (arith, c.loop-i-test.true) in
    let same = as_many (how_of c.args.way) g c.args.readings.now ts c.args.sorts.now us read have in
    let f : FlatSort = get_or c.args.sorts.now c.loop-i.i no_sort in
    let here = term_here (how_of c.args.way) g c.args.readings.now ts c.args.sorts.now us read have c.loop-i.i c.index-readings-i.result f l c.index-readings-i.is (same_there c.args.sorts.now c.loop-i.i no_sort f (omega (arith, l, same))) in
    let one = sorted_here g (variable_sorts g) us (map flat_sort c.args.sorts.now) sorted c.loop-i.i here.term here.inside here.at in
    not_found_here g c.term_over.new.pool.trees (wished (wish_of c.wanted_in-wanted.result) here.typing) here.term (c.wanted_in-wanted.ensures.wished here.typing here.term here.has) c.in_ok-term.field-0 c.in_default.is
    (c.in_ok-term.ensures.means here.typing here.read) one.0 one.1 (all_read (HasItsSortsIn g) us c.loop-i.i here.term here.inside here.at all)

pub returns-in_err-push-clause-kept : goal.returns-in_err-push-clause-kept
returns-in_err-push-clause-kept c =
    let g = c.args.sig.now in
    goes_then g c.args.pool.now g c.loop-i.pool g c.term_over.new.pool c.loop-i.invariant.kept (goes_over g c.loop-i.pool c.term_over.new.pool c.term_over.ensures.kept c.term_over.ensures.constants)

pub loop-i-preserved : goal.loop-i-preserved
loop-i-preserved c = record {
  kept = let g = c.args.sig.now in goes_then g c.args.pool.now g c.loop-i.pool g c.term_over.new.pool c.loop-i.invariant.kept (goes_over g c.loop-i.pool c.term_over.new.pool c.term_over.ensures.kept c.term_over.ensures.constants);
  ready = λ bs ready. ready_over c.args.sig.now c.loop-i.pool c.term_over.new.pool c.args.tables.now bs (c.loop-i.invariant.ready bs ready) c.in_ok-term.ensures.trees;
  means = λ ts us read have.
      let g = c.args.sig.now in
      let l : c.loop-i.i < length c.args.readings.now = omega (arith, c.loop-i-test.true) in
      let same = as_many (how_of c.args.way) g c.args.readings.now ts c.args.sorts.now us read have in
      let f : FlatSort = get_or c.args.sorts.now c.loop-i.i no_sort in
      let here = term_here (how_of c.args.way) g c.args.readings.now ts c.args.sorts.now us read have c.loop-i.i c.index-readings-i.result f l c.index-readings-i.is (same_there c.args.sorts.now c.loop-i.i no_sort f (omega (arith, l, same))) in
      let one = found_here g c.term_over.new.pool c.requires.ready.1.signature c.in_ok-term.ensures.trees (wished (wish_of c.wanted_in-wanted.result) here.typing) here.term (c.wanted_in-wanted.ensures.wished here.typing here.term here.has)
      c.in_ok-term.field-0 c.in-Some.term c.in-Some.is (c.in_ok-term.ensures.means here.typing here.read) c.in_ok-term.ensures.within in
      let so_far = c.loop-i.invariant.means ts us read have in
      let more = one_term_more us c.loop-i.i here.term here.inside here.at in (
        subst (λ (vs : List Term). AreTerms g c.term_over.new.pool c.push.new.self.items vs) more
            (terms_more g c.loop-i.pool g c.term_over.new.pool (goes_over g c.loop-i.pool c.term_over.new.pool c.term_over.ensures.kept c.term_over.ensures.constants) c.loop-i.terms.items c.push.new.self.items (take c.loop-i.i us) c.in-Some.term here.term c.in_ok-push.ensures.items so_far.0 one.0),
        all_and_one (HasItsSortsIn g) (take c.loop-i.i us) (take (c.loop-i.i + 1) us) here.term (sym more) so_far.1 one.1,
      );
}

pub returns-clause-means : goal.returns-clause-means
returns-clause-means c = λ ts us read have.
    let many = none_more (how_of c.args.way) c.args.sig.now c.args.readings.now ts c.args.sorts.now us read have in
    let l : length us ≤ c.loop-i.i = omega (arith, c.loop-i-test.false, many) in
    let whole = take_whole c.loop-i.i us l in
    let so_far = c.loop-i.invariant.means ts us read have in
    (subst (λ (vs : List Term). AreTerms c.args.sig.now c.loop-i.pool c.loop-i.terms.items vs) whole so_far.0, subst (HaveTheirSortsIn c.args.sig.now) whole so_far.1)
