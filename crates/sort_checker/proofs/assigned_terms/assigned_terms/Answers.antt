use Rattle.std.proofs.Common.{◌≡◌, ◌<◌, ◌≤◌, ◌++◌, ◌∷◌, [], List, map, length, take, get_or, refl, sym, subst, ap, ◌∙◌, arith}
use Rattle.std.specs.Prelude.{Some, None}
use Rattle.std.specs.List.{AllByRecursion}
use Rattle.data_typing.specs.declared.flat_sorts.Base.TheVariants as bases
use Rattle.data_typing.proofs.Contexts.{flat_stays}
use Rattle.sort_table.specs.Expressions.{Name, Expression}
use Rattle.sort_table.specs.NamedLists.{first_named}
use Rattle.sort_checker.specs.declared.process_tables.Parameter.{Parameter}
use Rattle.sort_checker.specs.AssignedTrees.{assigned_value}
use Rattle.sort_checker.specs.CodeContexts.{parameter_of, IsParameterOver, no_terms, the_terms}
use Rattle.sort_checker.specs.PartTypings.{assigned_or, assigned_in}
use Rattle.sort_checker.proofs.Adding.{goes_nowhere, goes_then}
use Rattle.sort_checker.proofs.AssignedLists.{one_stands_for_none, next_assigned}
use Rattle.sort_checker.proofs.CallArguments.{none_terms, terms_more}
use Rattle.sort_checker.proofs.CallTables.{parameter_on}
use Rattle.sort_checker.proofs.ReadLists.{at_one, take_whole, same_there}
use Rattle.sort_checker.proofs.WhatStays.{sees_data_after, nothing_found, the_found}
use Rattle.sort_checker.proofs.assigned_terms.assigned_terms.Goals as goal

-- what is read of the parameters where there is none
abbrev no_parameter : Parameter
no_parameter = record { name = record { ref_ptr = (0, 0); now = [] }; number = record { 0 = 0 }; sort = record { depth = 0; base = bases.Bool } }

pub returns-in_err-places-clause-kept : goal.returns-in_err-places-clause-kept
returns-in_err-places-clause-kept c = goes_nowhere c.args.sig.now c.args.pool.now

pub loop-parameter-init : goal.loop-parameter-init
loop-parameter-init c = record { kept = goes_nowhere c.args.sig.now c.args.pool.now; ready = c.requires.ready; means = λ v s sees. ([], refl, none_terms c.args.sig.now c.args.pool.now c.new-terms.result.items c.new-terms.ensures.items) }

pub parameter_term-requires-clause-parameter : goal.parameter_term-requires-clause-parameter
parameter_term-requires-clause-parameter c =
    let l : c.loop-parameter.parameter-index < length c.args.parameters.now = omega (arith, c.loop-parameter-test.true) in
    let p : Parameter = get_or c.args.parameters.now c.loop-parameter.parameter-index no_parameter in
    parameter_on c.args.sig.now c.args.pool.now c.loop-parameter.sig c.loop-parameter.pool c.requires.ready.signature c.loop-parameter.invariant.kept p
    (at_one (IsParameterOver c.args.sig.now) c.args.parameters.now c.loop-parameter.parameter-index p l (same_there c.args.parameters.now c.loop-parameter.parameter-index no_parameter p l) c.requires.parameters)

pub returns-in_err-found-clause-kept : goal.returns-in_err-found-clause-kept
returns-in_err-found-clause-kept c = goes_then c.args.sig.now c.args.pool.now c.loop-parameter.sig c.loop-parameter.pool c.parameter_term.new.sig c.parameter_term.new.pool c.loop-parameter.invariant.kept c.parameter_term.ensures.kept

pub returns-in_default-clause-kept : goal.returns-in_default-clause-kept
returns-in_default-clause-kept c = goes_then c.args.sig.now c.args.pool.now c.loop-parameter.sig c.loop-parameter.pool c.parameter_term.new.sig c.parameter_term.new.pool c.loop-parameter.invariant.kept c.parameter_term.ensures.kept

pub returns-in_default-clause-means : goal.returns-in_default-clause-means
returns-in_default-clause-means c = λ v s sees.
    let ds = map assigned_value c.args.assignments.now in
    let l : c.loop-parameter.parameter-index < length c.args.parameters.now = omega (arith, c.loop-parameter-test.true) in
    let p : Parameter = get_or c.args.parameters.now c.loop-parameter.parameter-index no_parameter in
    let there = sees_data_after c.args.sig.now c.args.pool.now c.loop-parameter.sig c.loop-parameter.pool c.requires.ready.signature c.loop-parameter.invariant.kept c.args.scope.now v s sees in
    no_terms (one_stands_for_none v s ds c.args.parameters.now c.loop-parameter.parameter-index p l (same_there c.args.parameters.now c.loop-parameter.parameter-index no_parameter p l)
    (nothing_found c.parameter_term.new.sig c.parameter_term.new.pool (assigned_or v s (parameter_of p) (first_named p.name.now ds)) c.in_ok-found.found c.in_default.is (c.in_ok-found.ensures.means v s there)))

pub returns-in_err-push-clause-kept : goal.returns-in_err-push-clause-kept
returns-in_err-push-clause-kept c = goes_then c.args.sig.now c.args.pool.now c.loop-parameter.sig c.loop-parameter.pool c.parameter_term.new.sig c.parameter_term.new.pool c.loop-parameter.invariant.kept c.parameter_term.ensures.kept

pub loop-parameter-preserved : goal.loop-parameter-preserved
loop-parameter-preserved c = record {
  kept = goes_then c.args.sig.now c.args.pool.now c.loop-parameter.sig c.loop-parameter.pool c.parameter_term.new.sig c.parameter_term.new.pool c.loop-parameter.invariant.kept c.parameter_term.ensures.kept;
  ready = c.in_ok-found.ensures.ready;
  means = λ v s sees.
      let ds = map assigned_value c.args.assignments.now in
      let l : c.loop-parameter.parameter-index < length c.args.parameters.now = omega (arith, c.loop-parameter-test.true) in
      let p : Parameter = get_or c.args.parameters.now c.loop-parameter.parameter-index no_parameter in
      let there = sees_data_after c.args.sig.now c.args.pool.now c.loop-parameter.sig c.loop-parameter.pool c.requires.ready.signature c.loop-parameter.invariant.kept c.args.scope.now v s sees in
      let so_far = c.loop-parameter.invariant.means v s sees in
      let one = the_found c.parameter_term.new.sig c.parameter_term.new.pool (assigned_or v s (parameter_of p) (first_named p.name.now ds)) c.in_ok-found.found c.in-Some.term c.in-Some.is (c.in_ok-found.ensures.means v s there) in (
        so_far.0 ++ one.0 ∷ [],
        next_assigned v s ds c.args.parameters.now c.loop-parameter.parameter-index p l (same_there c.args.parameters.now c.loop-parameter.parameter-index no_parameter p l) so_far.0 one.0 so_far.1 one.1,
        terms_more c.loop-parameter.sig c.loop-parameter.pool c.parameter_term.new.sig c.parameter_term.new.pool c.parameter_term.ensures.kept c.loop-parameter.terms.items c.push.new.self.items so_far.0 c.in-Some.term one.0 c.in_ok-push.ensures.items so_far.2 one.2,
      );
}

pub returns-clause-means : goal.returns-clause-means
returns-clause-means c = λ v s sees.
    let ds = map assigned_value c.args.assignments.now in
    let l : length c.args.parameters.now ≤ c.loop-parameter.parameter-index = omega (arith, c.loop-parameter-test.false) in
    let so_far = c.loop-parameter.invariant.means v s sees in
    the_terms so_far.0 (subst (λ (ps : List Parameter). assigned_in v s (map parameter_of ps) ds ≡ Some so_far.0) (take_whole c.loop-parameter.parameter-index c.args.parameters.now l) so_far.1) so_far.2
