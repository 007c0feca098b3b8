use Rattle.std.proofs.Common.{◌≡◌, true, false, [], if◌then◌else◌, sym, subst, ap, ap₂, ◌∙◌}
use Rattle.std.specs.Prelude.{Some, None, option_map, option_and_then}
use Rattle.data_theory.specs.Terms.{Term, variable}
use Rattle.data_theory.specs.IdTerms.{term_under}
use Rattle.term_pool.specs.declared.terms.Head.TheVariants as heads
use Rattle.term_pool.specs.HeadTrees.{head_tree}
use Rattle.data_typing.specs.CodeWords.{scope_of}
use Rattle.data_typing.specs.FlatSorts.{flat_sort}
use Rattle.data_typing.specs.Meanings.{Scope}
use Rattle.data_typing.proofs.TreesWithin.{added_within}
use Rattle.sort_checker.specs.Additions.{nothing}
use Rattle.sort_checker.specs.CodeContexts.{parameter_of, no_term, the_term, IsWished}
use Rattle.sort_checker.specs.ElaboratedParts.{IsTerm}
use Rattle.sort_checker.specs.PartTypings.{left_out}
use Rattle.sort_checker.proofs.Adding.{goes_nowhere}
use Rattle.sort_checker.proofs.AssignedLists.{left_out_none, left_out_other, left_out_variable}
use Rattle.sort_checker.proofs.WhatStays.{ready_on, it_is_a_term}
use Rattle.sort_checker.proofs.assigned_terms.left_out_term.Goals as goal

pub returns-in_default-clause-kept : goal.returns-in_default-clause-kept
returns-in_default-clause-kept c = goes_nowhere c.args.sig.now c.args.pool.now

pub returns-in_default-clause-means : goal.returns-in_default-clause-means
returns-in_default-clause-means c = λ v variables sees.
    no_term (ap (λ (s : Scope). left_out s (parameter_of c.args.parameter.now)) sees.variables
    ∙ left_out_none c.args.sig.now c.next_sort.ensures.stands c.args.parameter.now c.requires.parameter c.args.scope.now c.requires.ready.1.scope c.find.result c.find.ensures c.in_default.is)

pub returns-then-not-is-clause-kept : goal.returns-then-not-is-clause-kept
returns-then-not-is-clause-kept c = goes_nowhere c.args.sig.now c.args.pool.now

pub returns-then-not-is-clause-means : goal.returns-then-not-is-clause-means
returns-then-not-is-clause-means c = λ v variables sees.
    no_term (ap (λ (s : Scope). left_out s (parameter_of c.args.parameter.now)) sees.variables
    ∙ left_out_other c.args.sig.now c.next_sort.ensures.stands c.args.parameter.now c.requires.parameter c.args.scope.now c.requires.ready.1.scope c.find.result c.find.ensures c.in-Some.bound c.in-Some.is (sym c.is.ensures ∙ c.if-not-is.true))

pub returns-in_err-term-clause-kept : goal.returns-in_err-term-clause-kept
returns-in_err-term-clause-kept c = record { added = nothing; kept = c.intern.ensures.kept; constants = c.intern.ensures.constants }

pub returns-clause-kept : goal.returns-clause-kept
returns-clause-kept c = record { added = nothing; kept = c.intern.ensures.kept; constants = c.intern.ensures.constants }

pub returns-clause-ready : goal.returns-clause-ready
returns-clause-ready c = λ t ready.
    ready_on c.args.sig.now c.args.pool.now t c.args.scope.now c.args.sig.now c.intern.new.self t ready nothing ready.tables
    (added_within c.args.sig.now c.args.pool.now.trees c.intern.new.self.trees (head_tree (heads.Var c.in-Some.bound.var) []) c.in_ok-term.ensures.added tt)

pub returns-clause-means : goal.returns-clause-means
returns-clause-means c = λ v variables sees.
    let g = c.args.sig.now in
    let trees = added_within g c.args.pool.now.trees c.intern.new.self.trees (head_tree (heads.Var c.in-Some.bound.var) []) c.in_ok-term.ensures.added tt c.requires.ready.1.trees in
    let is = it_is_a_term g c.intern.new.self c.next_sort.ensures.stands trees c.in_ok-term.term c.in_ok-term.ensures.within in
    the_term (variable c.in-Some.bound.var.0)
    (ap (λ (s : Scope). left_out s (parameter_of c.args.parameter.now)) sees.variables
    ∙ left_out_variable g c.next_sort.ensures.stands c.args.parameter.now c.requires.parameter c.args.scope.now c.requires.ready.1.scope c.find.result c.find.ensures c.in-Some.bound c.in-Some.is (sym c.is.ensures ∙ c.if-not-is.false))
    (subst (IsTerm g c.intern.new.self c.in_ok-term.term) (ap (term_under g) c.in_ok-term.ensures.tree) is)
