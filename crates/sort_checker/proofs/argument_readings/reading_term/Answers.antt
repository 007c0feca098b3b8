use Rattle.std.proofs.Common.{subst}
use Rattle.std.specs.Prelude.{IfSome}
use Rattle.term_pool.specs.HeadTrees.{IsIn}
use Rattle.data_typing.specs.CodeSteps.{wish_of}
use Rattle.data_typing.specs.Making.{wished}
use Rattle.sort_checker.proofs.Adding.{of_lists, lists_go_on}
use Rattle.sort_checker.proofs.WhatStays.{ready_on, wished_is}
use Rattle.sort_checker.proofs.argument_readings.reading_term.Goals as goal

pub returns-in_err-term-clause-kept : goal.returns-in_err-term-clause-kept
returns-in_err-term-clause-kept c = lists_go_on c.args.sig.now c.args.pool.now c.term_of.new.sig c.term_of.new.pool c.term_of.ensures.added c.term_of.ensures.kept c.term_of.ensures.constants

pub returns-clause-kept : goal.returns-clause-kept
returns-clause-kept c = lists_go_on c.args.sig.now c.args.pool.now c.term_of.new.sig c.term_of.new.pool c.term_of.ensures.added c.term_of.ensures.kept c.term_of.ensures.constants

pub returns-clause-ready : goal.returns-clause-ready
returns-clause-ready c = λ bs ready.
    ready_on c.args.sig.now c.args.pool.now c.args.tables.now bs c.term_of.new.sig c.term_of.new.pool c.term_of.new.tables ready (of_lists c.args.sig.now c.term_of.new.sig c.term_of.ensures.added) c.in_ok-term.ensures.tables c.in_ok-term.ensures.trees

pub returns-clause-means : goal.returns-clause-means
returns-clause-means c = λ t is.
    let ready =
    ready_on c.args.sig.now c.args.pool.now c.args.tables.now c.requires.ready.0 c.term_of.new.sig c.term_of.new.pool c.term_of.new.tables c.requires.ready.1 (of_lists c.args.sig.now c.term_of.new.sig c.term_of.ensures.added) c.in_ok-term.ensures.tables
    c.in_ok-term.ensures.trees in
    wished_is c.term_of.new.sig c.term_of.new.pool ready.signature ready.trees (wished (wish_of c.args.wanted) t) c.in_ok-term.term (c.in_ok-term.ensures.means t is) (λ id e. subst (λ o. IfSome o (IsIn c.term_of.new.pool.trees)) e c.in_ok-term.ensures.within)
