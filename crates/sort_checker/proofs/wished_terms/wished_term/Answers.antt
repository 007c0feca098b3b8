use Rattle.std.proofs.Common.{sym, subst, ap₂, ◌∙◌}
use Rattle.std.specs.Prelude.{IfSome}
use Rattle.term_pool.specs.HeadTrees.{IsIn}
use Rattle.mcrl2_syntax.specs.DataTrees.{plain_data}
use Rattle.sort_table.specs.BareData.{bare_data}
use Rattle.data_typing.specs.CodeSteps.{wish_of}
use Rattle.data_typing.specs.Making.{wished}
use Rattle.data_typing.specs.Meanings.{typing_in}
use Rattle.data_typing.proofs.ReadableWords.{data_are_readable}
use Rattle.sort_checker.proofs.Adding.{of_lists, lists_go_on}
use Rattle.sort_checker.proofs.WhatStays.{ready_on, wished_is}
use Rattle.sort_checker.proofs.wished_terms.wished_term.Goals as goal

pub elaborate-requires-clause-tree : goal.elaborate-requires-clause-tree
elaborate-requires-clause-tree c = data_are_readable (plain_data c.args.tree.now) c.requires.tree

pub returns-in_err-term-clause-kept : goal.returns-in_err-term-clause-kept
returns-in_err-term-clause-kept c = lists_go_on c.args.sig.now c.args.pool.now c.elaborate.new.sig c.elaborate.new.pool c.elaborate.ensures.added c.elaborate.ensures.kept c.elaborate.ensures.constants

pub returns-clause-kept : goal.returns-clause-kept
returns-clause-kept c = lists_go_on c.args.sig.now c.args.pool.now c.elaborate.new.sig c.elaborate.new.pool c.elaborate.ensures.added c.elaborate.ensures.kept c.elaborate.ensures.constants

pub returns-clause-ready : goal.returns-clause-ready
returns-clause-ready c =
    ready_on c.args.sig.now c.args.pool.now c.args.tables.now c.args.scope.now c.elaborate.new.sig c.elaborate.new.pool c.elaborate.new.tables c.requires.ready (of_lists c.args.sig.now c.elaborate.new.sig c.elaborate.ensures.added)
    c.in_ok-term.ensures.tables c.in_ok-term.ensures.trees

pub returns-clause-means : goal.returns-clause-means
returns-clause-means c = λ v variables sees.
    let ready =
    ready_on c.args.sig.now c.args.pool.now c.args.tables.now c.args.scope.now c.elaborate.new.sig c.elaborate.new.pool c.elaborate.new.tables c.requires.ready (of_lists c.args.sig.now c.elaborate.new.sig c.elaborate.ensures.added)
    c.in_ok-term.ensures.tables c.in_ok-term.ensures.trees in
    wished_is c.elaborate.new.sig c.elaborate.new.pool ready.signature ready.trees (wished (wish_of c.args.wanted) (typing_in v variables (bare_data (plain_data c.args.tree.now)))) c.in_ok-term.term
    (c.in_ok-term.ensures.means ∙ sym (ap₂ (λ w s. wished (wish_of c.args.wanted) (typing_in w s (bare_data (plain_data c.args.tree.now)))) sees.vocabulary sees.variables))
    (λ id e. subst (λ o. IfSome o (IsIn c.elaborate.new.pool.trees)) e c.in_ok-term.ensures.within)
