use Rattle.std.proofs.Common.{◌<◌, List, sym, subst, arith}
use Rattle.std.proofs.lemmas.List.Elements.{All-weaker}
use Rattle.term_pool.specs.HeadTrees.{IsIn}
use Rattle.std.specs.List.{All}
use Rattle.data_theory.specs.declared.ids.TermId.{TermId}
use Rattle.data_theory.specs.Terms.{application}
use Rattle.data_theory.specs.IdTerms.{symbol_under}
use Rattle.data_rewriter.specs.Standing.{IsTerm, listed_at, terms_of}
use Rattle.data_rewriter.specs.Views.{IsView}
use Rattle.data_rewriter.proofs.Standings.{call_at}
use Rattle.data_rewriter.proofs.views.view_of.Goals as goal

pub returns-in-Fun-clause-shown : goal.returns-in-Fun-clause-shown
returns-in-Fun-clause-shown c = λ sig signs term.
    let call = call_at sig c.args.pool.now.trees c.args.term c.in-Fun.fun c.node-node.result.now.head c.node-node.result.now.args.items c.in-Fun.is c.node-node.ensures.tree c.node-node.ensures.below term in
    let args : All (IsTerm sig c.args.pool.now.trees) c.as_slice.result.now = subst (All (IsTerm sig c.args.pool.now.trees)) (sym c.as_slice.ensures.value) call.arguments in
    let shown = c.call_view.ensures.shown sig c.args.pool.now.trees signs call.inside args in
    let listed = subst (λ (ids : List TermId). IsView sig c.args.pool.now.trees (application (symbol_under sig c.in-Fun.fun) (terms_of (listed_at sig c.args.pool.now.trees ids))) c.call_view.result) c.as_slice.ensures.value shown in
    subst (λ t. IsView sig c.args.pool.now.trees t c.call_view.result) (sym call.is) listed

pub returns-in-Fun-clause-inside : goal.returns-in-Fun-clause-inside
returns-in-Fun-clause-inside c =
    let i = c.requires in
    let inside : All (IsIn c.args.pool.now.trees) c.node-node.result.now.args.items = All-weaker (λ (a : TermId). a.0 < c.args.term.0) (IsIn c.args.pool.now.trees) (λ a l. omega (arith, l, i)) c.node-node.result.now.args.items c.node-node.ensures.below in
    c.call_view.ensures.inside c.args.pool.now.trees (subst (All (IsIn c.args.pool.now.trees)) (sym c.as_slice.ensures.value) inside)
