use Rattle.std.proofs.Common.{◌≡◌, ◌<◌, List, sym, subst, ap, ◌∙◌, arith}
use Rattle.std.specs.List.{All}
use Rattle.std.proofs.lemmas.List.Elements.{All-weaker}
use Rattle.data_theory.specs.declared.ids.TermId.{TermId}
use Rattle.term_pool.specs.HeadTrees.{IsIn}
use Rattle.data_rewriter.specs.Standing.{IsTerm, listed_at, terms_of}
use Rattle.data_rewriter.proofs.Standings.{arguments_are, all_arguments}
use Rattle.data_rewriter.proofs.making.arguments_of.Goals as goal

pub returns-clause-inside : goal.returns-clause-inside
returns-clause-inside c =
    let args : c.in_ok-args.args.items ≡ c.node.result.now.args.items = c.in_ok-args.ensures.items_if_clones_equal (λ x y e. e) ∙ c.as_slice.ensures.value in
    let i = c.requires in
    let inside : All (IsIn c.args.pool.now.trees) c.node.result.now.args.items = All-weaker (λ (a : TermId). a.0 < c.args.term.0) (IsIn c.args.pool.now.trees) (λ a l. omega (arith, l, i)) c.node.result.now.args.items c.node.ensures.below in
    subst (All (IsIn c.args.pool.now.trees)) (sym args) inside

pub returns-clause-are : goal.returns-clause-are
returns-clause-are c = λ sig f us term is.
    let args : c.in_ok-args.args.items ≡ c.node.result.now.args.items = c.in_ok-args.ensures.items_if_clones_equal (λ x y e. e) ∙ c.as_slice.ensures.value in
    let all = all_arguments sig c.args.pool.now.trees c.args.term c.node.result.now.head c.node.result.now.args.items f us c.node.ensures.tree c.node.ensures.below term is in
    let same = arguments_are sig c.args.pool.now.trees c.args.term c.node.result.now.head c.node.result.now.args.items f us c.node.ensures.tree is in
    (subst (All (IsTerm sig c.args.pool.now.trees)) (sym args) all, same ∙ ap (λ (l : List TermId). terms_of (listed_at sig c.args.pool.now.trees l)) (sym args))
