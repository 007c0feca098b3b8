use Rattle.std.proofs.Common.{sym, ◌∙◌}
use Rattle.term_pool.proofs.NodeTrees.{extends_itself, extends_on}
use Rattle.data_rewriter.proofs.Standings.{stands_still_for}
use Rattle.data_rewriter.proofs.StateMoves.{tables_kept}
use Rattle.data_rewriter.proofs.WrittenRules.{put_stands}
use Rattle.data_rewriter.proofs.Deciding.{told, denied}
use Rattle.data_rewriter.proofs.equations.instance.Goals as goal

pub returns-then-is_truth-clause-made : goal.returns-then-is_truth-clause-made
returns-then-is_truth-clause-made c = λ sig own all rule found.
    let table = all.signs.signature.table in
    let first = put_stands sig table c.args.pool.now.trees c.args.pool.now.trees c.subst.new.self.trees (extends_itself c.args.pool.now.trees) c.args.found.now found c.args.rule.cond rule.condition c.in_ok-cond.cond c.in_ok-cond.ensures.within c.in_ok-cond.ensures.tree in
    let cond = stands_still_for sig c.subst.new.self.trees c.subst-2.new.self.trees c.in_ok-right.ensures.kept c.in_ok-cond.cond _ first in
    let right = put_stands sig table c.args.pool.now.trees c.subst.new.self.trees c.subst-2.new.self.trees c.in_ok-cond.ensures.kept c.args.found.now found c.args.rule.right rule.right c.in_ok-right.right c.in_ok-right.ensures.within c.in_ok-right.ensures.tree in
    let now = tables_kept c.args.tables.now sig own c.args.pool.now.trees c.subst-2.new.self.trees (extends_on c.args.pool.now.trees c.subst.new.self.trees c.subst-2.new.self.trees c.in_ok-cond.ensures.kept c.in_ok-right.ensures.kept) all in
    (right, sym cond.is ∙ told (c.is_truth.ensures sig own now cond.term) c.if-is_truth.true)

pub returns-clause-made : goal.returns-clause-made
returns-clause-made c = λ sig own all rule found.
    let table = all.signs.signature.table in
    let first = put_stands sig table c.args.pool.now.trees c.args.pool.now.trees c.subst.new.self.trees (extends_itself c.args.pool.now.trees) c.args.found.now found c.args.rule.cond rule.condition c.in_ok-cond.cond c.in_ok-cond.ensures.within c.in_ok-cond.ensures.tree in
    let cond = stands_still_for sig c.subst.new.self.trees c.subst-2.new.self.trees c.in_ok-right.ensures.kept c.in_ok-cond.cond _ first in
    let right = put_stands sig table c.args.pool.now.trees c.subst.new.self.trees c.subst-2.new.self.trees c.in_ok-cond.ensures.kept c.args.found.now found c.args.rule.right rule.right c.in_ok-right.right c.in_ok-right.ensures.within c.in_ok-right.ensures.tree in
    let now = tables_kept c.args.tables.now sig own c.args.pool.now.trees c.subst-2.new.self.trees (extends_on c.args.pool.now.trees c.subst.new.self.trees c.subst-2.new.self.trees c.in_ok-cond.ensures.kept c.in_ok-right.ensures.kept) all in
    (right, (cond, (λ e. denied (c.is_truth.ensures sig own now cond.term) c.if-is_truth.false (cond.is ∙ e))))
