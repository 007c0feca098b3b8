use Rattle.std.proofs.Common.{sym, ◌∙◌}
use Rattle.term_pool.specs.HeadTrees.{trees_at}
use Rattle.lps_core.specs.TreeSummands.{numbers_of}
use Rattle.lps_sumelm.proofs.SolutionsInCode.{in_itself, given}
use Rattle.lps_sumelm.proofs.solutions.side.Goals as goal

pub returns-then-branch-clause-gives : goal.returns-then-branch-clause-gives
returns-then-branch-clause-gives c = λ g.
    in_itself g c.args.pool.now.trees (numbers_of c.args.sums.now) c.args.left c.args.right c.node.result.now.head c.in-Var.var (trees_at c.args.pool.now.trees c.node.result.now.args.items) c.in-Var.is c.node.ensures.tree c.in_ok-occurs.field-0 c.in_ok-occurs.ensures c.if-branch.true

pub returns-clause-gives : goal.returns-clause-gives
returns-clause-gives c = λ g.
    given g c.args.pool.now.trees (numbers_of c.args.sums.now) c.args.left c.args.right c.node.result.now.head c.in-Var.var (trees_at c.args.pool.now.trees c.node.result.now.args.items) c.in-Var.is c.node.ensures.tree (sym c.is_sum.ensures ∙ c.if-not-is_sum.false) c.in_ok-occurs.field-0 c.in_ok-occurs.ensures
    c.if-branch.false
