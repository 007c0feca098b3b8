use Rattle.std.proofs.Common.{refl}
use Rattle.data_rewriter.proofs.RootMoves.{enters_application, enters_numeral}
use Rattle.data_rewriter.proofs.Standings.{called}
use Rattle.data_rewriter.proofs.machine.enter_root.Goals as goal

pub returns-in-Fun-clause-root : goal.returns-in-Fun-clause-root
returns-in-Fun-clause-root c = λ sig table.
    enters_application sig table c.args.pool.now.trees c.intern.new.self.trees c.in_ok-root.root c.args.fun c.in-Fun.field-0 c.node.result.now.head c.args.args.now c.node.result.now.args.items c.in_ok-root.ensures.tree c.in-Fun.is c.node.ensures.tree

pub returns-in_default : goal.returns-in_default
returns-in_default c = record {
  kept = c.in_ok-root.ensures.kept;
  start = refl;
  within = c.in_ok-root.ensures.within;
  unspent = λ e. cc;
  over = λ sig table inside args. (called sig table c.args.pool.now.trees c.intern.new.self.trees c.in_ok-root.root c.args.fun c.args.args.now _ c.in_ok-root.ensures.within c.in_ok-root.ensures.tree (record { inside = inside; is = refl }) args).term.within;
  root = λ sig table. enters_numeral sig table c.args.pool.now.trees c.intern.new.self.trees c.in_ok-root.root c.args.fun c.node.result.now.head c.args.args.now _ c.in_ok-root.ensures.tree c.in_default.not-Fun c.node.ensures.tree;
}

pub returns-in-Fun-clause-over : goal.returns-in-Fun-clause-over
returns-in-Fun-clause-over c = λ sig table inside args. (called sig table c.args.pool.now.trees c.intern.new.self.trees c.in_ok-root.root c.args.fun c.args.args.now _ c.in_ok-root.ensures.within c.in_ok-root.ensures.tree (record { inside = inside; is = refl }) args).term.within
