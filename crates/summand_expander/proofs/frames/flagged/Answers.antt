use Rattle.summand_expander.proofs.Framing.{flagged_frame}
use Rattle.summand_expander.proofs.frames.flagged.Goals as goal

pub returns-clause-frame : goal.returns-clause-frame
returns-clause-frame c =
    flagged_frame c.args.pool.now.trees c.variable_term.new.pool.trees c.intern.new.self.trees c.intern-2.new.self.trees c.args.params.items c.args.flag c.in_ok-own.own c.in_ok-running.running c.in_ok-set.set c.in_ok-column.column.items c.in_ok-part.part.items c.in_ok-ended.ended.items
    c.in_ok-column.ensures c.in_ok-part.ensures c.in_ok-ended.ensures c.requires c.variable_term.ensures.kept c.intern.ensures.kept c.intern-2.ensures.kept c.in_ok-own.ensures.within c.in_ok-own.ensures.tree c.in_ok-running.ensures.within c.in_ok-running.ensures.tree c.in_ok-set.ensures.within c.in_ok-set.ensures.tree
