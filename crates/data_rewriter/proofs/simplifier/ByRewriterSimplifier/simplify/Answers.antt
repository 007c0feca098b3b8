use Rattle.data_rewriter.proofs.Simple.{done_is_simplified, done_is_reached, itself_is_simplified, spent_is_reached}
use Rattle.data_rewriter.proofs.simplifier.ByRewriterSimplifier.simplify.Goals as goal

pub returns-in-Done-clause-simplified : goal.returns-in-Done-clause-simplified
returns-in-Done-clause-simplified g c = λ sig own h term. done_is_simplified sig own c.args.pool.now.trees c.normalise.new.pool.trees c.args.term c.in-Done.done c.args.self.now.fuel c.normalise.new.fuel c.in_ok-done.field-0 h.0.tables.signs.signature c.in-Done.is (c.in_ok-done.ensures.says sig own h.0 term)

pub returns-in-Done-clause-reached : goal.returns-in-Done-clause-reached
returns-in-Done-clause-reached g c = λ sig own h term. done_is_reached sig own c.args.pool.now.trees c.normalise.new.pool.trees c.args.term c.in-Done.done c.args.self.now.fuel c.normalise.new.fuel c.args.self.now.fuel c.in_ok-done.field-0 c.in-Done.is (c.in_ok-done.ensures.says sig own h.0 term)

pub returns-in-Spent-clause-simplified : goal.returns-in-Spent-clause-simplified
returns-in-Spent-clause-simplified g c = λ sig own h term. itself_is_simplified sig own c.args.pool.now.trees c.normalise.new.pool.trees c.args.term c.in_ok-done.ensures.kept term

pub returns-in-Spent-clause-reached : goal.returns-in-Spent-clause-reached
returns-in-Spent-clause-reached g c = λ sig own h term. spent_is_reached sig own c.args.pool.now.trees c.normalise.new.pool.trees c.args.term c.in-Spent.field-0 c.args.self.now.fuel c.normalise.new.fuel c.in_ok-done.field-0 c.in_ok-done.ensures.kept term c.in-Spent.is (c.in_ok-done.ensures.says sig own h.0 term)
