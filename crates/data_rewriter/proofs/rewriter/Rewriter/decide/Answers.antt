use Rattle.std.proofs.Common.{subst}
use Rattle.data_rewriter.specs.States.{Says}
use Rattle.data_rewriter.proofs.TruthAnswers.{decided_by, cost_by}
use Rattle.data_rewriter.specs.Charges.{AnswerCosts}
use Rattle.data_rewriter.proofs.rewriter.Rewriter.decide.Goals as goal

pub returns-in-Spent-clause-says : goal.returns-in-Spent-clause-says
returns-in-Spent-clause-says g c = λ sig own fits term.
    subst (Says sig own c.args.pool.now.trees c.normalise.new.pool.trees c.args.term c.args.fuel.now c.normalise.new.fuel) c.in-Spent.is (c.in_ok-normal.ensures.says sig own fits term)

pub returns-in-Done-clause-says : goal.returns-in-Done-clause-says
returns-in-Done-clause-says g c = λ sig own fits term.
    let said = subst (Says sig own c.args.pool.now.trees c.normalise.new.pool.trees c.args.term c.args.fuel.now c.normalise.new.fuel) c.in-Done.is (c.in_ok-normal.ensures.says sig own fits term) in
    let now = c.in_ok-normal.ensures.fits sig own fits term in
    decided_by sig own c.args.pool.now.trees c.normalise.new.pool.trees c.args.term c.in-Done.done c.args.fuel.now c.normalise.new.fuel c.truth_of.result said (c.truth_of.ensures sig now.tables.signs said.0)

-- ---- what was paid
pub returns-in-Spent-clause-costs : goal.returns-in-Spent-clause-costs
returns-in-Spent-clause-costs g c = λ sig own fits term.
    subst (AnswerCosts sig own c.args.pool.now.trees c.normalise.new.pool.trees c.args.self.now.normal_forms c.args.term c.args.fuel.now c.normalise.new.fuel) c.in-Spent.is (c.in_ok-normal.ensures.costs sig own fits term)

pub returns-in-Done-clause-costs : goal.returns-in-Done-clause-costs
returns-in-Done-clause-costs g c = λ sig own fits term.
    let said = subst (Says sig own c.args.pool.now.trees c.normalise.new.pool.trees c.args.term c.args.fuel.now c.normalise.new.fuel) c.in-Done.is (c.in_ok-normal.ensures.says sig own fits term) in
    let cost = subst (AnswerCosts sig own c.args.pool.now.trees c.normalise.new.pool.trees c.args.self.now.normal_forms c.args.term c.args.fuel.now c.normalise.new.fuel) c.in-Done.is (c.in_ok-normal.ensures.costs sig own fits term) in
    let now = c.in_ok-normal.ensures.fits sig own fits term in
    cost_by sig own c.args.pool.now.trees c.normalise.new.pool.trees c.args.self.now.normal_forms c.args.term c.in-Done.done c.args.fuel.now c.normalise.new.fuel c.truth_of.result cost (c.truth_of.ensures sig now.tables.signs said.0)
