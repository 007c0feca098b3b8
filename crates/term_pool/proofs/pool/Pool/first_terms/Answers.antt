use Rattle.std.proofs.Common.{◌∙◌}
use Rattle.term_pool.proofs.NodeTrees.{extends_on}
use Rattle.term_pool.proofs.MadeTerms.{making_none, making_all, next_ready, next_arguments, making_more}
use Rattle.term_pool.proofs.pool.Pool.first_terms.Goals as goal

pub loop-sort-init : goal.loop-sort-init
loop-sort-init c = making_none _ _ c.args.self.now c.args.sorts.now.keys _ c.new-made.result c.into_iter-sort-iterator.ensures.into_iter_gives.0

pub first_term-requires-clause-ready : goal.first_term-requires-clause-ready
first_term-requires-clause-ready c = next_ready _ _ _ _ _ _ _ _ _ c.in-Some.ensures.steps c.loop-sort.invariant c.requires.ready

pub first_term-requires-clause-arguments : goal.first_term-requires-clause-arguments
first_term-requires-clause-arguments c = next_arguments _ _ _ _ _ _ _ _ _ c.in-Some.ensures.steps c.loop-sort.invariant c.requires.ordered

pub returns-in_err-term-clause-kept : goal.returns-in_err-term-clause-kept
returns-in_err-term-clause-kept c = extends_on _ _ _ c.loop-sort.invariant.kept c.first_term.ensures.kept

pub returns-in_err-term-clause-constants : goal.returns-in_err-term-clause-constants
returns-in_err-term-clause-constants c = c.first_term.ensures.constants ∙ c.loop-sort.invariant.constants

pub loop-sort-preserved : goal.loop-sort-preserved
loop-sort-preserved c =
    making_more _ _ _ _ _ _ _ _ _ c.in-Some.ensures.steps c.loop-sort.invariant c.first_term.new.self c.in_ok-term.term c.insert.new.self c.first_term.ensures.kept c.first_term.ensures.constants c.in_ok-term.ensures.within c.in_ok-term.ensures.tree c.in_ok-insert.ensures.updates.0

pub returns-in_err-insert-clause-kept : goal.returns-in_err-insert-clause-kept
returns-in_err-insert-clause-kept c = extends_on _ _ _ c.loop-sort.invariant.kept c.first_term.ensures.kept

pub returns-in_err-insert-clause-constants : goal.returns-in_err-insert-clause-constants
returns-in_err-insert-clause-constants c = c.first_term.ensures.constants ∙ c.loop-sort.invariant.constants

pub returns-clause-kept : goal.returns-clause-kept
returns-clause-kept c = c.loop-sort.invariant.kept

pub returns-clause-constants : goal.returns-clause-constants
returns-clause-constants c = c.loop-sort.invariant.constants

pub returns-clause-made : goal.returns-clause-made
returns-clause-made c = making_all _ _ _ _ _ _ c.loop-sort.made c.in-None.ensures.steps.0 c.loop-sort.invariant
