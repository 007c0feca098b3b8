use Rattle.std.proofs.Common.{subst}
use Rattle.sort_table.specs.Vocabularies.{Vocabulary}
use Rattle.sort_checker.specs.ScopedTrees.{variables_under}
use Rattle.sort_checker.specs.SoundTexts.{HaveSorts}
use Rattle.sort_checker.specs.ElaboratedTexts.{written_equation}
use Rattle.sort_checker.proofs.Adding.{goes_then}
use Rattle.sort_checker.proofs.ElaboratedSound.{bound_sorts}
use Rattle.sort_checker.proofs.EquationsHere.{it_is_here, condition_here, sides_here}
use Rattle.sort_checker.proofs.MadeEquations.{equation_made}
use Rattle.sort_checker.proofs.equation_elaborating.equation_of.Goals as goal

pub enter_section-requires-clause-sorts : goal.enter_section-requires-clause-sorts
enter_section-requires-clause-sorts c =
    let can = c.requires.elaborates in
    subst (λ (v : Vocabulary). HaveSorts v (variables_under c.args.before.now)) can.over (bound_sorts can.elaborate.0.1.binds)

pub condition_or_true-requires-clause-typed : goal.condition_or_true-requires-clause-typed
condition_or_true-requires-clause-typed c =
    condition_here c.enter_section.new.sig c.enter_section.new.scope (written_equation c.args.before.now c.args.tree.now)
    (it_is_here c.args.sig.now c.requires.ready.signature c.args.pool.now c.enter_section.new.sig c.enter_section.ensures.kept (written_equation c.args.before.now c.args.tree.now) c.requires.elaborates c.args.scope.now c.enter_section.new.scope c.in_ok-vars.vars.items c.requires.empty c.in_ok-vars.ensures.bound)

pub returns-in_err-cond-clause-kept : goal.returns-in_err-cond-clause-kept
returns-in_err-cond-clause-kept c = goes_then c.args.sig.now c.args.pool.now c.enter_section.new.sig c.args.pool.now c.condition_or_true.new.sig c.condition_or_true.new.pool c.enter_section.ensures.kept c.condition_or_true.ensures.kept

pub sides_of-requires-clause-typed : goal.sides_of-requires-clause-typed
sides_of-requires-clause-typed c =
    sides_here c.enter_section.new.sig c.enter_section.new.scope (written_equation c.args.before.now c.args.tree.now)
    (it_is_here c.args.sig.now c.requires.ready.signature c.args.pool.now c.enter_section.new.sig c.enter_section.ensures.kept (written_equation c.args.before.now c.args.tree.now) c.requires.elaborates c.args.scope.now c.enter_section.new.scope c.in_ok-vars.vars.items c.requires.empty c.in_ok-vars.ensures.bound)
    c.in_ok-vars.ensures.ready.signature c.args.pool.now c.condition_or_true.new.sig c.condition_or_true.new.pool c.condition_or_true.ensures.kept

pub returns-in_err-left-clause-kept : goal.returns-in_err-left-clause-kept
returns-in_err-left-clause-kept c =
    goes_then c.args.sig.now c.args.pool.now c.condition_or_true.new.sig c.condition_or_true.new.pool c.sides_of.new.sig c.sides_of.new.pool
    (goes_then c.args.sig.now c.args.pool.now c.enter_section.new.sig c.args.pool.now c.condition_or_true.new.sig c.condition_or_true.new.pool c.enter_section.ensures.kept c.condition_or_true.ensures.kept) c.sides_of.ensures.kept

pub returns-clause-kept : goal.returns-clause-kept
returns-clause-kept c =
    goes_then c.args.sig.now c.args.pool.now c.condition_or_true.new.sig c.condition_or_true.new.pool c.sides_of.new.sig c.sides_of.new.pool
    (goes_then c.args.sig.now c.args.pool.now c.enter_section.new.sig c.args.pool.now c.condition_or_true.new.sig c.condition_or_true.new.pool c.enter_section.ensures.kept c.condition_or_true.ensures.kept) c.sides_of.ensures.kept

pub returns-clause-means : goal.returns-clause-means
returns-clause-means c = λ v over.
    equation_made v (written_equation c.args.before.now c.args.tree.now) c.args.sig.now c.requires.ready.signature over c.requires.elaborates c.args.pool.now c.enter_section.new.sig c.enter_section.ensures.kept c.args.scope.now c.enter_section.new.scope
    c.in_ok-vars.vars.items c.requires.empty c.in_ok-vars.ensures.bound c.condition_or_true.new.sig c.condition_or_true.new.pool c.condition_or_true.ensures.kept c.in_ok-cond.cond c.in_ok-cond.ensures.means
    c.sides_of.new.sig c.sides_of.new.pool c.sides_of.ensures.kept c.in_ok-left.ensures.ready.signature c.in_ok-left.ensures.ready.trees (c.in_ok-left.left, c.in_ok-left.right) c.in_ok-left.ensures.means
