use Rattle.std.proofs.Common.{◌≡◌, ◌∙◌, ℕ, List, [], map, take, length, refl, sym, subst, ap, arith}
use Rattle.std.proofs.Math.Seq.{take-length}
use Rattle.mcrl2_syntax.specs.declared.process_tree.ActionTree.{ActionTree}
use Rattle.mcrl2_syntax.specs.ProcessParts.{plain_action}
use Rattle.mcrl2_syntax.specs.TreeWords.{IsActionOfWords}
use Rattle.process_terms.specs.PlainProcesses as code
use Rattle.sort_checker.specs.CodeContexts.{Sees, CanElaborate, AreElaborated}
use Rattle.sort_checker.proofs.Adding.{goes_nowhere, goes_then}
use Rattle.sort_checker.proofs.AloneInCode.{one_alone, all_alone, can_alone, next_alone}
use Rattle.sort_checker.proofs.ElaboratedForms.{none_elaborated}
use Rattle.sort_checker.proofs.ElaboratedInside.{can_after}
use Rattle.sort_checker.proofs.ReadLists.{at_mapped}
use Rattle.sort_checker.proofs.WhatStays.{sees_after, table_on}
use Rattle.sort_checker.proofs.labels.each_alone.Goals as goal

pub loop-action-init : goal.loop-action-init
loop-action-init c = record {
  kept = goes_nowhere c.args.sig.now c.args.pool.now;
  ready = c.requires.ready;
  scope = refl;
  means = λ v variables sees. subst (λ ms. AreElaborated v variables (all_alone []) c.args.sig.now c.args.pool.now (map code.plain_process ms)) (sym c.new-made.ensures.items) (none_elaborated v variables c.args.sig.now c.args.pool.now);
}

pub action_or_call-requires-clause-table : goal.action_or_call-requires-clause-table
action_or_call-requires-clause-table c = table_on c.args.sig.now c.args.pool.now c.loop-action.sig c.loop-action.pool c.requires.ready.signature c.loop-action.invariant.kept c.args.processes.now c.requires.table

pub action_or_call-requires-clause-words : goal.action_or_call-requires-clause-words
action_or_call-requires-clause-words c = at_mapped IsActionOfWords plain_action c.args.actions.now c.loop-action.action-index c.action-item.result c.loop-action-test.true c.action-item.is c.requires.words

pub action_or_call-requires-clause-elaborates : goal.action_or_call-requires-clause-elaborates
action_or_call-requires-clause-elaborates c =
    subst (λ bs. CanElaborate c.loop-action.sig c.args.processes.now bs (one_alone c.action-item.result)) (sym c.loop-action.invariant.scope)
    (can_after c.args.sig.now c.args.pool.now c.loop-action.sig c.loop-action.pool c.requires.ready.signature c.loop-action.invariant.kept c.args.processes.now c.args.scope.now (one_alone c.action-item.result)
    (can_alone c.args.sig.now c.args.processes.now c.args.scope.now c.args.actions.now c.loop-action.action-index c.action-item.result c.loop-action-test.true c.action-item.is c.requires.elaborates))

pub returns-in_err-action_or_call-clause-kept : goal.returns-in_err-action_or_call-clause-kept
returns-in_err-action_or_call-clause-kept c = goes_then c.args.sig.now c.args.pool.now c.loop-action.sig c.loop-action.pool c.action_or_call.new.sig c.action_or_call.new.pool c.loop-action.invariant.kept c.action_or_call.ensures.kept

pub returns-in_err-push-clause-kept : goal.returns-in_err-push-clause-kept
returns-in_err-push-clause-kept c = goes_then c.args.sig.now c.args.pool.now c.loop-action.sig c.loop-action.pool c.action_or_call.new.sig c.action_or_call.new.pool c.loop-action.invariant.kept c.action_or_call.ensures.kept

pub loop-action-preserved : goal.loop-action-preserved
loop-action-preserved c = record {
  kept = goes_then c.args.sig.now c.args.pool.now c.loop-action.sig c.loop-action.pool c.action_or_call.new.sig c.action_or_call.new.pool c.loop-action.invariant.kept c.action_or_call.ensures.kept;
  ready = c.in_ok-action_or_call.ensures.ready;
  scope = c.in_ok-action_or_call.ensures.scope ∙ c.loop-action.invariant.scope;
  means = λ v variables sees.
      next_alone v variables c.args.actions.now c.loop-action.action-index c.action-item.result c.loop-action-test.true c.action-item.is c.loop-action.sig c.loop-action.pool c.action_or_call.new.sig c.action_or_call.new.pool c.action_or_call.ensures.kept c.loop-action.made.items c.push.new.self.items c.in_ok-action_or_call.field-0 (c.loop-action.invariant.means v variables sees)
      (c.in_ok-action_or_call.ensures.means v variables (subst (λ bs. Sees c.loop-action.sig c.args.processes.now bs v variables) (sym c.loop-action.invariant.scope) (sees_after c.args.sig.now c.args.pool.now c.loop-action.sig c.loop-action.pool c.requires.ready.signature c.loop-action.invariant.kept c.args.processes.now c.args.scope.now v variables sees))) c.in_ok-push.ensures.items;
}

pub returns-clause-means : goal.returns-clause-means
returns-clause-means c = λ v variables sees.
    let end : c.loop-action.action-index ≡ length c.args.actions.now = omega (arith, c.loop-action-test.false, c.loop-action.auto.action-index-end) in
    let whole : take c.loop-action.action-index c.args.actions.now ≡ c.args.actions.now = ap (λ (i : ℕ). take i c.args.actions.now) end ∙ take-length c.args.actions.now in
    subst (λ (as_ : List ActionTree). AreElaborated v variables (all_alone as_) c.loop-action.sig c.loop-action.pool (map code.plain_process c.loop-action.made.items)) whole (c.loop-action.invariant.means v variables sees)
