use Rattle.std.proofs.Common.{List, sym, subst}
use Rattle.process_terms.specs.PlainProcesses.{plain_action}
use Rattle.process_terms.specs.Meanings.{action_of}
use Rattle.process_terms.specs.SignatureEntries.{entries_of}
use Rattle.std.proofs.Common.{[]}
use Rattle.std.proofs.lemmas.List.{take_all}
use Rattle.process_terms.specs.declared.labels.Action.{Action as CodeAction}
use Rattle.process_terms.specs.Meanings.{label_of}
use Rattle.std.proofs.Common.{map}
use Rattle.trace_replay.specs.declared.deciding.Answer.{Answer as CodeAnswer}
use Rattle.trace_replay.proofs.Keepings.{keeps_itself, keeps_then, known_on}
use Rattle.aut_check.specs.Comparing.{setting, IsActionRow}
use Rattle.aut_check.specs.Tables.{answers_of}
use Rattle.aut_check.proofs.ClosedTerms.{closed_stays}
use Rattle.aut_check.proofs.ComparedLabels.{action_turn, closed_at}
use Rattle.aut_check.proofs.labels.compare_action.Goals as goal

pub loop-other-init : goal.loop-other-init
loop-other-init g c = record {
  kept = keeps_itself c.args.sig.now c.args.pool.now.trees c.args.rewriter.now;
  so_far = λ own h. subst (λ (z : List CodeAnswer). IsActionRow (setting c.args.sig.now own c.args.fuel) [] (action_of (entries_of c.args.sig.now c.args.pool.now.trees) (plain_action c.args.action.now)) (answers_of z)) (sym c.new-row.ensures.items) tt;
}

pub compare_actions-requires-clause-known : goal.compare_actions-requires-clause-known
compare_actions-requires-clause-known g c = known_on c.args.sig.now c.args.pool.now.trees c.loop-other.pool.trees c.args.rewriter.now c.loop-other.rewriter c.loop-other.invariant.kept c.requires.known

pub compare_actions-requires-clause-rules : goal.compare_actions-requires-clause-rules
compare_actions-requires-clause-rules g c = rw c.loop-other.invariant.kept.rules c.requires.rules

pub compare_actions-requires-clause-left : goal.compare_actions-requires-clause-left
compare_actions-requires-clause-left g c = closed_stays c.args.sig.now c.signature_stands.ensures c.args.pool.now.trees c.loop-other.pool.trees c.loop-other.invariant.kept.pool (plain_action c.args.action.now) c.requires.action

pub compare_actions-requires-clause-right : goal.compare_actions-requires-clause-right
compare_actions-requires-clause-right g c =
    closed_stays c.args.sig.now c.signature_stands.ensures c.args.pool.now.trees c.loop-other.pool.trees c.loop-other.invariant.kept.pool (plain_action c.other-item.result) (closed_at c.args.sig.now c.args.pool.now.trees c.args.others.now c.loop-other.other-index c.other-item.result c.loop-other-test.true c.other-item.is c.requires.others)

pub returns-in_err-compare_actions-clause-kept : goal.returns-in_err-compare_actions-clause-kept
returns-in_err-compare_actions-clause-kept g c = keeps_then c.args.sig.now c.args.pool.now.trees c.loop-other.pool.trees c.compare_actions.new.pool.trees c.args.rewriter.now c.loop-other.rewriter c.compare_actions.new.rewriter c.loop-other.invariant.kept c.compare_actions.ensures.kept

pub returns-in_err-push-clause-kept : goal.returns-in_err-push-clause-kept
returns-in_err-push-clause-kept g c = keeps_then c.args.sig.now c.args.pool.now.trees c.loop-other.pool.trees c.compare_actions.new.pool.trees c.args.rewriter.now c.loop-other.rewriter c.compare_actions.new.rewriter c.loop-other.invariant.kept c.compare_actions.ensures.kept

pub loop-other-preserved : goal.loop-other-preserved
loop-other-preserved g c = record {
  kept = keeps_then c.args.sig.now c.args.pool.now.trees c.loop-other.pool.trees c.compare_actions.new.pool.trees c.args.rewriter.now c.loop-other.rewriter c.compare_actions.new.rewriter c.loop-other.invariant.kept c.compare_actions.ensures.kept;
  so_far = λ own h.
      action_turn c.args.sig.now c.signature_stands.ensures c.args.pool.now.trees c.loop-other.pool.trees c.loop-other.invariant.kept.pool (setting c.args.sig.now own c.args.fuel) (plain_action c.args.action.now) c.args.others.now c.loop-other.other-index c.other-item.result c.loop-other-test.true c.other-item.is c.requires.action
      (closed_at c.args.sig.now c.args.pool.now.trees c.args.others.now c.loop-other.other-index c.other-item.result c.loop-other-test.true c.other-item.is c.requires.others) c.loop-other.row.items c.push.new.self.items c.in_ok-compare_actions.field-0 c.in_ok-push.ensures.items (c.loop-other.invariant.so_far own h)
      (c.in_ok-compare_actions.ensures.comes own (c.loop-other.invariant.kept.fits own h));
}

pub returns-clause-kept : goal.returns-clause-kept
returns-clause-kept g c = c.loop-other.invariant.kept

pub returns-clause-row : goal.returns-clause-row
returns-clause-row g c = λ own h.
    subst (λ (z : List CodeAction). IsActionRow (setting c.args.sig.now own c.args.fuel) (label_of (entries_of c.args.sig.now c.args.pool.now.trees) (map plain_action z)) (action_of (entries_of c.args.sig.now c.args.pool.now.trees) (plain_action c.args.action.now)) (answers_of c.loop-other.row.items))
    (take_all c.loop-other.other-index c.args.others.now c.loop-other-test.false) (c.loop-other.invariant.so_far own h)
