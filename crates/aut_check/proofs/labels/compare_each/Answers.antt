use Rattle.std.proofs.Common.{List, [], map, sym, subst}
use Rattle.std.specs.Global.{Vec}
use Rattle.std.proofs.lemmas.List.{take_all}
use Rattle.process_terms.specs.declared.labels.Action.{Action as CodeAction}
use Rattle.process_terms.specs.Meanings.{label_of}
use Rattle.process_terms.specs.PlainProcesses.{plain_action}
use Rattle.process_terms.specs.SignatureEntries.{entries_of}
use Rattle.trace_replay.specs.declared.deciding.Answer.{Answer as CodeAnswer}
use Rattle.trace_replay.proofs.Keepings.{keeps_itself, keeps_then, known_on}
use Rattle.aut_check.specs.Comparing.{setting, AreActionRows}
use Rattle.aut_check.specs.Tables.{tables_of}
use Rattle.aut_check.proofs.ClosedTerms.{all_closed_stay, closed_stays}
use Rattle.aut_check.proofs.ComparedLabels.{closed_at, row_turn}
use Rattle.aut_check.proofs.labels.compare_each.Goals as goal

pub loop-action-init : goal.loop-action-init
loop-action-init g c = record {
  kept = keeps_itself c.args.sig.now c.args.pool.now.trees c.args.rewriter.now;
  so_far = λ own h. subst (λ (z : List (Vec CodeAnswer)). AreActionRows (setting c.args.sig.now own c.args.fuel) [] (label_of (entries_of c.args.sig.now c.args.pool.now.trees) (map plain_action c.args.others.now)) (tables_of z)) (sym c.new-rows.ensures.items) tt;
}

pub compare_action-requires-clause-known : goal.compare_action-requires-clause-known
compare_action-requires-clause-known g c = known_on c.args.sig.now c.args.pool.now.trees c.loop-action.pool.trees c.args.rewriter.now c.loop-action.rewriter c.loop-action.invariant.kept c.requires.known

pub compare_action-requires-clause-rules : goal.compare_action-requires-clause-rules
compare_action-requires-clause-rules g c = rw c.loop-action.invariant.kept.rules c.requires.rules

pub compare_action-requires-clause-action : goal.compare_action-requires-clause-action
compare_action-requires-clause-action g c =
    closed_stays c.args.sig.now c.signature_stands.ensures c.args.pool.now.trees c.loop-action.pool.trees c.loop-action.invariant.kept.pool (plain_action c.action-item.result) (closed_at c.args.sig.now c.args.pool.now.trees c.args.actions.now c.loop-action.action-index c.action-item.result c.loop-action-test.true c.action-item.is c.requires.actions)

pub compare_action-requires-clause-others : goal.compare_action-requires-clause-others
compare_action-requires-clause-others g c = all_closed_stay c.args.sig.now c.signature_stands.ensures c.args.pool.now.trees c.loop-action.pool.trees c.loop-action.invariant.kept.pool (map plain_action c.args.others.now) c.requires.others

pub returns-in_err-compare_action-clause-kept : goal.returns-in_err-compare_action-clause-kept
returns-in_err-compare_action-clause-kept g c = keeps_then c.args.sig.now c.args.pool.now.trees c.loop-action.pool.trees c.compare_action.new.pool.trees c.args.rewriter.now c.loop-action.rewriter c.compare_action.new.rewriter c.loop-action.invariant.kept c.compare_action.ensures.kept

pub returns-in_err-push-clause-kept : goal.returns-in_err-push-clause-kept
returns-in_err-push-clause-kept g c = keeps_then c.args.sig.now c.args.pool.now.trees c.loop-action.pool.trees c.compare_action.new.pool.trees c.args.rewriter.now c.loop-action.rewriter c.compare_action.new.rewriter c.loop-action.invariant.kept c.compare_action.ensures.kept

pub loop-action-preserved : goal.loop-action-preserved
loop-action-preserved g c = record {
  kept = keeps_then c.args.sig.now c.args.pool.now.trees c.loop-action.pool.trees c.compare_action.new.pool.trees c.args.rewriter.now c.loop-action.rewriter c.compare_action.new.rewriter c.loop-action.invariant.kept c.compare_action.ensures.kept;
  so_far = λ own h.
      row_turn c.args.sig.now c.signature_stands.ensures c.args.pool.now.trees c.loop-action.pool.trees c.loop-action.invariant.kept.pool (setting c.args.sig.now own c.args.fuel) c.args.actions.now c.args.others.now c.loop-action.action-index c.action-item.result c.loop-action-test.true c.action-item.is
      (closed_at c.args.sig.now c.args.pool.now.trees c.args.actions.now c.loop-action.action-index c.action-item.result c.loop-action-test.true c.action-item.is c.requires.actions) c.requires.others c.loop-action.rows.items c.push.new.self.items c.in_ok-compare_action.field-0 c.in_ok-push.ensures.items (c.loop-action.invariant.so_far own h)
      (c.in_ok-compare_action.ensures.row own (c.loop-action.invariant.kept.fits own h));
}

pub returns-clause-kept : goal.returns-clause-kept
returns-clause-kept g c = c.loop-action.invariant.kept

pub returns-clause-rows : goal.returns-clause-rows
returns-clause-rows g c = λ own h.
    subst (λ (z : List CodeAction). AreActionRows (setting c.args.sig.now own c.args.fuel) (label_of (entries_of c.args.sig.now c.args.pool.now.trees) (map plain_action z)) (label_of (entries_of c.args.sig.now c.args.pool.now.trees) (map plain_action c.args.others.now)) (tables_of c.loop-action.rows.items))
    (take_all c.loop-action.action-index c.args.actions.now c.loop-action-test.false) (c.loop-action.invariant.so_far own h)
