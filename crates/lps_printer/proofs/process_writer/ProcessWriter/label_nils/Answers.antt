use Rattle.std.proofs.Common.{◌≡◌, length, map, drop, ap, ◌+◌, arith}
use Rattle.process_terms.specs.Meanings.{action_of}
use Rattle.process_terms.specs.PlainProcesses.{plain_action}
use Rattle.lps_printer.specs.CodeProcesses.{entries_by, IsActionBy}
use Rattle.lps_printer.specs.NeededConstants.{action_nils}
use Rattle.lps_printer.proofs.CodeActions.{cut_at, at_item, nothing_left}
use Rattle.lps_printer.proofs.NeededTexts.{text_step, text_end}
use Rattle.lps_printer.proofs.process_writer.ProcessWriter.label_nils.Goals as goal

pub action_nils-requires : goal.action_nils-requires
action_nils-requires c = at_item plain_action (IsActionBy c.args.self.now) c.args.actions.now c.loop-action.action-index c.action-item.result c.loop-action-test.true c.action-item.is c.requires

pub loop-action-preserved : goal.loop-action-preserved
loop-action-preserved c = λ final a.
    let self = c.args.self.now in
    let xs = c.args.actions.now in
    let i = c.loop-action.action-index in
    let x = c.action-item.result in
    let h = action_of (entries_by self) in
    c.loop-action.invariant final (text_step self (λ t. action_nils t.names) (h (plain_action x)) (map h (map plain_action (drop (i + 1) xs))) (map h (map plain_action (drop i xs))) (ap (map h) (cut_at plain_action xs i x c.loop-action-test.true c.action-item.is)) c.in_ok-action_nils.ensures a)

pub returns : goal.returns
returns c =
    let self = c.args.self.now in
    let xs = c.args.actions.now in
    let i = c.loop-action.action-index in
    let end : length xs ≡ i = omega arith in
    let h = action_of (entries_by self) in
    c.loop-action.invariant c.loop-action.found.keys (text_end self c.loop-action.found.keys (λ t. action_nils t.names) (map h (map plain_action (drop i xs))) (ap (map h) (nothing_left plain_action xs i end)))
