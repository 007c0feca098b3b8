use Rattle.std.proofs.Common.{◌≡◌, length, map, drop, ◌+◌, arith}
use Rattle.process_terms.specs.PlainProcesses.{plain_action}
use Rattle.lps_printer.specs.CodeProcesses.{action_by, IsActionBy}
use Rattle.lps_printer.proofs.CodeActions.{bars_step, bars_end, cut_at, at_item, nothing_left}
use Rattle.lps_printer.proofs.process_writer.ProcessWriter.further_actions.Goals as goal

pub action-requires : goal.action-requires
action-requires c = at_item plain_action (IsActionBy c.args.self.now) c.args.actions.now c.loop-action.action-index c.action-item.result c.loop-action-test.true c.action-item.is c.requires

pub loop-action-preserved : goal.loop-action-preserved
loop-action-preserved c = λ t k final a.
    let self = c.args.self.now in
    let xs = c.args.actions.now in
    let i = c.loop-action.action-index in
    c.loop-action.invariant t k final (bars_step (action_by self t) (map plain_action (drop i xs)) (map plain_action (drop (i + 1) xs)) (plain_action c.action-item.result)
    (cut_at plain_action xs i c.action-item.result c.loop-action-test.true c.action-item.is) c.in_ok-push_token.ensures (c.in_ok-action.ensures t k) a)

pub returns : goal.returns
returns c = λ t k.
    let xs = c.args.actions.now in
    let i = c.loop-action.action-index in
    let end : length xs ≡ i = omega arith in
    c.loop-action.invariant t k c.loop-action.out.items (bars_end (action_by c.args.self.now t) (map plain_action (drop i xs)) c.loop-action.out.items (nothing_left plain_action xs i end))
