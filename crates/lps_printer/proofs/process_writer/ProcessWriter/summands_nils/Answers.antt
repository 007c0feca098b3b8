use Rattle.std.proofs.Common.{◌≡◌, length, map, drop, ap, ◌+◌, arith}
use Rattle.lps_core.specs.PlainLinears.{plain_summand, summand_of}
use Rattle.lps_printer.specs.CodeProcesses.{entries_by, IsSummandBy}
use Rattle.lps_printer.specs.NeededConstants.{summand_nils}
use Rattle.lps_printer.proofs.CodeActions.{cut_at, nothing_left}
use Rattle.lps_printer.proofs.CodeDefinitions.{item_fits}
use Rattle.lps_printer.proofs.NeededTexts.{text_step, text_end}
use Rattle.lps_printer.proofs.process_writer.ProcessWriter.summands_nils.Goals as goal

pub summand_nils-requires : goal.summand_nils-requires
summand_nils-requires c = item_fits (IsSummandBy c.args.self.now) c.args.summands.now c.loop-summand.summand-index c.summand-item.result c.loop-summand-test.true c.summand-item.is c.requires

pub loop-summand-preserved : goal.loop-summand-preserved
loop-summand-preserved c = λ final a.
    let self = c.args.self.now in
    let xs = c.args.summands.now in
    let i = c.loop-summand.summand-index in
    let x = c.summand-item.result in
    let h = summand_of (entries_by self) in
    c.loop-summand.invariant final (text_step self (λ t. summand_nils t.names) (h (plain_summand x)) (map h (map plain_summand (drop (i + 1) xs))) (map h (map plain_summand (drop i xs))) (ap (map h) (cut_at plain_summand xs i x c.loop-summand-test.true c.summand-item.is)) c.in_ok-summand_nils.ensures a)

pub returns : goal.returns
returns c =
    let self = c.args.self.now in
    let xs = c.args.summands.now in
    let i = c.loop-summand.summand-index in
    let end : length xs ≡ i = omega arith in
    let h = summand_of (entries_by self) in
    c.loop-summand.invariant c.loop-summand.found.keys (text_end self c.loop-summand.found.keys (λ t. summand_nils t.names) (map h (map plain_summand (drop i xs))) (ap (map h) (nothing_left plain_summand xs i end)))
