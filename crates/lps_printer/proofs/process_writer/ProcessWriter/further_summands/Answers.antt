use Rattle.std.proofs.Common.{◌≡◌, length, map, drop, ◌+◌, arith}
use Rattle.lps_core.specs.PlainLinears.{plain_summand}
use Rattle.lps_printer.specs.CodeProcesses.{summand_by, IsSummandBy}
use Rattle.lps_printer.proofs.CodeActions.{cut_at, nothing_left}
use Rattle.lps_printer.proofs.CodeDefinitions.{item_fits, summands_step, summands_end}
use Rattle.lps_printer.proofs.process_writer.ProcessWriter.further_summands.Goals as goal

pub summand-requires : goal.summand-requires
summand-requires c = item_fits (IsSummandBy c.args.self.now) c.args.summands.now c.loop-summand.summand-index c.summand-item.result c.loop-summand-test.true c.summand-item.is c.requires

pub loop-summand-preserved : goal.loop-summand-preserved
loop-summand-preserved c = λ t k q final a.
    let self = c.args.self.now in
    let xs = c.args.summands.now in
    let i = c.loop-summand.summand-index in
    c.loop-summand.invariant t k q final (summands_step (summand_by self t) (map plain_summand (drop i xs)) (map plain_summand (drop (i + 1) xs)) (plain_summand c.summand-item.result)
    (cut_at plain_summand xs i c.summand-item.result c.loop-summand-test.true c.summand-item.is) c.in_ok-push_token.ensures (c.in_ok-summand.ensures t k q) a)

pub returns : goal.returns
returns c = λ t k q.
    let xs = c.args.summands.now in
    let i = c.loop-summand.summand-index in
    let end : length xs ≡ i = omega arith in
    c.loop-summand.invariant t k q c.loop-summand.out.items (summands_end (summand_by c.args.self.now t) (map plain_summand (drop i xs)) c.loop-summand.out.items (nothing_left plain_summand xs i end))
