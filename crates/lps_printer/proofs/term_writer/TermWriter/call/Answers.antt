use Rattle.std.proofs.lemmas.Result.{on_ok_weaker}
use Rattle.lps_printer.proofs.PendingLemmas.{all_done, left_stands}
use Rattle.lps_printer.proofs.term_writer.TermWriter.call.Goals as goal

pub begin_call-requires : goal.begin_call-requires
begin_call-requires c = c.requires

pub finish-requires : goal.finish-requires
finish-requires c = left_stands c.args.self.now _ _ c.new-left.ensures.items c.in_ok-begin_call.ensures

pub returns : goal.returns
returns c = on_ok_weaker c.finish.result (λ p w k. all_done c.args.self.now _ _ w k c.new-left.ensures.items c.in_ok-begin_call.ensures (p w k)) c.finish.ensures
