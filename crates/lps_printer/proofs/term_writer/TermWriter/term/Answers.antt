use Rattle.std.proofs.lemmas.Result.{on_ok_weaker}
use Rattle.lps_printer.proofs.PendingLemmas.{all_done, left_stands}
use Rattle.lps_printer.proofs.term_writer.TermWriter.term.Goals as goal

pub begin-requires : goal.begin-requires
begin-requires c = c.requires

pub finish-requires : goal.finish-requires
finish-requires c = left_stands c.args.self.now _ _ c.new-left.ensures.items c.in_ok-begin.ensures

pub returns : goal.returns
returns c = on_ok_weaker c.finish.result (λ p w k. all_done c.args.self.now _ _ w k c.new-left.ensures.items c.in_ok-begin.ensures (p w k)) c.finish.ensures
