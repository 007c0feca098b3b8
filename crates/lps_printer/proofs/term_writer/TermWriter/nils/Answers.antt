use Rattle.std.proofs.lemmas.Result.{on_ok_weaker}
use Rattle.lps_printer.proofs.UnseenLemmas.{all_seen, left_stands}
use Rattle.lps_printer.proofs.term_writer.TermWriter.nils.Goals as goal

pub look_into-requires : goal.look_into-requires
look_into-requires c = c.requires

pub look_at_all-requires : goal.look_at_all-requires
look_at_all-requires c = left_stands c.args.self.now _ _ c.new-left.ensures.items c.in_ok-look_into.ensures

pub returns : goal.returns
returns c = on_ok_weaker c.look_at_all.result (λ p. all_seen c.args.self.now _ _ c.new-left.ensures.items c.in_ok-look_into.ensures p) c.look_at_all.ensures
