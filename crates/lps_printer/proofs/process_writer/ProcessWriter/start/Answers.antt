use Rattle.std.proofs.lemmas.Result.{on_ok_weaker}
use Rattle.lps_printer.specs.TextWordings.{of_terms}
use Rattle.lps_printer.proofs.AddingPieces.{adds_same}
use Rattle.lps_printer.proofs.CodeDefinitions.{start_printed}
use Rattle.lps_printer.proofs.process_writer.ProcessWriter.start.Goals as goal

pub returns : goal.returns
returns c = on_ok_weaker c.call.result (λ p t k q. adds_same (λ rest. start_printed c.args.self.now t c.args.init.now c.requires q rest) (p (of_terms t) k.terms)) c.call.ensures
