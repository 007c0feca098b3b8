use Rattle.std.proofs.Common.{true}
use Rattle.std.proofs.lemmas.Result.{on_ok_weaker}
use Rattle.lps_printer.specs.TextWordings.{of_terms}
use Rattle.lps_printer.proofs.NeededConstants.{found_same}
use Rattle.lps_printer.proofs.NeededTexts.{ids_nils, terms_in}
use Rattle.lps_printer.proofs.process_writer.ProcessWriter.initial_nils.Goals as goal

pub returns : goal.returns
returns c =
    let self = c.args.self.now in
    on_ok_weaker c.all_nils.result (λ p t k. found_same (ids_nils self t true c.args.init.now (terms_in self c.args.init.now c.requires)) (p (of_terms t) k.terms)) c.all_nils.ensures
