use Rattle.std.proofs.lemmas.Result.{on_ok_weaker}
use Rattle.lps_printer.proofs.AddedSections.{recogniser_named}
use Rattle.lps_printer.proofs.added_sections.push_recogniser.Goals as goal

pub returns-in_ok-push_token-in-Some : goal.returns-in_ok-push_token-in-Some
returns-in_ok-push_token-in-Some c = on_ok_weaker c.push_name.result (λ p. recogniser_named c.args.sig.now c.args.test c.in-Some.fun c.in-Some.is c.in_ok-push_token-in-Some.ensures p) c.push_name.ensures
