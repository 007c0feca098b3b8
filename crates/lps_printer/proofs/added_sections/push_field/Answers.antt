use Rattle.std.proofs.lemmas.Result.{on_ok_weaker}
use Rattle.lps_printer.proofs.AddedSections.{field_named}
use Rattle.lps_printer.proofs.added_sections.push_field.Goals as goal

pub returns-in_ok-push_token-in-Some : goal.returns-in_ok-push_token-in-Some
returns-in_ok-push_token-in-Some c =
    on_ok_weaker c.push_sort-in-Some.result (λ p n k. field_named c.args.sig.now n c.args.projection c.in-Some.fun c.args.sort c.args.gap.now c.in-Some.is c.in_ok-push_name-in-Some.ensures c.in_ok-push_token-in-Some.ensures (p n k)) c.push_sort-in-Some.ensures
