use Rattle.std.proofs.Common.{◌∙◌}
use Rattle.std.proofs.lemmas.Result.{on_ok_weaker}
use Rattle.lps_printer.specs.AddedDeclarations.{name_at}
use Rattle.lps_printer.proofs.AddedSections.{name_is, name_added}
use Rattle.lps_printer.proofs.added_sections.push_name.Goals as goal

pub returns : goal.returns
returns c =
    let g = c.args.sig.now in
    on_ok_weaker c.push_token.result (λ p. name_added c.args.gap.now c.as_bytes.result.now (name_at g c.args.fun) (c.as_bytes.ensures.value ∙ name_is g c.args.fun c.fun_name.result.now c.requires c.fun_name.ensures) p) c.push_token.ensures
