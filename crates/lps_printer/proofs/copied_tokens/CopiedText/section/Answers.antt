use Rattle.std.proofs.Common.{map, subst}
use Rattle.std.proofs.lemmas.Result.{on_ok_weaker}
use Rattle.mcrl2_syntax.specs.Declarations.{plain_decl}
use Rattle.lps_printer.specs.Adding.{Adds}
use Rattle.lps_printer.specs.CopiedSections.{copied_declarations}
use Rattle.lps_printer.specs.TextSections.{print_declarations}
use Rattle.lps_printer.proofs.AddingSections.{section_added}
use Rattle.lps_printer.proofs.copied_tokens.CopiedText.section.Goals as goal

pub returns : goal.returns
returns c =
    let section = c.args.section.now in
    on_ok_weaker c.lines.result (λ p. section_added c.args.gap.now section.word (copied_declarations (map plain_decl section.declarations.items)) c.section_text.result.now c.section_text.ensures c.in_ok-push_token.ensures
    (subst (λ ds. Adds c.push_token.new.out.items c.lines.new.self.bytes.items (λ rest. print_declarations (copied_declarations (map plain_decl ds)) rest)) c.as_slice.ensures.value p)) c.lines.ensures
