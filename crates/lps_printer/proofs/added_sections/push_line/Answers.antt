use Rattle.std.proofs.lemmas.Result.{on_ok_weaker}
use Rattle.mcrl2_lexer.specs.declared.kind.Kind.TheVariants.{Semicolon}
use Rattle.lps_printer.specs.AddedDeclarations.{print_line}
use Rattle.lps_printer.proofs.AddedSections.{ended}
use Rattle.lps_printer.proofs.added_sections.push_line.Goals as goal

pub returns : goal.returns
returns c = on_ok_weaker c.push_token.result (λ p n k. ended (print_line c.args.sig.now n c.args.line c.args.fun c.args.gap.now) (c.in_ok-push_said.ensures n k) (p Semicolon)) c.push_token.ensures
