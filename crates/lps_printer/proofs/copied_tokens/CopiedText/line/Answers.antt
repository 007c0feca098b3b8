use Rattle.std.proofs.lemmas.Result.{on_ok_weaker}
use Rattle.mcrl2_lexer.specs.declared.kind.Kind.TheVariants.{Semicolon}
use Rattle.mcrl2_syntax.specs.Declarations.{plain_decl}
use Rattle.lps_printer.specs.TreeTokens.{declaration_tokens}
use Rattle.lps_printer.proofs.CopiedLines.{declaration_added}
use Rattle.lps_printer.proofs.copied_tokens.CopiedText.line.Goals as goal

pub returns : goal.returns
returns c = on_ok_weaker c.push_token.result (λ p. declaration_added (declaration_tokens (plain_decl c.args.decl.now)) c.in_ok-declaration.ensures (p Semicolon)) c.push_token.ensures
