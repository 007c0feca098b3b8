use Rattle.lps_printer.proofs.AddingTokens.{token_added}
use Rattle.lps_printer.proofs.copied_tokens.CopiedText.token.Goals as goal

pub returns : goal.returns
returns c = token_added c.gap.result.now c.args.self.now.place c.args.kind c.args.bytes.now c.gap.ensures (c.in_ok-push_token.ensures c.args.kind)
