use Rattle.std.proofs.Common.{sym, ◌∙◌}
use Rattle.std.proofs.lemmas.Result.{on_ok_weaker}
use Rattle.lps_printer.proofs.CopiedTrees.{fields_added}
use Rattle.lps_printer.proofs.copied_tokens.CopiedText.fields.Goals as goal

pub returns : goal.returns
returns c = on_ok_weaker c.token-2.result (λ p. fields_added c.args.fields.now (sym c.is_empty.ensures ∙ c.if-is_empty.false) c.in_ok-token.ensures c.in_ok-parts.ensures p) c.token-2.ensures
