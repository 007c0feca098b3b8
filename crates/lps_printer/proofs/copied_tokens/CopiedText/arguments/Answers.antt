use Rattle.std.proofs.Common.{sym, ◌∙◌}
use Rattle.std.proofs.lemmas.Result.{on_ok_weaker}
use Rattle.lps_printer.proofs.CopiedTrees.{arguments_added}
use Rattle.lps_printer.proofs.copied_tokens.CopiedText.arguments.Goals as goal

pub returns : goal.returns
returns c = on_ok_weaker c.token.result (λ p. arguments_added c.args.sorts.now (sym c.is_empty.ensures ∙ c.if-is_empty.false) c.in_ok-domain.ensures p) c.token.ensures
