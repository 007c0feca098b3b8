use Rattle.std.proofs.Common.{codes}
use Rattle.std.proofs.lemmas.Result.{on_ok_weaker}
use Rattle.mcrl2_lexer.specs.declared.kind.Kind.TheVariants.{Hash}
use Rattle.mcrl2_syntax.specs.SortTrees.{plain_sort}
use Rattle.lps_printer.specs.TreeTokens.{sort_tokens, token}
use Rattle.lps_printer.proofs.AddingTokens.{parts_added}
use Rattle.lps_printer.proofs.copied_tokens.CopiedText.domain.Goals as goal

pub returns : goal.returns
returns c = on_ok_weaker c.parts.result (λ p. parts_added sort_tokens plain_sort (token Hash (codes "#")) c.args.sorts.now p) c.parts.ensures
