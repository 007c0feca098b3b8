use Rattle.mcrl2_parser.proofs.ReadableTexts.{not_lexed, too_deep, by_tokens}
use Rattle.mcrl2_parser.proofs.LabelLines.{given_fault}
use Rattle.mcrl2_parser.proofs.readable.readable_tokens.Goals as goal

pub returns-in_err-tokens-clause-syntax : goal.returns-in_err-tokens-clause-syntax
returns-in_err-tokens-clause-syntax c = λ n ts is. not_lexed c.in_err-tokens.field-0.0 c.in_err-tokens.ensures.fault (given_fault c.from_residual.result c.from_residual.ensures.1 n) is

pub returns-then-branch-clause-syntax : goal.returns-then-branch-clause-syntax
returns-then-branch-clause-syntax c = λ n ts is. too_deep c.list.ensures.list c.in_ok-tokens.ensures.tokens (c.in_ok-is_too_deep.ensures.deep c.if-branch.true) is

pub returns-clause-found : goal.returns-clause-found
returns-clause-found c = by_tokens c.list.ensures.list c.in_ok-tokens.ensures.tokens (c.in_ok-is_too_deep.ensures.fine c.if-branch.false)
