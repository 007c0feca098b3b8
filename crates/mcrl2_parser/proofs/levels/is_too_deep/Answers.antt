use Rattle.std.proofs.Common.{arith}
use Rattle.mcrl2_parser.proofs.LevelBounds.{few_fit}
use Rattle.mcrl2_parser.proofs.levels.is_too_deep.Goals as goal

pub returns-then-tokens-le-MAX_LEVEL-clause-fine : goal.returns-then-tokens-le-MAX_LEVEL-clause-fine
returns-then-tokens-le-MAX_LEVEL-clause-fine c = λ e. let few = few_fit c.args.tokens.now in let short = c.if-tokens-le-MAX_LEVEL.true in omega (arith, few, short)
