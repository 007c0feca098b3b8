use Rattle.std.proofs.Common.{rules, arith, sym}
use Rattle.std.proofs.lemmas.Grind.{common_steps}
use Rattle.mcrl2_lexer.specs.contracts.kind.Kind.{the_type}
use denote.Enum.Bare.{same_true}
use Rattle.mcrl2_parser.proofs.words.expect.Goals as goal

pub returns-then-eq-clause-found : goal.returns-then-eq-clause-found
returns-then-eq-clause-found c =
    (grind (arith, common_steps), same_true the_type (search rules) _ _ (sym c.if-eq.ensures))
