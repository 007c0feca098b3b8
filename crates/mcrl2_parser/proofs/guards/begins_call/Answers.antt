use Rattle.std.proofs.Common.{sym, ◌∙◌}
use Rattle.mcrl2_lexer.specs.declared.kind.Kind.TheVariants.{RightParen, Equals}
use Rattle.mcrl2_parser.proofs.ProcessGuards.{begun, calls_empty, calls_assigning}
use Rattle.mcrl2_parser.proofs.guards.begins_call.Goals as goal

pub returns-in-Ok-expect-2-clause-call : goal.returns-in-Ok-expect-2-clause-call
returns-in-Ok-expect-2-clause-call c = λ is. calls_assigning _ c.in-Ok.ensures.found.0 c.in-Ok.ensures.found.1 c.in-Ok-expect.ensures.found.0 c.in-Ok-expect.ensures.found.1 c.in-Ok-expect-2.ensures.found.0 c.in-Ok-expect-2.ensures.found.1
    (begun Equals _ c.expect-in-Ok-expect-2.result c.expect-in-Ok-expect-2.ensures.found (sym c.is_ok.ensures.value ∙ is))

pub returns-in-Err-clause-call : goal.returns-in-Err-clause-call
returns-in-Err-clause-call c = λ is. calls_empty _ c.in-Ok.ensures.found.0 c.in-Ok.ensures.found.1 c.in-Ok-expect.ensures.found.0 c.in-Ok-expect.ensures.found.1
    (begun RightParen _ c.expect-in-Err.result c.expect-in-Err.ensures.found (sym c.is_ok-in-Err.ensures.value ∙ is))
