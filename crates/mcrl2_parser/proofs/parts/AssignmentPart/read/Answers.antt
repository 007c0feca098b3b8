use Rattle.mcrl2_parser.proofs.Calls.{by_assignment}
use Rattle.mcrl2_parser.proofs.parts.AssignmentPart.read.Goals as goal

pub returns-clause-found : goal.returns-clause-found
returns-clause-found c = by_assignment c.new.ensures c.joined_spans-span.ensures c.token_span.ensures c.span.ensures c.in_ok-name.ensures.found c.in_ok-token.ensures.found.0 c.in_ok-token.ensures.found.1
    c.in_ok-behind.ensures.found.0 c.in_ok-behind.ensures.found.1 c.in_ok-value.ensures.found
