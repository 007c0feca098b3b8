use Rattle.mcrl2_syntax.proofs.LabelsOnce.{renaming_once}
use Rattle.mcrl2_parser.proofs.Operations.{by_renaming}
use Rattle.mcrl2_parser.proofs.operator_parts.RenamingPart.read.Goals as goal

pub returns-clause-found : goal.returns-clause-found
returns-clause-found c = by_renaming c.new.ensures c.token_span-span.ensures c.in_ok-old-2.ensures.found c.in_ok-renamed-2.ensures.found c.in_ok-old.ensures.found.0 c.in_ok-old.ensures.found.1
    c.in_ok-behind.ensures.found.0 c.in_ok-behind.ensures.found.1 c.in_ok-renamed.ensures.found.0 c.in_ok-renamed.ensures.found.1

pub returns-clause-only : goal.returns-clause-only
returns-clause-only c = λ x r d s. renaming_once
    (by_renaming c.new.ensures c.token_span-span.ensures c.in_ok-old-2.ensures.found c.in_ok-renamed-2.ensures.found c.in_ok-old.ensures.found.0 c.in_ok-old.ensures.found.1 c.in_ok-behind.ensures.found.0
    c.in_ok-behind.ensures.found.1 c.in_ok-renamed.ensures.found.0 c.in_ok-renamed.ensures.found.1) d
