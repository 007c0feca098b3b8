use Rattle.mcrl2_syntax.specs.ProcessTrees.{plain_process, process_span}
use Rattle.mcrl2_parser.proofs.LastParts.{first_to_last}
use Rattle.mcrl2_parser.proofs.chains.parts_span.Goals as goal

pub returns-in-len2-up : goal.returns-in-len2-up
returns-in-len2-up c = first_to_last process_span plain_process c.args.parts.now c.first-item.result c.last-item.result c.joined_spans-in-len2-up.ensures c.span-in-len2-up.ensures c.span-in-len2-up-2.ensures
    c.first-item.is c.last-item.is c.in-len2-up.len_at_least
