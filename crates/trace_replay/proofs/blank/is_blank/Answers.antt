use Rattle.std.proofs.Common.{ap, ◌∙◌, List, ◌==◌, length}
use Rattle.mcrl2_lexer.specs.declared.token.Token.{Token}
use Rattle.trace_replay.proofs.BlankLemmas.{found_none, faulty_none}
use Rattle.trace_replay.proofs.blank.is_blank.Goals as goal

pub returns-in-Ok : goal.returns-in-Ok
returns-in-Ok c = found_none c.args.line.now c.in-Ok.tokens.list c.is_empty.result c.in-Ok.ensures.tokens (c.is_empty.ensures ∙ ap (λ (ts : List Token). length ts == 0) c.list.ensures.list)

pub returns-in-Err : goal.returns-in-Err
returns-in-Err c = faulty_none c.args.line.now c.in-Err.fault c.faulty.result c.in-Err.ensures.fault c.faulty.ensures
