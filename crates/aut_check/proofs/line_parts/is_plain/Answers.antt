use Rattle.aut_check.proofs.PartLemmas.{plain_front}
use Rattle.aut_check.proofs.line_parts.is_plain.Goals as goal

pub returns : goal.returns
returns c = plain_front c.args.text.now c.front_len.result c.front_len.ensures.size
