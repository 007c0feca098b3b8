use Rattle.chosen_moves.proofs.SayingLemmas.{other_tokens}
use Rattle.chosen_moves.proofs.saying.said_by_tokens.Goals as goal

pub returns-in_default : goal.returns-in_default
returns-in_default c = other_tokens c.args.text.now c.args.list.now c.requires.tokens c.in_default.len_at_least
