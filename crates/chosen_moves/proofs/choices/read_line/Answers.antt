use Rattle.std.proofs.Common.{refl, subst}
use Rattle.chosen_moves.specs.Choices.{one_chosen, Says}
use Rattle.chosen_moves.proofs.choices.read_line.Goals as goal

pub returns-in_ok-push-in-Number : goal.returns-in_ok-push-in-Number
returns-in_ok-push-in-Number c = one_chosen c.in-Number.number (subst (Says c.args.text.now) c.in-Number.is c.in_ok-said_by.ensures) c.in_ok-push-in-Number.ensures.items refl
