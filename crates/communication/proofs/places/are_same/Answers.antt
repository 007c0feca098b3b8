use Rattle.std.proofs.Common.{refl, ◌∙◌}
use Rattle.communication.proofs.Stepping.{same_numbers}
use Rattle.communication.proofs.places.are_same.Goals as goal

pub returns : goal.returns
returns c = c.eq.ensures ∙ same_numbers _ (λ a b. refl) c.args.sorts.now c.args.others.now
