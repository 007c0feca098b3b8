use Rattle.lin_driver.proofs.NewSteps.{steps_are_renumbered}
use Rattle.lin_driver.proofs.NewTypings.{typings_are_renumbered}
use Rattle.lin_driver.proofs.laws.renumbering_changes_nothing.Goals as goal

pub returns : goal.returns
returns c = record { typings = typings_are_renumbered; steps = steps_are_renumbered }
