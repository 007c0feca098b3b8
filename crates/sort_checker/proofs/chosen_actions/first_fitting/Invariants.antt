use Rattle.std.proofs.Common.{◌≡◌, List, drop}
use Rattle.data_theory.specs.Signature.{Sig}
use Rattle.data_typing.specs.Typings.{Typing}
use Rattle.sort_checker.specs.ElaboratedLabels.{first_taken}
use Rattle.sort_checker.specs.TypedTrees.{AreReadings, how_of}
use Rattle.sort_checker.proofs.chosen_actions.first_fitting.Given as goal

abbrev pub invariant-loop-action : goal.invariant-loop-action
invariant-loop-action l = (g : Sig) (ts : List Typing) → AreReadings g l.readings ts → first_taken (how_of l.way) ts l.actions ≡ first_taken (how_of l.way) ts (drop l.action-index l.actions)
