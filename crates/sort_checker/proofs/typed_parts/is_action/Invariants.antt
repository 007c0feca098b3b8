use Rattle.std.proofs.Common.{◌≡◌, false, List, take}
use Rattle.std.specs.List.{list_any}
use Rattle.data_typing.specs.Typings.{Typing}
use Rattle.sort_checker.specs.TypedTrees.{AreReadings, fits_action}
use Rattle.sort_checker.proofs.typed_parts.is_action.Given as goal

abbrev pub invariant-loop-action : goal.invariant-loop-action
invariant-loop-action l = (ts : List Typing) → AreReadings l.context.sig.now l.readings ts → list_any (fits_action l.context.sig.now ts) (take l.action-index l.actions) ≡ false
