use Rattle.std.proofs.Common.{◌≡◌, drop}
use Rattle.std.specs.List.{list_all}
use Rattle.sort_table.specs.BareProcesses.{Variables}
use Rattle.sort_checker.specs.Faults.{is_typed}
use Rattle.sort_checker.specs.FullVocabularies.{FullVocabulary}
use Rattle.sort_checker.specs.StopTrees.{stops_of}
use Rattle.sort_checker.specs.Stops.{scoped_along}
use Rattle.sort_checker.specs.TextContexts.{IsContextOver}
use Rattle.sort_checker.specs.VariableScopes.{HasInScope}
use Rattle.sort_checker.proofs.untyped_parts.are_typed_along.Given as goal

abbrev pub invariant-loop-stop : goal.invariant-loop-stop
invariant-loop-stop l = (xs : Variables) → HasInScope l.context.sig.now xs l.fn.scope
    → (ys : Variables) × HasInScope l.context.sig.now ys l.scope × ((v : FullVocabulary) → IsContextOver v l.context → list_all (is_typed v) (scoped_along ys (stops_of (drop l.stop-index l.stops))) ≡ list_all (is_typed v) (scoped_along xs (stops_of l.stops)))
