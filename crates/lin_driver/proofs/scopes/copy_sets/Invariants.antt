use Rattle.std.proofs.Common.{◌≡◌, take}
use Rattle.process_terms.specs.PlainProcesses.{items_of_each}
use Rattle.lin_driver.proofs.scopes.copy_sets.Given as goal

abbrev pub invariant-loop-set : goal.invariant-loop-set
invariant-loop-set l = items_of_each l.copies.items ≡ items_of_each (take l.set-index l.sets)
