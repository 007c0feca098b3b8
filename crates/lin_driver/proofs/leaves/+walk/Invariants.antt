use Rattle.std.proofs.Common.{◌≡◌, ◌++◌, map, take}
use Rattle.process_terms.specs.PlainProcesses.{plain_component}
use Rattle.lin_driver.proofs.NetworkLeaves.{leaves_of_each}
use Rattle.lin_driver.proofs.leaves.+walk.Given as goal

abbrev pub invariant-add_leaves_beside-loop-part : goal.invariant-add_leaves_beside-loop-part
invariant-add_leaves_beside-loop-part l = map plain_component l.found.items ≡ map plain_component l.initial.found.items ++ leaves_of_each (take l.part-index l.parts)
