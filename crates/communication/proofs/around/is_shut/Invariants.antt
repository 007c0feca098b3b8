use Rattle.std.proofs.Common.{◌≡◌, take, false, List}
use Rattle.std.specs.List.{list_any}
use Rattle.action_filters.specs.NameTests.{is_nothing}
use Rattle.communication.specs.declared.plans.Equality.{Equality}
use Rattle.communication.specs.Plans.{equalities_of_each}
use Rattle.communication.proofs.around.is_shut.Given as goal

abbrev pub invariant-loop-asked : goal.invariant-loop-asked
invariant-loop-asked l = list_any (λ (qs : List Equality). is_nothing qs) (equalities_of_each (take l.asked-index l.asked-items)) ≡ false
