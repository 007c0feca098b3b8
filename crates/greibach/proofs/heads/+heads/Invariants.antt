use Rattle.std.proofs.Common.{◌≡◌, ◌+◌, ◌*◌, take}
use Rattle.term_pool.specs.Pools.{Extends}
use Rattle.lps_core.specs.Naming.{GrowsByNames}
use Rattle.greibach.specs.PlacesInCode.{plain_places}
use Rattle.greibach.specs.Surroundings.{plain_around, plain_unfolding, Added}
use Rattle.greibach.specs.AddedHeads.{AddsEach, Grew}
use Rattle.greibach.proofs.heads.+heads.Given as goal

abbrev pub decreases-add : goal.decreases-add
decreases-add l = 3 * l.around.room

abbrev pub decreases-add_guarded : goal.decreases-add_guarded
decreases-add_guarded l = 3 * l.around.room + 1

abbrev pub decreases-add_summed : goal.decreases-add_summed
decreases-add_summed l = 3 * l.around.room + 1

abbrev pub decreases-add_entered : goal.decreases-add_entered
decreases-add_entered l = 3 * l.around.room + 1

abbrev pub decreases-add_called : goal.decreases-add_called
decreases-add_called l = 3 * l.around.room + 2

abbrev pub decreases-add_operands : goal.decreases-add_operands
decreases-add_operands l = 3 * l.around.room + 1

abbrev pub decreases-add_branches : goal.decreases-add_branches
decreases-add_branches l = 3 * l.around.room + 2

abbrev pub invariant-add_operands-loop-operand : goal.invariant-add_operands-loop-operand
invariant-add_operands-loop-operand l =
    GrowsByNames l.fn.sig l.sig × Extends l.fn.pool.trees l.pool.trees × (l.pool.constants ≡ l.fn.pool.constants)
    × Added l.fn.sig l.sig l.fn.pool.trees l.pool.trees (plain_places l.places) l.around.params.now (plain_unfolding l.fn.under_way) (plain_unfolding l.under_way)
    × Grew l.sig l.pool.trees (plain_unfolding l.fn.under_way) (plain_unfolding l.under_way) (λ e. AddsEach e (plain_places l.places) (plain_around l.around) (plain_unfolding l.fn.under_way).waiting (take l.operand-index l.operands))
