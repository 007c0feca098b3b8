use Rattle.std.proofs.Common.{◌≡◌}
use Rattle.lps_core.proofs.RenamingLists.{IsMoving}
use Rattle.lps_core.proofs.moving.renaming.Given as goal

abbrev pub invariant-loop-number : goal.invariant-loop-number
invariant-loop-number l = IsMoving l.fn.pool.trees l.from l.to l.number l.pool.trees l.by.items × (l.pool.constants ≡ l.fn.pool.constants)
