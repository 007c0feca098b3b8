use Rattle.std.proofs.Common.{◌≡◌, length}
use Rattle.lps_core.proofs.TreeParts.{IsJoining}
use Rattle.lps_core.proofs.conditions.conjoined.Given as goal

abbrev pub invariant-loop-part : goal.invariant-loop-part
invariant-loop-part l = IsJoining l.fn.pool.trees l.fn.parts.items l.pool.trees l.waiting.items l.chain × (l.pool.constants ≡ l.fn.pool.constants)

abbrev pub decreases-loop-part : goal.decreases-loop-part
decreases-loop-part l = length l.waiting.items
