use Rattle.lps_simulator.proofs.Levels.{IsReading}
use Rattle.lps_simulator.proofs.leading_parts.level_of.Given as goal

abbrev pub invariant-loop : goal.invariant-loop
invariant-loop l = IsReading l.pool.trees l.terms l.sums l.waiting.items l.level
