use Rattle.std.specs.List.{Contains}
use Rattle.lps_core.proofs.NamingLoops.{IsNamingSums}
use Rattle.lps_core.proofs.naming.name_all.Given as goal

abbrev pub invariant-loop-sum : goal.invariant-loop-sum
invariant-loop-sum l = IsNamingSums (λ n. Contains l.used.keys n) l.fn.sig l.sums l.sum-index l.sig l.named.items l.mine.keys
