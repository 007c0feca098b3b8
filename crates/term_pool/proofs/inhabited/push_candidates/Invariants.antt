use Rattle.std.proofs.Common.{◌≡◌, ◌++◌, map, take}
use Rattle.term_pool.specs.Inhabited.{from_start}
use Rattle.term_pool.proofs.inhabited.push_candidates.Given as goal

abbrev pub invariant-loop-fun : goal.invariant-loop-fun
invariant-loop-fun l = l.all.items ≡ l.fn.all.items ++ map from_start (take l.fun-index l.funs)
