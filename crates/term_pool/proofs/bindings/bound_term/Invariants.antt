use Rattle.std.proofs.Common.{◌≡◌, List, drop}
use Rattle.data_theory.specs.IdTrees.{Tree}
use Rattle.term_pool.specs.Bindings.{listed}
use Rattle.term_pool.proofs.bindings.bound_term.Given as goal

abbrev pub invariant-loop-listed : goal.invariant-loop-listed
invariant-loop-listed l = (ts : List Tree) → listed ts (drop l.listed-index l.by) l.var ≡ listed ts l.by l.var
