use Rattle.std.proofs.Common.{◌≡◌, ◌++◌, map, drop}
use Rattle.std.specs.List.{All}
use Rattle.term_pool.specs.Pools.{Extends}
use Rattle.data_rewriter.specs.Standing.{IsTerm, term_at}
use Rattle.trace_replay.proofs.EqualityTerms.{equalities_at}
use Rattle.trace_replay.proofs.ways.add_term_equalities.Given as goal

abbrev pub invariant-loop-index : goal.invariant-loop-index
invariant-loop-index l = record {
  kept : Extends l.fn.pool.trees l.pool.trees;
  over : All (IsTerm l.sig l.pool.trees) l.conditions.items;
  left : map (term_at l.sig l.pool.trees) l.conditions.items ++ equalities_at l.sig l.fn.pool.trees (drop l.index l.sorts) (drop l.index l.firsts) (drop l.index l.seconds)
      ≡ map (term_at l.sig l.fn.pool.trees) l.fn.conditions.items ++ equalities_at l.sig l.fn.pool.trees l.sorts l.firsts l.seconds;
}
