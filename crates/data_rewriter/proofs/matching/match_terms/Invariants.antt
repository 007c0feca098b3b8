use Rattle.std.specs.List.{All}
use Rattle.data_theory.specs.declared.ids.VarId.{VarId}
use Rattle.data_theory.specs.declared.ids.TermId.{TermId}
use Rattle.term_pool.specs.HeadTrees.{IsIn}
use Rattle.data_theory.specs.Signature.{Sig}
use Rattle.data_rewriter.specs.Matching.{IsMatchState, ArePairsIn}
use Rattle.data_theory.specs.IdTables.{IsTable}
use Rattle.data_rewriter.specs.Standing.{IsTerm}
use Rattle.data_rewriter.proofs.matching.match_terms.Given as goal

abbrev pub invariant-loop : goal.invariant-loop
invariant-loop l = ((sig : Sig) → IsTable sig → IsTerm sig l.pool.trees l.fn.pattern → IsTerm sig l.pool.trees l.fn.term → IsMatchState sig l.pool.trees l.fn.pattern l.fn.term l.found.items l.left.items) × ArePairsIn l.pool.trees l.left.items × All (λ (p : VarId × TermId). IsIn l.pool.trees p.1) l.found.items
