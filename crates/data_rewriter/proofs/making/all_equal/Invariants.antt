use Rattle.std.proofs.Common.{◌-◌, List}
use Rattle.std.specs.List.{All}
use Rattle.data_theory.specs.Terms.{Sort}
use Rattle.data_theory.specs.Signature.{Sig}
use Rattle.data_theory.specs.WholeSignatures.{IsSignature}
use Rattle.term_pool.specs.HeadTrees.{IsIn}
use Rattle.term_pool.specs.Pools.{Extends}
use Rattle.data_rewriter.specs.Standing.{IsTerm, StandsFor, listed_at}
use Rattle.data_rewriter.specs.Signatures.{AreEqualities, equal_from}
use Rattle.data_rewriter.proofs.making.all_equal.Given as goal

abbrev pub invariant-loop-back : goal.invariant-loop-back
invariant-loop-back l = Extends l.fn.pool.trees l.pool.trees × IsIn l.pool.trees l.all × ((sig : Sig) → IsSignature sig → (ss : List Sort) → AreEqualities sig l.equals ss → All (IsTerm sig l.fn.pool.trees) l.xs → All (IsTerm sig l.fn.pool.trees) l.ys → StandsFor sig l.pool.trees l.all (equal_from (l.count - l.back) ss (listed_at sig l.fn.pool.trees l.xs) (listed_at sig l.fn.pool.trees l.ys)))
