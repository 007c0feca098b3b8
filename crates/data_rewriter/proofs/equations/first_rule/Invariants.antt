use Rattle.std.proofs.Common.{◌≡◌, ◌≤◌, ℕ, take, List, Some}
use Rattle.std.specs.Prelude.{slice_get}
use Rattle.std.specs.List.{All}
use Rattle.data_theory.specs.Signature.{Sig}
use Rattle.data_theory.specs.Provable.{Equation}
use Rattle.data_rewriter.specs.declared.tables.Rule.{Rule}
use Rattle.data_rewriter.specs.Standing.{IsTerm}
use Rattle.data_rewriter.specs.States.{AreTablesOf, HasHead}
use Rattle.term_pool.specs.HeadTrees.{tree_at}
use Rattle.data_rewriter.specs.Matching.{Misses}
use Rattle.data_rewriter.proofs.equations.first_rule.Given as goal

abbrev pub invariant-loop-i : goal.invariant-loop-i
invariant-loop-i l = (sig : Sig) (own : List Equation) → AreTablesOf l.tables sig own l.pool.trees → IsTerm sig l.pool.trees l.root → HasHead l.fn.fun (tree_at l.pool.trees l.root) → All (λ (n : ℕ). l.first ≤ n → (r : Rule) → slice_get l.tables.rules.items n ≡ Some r → Misses sig l.pool.trees r.left l.root) (take l.i l.numbers)
