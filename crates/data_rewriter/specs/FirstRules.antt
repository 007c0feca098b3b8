-- The first written equation that matches at a root.
use Rattle.std.specs.Prelude.{◌≡◌, ◌≤◌, ◌<◌, ℕ, List, [], Option, Some, None, slice_get}
use Rattle.data_theory.specs.declared.ids.TermId.{TermId}
use Rattle.data_theory.specs.declared.ids.VarId.{VarId}
use Rattle.data_theory.specs.Terms.{Term}
use Rattle.data_theory.specs.Signature.{Sig}
use Rattle.data_theory.specs.IdTrees.{Tree}
use Rattle.data_theory.specs.IdTerms.{term_under}
use Rattle.term_pool.specs.Bindings.{listed}
use Rattle.data_rewriter.specs.declared.tables.Rule.{Rule}
use Rattle.data_rewriter.specs.declared.equations.Matched.{Matched}
use Rattle.data_rewriter.specs.Matching.{IsMatchState, Misses}

-- what stands for variables by a list
abbrev pub put_by : Sig → List Tree → List (VarId × TermId) → ℕ → Term
put_by sig ts found v = term_under sig (listed ts found (record { 0 = v }))

-- this one matches, and none between the first that counts and it
pub record IsMatched (sig : Sig) (ts : List Tree) (rules : List Rule) (root : TermId) (first : ℕ) (m : Matched) : Type 0 where
  pub rule : Rule
  pub there : slice_get rules m.number ≡ Some rule
  pub behind : first ≤ m.number
  pub state : IsMatchState sig ts rule.left root m.found.items []
  pub none_before : (n : ℕ) (r : Rule) → first ≤ n → n < m.number → slice_get rules n ≡ Some r → Misses sig ts r.left root

abbrev pub IsFirstRule : Sig → List Tree → List Rule → TermId → ℕ → Option Matched → Type 0
IsFirstRule sig ts rules root first None = (n : ℕ) (r : Rule) → first ≤ n → slice_get rules n ≡ Some r → Misses sig ts r.left root
IsFirstRule sig ts rules root first (Some m) = IsMatched sig ts rules root first m
