-- Counting down, in code.
use Rattle.std.specs.Prelude.{◌≡◌, ◌↔◌, ◌⊎◌, ℕ, List, Option, None, Some}
use Rattle.std.specs.List.{AllZip, Contains}
use Rattle.data_theory.specs.declared.ids.TermId.{TermId}
use Rattle.data_theory.specs.declared.ids.VarId.{VarId}
use Rattle.data_theory.specs.Signature.{Sig}
use Rattle.data_theory.specs.IdTrees.{Tree, variable}
use Rattle.term_pool.specs.HeadTrees.{tree_at}
use Rattle.eqn_check.specs.Counting.{kept_above, IsKeptAbove}
use Rattle.eqn_check.specs.Judged.{term_at, IsTerm}

-- the variable's number
abbrev pub numbered : Option VarId → Option ℕ
numbered None = None
numbered (Some v) = Some v.0

-- the variable that a term is, where the condition keeps it above the least value
abbrev pub IsCounted : Sig → List Tree → TermId → TermId → Option VarId → Type 0
IsCounted sig ts c a o = (v : VarId) → (o ≡ Some v) ↔ ((tree_at ts a ≡ variable v) × IsKeptAbove (term_at sig ts c) v.0)

-- that of each of these terms
abbrev pub AreCounted : Sig → List Tree → TermId → List TermId → List (Option VarId) → Type 0
AreCounted sig ts c terms counted = AllZip (IsCounted sig ts c) terms counted

-- ---- the variables that a condition keeps above the least value
abbrev pub AreKeptAbove : Sig → List Tree → TermId → List VarId → Type 0
AreKeptAbove sig ts c found = (v : VarId) → Contains found v ↔ IsKeptAbove (term_at sig ts c) v.0

-- the one that a part keeps there is added
abbrev pub AddsKept : Sig → List Tree → TermId → List VarId → List VarId → Type 0
AddsKept sig ts part old new = (v : VarId) → Contains new v ↔ (Contains old v ⊎ (kept_above (term_at sig ts part) ≡ Some v.0))

-- a walk: they were found, or the rest of the condition keeps them there
pub record WalksKept (sig : Sig) (ts : List Tree) (c rest : TermId) (found : List VarId) : Type 0 where
  pub rest_in : IsTerm sig ts rest
  pub exact : (v : VarId) → IsKeptAbove (term_at sig ts c) v.0 ↔ (Contains found v ⊎ IsKeptAbove (term_at sig ts rest) v.0)
