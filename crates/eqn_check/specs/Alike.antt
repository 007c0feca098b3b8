-- Terms that nothing but variables tells apart.
use Rattle.std.specs.Prelude.{◌≡◌, Bool, true, false, List, [], ◌∷◌, ◌++◌}
use Rattle.std.specs.List.{All}
use Rattle.data_theory.specs.declared.ids.TermId.{TermId}
use Rattle.data_theory.specs.Terms.{Term, Terms, variable, application, none, more}
use Rattle.data_theory.specs.Signature.{Sig}
use Rattle.data_theory.specs.IdTrees as tree
use Rattle.data_theory.specs.IdTrees.{Tree}
use Rattle.eqn_check.specs.Judged.{term_at, IsTerm}

-- wherever neither has a variable, both have the same numeral, or the same symbol with as many arguments
abbrev mutual
  pub AreAlike : Term → Term → Type 0
  AreAlike (variable x) q = Unit {0}
  AreAlike p (variable x) = Unit {0}
  AreAlike (application f ps) (application h qs) = (f ≡ h) × AllAlike ps qs
  AreAlike p q = p ≡ q

  pub AllAlike : Terms → Terms → Type 0
  AllAlike none none = Unit {0}
  AllAlike (more p ps) (more q qs) = AreAlike p q × AllAlike ps qs
  AllAlike _ _ = ⊥

-- ---- in code: what is left to compare
abbrev pub Pair : Type 0
Pair = TermId × TermId

abbrev pub IsAlikePair : Sig → List Tree → Pair → Type 0
IsAlikePair sig ts p = AreAlike (term_at sig ts p.0) (term_at sig ts p.1)

abbrev pub IsPairOver : Sig → List Tree → Pair → Type 0
IsPairOver sig ts p = IsTerm sig ts p.0 × IsTerm sig ts p.1

-- the pairs of two lists, as far as both go
abbrev pub pairs : List TermId → List TermId → List Pair
pairs [] ys = []
pairs (x ∷ xs) [] = []
pairs (x ∷ xs) (y ∷ ys) = (x, y) ∷ pairs xs ys

abbrev pub IsVariableTree : Tree → Type 0
IsVariableTree (tree.variable v) = Unit {0}
IsVariableTree _ = ⊥

-- Two terms were compared, and pairs put behind those that are left: the terms are alike where these are; or they aren't alike.
pub record Compares (sig : Sig) (ts : List Tree) (one other : TermId) (old new : List Pair) (so : Bool) : Type 0 where
  pub added : List Pair
  pub left : new ≡ old ++ added
  pub within : All (IsPairOver sig ts) added
  pub alike : so ≡ true → All (IsAlikePair sig ts) added → AreAlike (term_at sig ts one) (term_at sig ts other)
  pub all_alike : so ≡ true → AreAlike (term_at sig ts one) (term_at sig ts other) → All (IsAlikePair sig ts) added
  pub different : so ≡ false → AreAlike (term_at sig ts one) (term_at sig ts other) → ⊥

-- The terms are alike exactly where all pairs that are left are.
pub record AreLeft (sig : Sig) (ts : List Tree) (one other : TermId) (left : List Pair) : Type 0 where
  pub within : All (IsPairOver sig ts) left
  pub alike : All (IsAlikePair sig ts) left → AreAlike (term_at sig ts one) (term_at sig ts other)
  pub all_alike : AreAlike (term_at sig ts one) (term_at sig ts other) → All (IsAlikePair sig ts) left
