-- Terms with the most general terms put in, in code.
use Rattle.std.specs.Prelude.{◌≡◌, ◌⊎◌, ◌==◌, ℕ, Bool, true, false, Option, None, Some, List, ◌++◌, map}
use Rattle.std.specs.List.{All, Contains}
use Rattle.std.specs.HashMap.{HashMap, get}
use Rattle.data_theory.specs.declared.ids.TermId.{TermId}
use Rattle.data_theory.specs.declared.ids.VarId.{VarId}
use Rattle.data_theory.specs.Terms.{Term, variable}
use Rattle.data_theory.specs.Signature.{Sig}
use Rattle.data_theory.specs.IdTrees.{Tree, function}
use Rattle.term_pool.specs.HeadTrees.{tree_at}
use Rattle.eqn_check.specs.declared.filled.Filling.{Filling}
use Rattle.eqn_check.specs.declared.filled.Filling.TheVariants.{First, Second, FirstAlone, SecondAlone}
use Rattle.eqn_check.specs.declared.filled.FilledTerm.{FilledTerm}
use Rattle.eqn_check.specs.declared.filled.Opposites.{Opposites}
use Rattle.eqn_check.specs.Alike.{Pair, IsPairOver, IsVariableTree}
use Rattle.eqn_check.specs.Exclusion.{filled, first_variable, second_variable, StandsOpposite}
use Rattle.eqn_check.specs.Judged.{term_at, IsTerm}

-- ---- what stands opposite
abbrev pub opposite_of : {S : Type 0} → HashMap VarId TermId S → ℕ → Option TermId
opposite_of found x = get (λ a b. a.0 == b.0) found (record { 0 = x })

-- for each variable of a term that has something opposite in the other one, the map has such a term
pub record AreOpposite {S : Type 0} (sig : Sig) (ts : List Tree) (one other : TermId) (found : HashMap VarId TermId S) : Type 0 where
  pub within : (x : ℕ) (t : TermId) → opposite_of found x ≡ Some t → IsTerm sig ts t
  pub sound : (x : ℕ) (t : TermId) → opposite_of found x ≡ Some t → StandsOpposite x (term_at sig ts one) (term_at sig ts other) (term_at sig ts t)
  pub all : (x : ℕ) (u : Term) → StandsOpposite x (term_at sig ts one) (term_at sig ts other) u → (t : TermId) × (opposite_of found x ≡ Some t)

abbrev pub IsOppositeIn : Sig → List Tree → ℕ → Term → Pair → Type 0
IsOppositeIn sig ts x u p = StandsOpposite x (term_at sig ts p.0) (term_at sig ts p.1) u

-- a walk: what stands opposite a variable is opposite it in a pair that is left, or the map has something
pub record WalksOpposite {S : Type 0} (sig : Sig) (ts : List Tree) (one other : TermId) (found : HashMap VarId TermId S) (left : List Pair) : Type 0 where
  pub pairs_within : All (IsPairOver sig ts) left
  pub within : (x : ℕ) (t : TermId) → opposite_of found x ≡ Some t → IsTerm sig ts t
  pub sound : (x : ℕ) (t : TermId) → opposite_of found x ≡ Some t → StandsOpposite x (term_at sig ts one) (term_at sig ts other) (term_at sig ts t)
  pub pairs_sound : (x : ℕ) (u : Term) (p : Pair) → Contains left p → IsOppositeIn sig ts x u p → StandsOpposite x (term_at sig ts one) (term_at sig ts other) u
  pub all : (x : ℕ) (u : Term) → StandsOpposite x (term_at sig ts one) (term_at sig ts other) u
      → ((t : TermId) × (opposite_of found x ≡ Some t)) ⊎ ((p : Pair) × Contains left p × IsOppositeIn sig ts x u p)

-- ---- terms that are read with the most general ones put in
abbrev pub first_put : Sig → List Tree → ℕ → Option TermId → Term
first_put sig ts x None = first_variable x
first_put sig ts x (Some t) = filled second_variable (term_at sig ts t)

-- a variable that is opposite a variable is renamed only
abbrev pub second_or : ℕ → Term → Term
second_or y (variable x) = second_variable y
second_or y t = filled first_variable t

abbrev pub second_put : Sig → List Tree → ℕ → Option TermId → Term
second_put sig ts y None = second_variable y
second_put sig ts y (Some t) = second_or y (term_at sig ts t)

-- what stands for a variable
abbrev pub filling : Sig → List Tree → Opposites → Filling → ℕ → Term
filling sig ts o First x = first_put sig ts x (opposite_of o.first x)
filling sig ts o Second x = second_put sig ts x (opposite_of o.second x)
filling sig ts o FirstAlone x = first_variable x
filling sig ts o SecondAlone x = second_variable x

abbrev pub filled_at : Sig → List Tree → Opposites → FilledTerm → Term
filled_at sig ts o f = filled (filling sig ts o f.by) (term_at sig ts f.term)

-- all that stands opposite is a term
pub record AreOppositesOver (sig : Sig) (ts : List Tree) (o : Opposites) : Type 0 where
  pub first : (x : ℕ) (t : TermId) → opposite_of o.first x ≡ Some t → IsTerm sig ts t
  pub second : (x : ℕ) (t : TermId) → opposite_of o.second x ≡ Some t → IsTerm sig ts t

abbrev pub IsAlone : Filling → Type 0
IsAlone FirstAlone = Unit {0}
IsAlone SecondAlone = Unit {0}
IsAlone _ = ⊥

-- the same term, of which the variable, if it is one, has nothing opposite
pub record IsResolved (sig : Sig) (ts : List Tree) (o : Opposites) (was is : FilledTerm) : Type 0 where
  pub term : IsTerm sig ts is.term
  pub same : filled_at sig ts o is ≡ filled_at sig ts o was
  pub alone : IsVariableTree (tree_at ts is.term) → IsAlone is.by

-- what stands for a variable of the first equation
abbrev pub first_given : TermId → Option TermId → FilledTerm
first_given v None = record { term = v; by = FirstAlone }
first_given v (Some t) = record { term = t; by = SecondAlone }

-- a variable or a numeral
abbrev pub IsLeaf : Tree → Type 0
IsLeaf (function f ts) = ⊥
IsLeaf _ = Unit {0}

-- ---- what is left to compare
abbrev pub FilledPair : Type 0
FilledPair = FilledTerm × FilledTerm

abbrev pub IsFilledPair : Sig → List Tree → FilledPair → Type 0
IsFilledPair sig ts p = IsTerm sig ts p.0.term × IsTerm sig ts p.1.term

abbrev pub IsSamePair : Sig → List Tree → Opposites → FilledPair → Type 0
IsSamePair sig ts o p = filled_at sig ts o p.0 ≡ filled_at sig ts o p.1

-- these arguments with this filling
abbrev pub with_filling : Filling → TermId → FilledTerm
with_filling by t = record { term = t; by = by }

abbrev pub filled_pairs : Filling → Filling → List Pair → List FilledPair
filled_pairs one other ps = map (λ (p : Pair). (with_filling one p.0, with_filling other p.1)) ps

-- Two terms were compared, and pairs put behind those that are left: the terms are the same where these are; or they aren't the same.
pub record ComparesFilled (sig : Sig) (ts : List Tree) (o : Opposites) (one other : FilledTerm) (old new : List FilledPair) (so : Bool) : Type 0 where
  pub added : List FilledPair
  pub left : new ≡ old ++ added
  pub within : All (IsFilledPair sig ts) added
  pub same : so ≡ true → All (IsSamePair sig ts o) added → filled_at sig ts o one ≡ filled_at sig ts o other
  pub all_same : so ≡ true → filled_at sig ts o one ≡ filled_at sig ts o other → All (IsSamePair sig ts o) added
  pub different : so ≡ false → filled_at sig ts o one ≡ filled_at sig ts o other → ⊥

-- The terms are the same exactly where all pairs that are left are.
pub record AreFilledLeft (sig : Sig) (ts : List Tree) (o : Opposites) (one other : FilledTerm) (left : List FilledPair) : Type 0 where
  pub within : All (IsFilledPair sig ts) left
  pub same : All (IsSamePair sig ts o) left → filled_at sig ts o one ≡ filled_at sig ts o other
  pub all_same : filled_at sig ts o one ≡ filled_at sig ts o other → All (IsSamePair sig ts o) left
