-- Pairs of equations in code that exclude one another.
use Rattle.std.specs.Prelude.{◌≡◌, ◌<◌, ◌⊎◌, Bool, List, ◌++◌, ◌∷◌, map}
use Rattle.std.specs.List.{All, Contains}
use Rattle.std.specs.Bool.{Decides}
use Rattle.data_theory.specs.declared.ids.TermId.{TermId}
use Rattle.data_theory.specs.Terms.{Term, variables_of}
use Rattle.data_theory.specs.Environments.{AreDistinct}
use Rattle.data_theory.specs.Provable.{Equation}
use Rattle.data_theory.specs.Signature.{Sig}
use Rattle.data_theory.specs.IdData.{data_meant}
use Rattle.data_theory.specs.IdTrees.{Tree}
use Rattle.term_pool.specs.declared.terms.Equation.{Equation as Written}
use Rattle.eqn_check.specs.declared.filled.Filling.{Filling}
use Rattle.eqn_check.specs.declared.filled.Filling.TheVariants.{First, Second}
use Rattle.eqn_check.specs.declared.filled.FilledTerm.{FilledTerm}
use Rattle.eqn_check.specs.declared.filled.Opposites.{Opposites}
use Rattle.eqn_check.specs.Conditions.{parts, AreContrary, IsFalseByForm}
use Rattle.eqn_check.specs.Exclusion.{filled, Exclude}
use Rattle.eqn_check.specs.Fillings.{filling, filled_at, AreOpposite}
use Rattle.eqn_check.specs.Judged.{term_at, IsEquationOf, IsTerm}

abbrev pub IsFilledTerm : Sig → List Tree → FilledTerm → Type 0
IsFilledTerm sig ts f = IsTerm sig ts f.term

-- the part is false by its form, or contrary to one of these
abbrev pub CantHoldWith : Sig → List Tree → Opposites → FilledTerm → List FilledTerm → Type 0
CantHoldWith sig ts o f others =
    IsFalseByForm (data_meant sig) (filled_at sig ts o f) ⊎ ((u : FilledTerm) × Contains others u × AreContrary (filled_at sig ts o f) (filled_at sig ts o u))

-- ---- parts
pub record AreConjuncts (sig : Sig) (ts : List Tree) (term one other : TermId) : Type 0 where
  pub one_in : IsTerm sig ts one
  pub other_in : IsTerm sig ts other
  pub parts : parts (term_at sig ts term) ≡ term_at sig ts one ∷ parts (term_at sig ts other)
  pub smaller : other.0 < term.0

-- the parts of the condition come behind
pub record AddsParts (sig : Sig) (ts : List Tree) (condition : TermId) (by : Filling) (old new : List FilledTerm) : Type 0 where
  pub added : List FilledTerm
  pub behind : new ≡ old ++ added
  pub within : All (IsFilledTerm sig ts) added
  pub parts : (o : Opposites) → map (filled_at sig ts o) added ≡ map (filled (filling sig ts o by)) (parts (term_at sig ts condition))

-- Some parts were put behind the old ones, and those of the rest are the others.
pub record PushesParts (sig : Sig) (ts : List Tree) (condition rest : TermId) (by : Filling) (old new : List FilledTerm) : Type 0 where
  pub added : List FilledTerm
  pub behind : new ≡ old ++ added
  pub within : All (IsFilledTerm sig ts) added
  pub rest_in : IsTerm sig ts rest
  pub parts : (o : Opposites) → map (filled_at sig ts o) added ++ map (filled (filling sig ts o by)) (parts (term_at sig ts rest)) ≡ map (filled (filling sig ts o by)) (parts (term_at sig ts condition))

-- the parts of both conditions, with these terms put in
abbrev pub parts_at : Sig → List Tree → Opposites → Written → Written → List Term
parts_at sig ts o e f = map (filled (filling sig ts o First)) (parts (term_at sig ts e.cond)) ++ map (filled (filling sig ts o Second)) (parts (term_at sig ts f.cond))

-- ---- all of it
pub record AreOppositesOf (sig : Sig) (ts : List Tree) (one other : TermId) (o : Opposites) : Type 0 where
  pub first : AreOpposite sig ts one other o.first
  pub second : AreOpposite sig ts other one o.second

-- the flag tells whether the equations exclude one another, where both left sides are linear
abbrev pub DecidesExclusion : Sig → List Tree → Written → Written → Bool → Type 0
DecidesExclusion sig ts e f b =
    (p q : Equation) → IsEquationOf sig ts e p → IsEquationOf sig ts f q → AreDistinct (variables_of p.left) → AreDistinct (variables_of q.left)
    → Decides b (Exclude (data_meant sig) p q)
