-- Equations that exclude one another.
use Rattle.std.specs.Prelude.{◌≡◌, ◌⊎◌, ℕ, zero, suc, List, ◌++◌, map}
use Rattle.data_theory.specs.Terms.{Term, Terms, variable, numeral, unknown, application, none, more}
use Rattle.data_theory.specs.Declarations.{Data}
use Rattle.data_theory.specs.Provable.{Equation}
use Rattle.data_theory.specs.Rewriting.{IsNoVariable}
use Rattle.eqn_check.specs.Conditions.{parts, CantAllHold}

-- terms put in for all variables, where nothing merges
abbrev mutual
  pub filled : (ℕ → Term) → Term → Term
  filled e (variable x) = e x
  filled e (numeral s z) = numeral s z
  filled e (unknown d i) = unknown d i
  filled e (application f ts) = application f (all_filled e ts)

  pub all_filled : (ℕ → Term) → Terms → Terms
  all_filled e none = none
  all_filled e (more t ts) = more (filled e t) (all_filled e ts)

-- ---- variables renamed apart
abbrev pub double : ℕ → ℕ
double zero = 0
double (suc n) = suc (suc (double n))

abbrev pub first_variable : ℕ → Term
first_variable x = variable (double x)

abbrev pub second_variable : ℕ → Term
second_variable x = variable (suc (double x))

-- ---- the most general terms that make two linear left sides the same
-- t stands in the second term in the place of the variable x of the first
abbrev mutual
  pub StandsOpposite : ℕ → Term → Term → Term → Type 0
  StandsOpposite x (variable y) q t = (y ≡ x) × (q ≡ t)
  StandsOpposite x (application f ps) (application h qs) t = OneStandsOpposite x ps qs t
  StandsOpposite x _ _ t = ⊥

  pub OneStandsOpposite : ℕ → Terms → Terms → Term → Type 0
  OneStandsOpposite x (more p ps) (more q qs) t = StandsOpposite x p q t ⊎ OneStandsOpposite x ps qs t
  OneStandsOpposite x _ _ t = ⊥

-- For a variable of either left side, what stands in its place in the other one; of two variables that stand in one place, the second.
pub record AreMostGeneral (p q : Term) (into_first into_second : ℕ → Term) : Type 0 where
  pub first : (x : ℕ) (t : Term) → StandsOpposite x p q t → into_first x ≡ filled second_variable t
  pub first_alone : (x : ℕ) → ((t : Term) → StandsOpposite x p q t → ⊥) → into_first x ≡ first_variable x
  pub second : (y : ℕ) (t : Term) → StandsOpposite y q p t → IsNoVariable t → into_second y ≡ filled first_variable t
  pub second_renamed : (y x : ℕ) → StandsOpposite y q p (variable x) → into_second y ≡ second_variable y
  pub second_alone : (y : ℕ) → ((t : Term) → StandsOpposite y q p t → ⊥) → into_second y ≡ second_variable y

-- the parts of both conditions, with these terms put in
abbrev pub joined_parts : Equation → Equation → (ℕ → Term) → (ℕ → Term) → List Term
joined_parts p q into_first into_second = map (filled into_first) (parts p.condition) ++ map (filled into_second) (parts q.condition)

-- with the most general terms put in, the right sides are the same, or the conditions can't both be true
pub record Exclude (g : Data) (p q : Equation) : Type 0 where
  pub into_first : ℕ → Term
  pub into_second : ℕ → Term
  pub general : AreMostGeneral p.left q.left into_first into_second
  pub so : (filled into_first p.right ≡ filled into_second q.right) ⊎ CantAllHold g (joined_parts p q into_first into_second)
