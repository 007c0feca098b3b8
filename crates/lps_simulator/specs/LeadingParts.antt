-- The leading parts of a condition, and when they tell that it is false.
use Rattle.std.specs.Prelude.{◌≡◌, ◌⊎◌, ℕ, List, [], ◌∷◌}
use Rattle.data_theory.specs.declared.ids.VarId.{VarId}
use Rattle.data_theory.specs.declared.ids.TermId.{TermId}
use Rattle.data_theory.specs.Terms.{Term, put}
use Rattle.data_theory.specs.Declarations.{Data}
use Rattle.data_theory.specs.Environments.{term_in}
use Rattle.data_theory.specs.Equations.{trueᵗ, falseᵗ}
use Rattle.data_theory.specs.Provable.{Equation}
use Rattle.data_theory.specs.Rewriting.{GoesTo}
use Rattle.data_theory.specs.Signature.{Sig}
use Rattle.data_theory.specs.IdTrees.{Tree, Trees, variable, numeral, function, none, more}
use Rattle.data_rewriter.specs.Standing.{term_at}
use Rattle.lps_simulator.specs.Rewritten.{environment_of}

abbrev pub GoesToTrue : Data → List Equation → Term → Type 0
GoesToTrue g own t = (n : ℕ) × GoesTo g own t trueᵗ n

abbrev pub GoesToFalse : Data → List Equation → Term → Type 0
GoesToFalse g own t = (n : ℕ) × GoesTo g own t falseᵗ n

abbrev pub AllGoToTrue : Data → List Equation → List Term → Type 0
AllGoToTrue g own [] = Unit {0}
AllGoToTrue g own (t ∷ ts) = GoesToTrue g own t × AllGoToTrue g own ts

-- those in front go to `true`, and the next one goes to `false`
abbrev pub FailInFront : Data → List Equation → List Term → Type 0
FailInFront g own [] = ⊥
FailInFront g own (t ∷ ts) = GoesToFalse g own t ⊎ (GoesToTrue g own t × FailInFront g own ts)

-- a term of a pool with the listed terms in place of variables
abbrev pub instance_at : Sig → List Tree → List (VarId × TermId) → TermId → Term
instance_at g ts by id = put (term_in (environment_of g ts by)) (term_at g ts id)

-- ---- which variables stand in terms
abbrev mutual
  pub Occurs : VarId → Tree → Type 0
  Occurs v (variable x) = x ≡ v
  Occurs v (numeral a z) = ⊥
  Occurs v (function f ts) = OccursAmong v ts

  pub OccursAmong : VarId → Trees → Type 0
  OccursAmong v none = ⊥
  OccursAmong v (more t ts) = Occurs v t ⊎ OccursAmong v ts

abbrev pub OccursIn : VarId → List Tree → Type 0
OccursIn v [] = ⊥
OccursIn v (t ∷ ts) = Occurs v t ⊎ OccursIn v ts
