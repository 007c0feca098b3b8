-- What a simplifier answers, and which terms are simple.
use Rattle.std.specs.Prelude.{◌⊎◌, ℕ, List, Contains}
use Rattle.data_theory.specs.declared.ids.TermId.{TermId}
use Rattle.data_theory.specs.Terms.{Sort, Term, put}
use Rattle.data_theory.specs.Declarations.{Data, IsData, HasSort}
use Rattle.data_theory.specs.Environments.{IsOver}
use Rattle.data_theory.specs.EqualityLaws.{Grows, AreAmong}
use Rattle.data_theory.specs.Provable.{Equation, ProvablyEqual}
use Rattle.data_theory.specs.Rewriting.{IsCovered, IsWellFormed, IsNormal, ChainOfMoreThan, AreSorts, Closes}
use Rattle.data_theory.specs.Signature.{Sig}
use Rattle.data_theory.specs.IdData.{data_meant}
use Rattle.data_theory.specs.IdTrees.{Tree}
use Rattle.data_rewriter.specs.Standing.{IsTerm, term_at}

abbrev pub AreWellFormed : Sig → List Equation → Type 0
AreWellFormed sig own = (q : Equation) → Contains own q → IsWellFormed (data_meant sig) q

-- data that go on from those of the signature, with each of the written equations among theirs
pub record AreLater (sig : Sig) (own : List Equation) (g : Data) (theirs : List Equation) : Type 0 where
  pub grows : Grows (data_meant sig) g
  pub is_data : IsData g
  pub among : AreAmong own theirs

-- The law of simplifiers: the answer is a term of the data with the term's sort and without a variable that the term hasn't, and provably
-- equal to it in every closed instance over all later data, where the written equations are well formed.
pub record IsSimplified (sig : Sig) (own : List Equation) (old new : List Tree) (t u : TermId) : Type 0 where
  pub term : IsTerm sig new u
  pub variables : ((q : Equation) → Contains own q → IsCovered q) → (xs : List ℕ) → IsOver xs (term_at sig old t) → IsOver xs (term_at sig new u)
  pub sort : AreWellFormed sig own → (vs : List Sort) → AreSorts (data_meant sig) vs → (s : Sort) → HasSort (data_meant sig) vs (term_at sig old t) s → HasSort (data_meant sig) vs (term_at sig new u) s
  pub equal : AreWellFormed sig own → (vs : List Sort) → AreSorts (data_meant sig) vs → (s : Sort) → HasSort (data_meant sig) vs (term_at sig old t) s → (g : Data) (theirs : List Equation) → AreLater sig own g theirs → (e : ℕ → Term) → Closes g vs e
      → ProvablyEqual g theirs (put e (term_at sig old t)) (put e (term_at sig new u))

-- normal, or so far from it that this fuel may not reach
abbrev pub IsSimpleWith : Sig → List Equation → ℕ → Term → Type 0
IsSimpleWith sig own fuel t = IsNormal (data_meant sig) own t ⊎ ChainOfMoreThan (data_meant sig) own fuel t
