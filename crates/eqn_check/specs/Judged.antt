-- Written equations in code, and what is answered of them.
use Rattle.std.specs.Prelude.{◌≡◌, ◌<◌, ◌+◌, ℕ, Bool, List, Option, MatchOption, Some, slice_get}
use Rattle.std.specs.Bool.{Decides}
use Rattle.std.specs.List.{AllZip}
use Rattle.data_theory.specs.declared.ids.TermId.{TermId}
use Rattle.data_theory.specs.Terms.{Term, variables_of}
use Rattle.data_theory.specs.Declarations.{Data}
use Rattle.data_theory.specs.Environments.{AreDistinct}
use Rattle.data_theory.specs.Provable.{Equation}
use Rattle.data_theory.specs.Signature.{Sig}
use Rattle.data_theory.specs.IdTrees.{Tree}
use Rattle.data_theory.specs.IdData.{data_meant}
use Rattle.data_theory.specs.IdTerms.{term_under, IsTreeWithin}
use Rattle.term_pool.specs.declared.terms.Equation.{Equation as Written}
use Rattle.term_pool.specs.HeadTrees.{tree_at, IsIn}
use Rattle.eqn_check.specs.declared.answers.Reason.{Reason}
use Rattle.eqn_check.specs.declared.answers.Reason.TheVariants as reasons
use Rattle.eqn_check.specs.declared.answers.Answer.{Answer}
use Rattle.eqn_check.specs.declared.answers.Answer.TheVariants.{Consistent, Unproved}
use Rattle.eqn_check.specs.Exclusion.{Exclude}
use Rattle.eqn_check.specs.Patterns.{IsLeftSide}
use Rattle.eqn_check.specs.Rules.{Rule, shape, repeat, overlap, recursion, Breaks, BreaksOverlap, place_of, LeftSidesMeet, AreAccepted, IsFirstBroken}

abbrev pub term_at : Sig → List Tree → TermId → Term
term_at sig ts id = term_under sig (tree_at ts id)

-- a term of the pool over the sorts and functions of the signature
pub record IsTerm (sig : Sig) (ts : List Tree) (id : TermId) : Type 0 where
  pub inside : IsIn ts id
  pub within : IsTreeWithin sig (tree_at ts id)

-- the condition and both sides are such terms
pub record IsEquationOver (sig : Sig) (ts : List Tree) (e : Written) : Type 0 where
  pub condition : IsTerm sig ts e.cond
  pub left : IsTerm sig ts e.left
  pub right : IsTerm sig ts e.right

-- the equation has this condition and these sides; the rules don't look at the sorts of its variables
pub record IsEquationOf (sig : Sig) (ts : List Tree) (e : Written) (q : Equation) : Type 0 where
  pub condition : q.condition ≡ term_at sig ts e.cond
  pub left : q.left ≡ term_at sig ts e.left
  pub right : q.right ≡ term_at sig ts e.right

abbrev pub AreEquationsOf : Sig → List Tree → List Written → List Equation → Type 0
AreEquationsOf sig ts es own = AllZip (IsEquationOf sig ts) es own

abbrev pub rule_of : Reason → Rule
rule_of reasons.Shape = shape
rule_of reasons.Repeat = repeat
rule_of reasons.Overlap = overlap
rule_of reasons.Recursion = recursion

-- the equation at a place keeps all rules, or this is the first one that it breaks
abbrev pub KeepsRules : Data → List Equation → ℕ → Equation → Type 0
KeepsRules g own k q = (r : Rule) → Breaks g own k q r → ⊥

pub record BreaksFirst (g : Data) (own : List Equation) (k : ℕ) (q : Equation) (r : Rule) : Type 0 where
  pub breaks : Breaks g own k q r
  pub first : (s : Rule) → place_of s < place_of r → Breaks g own k q s → ⊥

-- all equations in front of a place keep the rules
abbrev pub KeepsBefore : Data → List Equation → ℕ → Type 0
KeepsBefore g own n = (j : ℕ) (p : Equation) → j < n → slice_get own j ≡ Some p → KeepsRules g own j p

abbrev pub IsAnswer : Data → List Equation → Answer → Type 0
IsAnswer g own Consistent = AreAccepted g own
IsAnswer g own (Unproved k r) = IsFirstBroken g own k (rule_of r)

-- the answer is right of all equations that these are in code
abbrev pub IsAnswerFor : Sig → List Tree → List Written → Answer → Type 0
IsAnswerFor sig ts es answer = (own : List Equation) → AreEquationsOf sig ts es own → IsAnswer (data_meant sig) own answer

-- no reason, or the first one of the equation at a place, where those in front of it keep the rules
abbrev pub IsReasonFor : Sig → List Tree → List Written → ℕ → Option Reason → Type 0
IsReasonFor sig ts es number broken =
    (own : List Equation) → AreEquationsOf sig ts es own → KeepsBefore (data_meant sig) own number → (q : Equation) → slice_get own number ≡ Some q
    → MatchOption broken (KeepsRules (data_meant sig) own number q) (λ r. BreaksFirst (data_meant sig) own number q (rule_of r))

-- the left side has the right shape, and no variable stands twice in it
abbrev pub IsLinearLeft : Data → Equation → Type 0
IsLinearLeft g p = IsLeftSide g p.left × AreDistinct (variables_of p.left)

-- so it is of the first n equations
abbrev pub AreLinear : Data → List Equation → ℕ → Type 0
AreLinear g own n = (j : ℕ) (p : Equation) → j < n → slice_get own j ≡ Some p → IsLinearLeft g p

-- the flag tells whether the left sides meet and the equations don't exclude one another, where both left sides are linear
abbrev pub DecidesOverlap : Sig → List Tree → Written → Written → Bool → Type 0
DecidesOverlap sig ts e f b =
    (p q : Equation) → IsEquationOf sig ts e p → IsEquationOf sig ts f q → IsLinearLeft (data_meant sig) p → IsLinearLeft (data_meant sig) q
    → Decides b (LeftSidesMeet p q × (Exclude (data_meant sig) p q → ⊥))

-- the flag tells whether this equation overlaps with an earlier one, where all up to it are linear
abbrev pub TellsOverlap : Sig → List Tree → List Written → ℕ → Bool → Type 0
TellsOverlap sig ts es number b =
    (own : List Equation) → AreEquationsOf sig ts es own → AreLinear (data_meant sig) own (number + 1) → (q : Equation) → slice_get own number ≡ Some q
    → Decides b (BreaksOverlap (data_meant sig) own number q)
