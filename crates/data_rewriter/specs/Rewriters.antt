-- What a rewriter keeps, and what its answers say.
use Rattle.std.specs.Prelude.{◌≡◌, ◌≢◌, ◌≤◌, ◌+◌, ℕ, List, Option, Some}
use Rattle.data_theory.specs.declared.ids.TermId.{TermId}
use Rattle.data_theory.specs.Equations.{trueᵗ, falseᵗ}
use Rattle.data_theory.specs.Provable.{Equation}
use Rattle.data_theory.specs.Terms.{Sort}
use Rattle.data_theory.specs.Declarations.{HasSort}
use Rattle.data_theory.specs.Rewriting.{GoesTo, ChainOfMoreThan, AreSorts}
use Rattle.data_theory.specs.Fuel.{enough_for}
use Rattle.data_theory.specs.Signature.{Sig}
use Rattle.data_theory.specs.IdData.{data_meant}
use Rattle.data_theory.specs.IdTrees.{Tree}
use Rattle.number_rules.specs.declared.rules.NumberRules.{NumberRules}
use Rattle.std.specs.HashMap.{HashMap}
use Rattle.data_rewriter.specs.declared.rewriter.Rewriter.{Rewriter}
use Rattle.data_rewriter.specs.declared.rewriter.Truth.{Truth}
use Rattle.data_rewriter.specs.declared.rewriter.Truth.TheVariants.{Yes, No, Stuck, Spent}
use Rattle.term_pool.specs.Bindings.{result_of}
use Rattle.data_rewriter.specs.declared.machine.Normal.{Normal}
use Rattle.data_rewriter.specs.declared.machine.Normal.TheVariants.{Done, Spent as SpentAt}
use Rattle.data_rewriter.specs.Stored.{AreCovered, IsClosed}
use Rattle.data_rewriter.specs.Standing.{IsTerm, term_at}
use Rattle.data_rewriter.specs.States.{AreTablesOf, AreStored}
use Rattle.data_rewriter.specs.Charges.{IsPaid, IsUsedUp, pairs_of, AnswerCosts}
use Rattle.term_pool.specs.Pools.{PoolContents}

-- the rules of numbers that a rewriter holds
abbrev pub number_rules : {F : Type 0} → Rewriter F → NumberRules F
number_rules r = r.rules

-- A rewriter of these data fits a pool: what it keeps of the signature and of the written equations stands there, and each
-- stored pair is a term of the data and the term that it goes to. What is stored for a term is stored for itself, where the equations
-- have no further variables on their right sides.
pub record Fits {F : Type 0} (r : Rewriter F) (sig : Sig) (own : List Equation) (ts : List Tree) : Type 0 where
  pub tables : AreTablesOf r.tables sig own ts
  pub stored : AreStored sig own ts r.normal_forms
  pub closed : AreCovered own → IsClosed r.normal_forms

-- the normal form that a rewriter has stored for a term
abbrev pub stored_form : {F : Type 0} → Rewriter F → TermId → Option TermId
stored_form r t = result_of r.normal_forms t

-- what was answered for a term is stored for it and for itself
abbrev pub IsStoredAnswer : {F : Type 0} → Rewriter F → TermId → Normal → Type 0
IsStoredAnswer r t (Done u) = (stored_form r t ≡ Some u) × (stored_form r u ≡ Some u)
IsStoredAnswer r t (SpentAt u) = Unit {0}

-- how a term of sort Bool is decided, where the fuel falls from the first number to the second
abbrev pub IsDecision : Sig → List Equation → List Tree → List Tree → TermId → ℕ → ℕ → Truth → Type 0
IsDecision sig own old new t fuel fuel' Yes = (n : ℕ) × (fuel ≤ n + fuel') × GoesTo (data_meant sig) own (term_at sig old t) trueᵗ n
IsDecision sig own old new t fuel fuel' No = (n : ℕ) × (fuel ≤ n + fuel') × GoesTo (data_meant sig) own (term_at sig old t) falseᵗ n
IsDecision sig own old new t fuel fuel' (Stuck u) = IsTerm sig new u × ((n : ℕ) × (fuel ≤ n + fuel') × GoesTo (data_meant sig) own (term_at sig old t) (term_at sig new u) n) × (term_at sig new u ≢ trueᵗ) × (term_at sig new u ≢ falseᵗ)
IsDecision sig own old new t fuel fuel' (Spent u) = (u ≡ t) × (fuel' ≡ 0) × ChainOfMoreThan (data_meant sig) own fuel (term_at sig old t)

-- what a term is as a truth value
abbrev pub IsTruthOf : Sig → List Tree → TermId → Truth → Type 0
IsTruthOf sig ts t Yes = term_at sig ts t ≡ trueᵗ
IsTruthOf sig ts t No = term_at sig ts t ≡ falseᵗ
IsTruthOf sig ts t (Stuck u) = (u ≡ t) × (term_at sig ts t ≢ trueᵗ) × (term_at sig ts t ≢ falseᵗ)
IsTruthOf sig ts t (Spent u) = ⊥

-- the rewriting has come to its end
abbrev pub IsFinished : Normal → Type 0
IsFinished (Done u) = Unit {0}
IsFinished (SpentAt u) = ⊥

-- where no equation is written and the fuel is enough for a well-sorted term, closed or not, rewriting ends
abbrev pub EndsWithEnough : Sig → List Tree → TermId → ℕ → Normal → Type 0
EndsWithEnough sig ts t fuel r =
    (vs : List Sort) → AreSorts (data_meant sig) vs → (s : Sort) → HasSort (data_meant sig) vs (term_at sig ts t) s
    → enough_for (term_at sig ts t) ≤ fuel → IsFinished r

-- over all data of the rewriter, what `normalise` answers costs what the fuel fell by; what was stored is free
abbrev pub Costs : {F : Type 0} → Rewriter F → PoolContents → PoolContents → TermId → ℕ → ℕ → Normal → Type 0
Costs r old new t fuel left answer =
    (sig : Sig) (own : List Equation) → Fits r sig own old.trees → IsTerm sig old.trees t
    → AnswerCosts sig own old.trees new.trees r.normal_forms t fuel left answer

-- what a decision costs, where these pairs were stored at first
abbrev pub DecisionCosts : {S : Type 0} → Sig → List Equation → List Tree → List Tree → HashMap TermId TermId S → TermId → ℕ → ℕ → Truth → Type 0
DecisionCosts sig own old new store t fuel left Yes = IsPaid (data_meant sig) own (pairs_of sig old store) (term_at sig old t) trueᵗ fuel left
DecisionCosts sig own old new store t fuel left No = IsPaid (data_meant sig) own (pairs_of sig old store) (term_at sig old t) falseᵗ fuel left
DecisionCosts sig own old new store t fuel left (Stuck u) = IsPaid (data_meant sig) own (pairs_of sig old store) (term_at sig old t) (term_at sig new u) fuel left
DecisionCosts sig own old new store t fuel left (Spent u) = IsUsedUp (data_meant sig) own (pairs_of sig old store) (term_at sig old t) fuel left

-- the same of `decide`
abbrev pub TruthCosts : {F : Type 0} → Rewriter F → PoolContents → PoolContents → TermId → ℕ → ℕ → Truth → Type 0
TruthCosts r old new t fuel left answer =
    (sig : Sig) (own : List Equation) → Fits r sig own old.trees → IsTerm sig old.trees t
    → DecisionCosts sig own old.trees new.trees r.normal_forms t fuel left answer
