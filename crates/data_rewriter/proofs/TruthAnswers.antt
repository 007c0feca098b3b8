-- Answers of decisions.
use Rattle.std.proofs.Common.{ℕ, List, sym, subst}
use Rattle.data_theory.specs.declared.ids.TermId.{TermId}
use Rattle.data_theory.specs.Terms.{Term}
use Rattle.data_theory.specs.Provable.{Equation}
use Rattle.data_theory.specs.Rewriting.{GoesTo}
use Rattle.data_theory.specs.Signature.{Sig}
use Rattle.data_theory.specs.IdData.{data_meant}
use Rattle.data_theory.specs.IdTrees.{Tree}
use Rattle.data_rewriter.specs.declared.machine.Normal.TheVariants.{Done}
use Rattle.data_rewriter.specs.declared.rewriter.Truth.{Truth}
use Rattle.data_rewriter.specs.declared.rewriter.Truth.TheVariants.{Yes, No, Stuck, Spent}
use Rattle.data_rewriter.specs.Standing.{term_at}
use Rattle.data_rewriter.specs.States.{Says}
use Rattle.data_rewriter.specs.Rewriters.{IsDecision, IsTruthOf, DecisionCosts}
use Rattle.data_rewriter.specs.Charges.{IsPaid, pairs_of, AnswerCosts}
use Rattle.std.specs.HashMap.{HashMap}

module _ (sig : Sig) (own : List Equation) (old new : List Tree) (t u : TermId) (fuel fuel' : ℕ) where
  pub decided_by : (r : Truth) → Says sig own old new t fuel fuel' (Done u) → IsTruthOf sig new u r → IsDecision sig own old new t fuel fuel' r
  decided_by Yes h k = (h.1.0, h.1.1, subst (λ (x : Term). GoesTo (data_meant sig) own (term_at sig old t) x h.1.0) k h.1.2)
  decided_by No h k = (h.1.0, h.1.1, subst (λ (x : Term). GoesTo (data_meant sig) own (term_at sig old t) x h.1.0) k h.1.2)
  decided_by (Stuck v) h k = subst (λ (w : TermId). IsDecision sig own old new t fuel fuel' (Stuck w)) (sym k.0) (h.0, h.1, k.1, k.2)
  decided_by (Spent v) h k = absurd k

module _ {S : Type 0} (sig : Sig) (own : List Equation) (old new : List Tree) (store : HashMap TermId TermId S) (t u : TermId) (fuel left : ℕ) where
  pub cost_by : (r : Truth) → AnswerCosts sig own old new store t fuel left (Done u) → IsTruthOf sig new u r → DecisionCosts sig own old new store t fuel left r
  cost_by Yes h k = subst (λ (x : Term). IsPaid (data_meant sig) own (pairs_of sig old store) (term_at sig old t) x fuel left) k h
  cost_by No h k = subst (λ (x : Term). IsPaid (data_meant sig) own (pairs_of sig old store) (term_at sig old t) x fuel left) k h
  cost_by (Stuck v) h k = subst (λ (w : TermId). DecisionCosts sig own old new store t fuel left (Stuck w)) (sym k.0) h
  cost_by (Spent v) h k = absurd k
