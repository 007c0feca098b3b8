-- What a rewriter's answers are as a simplifier's.
use Rattle.std.proofs.Common.{◌≡◌, inl, inr, ℕ, List, [], sym, subst, append-nil}
use Rattle.data_theory.specs.declared.ids.TermId.{TermId}
use Rattle.data_theory.specs.Terms.{Term, put}
use Rattle.data_theory.specs.Declarations.{Data, HasSort}
use Rattle.data_theory.specs.Environments.{IsOver}
use Rattle.data_theory.specs.EqualityLaws.{Grows}
use Rattle.data_theory.specs.Provable.{Equation, ProvablyEqual, reflexive}
use Rattle.data_theory.specs.Rewriting.{GoesTo, ChainOfMoreThan}
use Rattle.data_theory.specs.Signature.{Sig}
use Rattle.data_theory.specs.IdData.{data_meant}
use Rattle.data_theory.specs.IdTrees.{Tree}
use Rattle.data_theory.specs.WholeSignatures.{IsSignature}
use Rattle.data_theory.proofs.GoesToIsEqual.{goes_to_keeps_the_sort}
use Rattle.data_theory.proofs.GrowthLemmas.{growth_keeps_derivations}
use Rattle.data_theory.proofs.NoNewVariable.{goes_to_adds_no_variable}
use Rattle.data_theory.proofs.NormalForms.{what_it_goes_to_is_normal}
use Rattle.data_theory.proofs.IdDataLemmas.{meant_data_are_data}
use Rattle.term_pool.specs.Pools.{Extends}
use Rattle.data_rewriter.specs.declared.rewriter.Rewriter.{Rewriter}
use Rattle.data_rewriter.specs.Standing.{IsTerm, term_at}
use Rattle.data_rewriter.specs.declared.machine.Normal.{Normal}
use Rattle.data_rewriter.specs.declared.machine.Normal.TheVariants.{Done, Spent as SpentAt}
use Rattle.data_rewriter.specs.States.{Says}
use Rattle.data_rewriter.specs.Rewriters.{Fits}
use Rattle.data_rewriter.specs.Simplifying.{IsSimplified, IsSimpleWith}
use Rattle.data_rewriter.proofs.Standings.{term_kept, term_stays}
use Rattle.data_rewriter.proofs.StateMoves.{tables_kept, stored_kept}
use Rattle.data_rewriter.proofs.LaterData.{goes_to_is_equal_later}

pub a_rewriter_stays : {F : Type 0} (r : Rewriter F) (sig : Sig) (own : List Equation) (old new : List Tree) → Extends old new → Fits r sig own old → Fits r sig own new
a_rewriter_stays r sig own old new grows h = record {
  tables = tables_kept r.tables sig own old new grows h.tables;
  stored = stored_kept sig own old new grows r.normal_forms h.stored;
  closed = h.closed;
}

-- data go on from themselves
grown_itself : (g : Data) → Grows g g
grown_itself g = record { new_sorts = []; new_functions = []; sorts = sym (append-nil g.sorts); functions = sym (append-nil g.functions) }

pub goes_is_simplified : (sig : Sig) (own : List Equation) (old new : List Tree) (t u : TermId) (n : ℕ) → IsSignature sig → IsTerm sig new u → GoesTo (data_meant sig) own (term_at sig old t) (term_at sig new u) n → IsSimplified sig own old new t u
goes_is_simplified sig own old new t u n stands term goes =
    let formed = meant_data_are_data sig stands.table stands.roles in
    record {
      term = term;
      variables = λ covered xs over. goes_to_adds_no_variable (data_meant sig) own covered xs (term_at sig old t) (term_at sig new u) n over goes;
      sort = λ fine vs sorts s has. goes_to_keeps_the_sort (data_meant sig) own formed fine vs sorts (term_at sig old t) (term_at sig new u) n s has goes;
      equal = λ fine vs sorts s has g theirs later e closes.
          growth_keeps_derivations g g (grown_itself g) own theirs later.among (put e (term_at sig old t)) (put e (term_at sig new u))
          (goes_to_is_equal_later (data_meant sig) g own later.grows formed later.is_data fine vs sorts (term_at sig old t) (term_at sig new u) n s has goes e closes);
    }

pub itself_is_simplified : (sig : Sig) (own : List Equation) (old new : List Tree) (t : TermId) → Extends old new → IsTerm sig old t → IsSimplified sig own old new t t
itself_is_simplified sig own old new t grows term =
    let same : term_at sig old t ≡ term_at sig new t = sym (term_kept sig old new t grows term.inside) in
    record {
      term = term_stays sig old new grows t term;
      variables = λ covered xs over. subst (IsOver xs) same over;
      sort = λ fine vs sorts s has. subst (λ (x : Term). HasSort (data_meant sig) vs x s) same has;
      equal = λ fine vs sorts s has g theirs later e closes. subst (λ (x : Term). ProvablyEqual g theirs (put e (term_at sig old t)) (put e x)) same reflexive;
    }

pub done_is_simple : (sig : Sig) (own : List Equation) (t u : Term) (n fuel : ℕ) → GoesTo (data_meant sig) own t u n → IsSimpleWith sig own fuel u
done_is_simple sig own t u n fuel goes = inl (what_it_goes_to_is_normal (data_meant sig) own t u n goes)

pub spent_is_simple : (sig : Sig) (own : List Equation) (old new : List Tree) (t : TermId) (fuel : ℕ) → Extends old new → IsTerm sig old t → ChainOfMoreThan (data_meant sig) own fuel (term_at sig old t) → IsSimpleWith sig own fuel (term_at sig new t)
spent_is_simple sig own old new t fuel grows term chain = inr (subst (ChainOfMoreThan (data_meant sig) own fuel) (sym (term_kept sig old new t grows term.inside)) chain)

-- ---- the same by what `normalise` says
pub done_is_simplified : (sig : Sig) (own : List Equation) (old new : List Tree) (t u : TermId) (fuel fuel' : ℕ) (r : Normal) → IsSignature sig → r ≡ Done u → Says sig own old new t fuel fuel' r → IsSimplified sig own old new t u
done_is_simplified sig own old new t u fuel fuel' r stands e says =
    let s = subst (Says sig own old new t fuel fuel') e says in
    goes_is_simplified sig own old new t u s.1.0 stands s.0 s.1.2

pub done_is_reached : (sig : Sig) (own : List Equation) (old new : List Tree) (t u : TermId) (fuel fuel' f : ℕ) (r : Normal) → r ≡ Done u → Says sig own old new t fuel fuel' r → IsSimpleWith sig own f (term_at sig new u)
done_is_reached sig own old new t u fuel fuel' f r e says =
    let s = subst (Says sig own old new t fuel fuel') e says in
    done_is_simple sig own (term_at sig old t) (term_at sig new u) s.1.0 f s.1.2

pub spent_is_reached : (sig : Sig) (own : List Equation) (old new : List Tree) (t u : TermId) (fuel fuel' : ℕ) (r : Normal) → Extends old new → IsTerm sig old t → r ≡ SpentAt u → Says sig own old new t fuel fuel' r → IsSimpleWith sig own fuel (term_at sig new t)
spent_is_reached sig own old new t u fuel fuel' r grows term e says =
    let s = subst (Says sig own old new t fuel fuel') e says in
    spent_is_simple sig own old new t fuel grows term s.2
