-- Pairs that are stored, also where there is no memory for more.
use Rattle.std.proofs.Common.{[], arith, ◌≡◌, ℕ, List, Bool, true, false, cond, refl, sym, ap, ◌∙◌, subst, Some, None}
use Rattle.std.specs.Prelude.{◌==◌}
use Rattle.std.specs.HashMap.{HashMap}
use Rattle.std.specs.Map.{lookup}
use Rattle.std.proofs.lemmas.Bool.Decides.{Decides-eqb}
use Rattle.data_theory.specs.declared.ids.TermId.{TermId}
use Rattle.data_theory.specs.Provable.{Equation}
use Rattle.data_theory.specs.Signature.{Sig}
use Rattle.data_theory.specs.IdData.{data_meant}
use Rattle.data_theory.specs.IdTables.{IsTable}
use Rattle.data_theory.specs.IdTrees.{Tree}
use Rattle.data_theory.proofs.GoesToOne.{goes_to_one_term}
use Rattle.term_pool.specs.Bindings.{result_of}
use Rattle.term_pool.specs.Pools.{AreDistinct, Extends}
use Rattle.data_theory.specs.Terms.{Term}
use Rattle.data_theory.specs.Rewriting.{GoesTo}
use Rattle.data_theory.proofs.NormalForms.{what_it_goes_to_is_normal}
use Rattle.data_rewriter.specs.declared.machine.Normal.{Normal}
use Rattle.data_rewriter.specs.declared.machine.Normal.TheVariants.{Done}
use Rattle.data_rewriter.proofs.Standings.{term_kept, term_stays}
use Rattle.data_rewriter.specs.Standing.{IsTerm, term_at}
use Rattle.data_rewriter.specs.States.{AreStored, IsStored, StartsIn, Says}
use Rattle.data_rewriter.specs.Stored.{KeepsPairs, AreCovered, IsClosed, KeepsStored}
use Rattle.data_rewriter.proofs.PatternMoves.{separates}

module _ {S : Type 0} (old new : HashMap TermId TermId S) where
  pub unchanged_reads : new.entries ≡ old.entries → (t : TermId) → result_of new t ≡ result_of old t
  unchanged_reads e t = ap (λ (es : List (TermId × TermId)). lookup (λ (x : TermId). t.0 == x.0) es) e

  pub unchanged_in : (ts : List Tree) → new.entries ≡ old.entries → StartsIn ts old → StartsIn ts new
  unchanged_in ts e all t u is = all t u (sym (unchanged_reads e t) ∙ is)

  pub unchanged_stored : (sig : Sig) (own : List Equation) (ts : List Tree) → new.entries ≡ old.entries → AreStored sig own ts old → AreStored sig own ts new
  unchanged_stored sig own ts e all t u is = all t u (sym (unchanged_reads e t) ∙ is)

  pub unchanged_pairs : new.entries ≡ old.entries → KeepsPairs old new
  unchanged_pairs e t u is = unchanged_reads e t ∙ is

  -- what was put in is there
  pub put_reads : (start normal : TermId) → ((id : TermId) → result_of new id ≡ cond (start.0 == id.0) (Some normal) (result_of old id)) → result_of new start ≡ Some normal
  put_reads start normal updated = updated start ∙ ap (λ b. cond b (Some normal) (result_of old start)) ((Decides-eqb start.0 start.0).1 refl)

  -- a pair of a term and the term that it goes to changes no other, since a term goes to one term alone
  pub put_keeps : (sig : Sig) (own : List Equation) (ts : List Tree) → IsTable sig → AreDistinct ts → AreCovered own → (start normal : TermId) → ((id : TermId) → result_of new id ≡ cond (start.0 == id.0) (Some normal) (result_of old id)) → AreStored sig own ts old → IsStored sig own ts start normal → KeepsPairs old new
  put_keeps sig own ts table apart covered start normal updated all is t u e = by_test (start.0 == t.0) refl
    where
      by_test : (b : Bool) → (start.0 == t.0) ≡ b → result_of new t ≡ Some u
      by_test true same =
          let n : start.0 ≡ t.0 = (Decides-eqb start.0 t.0).0 same in
          let id_same : start ≡ t = λ i. record { 0 = n i } in
          let was = all t u e in
          let now = subst (λ (x : TermId). IsStored sig own ts x normal) id_same is in
          let term : term_at sig ts normal ≡ term_at sig ts u = (goes_to_one_term (data_meant sig) own covered (term_at sig ts t) (term_at sig ts normal) (term_at sig ts u) now.2.0 was.2.0 now.2.1 was.2.1).0 in
          let one : normal ≡ u = (separates sig ts table apart).ids normal u (record { inside = now.1; within = now.4 }) (record { inside = was.1; within = was.4 }) term in
          updated t ∙ ap (λ b. cond b (Some normal) (result_of old t)) same ∙ ap Some one
      by_test false other = updated t ∙ ap (λ b. cond b (Some normal) (result_of old t)) other ∙ e

-- a pair is put in whose answer is stored for itself then
put_closed : {S : Type 0} (old new : HashMap TermId TermId S) (start normal : TermId) → ((id : TermId) → result_of new id ≡ cond (start.0 == id.0) (Some normal) (result_of old id)) → KeepsPairs old new → result_of new normal ≡ Some normal → IsClosed old → IsClosed new
put_closed old new start normal updated keeps itself closed t u e = by_test (start.0 == t.0) refl
  where
    by_test : (b : Bool) → (start.0 == t.0) ≡ b → result_of new u ≡ Some u
    by_test true same =
        let both : Some normal ≡ Some u = ap (λ b. cond b (Some normal) (result_of old t)) (sym same) ∙ (sym (updated t) ∙ e) in
        let one : normal ≡ u = cc in
        subst (λ (x : TermId). result_of new x ≡ Some x) one itself
    by_test false other = keeps u u (closed t u (ap (λ b. cond b (Some normal) (result_of old t)) (sym other) ∙ (sym (updated t) ∙ e)))

-- an answer and a term that goes to it, one after the other
module _ {S : Type 0} (old mid new : HashMap TermId TermId S) (start normal : TermId) (first : (id : TermId) → result_of mid id ≡ cond (normal.0 == id.0) (Some normal) (result_of old id)) where
  -- the first alone
  pub keeps_first : (sig : Sig) (own : List Equation) (ts : List Tree) → IsTable sig → AreDistinct ts → AreCovered own → AreStored sig own ts old → IsStored sig own ts normal normal → KeepsStored old mid
  keeps_first sig own ts table apart covered all itself =
      let keeps = put_keeps old mid sig own ts table apart covered normal normal first all itself in
      (keeps, put_closed old mid normal normal first keeps (put_reads old mid normal normal first))

  module _ (second : (id : TermId) → result_of new id ≡ cond (start.0 == id.0) (Some normal) (result_of mid id)) where
    pub put_both : (result_of new start ≡ Some normal) × (result_of new normal ≡ Some normal)
    put_both = (put_reads mid new start normal second, by_test (start.0 == normal.0) refl)
      where
        by_test : (x : Bool) → (start.0 == normal.0) ≡ x → result_of new normal ≡ Some normal
        by_test true e = second normal ∙ ap (λ y. cond y (Some normal) (result_of mid normal)) e
        by_test false e = second normal ∙ ap (λ y. cond y (Some normal) (result_of mid normal)) e ∙ put_reads old mid normal normal first

    pub keeps_both : (sig : Sig) (own : List Equation) (ts : List Tree) → IsTable sig → AreDistinct ts → AreCovered own → AreStored sig own ts old → AreStored sig own ts mid → IsStored sig own ts start normal → IsStored sig own ts normal normal → KeepsStored old new
    keeps_both sig own ts table apart covered all between is itself =
        let one = keeps_first sig own ts table apart covered all itself in
        let keeps = put_keeps mid new sig own ts table apart covered start normal second between is in
        ((λ t u e. keeps t u (one.0 t u e)), (λ closed. put_closed mid new start normal second keeps put_both.1 (one.1 closed)))

pub unchanged_keeps : {S : Type 0} (old new : HashMap TermId TermId S) → new.entries ≡ old.entries → KeepsStored old new
unchanged_keeps old new e = (unchanged_pairs old new e, (λ closed t u is. unchanged_pairs old new e u u (closed t u (sym (unchanged_reads old new e t) ∙ is))))

pub then_keeps : {S : Type 0} (a b c : HashMap TermId TermId S) → KeepsStored a b → KeepsStored b c → KeepsStored a c
then_keeps a b c x y = ((λ t u e. y.0 t u (x.0 t u e)), (λ closed. y.1 (x.1 closed)))

pub nothing_closed : {S : Type 0} (store : HashMap TermId TermId S) → store.entries ≡ [] → IsClosed store
nothing_closed {S} store empty t u e = absurd (let n : None ≡ Some u = sym (ap (λ (es : List (TermId × TermId)). lookup (λ (x : TermId). t.0 == x.0) es) empty) ∙ e in cc)

-- a stored term is answered
pub stored_says : {S : Type 0} (sig : Sig) (own : List Equation) (ts : List Tree) (store : HashMap TermId TermId S) (t u : TermId) (fuel : ℕ) → AreStored sig own ts store → result_of store t ≡ Some u → Says sig own ts ts t fuel fuel (Done u)
stored_says sig own ts store t u fuel all e = let k = all t u e in (record { inside = k.1; within = k.4 }, (k.2.0, omega arith, k.2.1))

-- what a rewriting says is a pair that may be stored
pub said_is_stored : (sig : Sig) (own : List Equation) (old new : List Tree) (t u : TermId) (fuel fuel' : ℕ) (r : Normal) → Extends old new → IsTerm sig old t → r ≡ Done u → Says sig own old new t fuel fuel' r → IsStored sig own new t u × IsStored sig own new u u
said_is_stored sig own old new t u fuel fuel' r grows term e says =
    let s = subst (Says sig own old new t fuel fuel') e says in
    let here = term_stays sig old new grows t term in
    let goes = subst (λ (x : Term). GoesTo (data_meant sig) own x (term_at sig new u) s.1.0) (sym (term_kept sig old new t grows term.inside)) s.1.2 in
    ((here.inside, s.0.inside, (s.1.0, goes), here.within, s.0.within), (s.0.inside, s.0.inside, what_it_goes_to_is_normal (data_meant sig) own (term_at sig new t) (term_at sig new u) s.1.0 goes, s.0.within, s.0.within))
