-- The rounds in code, one after another.
use Rattle.std.proofs.Common.{◌≡◌, ◌<◌, ◌≤◌, ℕ, zero, suc, Bool, true, false, cond, List, [], ◌∷◌, length, refl, sym, ◌∙◌, subst, arith, Some}
use Rattle.std.specs.Prelude.{slice_get}
use Rattle.std.specs.List.{list_any}
use Rattle.std.proofs.lemmas.List.{length-map}
use Rattle.std.proofs.lemmas.Option.{slice_get_within, slice_get-get_or}
use Rattle.data_theory.specs.Provable.{Equation}
use Rattle.data_theory.specs.Signature.{Sig}
use Rattle.data_theory.specs.Terms.{Term}
use Rattle.data_theory.specs.WholeSignatures.{IsSignature}
use Rattle.data_theory.specs.IdTrees.{Tree}
use Rattle.data_theory.specs.IdTerms.{variable_sorts}
use Rattle.term_pool.specs.Pools.{Extends}
use Rattle.term_pool.proofs.DeclaredConstants.{grown_itself}
use Rattle.process_terms.specs.Meanings.{bound_at, term_at}
use Rattle.process_terms.specs.SignatureEntries.{entries_of}
use Rattle.bisim_laws.specs.LinearProcesses.{variables}
use Rattle.bisim_laws.specs.BaseStates.{Fate}
use Rattle.lps_core.specs.Fitting.{Fits}
use Rattle.lps_core.specs.PlainLinears.{PlainLinear, linear_of, initial_of}
use Rattle.lps_core.proofs.Staying.{what_fits_stays, what_fits_is_sorted}
use Rattle.lps_parelm.specs.Keeping.{keep, fates_of}
use Rattle.lps_parelm.proofs.WholeElimination.{fits_on, init_long}
use Rattle.lps_constelm.specs.Simplified.{IsSimplerTerm, Becomes}
use Rattle.lps_constelm.specs.Constants.{then_fates, IsGreatestConstantSet}
use Rattle.lps_constelm.specs.Eliminating.{Eliminates, simplified, one_more, IsWithoutConstants}
use Rattle.lps_constelm.specs.Putting.{AreNotConstant, set_of, IsWithoutUnmarked}
use Rattle.lps_constelm.specs.Rounds.{MarksTheOthers, IsFirstRound, IsNextRound}
use Rattle.lps_constelm.specs.Runs.{LinearBecomes}
use Rattle.lps_constelm.proofs.GreatestSets.{greatest_set, marks_long, none_left, some_left}
use Rattle.lps_constelm.proofs.MeantPutting.{without_meant, without_initial}
use Rattle.lps_constelm.proofs.MeantRounds.{becomes_meant, becomes_fits, variables_are_sorts}
use Rattle.lps_constelm.proofs.Rounds.{all_simple, eliminated_good}
use Rattle.lps_constelm.proofs.WeakerRelations.{becomes_weaker}

-- ---- what stays as the pool grows
module _ (g : Sig) (ts us : List Tree) (l : PlainLinear) (stands : IsSignature g) (grown : Extends ts us) (fits : Fits g ts l) where
  pub process_stays : linear_of (entries_of g us) l ≡ linear_of (entries_of g ts) l
  process_stays = (what_fits_stays g g ts us l stands.table stands.complete (record { signature = grown_itself g; pool = grown }) fits).0

  pub initial_stays : initial_of (entries_of g us) l ≡ initial_of (entries_of g ts) l
  initial_stays = (what_fits_stays g g ts us l stands.table stands.complete (record { signature = grown_itself g; pool = grown }) fits).1

-- the marks of the code
pub marks_the_others : (g : Sig) (ts mid us : List Tree) (k : PlainLinear) (marks : List Bool) → IsSignature g → Fits g ts k → Extends ts mid → Extends mid us → AreNotConstant mid k marks → MarksTheOthers g us k marks
marks_the_others g ts mid us k marks stands fits first later n =
    let at = fits_on g ts mid k stands first fits in
    let p = process_stays g mid us k stands later at in
    let i = initial_stays g mid us k stands later at in
    record {
      fits = fits_on g mid us k stands later at;
      long = marks_long g mid k marks n stands at;
      greatest = subst (λ z. IsGreatestConstantSet z (initial_of (entries_of g us) k) (set_of marks (initial_of (entries_of g us) k))) (sym p)
          (subst (λ z. IsGreatestConstantSet (linear_of (entries_of g mid) k) z (set_of marks z)) (sym i) (greatest_set g mid k marks n stands at));
    }

-- the first round
pub is_first_round : (g : Sig) (own : List Equation) (P : Term → Type 0) (ts now us : List Tree) (l k : PlainLinear) (marks : List Bool) → IsSignature g → Fits g ts l → LinearBecomes g own P ts now l k → Extends now us → MarksTheOthers g us k marks → IsFirstRound g own P ts us l k marks
is_first_round g own P ts now us l k marks stands fits b grown marked =
    let made = becomes_fits g own P stands ts now l k fits b in
    record {
      becomes = subst (λ z. Becomes (IsSimplerTerm g own P) (linear_of (entries_of g ts) l) (initial_of (entries_of g ts) l) z (initial_of (entries_of g us) k)) (sym (process_stays g now us k stands grown made))
          (subst (λ z. Becomes (IsSimplerTerm g own P) (linear_of (entries_of g ts) l) (initial_of (entries_of g ts) l) (linear_of (entries_of g now) k) z) (sym (initial_stays g now us k stands grown made)) (becomes_meant g own P stands ts now l k fits b));
      params = b.params;
      marked = marked;
    }

-- the next one
pub is_next_round : (g : Sig) (own : List Equation) (P : Term → Type 0) (ts now us : List Tree) (l without k : PlainLinear) (old marks : List Bool) → IsSignature g → Fits g ts l → length old ≡ length l.params → Extends ts now → IsWithoutUnmarked ts now old l without → IsFirstRound g own P now us without k marks → IsNextRound g own P ts us l old k marks
is_next_round g own P ts now us l without k old marks stands fits long grown w r = record {
  becomes = subst (λ z. Becomes (IsSimplerTerm g own P) z (keep (set_of old (initial_of (entries_of g ts) l)) (initial_of (entries_of g ts) l)) (linear_of (entries_of g us) k) (initial_of (entries_of g us) k)) (without_meant g ts now old l without stands fits grown long w)
      (subst (λ z. Becomes (IsSimplerTerm g own P) (linear_of (entries_of g now) without) z (linear_of (entries_of g us) k) (initial_of (entries_of g us) k)) (without_initial g ts now old l without stands fits grown long w) r.becomes);
  params = r.params ∙ w.params;
  marked = r.marked;
}

-- ---- unmarked parameters
some_false : (marks : List Bool) → list_any (λ (m : Bool). cond m false true) marks ≡ true → (place : ℕ) × (slice_get marks place ≡ Some false)
some_false [] e = absurd (let wrong : ⊥ = cc in wrong)
some_false (false ∷ marks) e = (0, refl)
some_false (true ∷ marks) e = let r = some_false marks e in (suc r.0, r.1)

none_false : (marks : List Bool) → list_any (λ (m : Bool). cond m false true) marks ≡ false → (place : ℕ) → slice_get marks place ≡ Some false → ⊥
none_false [] e place q = cc
none_false (false ∷ marks) e place q = cc
none_false (true ∷ marks) e zero q = cc
none_false (true ∷ marks) e (suc place) q = none_false marks e place q

pub fewer_kept : {A : Type 0} (marks : List Bool) (xs : List A) → length marks ≡ length xs → list_any (λ (m : Bool). cond m false true) marks ≡ true → length (keep (fates_of marks) xs) < length xs
fewer_kept [] xs l e = absurd (let wrong : ⊥ = cc in wrong)
fewer_kept (m ∷ marks) [] l e = absurd (omega (arith, l))
fewer_kept (false ∷ marks) (x ∷ xs) l e = let k = no_more marks xs in omega (arith, k)
  where
    no_more : {A : Type 0} (marks : List Bool) (xs : List A) → length (keep (fates_of marks) xs) ≤ length xs
    no_more [] xs = omega arith
    no_more (m ∷ marks) [] = omega arith
    no_more (true ∷ marks) (x ∷ xs) = let k = no_more marks xs in omega (arith, k)
    no_more (false ∷ marks) (x ∷ xs) = let k = no_more marks xs in omega (arith, k)
fewer_kept (true ∷ marks) (x ∷ xs) l e = let k = fewer_kept marks xs (omega (arith, l)) e in omega (arith, k)

-- ---- the rounds so far
-- over data that the simplifier fitted at first
pub record IsSoFar (g : Sig) (own : List Equation) (P : Term → Type 0) (ts us : List Tree) (l k : PlainLinear) (marks : List Bool) : Type 0 where
  pub fates : List Fate
  pub eliminated : Eliminates (IsSimplerTerm g own P) (linear_of (entries_of g ts) l) (initial_of (entries_of g ts) l) (linear_of (entries_of g us) k) (initial_of (entries_of g us) k) fates
  pub marked : MarksTheOthers g us k marks

pub so_far_first : (g : Sig) (own : List Equation) (P : Term → Type 0) (ts us : List Tree) (l k : PlainLinear) (marks : List Bool) → IsFirstRound g own P ts us l k marks → IsSoFar g own P ts us l k marks
so_far_first g own P ts us l k marks r = record { fates = _; eliminated = simplified r.becomes; marked = r.marked }

pub so_far_more : (g : Sig) (own : List Equation) (P Q : Term → Type 0) → ((t : Term) → Q t → P t) → (ts us vs : List Tree) (l k m : PlainLinear) (marks next : List Bool) → IsSoFar g own P ts us l k marks → list_any (λ (m : Bool). cond m false true) marks ≡ true → IsNextRound g own Q us vs k marks m next → IsSoFar g own P ts vs l m next
so_far_more g own P Q w ts us vs l k m marks next s e r = record {
  fates = then_fates s.fates (set_of marks (initial_of (entries_of g us) k));
  eliminated = one_more (set_of marks (initial_of (entries_of g us) k)) s.eliminated s.marked.greatest
      (λ q.
      let f = some_false marks e in
      let place = slice_get_within marks f.0 false f.1 in
      let long = s.marked.long in
      let names = length-map (linear_of (entries_of g us) k).params (λ x. x.var) in
      let params = length-map k.params (bound_at (entries_of g us)) in
      some_left (linear_of (entries_of g us) k) (initial_of (entries_of g us) k) marks f.0 _ (long ∙ sym (init_long g us k s.marked.fits) ∙ sym (length-map k.init (term_at (entries_of g us)))) (slice_get-get_or (variables (linear_of (entries_of g us) k).params) f.0 0 (omega (arith, place, long, names, params))) f.1 q)
      (becomes_weaker g own Q P w r.becomes);
  marked = r.marked;
}

pub so_far_done : (g : Sig) (own : List Equation) (P : Term → Type 0) (ts us : List Tree) (l k : PlainLinear) (marks : List Bool) → IsSignature g → Extends ts us → Fits g ts l → IsSoFar g own P ts us l k marks → list_any (λ (m : Bool). cond m false true) marks ≡ false → IsWithoutConstants g own P us l k
so_far_done g own P ts us l k marks stands grown fits s e =
    let L = linear_of (entries_of g ts) l in
    let init = initial_of (entries_of g ts) l in
    let there = fits_on g ts us l stands grown fits in
    let now : Eliminates (IsSimplerTerm g own P) (linear_of (entries_of g us) l) (initial_of (entries_of g us) l) (linear_of (entries_of g us) k) (initial_of (entries_of g us) k) s.fates =
    subst (λ z. Eliminates (IsSimplerTerm g own P) z (initial_of (entries_of g us) l) (linear_of (entries_of g us) k) (initial_of (entries_of g us) k) s.fates) (sym (process_stays g ts us l stands grown fits))
    (subst (λ z. Eliminates (IsSimplerTerm g own P) L z (linear_of (entries_of g us) k) (initial_of (entries_of g us) k) s.fates) (sym (initial_stays g ts us l stands grown fits)) s.eliminated) in
    let sorted = what_fits_is_sorted g us l stands.table stands.complete there in
    record {
      fates = s.fates;
      eliminated = now;
      done = none_left (linear_of (entries_of g us) k) (initial_of (entries_of g us) k) marks (none_false marks e) s.marked.greatest;
      simple = all_simple g own P (variable_sorts g) (variables_are_sorts g stands) (linear_of (entries_of g us) l) (initial_of (entries_of g us) l) there.linear sorted there.closed now;
      bisimilar = λ th on among sane. eliminated_good g own P (variable_sorts g) (variables_are_sorts g stands) (linear_of (entries_of g us) l) (initial_of (entries_of g us) l) there.linear sorted there.closed th on among now;
    }
