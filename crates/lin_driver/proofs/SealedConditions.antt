-- The conditions of a sealed linear process have no needless part `true`, where the old ones have none.
use Rattle.std.proofs.Common.{◌≡◌, ⊎_elim, ℕ, Bool, true, false, if◌then◌else◌, List, [], ◌∷◌, ◌++◌, refl, sym, ap, ◌∙◌, subst, arith}
use Rattle.std.specs.List.{All, Contains}
use Rattle.std.proofs.lemmas.List.Elements.{All-contains}
use Rattle.data_theory.specs.Terms.{Term, conjunction, application, none, more}
use Rattle.data_theory.specs.Equations.{trueᵗ, ◌∧ᵗ◌}
use Rattle.data_theory.specs.Signature.{Sig}
use Rattle.data_theory.specs.IdTrees.{Tree}
use Rattle.data_theory.specs.WholeSignatures.{IsSignature}
use Rattle.term_pool.specs.Pools.{Extends}
use Rattle.term_pool.proofs.DeclaredConstants.{grown_itself}
use Rattle.process_terms.specs.Communication.{conjunction_of}
use Rattle.process_terms.specs.Meanings.{term_at}
use Rattle.process_terms.specs.SignatureEntries.{entries_of}
use Rattle.bisim_laws.specs.BaseStates.{phase_running, phase_ended}
use Rattle.bisim_laws.specs.LinearProcesses.{Summand, is_true}
use Rattle.bisim_laws.proofs.Firing.{contains_none, contains_later, contains_cases}
use Rattle.lps_core.specs.CanonicalConditions.{HasNoNeedlessTrue}
use Rattle.lps_core.specs.Conditions.{parts, without_true, joined}
use Rattle.lps_core.specs.Fitting.{Fits, SummandFits}
use Rattle.lps_core.specs.PlainLinears.{PlainSummand, PlainLinear}
use Rattle.lps_core.specs.Sealing.{phase_is}
use Rattle.lps_core.specs.SealedTrees.{IsSealed, it_never_ends, it_is_sealed}
use Rattle.lps_core.proofs.Chains.{true_alone}
use Rattle.lps_core.proofs.Members.{all_from}
use Rattle.lps_core.proofs.Staying.{summand_stays}
use Rattle.lin_driver.specs.SealedLinears.{SealedConditionsHaveNoNeedlessTrue}
use Rattle.lin_driver.proofs.NeededParts.{not_true_first, chain_in_front, chain_of_parts, some_part}
use Rattle.lin_driver.proofs.SealedSummands.{IsSealedOf, of_a_summand, the_last, sealed_of}

differ : true ≡ false → ⊥
differ q = cc

-- nothing is left out where no part is `true`
all_stay : (cs : List Term) → (Contains cs trueᵗ → ⊥) → without_true (cs ++ []) ≡ cs
all_stay [] n = refl
all_stay (c ∷ cs) n = ap (λ b. if b then without_true (cs ++ []) else c ∷ without_true (cs ++ [])) (not_true_first c cs n) ∙ ap (λ ds. c ∷ ds) (all_stay cs (λ i. n (contains_later c trueᵗ cs i)))

no_part_is_true : (c : Term) → is_true c ≡ false → HasNoNeedlessTrue c → Contains (parts c) trueᵗ → ⊥
no_part_is_true (application conjunction (more x (more y none))) q h i = let some = some_part y in h (omega (arith, some)) i
no_part_is_true c q h i = ⊎_elim (λ e. differ (subst (λ z. is_true z ≡ false) e q)) (λ j. contains_none trueᵗ j) (contains_cases c trueᵗ [] i)

module _ (v : ℕ) where
  abbrev running : Term
  running = phase_is v phase_running

  -- the part comes in front
  in_front : (c : Term) → (Contains (parts c) trueᵗ → ⊥) → joined (running ∷ c ∷ []) ≡ running ∧ᵗ c
  in_front c n = ap (λ cs. conjunction_of (running ∷ cs)) (all_stay (parts c) n) ∙ chain_in_front running c ∙ ap (λ z. running ∧ᵗ z) (chain_of_parts c)

  pub sealed_has_none : (c : Term) → HasNoNeedlessTrue c → HasNoNeedlessTrue (joined (running ∷ c ∷ []))
  sealed_has_none c h = by_test (is_true c) refl
    where
      not_running : running ≡ trueᵗ → ⊥
      not_running e = differ (sym (ap is_true e))

      by_test : (b : Bool) → is_true c ≡ b → HasNoNeedlessTrue (joined (running ∷ c ∷ []))
      by_test true q = subst (λ z. HasNoNeedlessTrue (joined (running ∷ z ∷ []))) (sym (true_alone c q)) (λ two i. absurd (omega (arith, two)))
      by_test false q = subst HasNoNeedlessTrue (sym (in_front c (no_part_is_true c q h)))
          (λ two i. ⊎_elim (λ e. not_running e) (λ j. no_part_is_true c q h j) (contains_cases running trueᵗ (parts c) i))

  pub last_has_none : HasNoNeedlessTrue (phase_is v phase_ended)
  last_has_none = λ two i. absurd (omega (arith, two))

-- ---- in code
summand_has_none : (g h : Sig) (ts us : List Tree) (l : PlainLinear) (v : ℕ) (t : PlainSummand) → IsSealedOf (entries_of h us) (entries_of g ts) l v t → All (λ (s : PlainSummand). HasNoNeedlessTrue (term_at (entries_of g ts) s.condition)) l.summands
    → HasNoNeedlessTrue (term_at (entries_of h us) t.condition)
summand_has_none g h ts us l v t (of_a_summand s i is) free =
    subst HasNoNeedlessTrue (sym (ap (λ (z : Summand). z.condition) is)) (sealed_has_none v (term_at (entries_of g ts) s.condition) (All-contains (λ (s : PlainSummand). HasNoNeedlessTrue (term_at (entries_of g ts) s.condition)) l.summands s free i))
summand_has_none g h ts us l v t (the_last is) free = subst HasNoNeedlessTrue (sym (ap (λ (z : Summand). z.condition) is)) (last_has_none v)

-- the pool may have grown meanwhile
still_has_none : (g : Sig) (ts us : List Tree) (l : PlainLinear) → IsSignature g → Extends ts us → Fits g ts l → All (λ (s : PlainSummand). HasNoNeedlessTrue (term_at (entries_of g ts) s.condition)) l.summands
    → All (λ (s : PlainSummand). HasNoNeedlessTrue (term_at (entries_of g us) s.condition)) l.summands
still_has_none g ts us l stands kept fits free =
    all_from (λ (s : PlainSummand). HasNoNeedlessTrue (term_at (entries_of g us) s.condition)) l.summands (λ s i.
    let same = summand_stays g g ts us stands.table stands.complete (record { signature = grown_itself g; pool = kept }) l.params s (All-contains (SummandFits g ts l.params) l.summands s fits.summands i) in
    subst HasNoNeedlessTrue (sym (ap (λ (z : Summand). z.condition) same)) (All-contains (λ (s : PlainSummand). HasNoNeedlessTrue (term_at (entries_of g ts) s.condition)) l.summands s free i))

conditions_have_none : {g : Sig} {ts : List Tree} {l : PlainLinear} {h : Sig} {us : List Tree} {k : PlainLinear} → IsSealed g ts l h us k → IsSignature g → Extends ts us → Fits g ts l
    → All (λ (s : PlainSummand). HasNoNeedlessTrue (term_at (entries_of g ts) s.condition)) l.summands → All (λ (s : PlainSummand). HasNoNeedlessTrue (term_at (entries_of h us) s.condition)) k.summands
conditions_have_none {g = g} {ts = ts} {l = l} {us = us} (it_never_ends _ same) old kept fits free =
    subst (λ (z : PlainLinear). All (λ (s : PlainSummand). HasNoNeedlessTrue (term_at (entries_of g us) s.condition)) z.summands) (sym same) (still_has_none g ts us l old kept fits free)
conditions_have_none {g = g} {ts = ts} {l = l} {h = h} {us = us} {k = k} (it_is_sealed act v ends added params linear initial) old kept fits free =
    all_from (λ (s : PlainSummand). HasNoNeedlessTrue (term_at (entries_of h us) s.condition)) k.summands (λ t i. summand_has_none g h ts us l v.0 t (sealed_of (entries_of h us) (entries_of g ts) l k v.0 linear t i) free)

pub sealed_conditions_have_no_needless_true : SealedConditionsHaveNoNeedlessTrue
sealed_conditions_have_no_needless_true g h p q l k w free = conditions_have_none w.sealed w.old w.kept w.fits free
