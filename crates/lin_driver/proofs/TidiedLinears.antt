-- A linear process whose conditions are tidied fits, and is bisimilar to the given one.
use Rattle.std.proofs.Common.{◌≡◌, List, [], ◌∷◌, map, refl, sym, ap, ap₂, ◌∙◌, subst, Option, Some, None}
use Rattle.std.specs.Prelude.{IfSome, option_map}
use Rattle.std.specs.List.{All, AllZip}
use Rattle.std.proofs.lemmas.List.Elements.{All-nil, All-cons, All-head, All-tail}
use Rattle.data_theory.specs.declared.ids.VarId.{VarId}
use Rattle.data_theory.specs.declared.ids.TermId.{TermId}
use Rattle.data_theory.specs.Terms.{Term}
use Rattle.data_theory.specs.Provable.{reflexive}
use Rattle.data_theory.specs.Signature.{Sig}
use Rattle.data_theory.specs.WholeSignatures.{IsSignature}
use Rattle.data_theory.specs.IdData.{data_meant}
use Rattle.data_theory.specs.IdTrees.{Tree}
use Rattle.data_theory.specs.IdTerms.{term_under, variable_sorts, IsTreeWithin}
use Rattle.data_theory.proofs.EnvironmentLemmas.{putting_in_keeps_sorts}
use Rattle.data_theory.proofs.GrowthLemmas.{growth_keeps_sorts}
use Rattle.term_pool.specs.HeadTrees.{tree_at, IsIn}
use Rattle.term_pool.specs.Pools.{Extends}
use Rattle.data_rewriter.specs.Standing.{IsTerm}
use Rattle.process_terms.specs.PlainProcesses.{PlainAction}
use Rattle.process_terms.specs.Meanings.{bound_at, term_at, label_of}
use Rattle.process_terms.specs.SignatureEntries.{entries_of}
use Rattle.bisim_laws.specs.Links.{Dropped}
use Rattle.bisim_laws.proofs.Firing.{contains_none}
use Rattle.lps_core.specs.CanonicalConditions.{HasNoNeedlessTrue, HaveNoNeedlessTrue}
use Rattle.lps_core.specs.Fitting.{Fits}
use Rattle.lps_core.specs.GoingOn.{IsGoodOver}
use Rattle.lps_core.specs.Moving.{all_kept}
use Rattle.lps_core.specs.PlainLinears.{PlainSummand, PlainLinear, summand_of, linear_of, initial_of, linear_state}
use Rattle.lps_core.proofs.PoolTrees.{tree_kept}
use Rattle.lps_core.proofs.Staying.{term_is, what_fits_is_sorted}
use Rattle.lps_constelm.specs.Simplified.{IsSimplerTerm}
use Rattle.lps_constelm.specs.Eliminating.{simplified}
use Rattle.lps_constelm.specs.Runs.{AreTerms, IsActionWithin, IsSummandWithin, TermBecomes, ActionBecomes, NextBecomes, both_end, both_go_on, SummandBecomes, LinearBecomes}
use Rattle.lps_constelm.proofs.MeantRounds.{linear_within, variables_are_sorts, becomes_meant, becomes_fits}
use Rattle.lps_constelm.proofs.Rounds.{eliminated_good}
use Rattle.lin_driver.specs.NeededParts.{tidied, tidied_summand, tidied_linear, tidied_tree, IsTidied, TidiesConditions}
use Rattle.lin_driver.proofs.NeededParts.{tidied_over, tidied_sorted, tidied_equal, tidied_has_none}
use Rattle.lin_driver.proofs.TidiedTrees.{tidied_means, tidied_within}

module _ (g : Sig) (stands : IsSignature g) (ts us : List Tree) (kept : Extends ts us) where
  -- nothing is asked of what is simple
  abbrev Any : Term → Type 0
  Any t = Unit {0}

  abbrev Becomes : TermId → TermId → Type 0
  Becomes c d = TermBecomes g [] Any ts us c d

  -- ---- terms that stay
  itself : (t : Term) → IsSimplerTerm g [] Any t t
  itself t = record { simple = tt; variables = λ xs i. i; sort = λ vs are s h. h; equal = λ vs are s h d theirs later e closes. reflexive }

  stays : (id : TermId) → IsTerm g ts id → Becomes id id
  stays id h =
      let k = tree_kept ts us id kept h.inside in
      record {
        within = record { inside = k.1; within = subst (IsTreeWithin g) (sym k.0) h.within };
        simpler = subst (λ t. IsSimplerTerm g [] Any (term_under g (tree_at ts id)) (term_under g t)) (sym k.0) (itself (term_under g (tree_at ts id)));
      }

  all_stay : (ids : List TermId) → AreTerms g ts ids → AllZip Becomes ids ids
  all_stay [] h = tt
  all_stay (id ∷ ids) h = (stays id (All-head (IsTerm g ts) id ids h), all_stay ids (All-tail (IsTerm g ts) id ids h))

  label_stays : (m : List PlainAction) → All (IsActionWithin g ts) m → AllZip (ActionBecomes g [] Any ts us) m m
  label_stays [] h = tt
  label_stays (a ∷ m) h = (record { act = refl; args = all_stay a.args (All-head (IsActionWithin g ts) a m h) }, label_stays m (All-tail (IsActionWithin g ts) a m h))

  next_stays : (o : Option (List TermId)) → IfSome o (AreTerms g ts) → NextBecomes g [] Any ts us o o
  next_stays None h = both_end
  next_stays (Some ids) h = both_go_on (all_stay ids h)

  -- ---- conditions
  tidied_is_simpler : (c : Term) → IsSimplerTerm g [] Any c (tidied c)
  tidied_is_simpler c = record {
    simple = tt;
    variables = λ xs i. tidied_over xs c i;
    sort = λ vs are s h. tidied_sorted (data_meant g) vs c s h;
    equal = λ vs are s h d theirs later e closes. tidied_equal d theirs e c s (putting_in_keeps_sorts d vs [] e closes c s (growth_keeps_sorts (data_meant g) d later.grows vs c s h));
  }

  condition_means : (c d : TermId) → IsTerm g ts c → tree_at us d ≡ tidied_tree (tree_at ts c) → term_under g (tree_at us d) ≡ tidied (term_under g (tree_at ts c))
  condition_means c d h e = ap (term_under g) e ∙ tidied_means g stands (tree_at ts c) h.within

  condition_becomes : (c d : TermId) → IsTerm g ts c → IsIn us d → tree_at us d ≡ tidied_tree (tree_at ts c) → Becomes c d
  condition_becomes c d h i e = record {
    within = record { inside = i; within = subst (IsTreeWithin g) (sym e) (tidied_within g stands (tree_at ts c) h.within) };
    simpler = subst (λ z. IsSimplerTerm g [] Any (term_under g (tree_at ts c)) z) (sym (condition_means c d h e)) (tidied_is_simpler (term_under g (tree_at ts c)));
  }

  -- ---- summands
  summand_becomes : (s t : PlainSummand) → IsSummandWithin g ts s → IsTidied ts us s t → SummandBecomes g [] Any ts us s t
  summand_becomes s t w h = record {
    sums = h.sums;
    condition = condition_becomes s.condition t.condition w.condition h.within h.condition;
    label = subst (λ m. AllZip (ActionBecomes g [] Any ts us) s.label m) (sym h.label) (label_stays s.label w.label);
    next = subst (λ o. NextBecomes g [] Any ts us s.next o) (sym h.next) (next_stays s.next w.next);
  }

  summands_become : (ss made : List PlainSummand) → All (IsSummandWithin g ts) ss → AllZip (IsTidied ts us) ss made → AllZip (SummandBecomes g [] Any ts us) ss made
  summands_become [] [] w h = tt
  summands_become [] (t ∷ made) w h = absurd h
  summands_become (s ∷ ss) [] w h = absurd h
  summands_become (s ∷ ss) (t ∷ made) w h = (summand_becomes s t (All-head (IsSummandWithin g ts) s ss w) h.0, summands_become ss made (All-tail (IsSummandWithin g ts) s ss w) h.1)

  module _ (l k : PlainLinear) (fits : Fits g ts l) (t : TidiesConditions ts us l k) where
    becomes : LinearBecomes g [] Any ts us l k
    becomes =
        let w = linear_within g stands ts l fits in
        record {
          params = t.params;
          init = subst (λ ids. AllZip Becomes l.init ids) (sym t.init) (all_stay l.init w.init);
          summands = summands_become l.summands k.summands w.summands t.summands;
        }

    pub tidied_fits : Fits g us k
    tidied_fits = becomes_fits g [] Any stands ts us l k fits becomes

    pub tidied_good : IsGoodOver g (Dropped (all_kept (linear_of (entries_of g ts) l).params) (linear_of (entries_of g ts) l) (linear_of (entries_of g us) k)) (linear_state (entries_of g ts) l) (linear_state (entries_of g us) k)
    tidied_good th on con =
        eliminated_good g [] Any (variable_sorts g) (variables_are_sorts g stands) (linear_of (entries_of g ts) l) (initial_of (entries_of g ts) l) fits.linear (what_fits_is_sorted g ts l stands.table stands.complete fits) fits.closed th on
        (λ q i. absurd (contains_none q i)) (simplified (becomes_meant g [] Any stands ts us l k fits becomes))

  -- ---- what it means
  abbrev TermAt : TermId → Term
  TermAt id = term_at (entries_of g us) id

  code_means : (c d : TermId) → IsTerm g ts c → IsIn us d → tree_at us d ≡ tidied_tree (tree_at ts c) → TermAt d ≡ tidied (TermAt c)
  code_means c d h i e =
      let k = tree_kept ts us c kept h.inside in
      term_is g us d i ∙ condition_means c d h e ∙ ap (λ t. tidied (term_under g t)) (sym k.0) ∙ ap tidied (sym (term_is g us c k.1))

  summand_means : (s t : PlainSummand) → IsSummandWithin g ts s → IsTidied ts us s t → summand_of (entries_of g us) t ≡ tidied_summand (summand_of (entries_of g us) s)
  summand_means s t w h =
      let e = entries_of g us in
      ap₂ (λ (xs : List VarId) (c : Term). record { sums = map (bound_at e) xs; condition = c; label = label_of e t.label; next = option_map (map (term_at e)) t.next }) h.sums (code_means s.condition t.condition w.condition h.within h.condition)
      ∙ ap₂ (λ (m : List PlainAction) (o : Option (List TermId)). record { sums = map (bound_at e) s.sums; condition = tidied (term_at e s.condition); label = label_of e m; next = option_map (map (term_at e)) o }) h.label h.next

  summands_mean : (ss made : List PlainSummand) → All (IsSummandWithin g ts) ss → AllZip (IsTidied ts us) ss made → map (summand_of (entries_of g us)) made ≡ map tidied_summand (map (summand_of (entries_of g us)) ss)
  summands_mean [] [] w h = refl
  summands_mean [] (t ∷ made) w h = absurd h
  summands_mean (s ∷ ss) [] w h = absurd h
  summands_mean (s ∷ ss) (t ∷ made) w h = ap₂ (λ x xs. x ∷ xs) (summand_means s t (All-head (IsSummandWithin g ts) s ss w) h.0) (summands_mean ss made (All-tail (IsSummandWithin g ts) s ss w) h.1)

  pub tidied_linear_means : (l k : PlainLinear) → Fits g ts l → TidiesConditions ts us l k → linear_of (entries_of g us) k ≡ tidied_linear (linear_of (entries_of g us) l)
  tidied_linear_means l k fits t =
      ap₂ (λ ps ss. record { params = ps; summands = ss }) (ap (map (bound_at (entries_of g us))) t.params) (summands_mean l.summands k.summands (linear_within g stands ts l fits).summands t.summands)

  -- no part `true` is needless
  each_has_none : (ss made : List PlainSummand) → All (IsSummandWithin g ts) ss → AllZip (IsTidied ts us) ss made → All (λ (s : PlainSummand). HasNoNeedlessTrue (TermAt s.condition)) made
  each_has_none [] [] w h = All-nil (λ (s : PlainSummand). HasNoNeedlessTrue (TermAt s.condition))
  each_has_none [] (t ∷ made) w h = absurd h
  each_has_none (s ∷ ss) [] w h = absurd h
  each_has_none (s ∷ ss) (t ∷ made) w h =
      All-cons (λ (s : PlainSummand). HasNoNeedlessTrue (TermAt s.condition)) t made
      (subst HasNoNeedlessTrue (sym (code_means s.condition t.condition (All-head (IsSummandWithin g ts) s ss w).condition h.0.within h.0.condition)) (tidied_has_none (TermAt s.condition)))
      (each_has_none ss made (All-tail (IsSummandWithin g ts) s ss w) h.1)

  pub have_none : (l k : PlainLinear) → Fits g ts l → TidiesConditions ts us l k → HaveNoNeedlessTrue g us k
  have_none l k fits t = each_has_none l.summands k.summands (linear_within g stands ts l fits).summands t.summands
