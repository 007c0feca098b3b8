-- What `allow` keeps after `communicate`.
use Rattle.std.proofs.Common.{◌≡◌, List, [], ◌∷◌, ◌++◌, refl, sym, ap, ap₂, ◌∙◌, subst}
use Rattle.std.specs.Prelude.{flat_map}
use Rattle.std.proofs.lemmas.List.Concat.{flat_map-append}
use Rattle.process_terms.specs.Names.{Name}
use Rattle.process_terms.specs.Labels.{names}
use Rattle.process_terms.specs.Communication.{Rule}
use Rattle.bisim_laws.specs.LinearProcesses.{Summand}
use Rattle.bisim_laws.specs.Completable.{IsCompletable, AreAllowed}
use Rattle.bisim_laws.specs.Scopes.{completable, Matters}
use Rattle.bisim_laws.proofs.Completing.{completed, allowed_completable, goes_to_parts}
use Rattle.lps_core.proofs.Members.{In, here, there, in_contains}
use Rattle.action_filters.specs.Filtering.{if_allowed}
use Rattle.action_filters.proofs.AllowedExactly.{not_allowed}
use Rattle.communication.specs.Communicated.{way_label, communicated}
use Rattle.communication.proofs.Communicating.{in_ways}
use Rattle.communication.proofs.WayNames.{ways_from}
use Rattle.summand_expander.specs.LeavingOut.{LeavesOut, none_there, one_stays, one_left_out, full, within}
use Rattle.summand_expander.specs.PruningLaws.{can_complete, AllowKeepsTheSame, AllowKeepsTheSameOfMerges, AllowAloneKeepsTheSameOfMerges}
use Rattle.summand_expander.proofs.CutProducts.{merges_cut}
use Rattle.summand_expander.proofs.ToldCompletable.{test_tells}

-- ---- the third law
each_nothing : {A B : Type 0} (f : A → List B) (xs : List A) → ((x : A) → In x xs → f x ≡ []) → flat_map f xs ≡ []
each_nothing f [] w = refl
each_nothing f (x ∷ xs) w = ap₂ (λ l m. l ++ m) (w x here) (each_nothing f xs (λ y i. w y (there i)))

-- of a list without some of which nothing is kept the same is kept
module _ (Can : List Name → Type 0) (f : Summand → List Summand) (none : (s : Summand) → (Can (names s.label) → ⊥) → f s ≡ []) where
  kept_alike : {ss ts : List Summand} → LeavesOut Can ss ts → flat_map f ss ≡ flat_map f ts
  kept_alike none_there = refl
  kept_alike (one_stays {s = s} h) = ap (λ l. f s ++ l) (kept_alike h)
  kept_alike (one_left_out {s = s} {ss = ss} n h) = ap (λ l. l ++ flat_map f ss) (none s n) ∙ kept_alike h

module _ (rules : List Rule) (sets : List (List Name)) where
  abbrev pub keep : Summand → List Summand
  keep s = flat_map (if_allowed sets) (communicated rules s)

  pub none_kept : (s : Summand) → (IsCompletable rules sets (names s.label) → ⊥) → keep s ≡ []
  none_kept s n = each_nothing (if_allowed sets) (communicated rules s) (λ t i.
      let w = in_ways rules s t i in
      not_allowed sets t (λ a. n (completed rules sets s.label (way_label w.0) (ways_from rules s.label w.0 (in_contains w.1)) (subst (λ (z : Summand). AreAllowed sets (names z.label)) w.2 a))))

  pub each_twice : (ss : List Summand) → flat_map (if_allowed sets) (flat_map (communicated rules) ss) ≡ flat_map keep ss
  each_twice [] = refl
  each_twice (s ∷ ss) = flat_map-append (if_allowed sets) (communicated rules s) (flat_map (communicated rules) ss) ∙ ap (λ l. keep s ++ l) (each_twice ss)

  summands_alike : {ss ts : List Summand} → LeavesOut (Matters (completable rules sets)) ss ts → flat_map (if_allowed sets) (flat_map (communicated rules) ss) ≡ flat_map (if_allowed sets) (flat_map (communicated rules) ts)
  summands_alike {ss} {ts} h = each_twice ss ∙ kept_alike (Matters (completable rules sets)) keep none_kept h ∙ sym (each_twice ts)

pub keeps_the_same : AllowKeepsTheSame
keeps_the_same rules sets l k h = ap₂ (λ ps ss. record { params = ps; summands = ss }) (sym h.params) (summands_alike rules sets h.summands)

pub keeps_the_same_of_merges : AllowKeepsTheSameOfMerges
keeps_the_same_of_merges rules sets t = keeps_the_same rules sets (full t) (within (can_complete rules sets) t) (merges_cut (completable rules sets) (goes_to_parts rules sets) (can_complete rules sets) (test_tells rules sets) t)

pub keeps_the_same_alone : AllowAloneKeepsTheSameOfMerges
keeps_the_same_alone sets t =
    let h = merges_cut (completable [] sets) (goes_to_parts [] sets) (can_complete [] sets) (test_tells [] sets) t in
    ap₂ (λ ps ss. record { params = ps; summands = ss }) (sym h.params)
    (kept_alike (Matters (completable [] sets)) (if_allowed sets) (λ s n. not_allowed sets s (λ a. n (allowed_completable [] sets (names s.label) a))) h.summands)
