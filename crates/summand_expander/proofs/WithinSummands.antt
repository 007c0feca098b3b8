-- The summands of two sides within what is allowed are those of the product within.
use Rattle.std.proofs.Common.{◌≡◌, List, ◌++◌, map, sym, ap, ap₂, ◌∙◌, subst, Option}
use Rattle.std.specs.Prelude.{option_map, option_to_list, IfSome, Result, Ok, Err, IfOk, Vec}
use Rattle.std.specs.Global.{Global}
use Rattle.std.specs.List.{All}
use Rattle.std.proofs.lemmas.List.{map-append}
use Rattle.std.proofs.lemmas.List.Elements.{All-contains, All-weaker}
use Rattle.data_theory.specs.declared.ids.SortId.{SortId}
use Rattle.data_theory.specs.declared.ids.VarId.{VarId}
use Rattle.data_theory.specs.declared.no_memory.NoMemory.{NoMemory}
use Rattle.data_theory.specs.Signature.{Sig}
use Rattle.data_theory.specs.IdTrees.{Tree}
use Rattle.data_theory.specs.WholeSignatures.{IsSignature}
use Rattle.data_theory.proofs.StandingLemmas.{signatures_have_truth_functions}
use Rattle.term_pool.specs.Pools.{Extends}
use Rattle.term_pool.proofs.DeclaredConstants.{grown_itself}
use Rattle.process_terms.specs.SignatureEntries.{entries_of, BothGrow}
use Rattle.lps_core.specs.declared.linears.Summand.{Summand}
use Rattle.lps_core.specs.Fitting.{Fits, sort_of_variable}
use Rattle.lps_core.specs.PlainLinears.{PlainSummand, PlainLinear, plain_summand}
use Rattle.lps_core.proofs.Members.{in_contains}
use Rattle.lps_core.proofs.PoolTrees.{extends_on}
use Rattle.action_filters.specs.Filters.{AreActionsIn}
use Rattle.action_filters.proofs.Whole.{actions_in}
use Rattle.summand_expander.specs.Pruned.{pruned, ends, can_stay, product_within}
use Rattle.summand_expander.specs.Drafts.{PlainMove, PlainSide, PlainDraft, all_drafts}
use Rattle.summand_expander.specs.KeptDrafts.{draft_stays, is_last, HasMovesIn}
use Rattle.summand_expander.specs.PlainAllowed.{PlainAllowed}
use Rattle.summand_expander.specs.SideFits.{MoveFits, SideFits, DraftFits, IsFlagOf}
use Rattle.summand_expander.specs.SideMeanings.{IsSideIn, IsDraftIn, AreJoined, summand_of_draft}
use Rattle.summand_expander.specs.WholeProducts.{side_of_linear, AreSummandsOf}
use Rattle.summand_expander.specs.WithinProducts.{AllowedFits, can_stay_of}
use Rattle.summand_expander.proofs.Endings.{none_meant}
use Rattle.summand_expander.proofs.FittingDrafts.{drafts_fit, all_fit}
use Rattle.summand_expander.proofs.JoinedDrafts.{drafts_in, all_meant}
use Rattle.summand_expander.proofs.KeptElements.{pruned_along, all_kept}
use Rattle.summand_expander.proofs.MadeSummands.{side_in_still, means_still, fits_still, linear_still, MeansAt, FitsAt}
use Rattle.summand_expander.proofs.MeantDrafts.{drafts_meant}
use Rattle.summand_expander.proofs.MeantWithin.{label_meant}

-- a side that fits has its actions in the signature
pub moves_in : (g : Sig) (ts : List Tree) (ps : List SortId) (x : PlainSide) → SideFits g ts ps x → HasMovesIn g x
moves_in g ts ps x fits = All-weaker (MoveFits g ts ps) (λ (m : PlainMove). AreActionsIn g m.label) (λ m k. actions_in g ts m.label k.label) x.moves fits.moves

module _ (g : Sig) (s : IsSignature g) (a : PlainAllowed) (allowed : AllowedFits g a) (t0 t1 t2 : List Tree) (l r : PlainLinear) (lf rf : Option VarId) (x y : PlainSide)
    (e1 : Extends t0 t1) (e2 : Extends t1 t2) (fl : Fits g t0 l) (fr : Fits g t0 r) (hl : IfSome lf (IsFlagOf g)) (hr : IfSome rf (IsFlagOf g))
    (xin : IsSideIn t1 x) (xm : MeansAt t1 l lf x) (xf : FitsAt t1 l lf x) (yin : IsSideIn t2 y) (ym : MeansAt t2 r rf y) (yf : FitsAt t2 r rf y) where
  abbrev columns : List SortId
  columns = map (sort_of_variable g) (l.params ++ option_to_list lf)

  abbrev others : List SortId
  others = map (sort_of_variable g) (r.params ++ option_to_list rf)

  left_fits : SideFits g t2 columns x
  left_fits = fits_still g s t1 t2 e2 columns x (xf g s (linear_still g s t0 t1 e1 l fl).1 hl)

  right_fits : SideFits g t2 others y
  right_fits = yf g s (linear_still g s t0 t2 (extends_on t0 t1 t2 e1 e2) r fr).1 hr

  pub left_moves_in : HasMovesIn g x
  left_moves_in = moves_in g t2 columns x left_fits

  pub right_moves_in : HasMovesIn g y
  right_moves_in = moves_in g t2 others y right_fits

  module _ (ds : List PlainDraft) (kept : ds ≡ pruned (draft_stays g a) is_last (all_drafts x y)) where
    pub kept_in : All (IsDraftIn t2) ds
    kept_in = subst (λ z. All (IsDraftIn t2) z) (sym kept) (all_kept (draft_stays g a) is_last (IsDraftIn t2) (all_drafts x y) (drafts_in t2 x y (side_in_still t1 t2 e2 x xin) yin))

    made : (t3 : List Tree) (ss : List PlainSummand) → Extends t2 t3 → AreJoined t2 ds t3 ss → AreSummandsOf (product_within (can_stay_of (entries_of g t3) a)) g t3 l lf r rf ss
    made t3 ss e3 j =
        let grow : BothGrow g g t2 t3 = record { signature = grown_itself g; pool = e3 } in
        let params = (l.params ++ option_to_list lf) ++ (r.params ++ option_to_list rf) in
        let split = map-append (sort_of_variable g) (l.params ++ option_to_list lf) (r.params ++ option_to_list rf) in
        let fit = drafts_fit g t2 columns others x y left_fits right_fits in
        let can = can_stay_of (entries_of g t3) a in
        let e = entries_of g t2 in
        let l1 = (linear_still g s t0 t1 e1 l fl).1 in
        let r2 = (linear_still g s t0 t2 (extends_on t0 t1 t2 e1 e2) r fr).1 in
        record {
          fit = all_fit g (signatures_have_truth_functions g s) t2 t3 grow params ds ss
              (subst (λ rs. All (DraftFits g t2 rs) ds) (sym split) (subst (λ z. All (DraftFits g t2 (columns ++ others)) z) (sym kept) (all_kept (draft_stays g a) is_last (DraftFits g t2 (columns ++ others)) (all_drafts x y) fit))) j.conditions j.same;
          mean =
              all_meant g s.table s.complete t2 t3 e3 ds ss kept_in j.conditions j.same
              ∙ ap (map (summand_of_draft e)) kept
              ∙ pruned_along (draft_stays g a) is_last (can_stay can) ends (summand_of_draft e) (all_drafts x y)
              (λ d i. (label_meant g t2 s a allowed d.label (All-contains (DraftFits g t2 (columns ++ others)) (all_drafts x y) d fit (in_contains i)).label, none_meant _ d.next))
              ∙ ap (pruned (can_stay can) ends)
              (drafts_meant e x y (side_of_linear (entries_of g t1) l lf) (side_of_linear e r rf) (means_still g s t1 t2 e2 x (side_of_linear (entries_of g t1) l lf) xin (xm g s l1)) (ym g s r2))
              ∙ ap₂ (λ p q. (product_within can (record { process = p; flag = option_map (λ (v : VarId). v.0) lf }) (record { process = q; flag = option_map (λ (v : VarId). v.0) rf })).summands)
              (sym (linear_still g s t1 t3 (extends_on t1 t2 t3 e2 e3) l l1).0) (sym (linear_still g s t2 t3 e3 r r2).0);
        }

    -- as the calls say it
    pub made_within : (t3 : List Tree) (found : Result (Vec Summand Global) NoMemory) → Extends t2 t3 → IfOk found (λ v. AreJoined t2 ds t3 (map plain_summand v.items))
        → IfOk found (λ v. AreSummandsOf (product_within (can_stay_of (entries_of g t3) a)) g t3 l lf r rf (map plain_summand v.items))
    made_within t3 (Err z) e3 j = tt
    made_within t3 (Ok v) e3 j = made t3 (map plain_summand v.items) e3 j
