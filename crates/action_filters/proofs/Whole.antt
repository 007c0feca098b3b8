-- The four operators: their results fit, and are good around what they were made of.
use Rattle.std.proofs.Common.{◌≡◌, List, [], ◌∷◌, map, ap, ◌∙◌}
use Rattle.std.specs.List.{All}
use Rattle.std.proofs.lemmas.List.Elements.{All-nil, All-cons, All-head, All-tail}
use Rattle.std.proofs.lemmas.Option.{slice_get_within}
use Rattle.data_theory.specs.declared.ids.NameId.{NameId}
use Rattle.data_theory.specs.declared.ids.VarId.{VarId}
use Rattle.data_theory.specs.Signature.{Sig}
use Rattle.data_theory.specs.IdTrees.{Tree}
use Rattle.data_theory.specs.WholeSignatures.{IsSignature}
use Rattle.process_terms.specs.PlainProcesses.{PlainAction, allow, block, hide, rename}
use Rattle.process_terms.specs.Meanings.{name_at, renaming_of}
use Rattle.process_terms.specs.SignatureEntries.{entries_of}
use Rattle.bisim_laws.specs.LinearProcesses.{Summand, Linear}
use Rattle.lps_core.specs.PlainLinears.{PlainSummand, PlainLinear, linear_of}
use Rattle.lps_core.specs.Fitting.{Fits, SummandFits, IsActionOf}
use Rattle.action_filters.specs.LabelFilters.{allowed_label, unblocked_label, shown_label}
use Rattle.action_filters.specs.Filtering.{texts, pairs_of, allowing, blocking, hiding, renaming}
use Rattle.action_filters.specs.Filters.{naming, allowed, unblocked, hidden, renamed, renamed_label, IsNameIn, IsActionIn, AreActionsIn, HasActionsIn, RenamesOnce, HaveTargets, IsGoodAround}
use Rattle.action_filters.proofs.Meant.{allow_meant, block_meant, hide_meant}
use Rattle.action_filters.proofs.Renamed.{rename_meant, renamings_functional}
use Rattle.action_filters.proofs.Around.{labels_fit, labels_good, linear_meant}
use Rattle.action_filters.proofs.TheoryLabels as theory
use Rattle.action_filters.proofs.TheoryLabels.{allow_filters, block_filters, hide_filters, rename_filters}
use Rattle.action_filters.proofs.SameFilters.{as_allowed, as_unblocked, as_shown, as_renamed}

-- the actions of what fits are those of the signature
pub actions_in : (g : Sig) (ts : List Tree) (m : List PlainAction) → All (IsActionOf g ts) m → AreActionsIn g m
actions_in g ts [] h = All-nil (IsActionIn g)
actions_in g ts (a ∷ m) h =
    let k = All-head (IsActionOf g ts) a m h in
    All-cons (IsActionIn g) a m (slice_get_within g.actions a.act.0 k.key k.stands) (actions_in g ts m (All-tail (IsActionOf g ts) a m h))

pub summands_in : (g : Sig) (ts : List Tree) (params : List VarId) (ss : List PlainSummand) → All (SummandFits g ts params) ss → All (HasActionsIn g) ss
summands_in g ts params [] h = All-nil (HasActionsIn g)
summands_in g ts params (s ∷ ss) h =
    All-cons (HasActionsIn g) s ss (actions_in g ts s.label (All-head (SummandFits g ts params) s ss h).label) (summands_in g ts params ss (All-tail (SummandFits g ts params) s ss h))

module _ (g : Sig) (ts : List Tree) (l : PlainLinear) (stands : IsSignature g) (fits : Fits g ts l) where
  with_summands : {ss rs : List Summand} → ss ≡ rs → ◌≡◌ {A = Linear} (record { params = (linear_of (entries_of g ts) l).params; summands = ss }) (record { params = (linear_of (entries_of g ts) l).params; summands = rs })
  with_summands e = ap (λ (z : List Summand). record { params = (linear_of (entries_of g ts) l).params; summands = z }) e

  pub allow_fits : (sets : List (List NameId)) → All (All (IsNameIn g)) sets → Fits g ts (allowed g sets l)
  allow_fits sets h =
      labels_fit g ts l (allow sets) (allowed_label (naming g) sets) (allowed_label texts (map (map (name_at (entries_of g ts))) sets)) stands fits (allow_meant g ts stands.table stands.complete sets h)
      (λ th. allow_filters th (map (map (name_at (entries_of g ts))) sets))

  pub allow_good : (sets : List (List NameId)) → All (All (IsNameIn g)) sets → IsGoodAround g ts (allow sets) l (allowed g sets l)
  allow_good sets h =
      labels_good g ts l (allow sets) (allowed_label (naming g) sets) (allowed_label texts (map (map (name_at (entries_of g ts))) sets)) stands fits (allow_meant g ts stands.table stands.complete sets h)
      (λ th. allow_filters th (map (map (name_at (entries_of g ts))) sets))

  pub allow_means : (sets : List (List NameId)) → All (All (IsNameIn g)) sets → linear_of (entries_of g ts) (allowed g sets l) ≡ allowing (map (map (name_at (entries_of g ts))) sets) (linear_of (entries_of g ts) l)
  allow_means sets h =
      linear_meant g ts l (allow sets) (allowed_label (naming g) sets) (allowed_label texts (map (map (name_at (entries_of g ts))) sets)) stands fits (allow_meant g ts stands.table stands.complete sets h)
      (λ th. allow_filters th (map (map (name_at (entries_of g ts))) sets))
      ∙ with_summands (as_allowed (map (map (name_at (entries_of g ts))) sets) (linear_of (entries_of g ts) l).summands)

  pub block_fits : (names : List NameId) → All (IsNameIn g) names → Fits g ts (unblocked g names l)
  block_fits names h =
      labels_fit g ts l (block names) (unblocked_label (naming g) names) (unblocked_label texts (map (name_at (entries_of g ts)) names)) stands fits (block_meant g ts stands.table stands.complete names h)
      (λ th. block_filters th (map (name_at (entries_of g ts)) names))

  pub block_good : (names : List NameId) → All (IsNameIn g) names → IsGoodAround g ts (block names) l (unblocked g names l)
  block_good names h =
      labels_good g ts l (block names) (unblocked_label (naming g) names) (unblocked_label texts (map (name_at (entries_of g ts)) names)) stands fits (block_meant g ts stands.table stands.complete names h)
      (λ th. block_filters th (map (name_at (entries_of g ts)) names))

  pub block_means : (names : List NameId) → All (IsNameIn g) names → linear_of (entries_of g ts) (unblocked g names l) ≡ blocking (map (name_at (entries_of g ts)) names) (linear_of (entries_of g ts) l)
  block_means names h =
      linear_meant g ts l (block names) (unblocked_label (naming g) names) (unblocked_label texts (map (name_at (entries_of g ts)) names)) stands fits (block_meant g ts stands.table stands.complete names h)
      (λ th. block_filters th (map (name_at (entries_of g ts)) names))
      ∙ with_summands (as_unblocked (map (name_at (entries_of g ts)) names) (linear_of (entries_of g ts) l).summands)

  pub hide_fits : (names : List NameId) → All (IsNameIn g) names → Fits g ts (hidden g names l)
  hide_fits names h =
      labels_fit g ts l (hide names) (shown_label (naming g) names) (shown_label texts (map (name_at (entries_of g ts)) names)) stands fits (hide_meant g ts stands.table stands.complete names h)
      (λ th. hide_filters th (map (name_at (entries_of g ts)) names))

  pub hide_good : (names : List NameId) → All (IsNameIn g) names → IsGoodAround g ts (hide names) l (hidden g names l)
  hide_good names h =
      labels_good g ts l (hide names) (shown_label (naming g) names) (shown_label texts (map (name_at (entries_of g ts)) names)) stands fits (hide_meant g ts stands.table stands.complete names h)
      (λ th. hide_filters th (map (name_at (entries_of g ts)) names))

  pub hide_means : (names : List NameId) → All (IsNameIn g) names → linear_of (entries_of g ts) (hidden g names l) ≡ hiding (map (name_at (entries_of g ts)) names) (linear_of (entries_of g ts) l)
  hide_means names h =
      linear_meant g ts l (hide names) (shown_label (naming g) names) (shown_label texts (map (name_at (entries_of g ts)) names)) stands fits (hide_meant g ts stands.table stands.complete names h)
      (λ th. hide_filters th (map (name_at (entries_of g ts)) names))
      ∙ with_summands (as_shown (map (name_at (entries_of g ts)) names) (linear_of (entries_of g ts) l).summands)

  module _ (pairs : List (NameId × NameId)) (named : All (λ (r : NameId × NameId). IsNameIn g r.0 × IsNameIn g r.1) pairs) (once : RenamesOnce pairs) (targets : HaveTargets g pairs) where
    pub rename_fits : Fits g ts (renamed g pairs l)
    rename_fits =
        labels_fit g ts l (rename pairs) (renamed_label g pairs) (theory.renamed_label (pairs_of (map (renaming_of (entries_of g ts)) pairs))) stands fits (rename_meant g ts stands pairs named targets)
        (λ th. rename_filters th (map (renaming_of (entries_of g ts)) pairs) (renamings_functional g ts stands pairs named once))

    pub rename_good : IsGoodAround g ts (rename pairs) l (renamed g pairs l)
    rename_good =
        labels_good g ts l (rename pairs) (renamed_label g pairs) (theory.renamed_label (pairs_of (map (renaming_of (entries_of g ts)) pairs))) stands fits (rename_meant g ts stands pairs named targets)
        (λ th. rename_filters th (map (renaming_of (entries_of g ts)) pairs) (renamings_functional g ts stands pairs named once))

    pub rename_means : linear_of (entries_of g ts) (renamed g pairs l) ≡ renaming (map (renaming_of (entries_of g ts)) pairs) (linear_of (entries_of g ts) l)
    rename_means =
        linear_meant g ts l (rename pairs) (renamed_label g pairs) (theory.renamed_label (pairs_of (map (renaming_of (entries_of g ts)) pairs))) stands fits (rename_meant g ts stands pairs named targets)
        (λ th. rename_filters th (map (renaming_of (entries_of g ts)) pairs) (renamings_functional g ts stands pairs named once))
        ∙ with_summands (as_renamed (map (renaming_of (entries_of g ts)) pairs) (linear_of (entries_of g ts) l).summands)
