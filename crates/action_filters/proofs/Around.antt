-- A filter that means an operator around a linear process: the result fits, and is good for the operator in each later theory.
use Rattle.std.proofs.Common.{◌≡◌, List, [], refl, ap, sym, subst, Option}
use Rattle.std.specs.List.{All}
use Rattle.data_theory.specs.Environments.{terms_of}
use Rattle.data_theory.specs.Signature.{Sig}
use Rattle.data_theory.specs.IdData.{data_meant}
use Rattle.data_theory.specs.IdTrees.{Tree}
use Rattle.data_theory.specs.IdTerms.{variable_sorts}
use Rattle.data_theory.specs.WholeSignatures.{IsSignature}
use Rattle.process_terms.specs.Theories.{Theory, IsConsistent}
use Rattle.process_terms.specs.Labels.{Label}
use Rattle.process_terms.specs.PlainProcesses.{PlainAction, PlainAround}
use Rattle.process_terms.specs.Processes.{around}
use Rattle.process_terms.specs.Meanings.{around_of}
use Rattle.process_terms.specs.SignatureEntries.{entries_of}
use Rattle.bisim_laws.specs.LinearProcesses.{IsLinear, sorts}
use Rattle.bisim_laws.specs.LinearProcesses as theory
use Rattle.bisim_laws.specs.Links.{Wrapped, IsGood}
use Rattle.lps_core.specs.PlainLinears.{PlainSummand, PlainLinear, linear_of, initial_of, linear_state}
use Rattle.lps_core.specs.Fitting.{Fits, SummandFits, HasTakenName}
use Rattle.lps_core.specs.GoingOn.{GoesOn}
use Rattle.lps_core.proofs.GrowingData.{linear_grown, terms_grown}
use Rattle.lps_core.proofs.Staying.{what_fits_is_sorted}
use Rattle.action_filters.specs.Filters.{with_labels, IsGoodAround}
use Rattle.action_filters.proofs.Filtered.{IsFilter, filtered, linear_filtered, filter_good}
use Rattle.action_filters.proofs.Meant.{IsMeant, summands_meant, all_labelled}
use Rattle.action_filters.proofs.TheoryLabels as labels
use Rattle.action_filters.proofs.TheoryLabels.{IsLabelFilter, label_filter}

-- a theory of a signature's data without written equations
abbrev theory_alone : Sig → Theory
theory_alone g = record { declared = data_meant g; equations = [] }

-- ---- any filter of summands
module _ (g : Sig) (ts : List Tree) (l k : PlainLinear) (o : PlainAround) (f : theory.Summand → List theory.Summand) (stands : IsSignature g) (fits : Fits g ts l)
    (is : (th : Theory) → GoesOn g th → IsConsistent th → IsFilter th (variable_sorts g) (linear_of (entries_of g ts) l).params (around_of (entries_of g ts) o) f)
    (meant : linear_of (entries_of g ts) k ≡ filtered f (linear_of (entries_of g ts) l)) (same : initial_of (entries_of g ts) k ≡ initial_of (entries_of g ts) l) where
  abbrev wrapped : theory.Linear
  wrapped = linear_of (entries_of g ts) l

  good_at : (th : Theory) → GoesOn g th → IsConsistent th → (z : theory.Linear) → z ≡ filtered f wrapped
      → IsGood th (Wrapped (around_of (entries_of g ts) o) wrapped z) (around (around_of (entries_of g ts) o) (linear_state (entries_of g ts) l)) (theory.state_of z (initial_of (entries_of g ts) l))
  good_at th on sane z e =
      subst (λ y. IsGood th (Wrapped (around_of (entries_of g ts) o) wrapped y) (around (around_of (entries_of g ts) o) (linear_state (entries_of g ts) l)) (theory.state_of y (initial_of (entries_of g ts) l))) (sym e)
      (filter_good th (variable_sorts g) wrapped (around_of (entries_of g ts) o) f (is th on sane) fits.linear
      (linear_grown (data_meant g) th.declared on.grows (variable_sorts g) wrapped (what_fits_is_sorted g ts l stands.table stands.complete fits))
      (initial_of (entries_of g ts) l)
      (terms_grown (data_meant g) th.declared on.grows [] (terms_of (initial_of (entries_of g ts) l)) (sorts wrapped.params) fits.closed))

  pub good_around : IsGoodAround g ts o l k
  good_around = λ th on sane.
      subst (λ us. IsGood th (Wrapped (around_of (entries_of g ts) o) wrapped (linear_of (entries_of g ts) k)) (around (around_of (entries_of g ts) o) (linear_state (entries_of g ts) l)) (theory.state_of (linear_of (entries_of g ts) k) us)) (sym same)
      (good_at th on sane (linear_of (entries_of g ts) k) meant)

-- ---- filters of labels
module _ (g : Sig) (ts : List Tree) (l : PlainLinear) (o : PlainAround) (f : List PlainAction → Option (List PlainAction)) (f' : Label → Option Label) (stands : IsSignature g) (fits : Fits g ts l)
    (meant : IsMeant g ts f f') (is : (th : Theory) → IsLabelFilter th (around_of (entries_of g ts) o) f') where
  abbrev made : PlainLinear
  made = with_labels f l

  summand_filter : (th : Theory) → IsFilter th (variable_sorts g) (linear_of (entries_of g ts) l).params (around_of (entries_of g ts) o) (labels.by_label f')
  summand_filter th = label_filter th (variable_sorts g) (linear_of (entries_of g ts) l).params (around_of (entries_of g ts) o) f' (is th)

  pub linear_meant : linear_of (entries_of g ts) made ≡ filtered (labels.by_label f') (linear_of (entries_of g ts) l)
  linear_meant = ap (λ ss. record { params = (linear_of (entries_of g ts) l).params; summands = ss }) (summands_meant g ts f f' meant l.params l.summands fits.summands)

  pub labels_fit : Fits g ts made
  labels_fit = record {
    params = fits.params;
    init = fits.init;
    closed = fits.closed;
    summands = all_labelled f (SummandFits g ts l.params) (λ s m h e. record { sums = h.sums; condition = h.condition; label = meant.keeps s.label m h.label e; next = h.next }) l.summands fits.summands;
    linear = subst (λ z. IsLinear z) (sym linear_meant)
        (linear_filtered (theory_alone g) (variable_sorts g) (linear_of (entries_of g ts) l) (around_of (entries_of g ts) o) (labels.by_label f') (summand_filter (theory_alone g)) fits.linear
        (what_fits_is_sorted g ts l stands.table stands.complete fits));
    taken = fits.taken;
    sums_taken = all_labelled f (λ (s : PlainSummand). All (HasTakenName g) s.sums) (λ s m h e. h) l.summands fits.sums_taken;
  }

  pub labels_good : IsGoodAround g ts o l made
  labels_good = good_around g ts l made o (labels.by_label f') stands fits (λ th on sane. summand_filter th) linear_meant refl
