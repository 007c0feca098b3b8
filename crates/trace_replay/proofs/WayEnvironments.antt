-- The environment of a state and of values for the sums of a summand.
use Rattle.std.specs.Prelude.{◌≡◌, ℕ, List, [], ◌∷◌, ◌++◌, length, Option}
use Rattle.std.proofs.Common.{sym, subst, ap, ◌∙◌, suc, refl}
use Rattle.std.specs.List.{Contains}
use Rattle.data_theory.specs.Terms.{Sort, boolean, Term, put}
use Rattle.data_theory.specs.Declarations.{Data, HasSort, HaveSorts}
use Rattle.data_theory.specs.Environments.{Environment, term_in, bound, terms_of, Agree}
use Rattle.data_theory.proofs.EnvironmentLemmas.{front_is_read, front_is_skipped, bound_are_the_parameters, putting_in_goes_through_lists}
use Rattle.process_terms.specs.Labels.{Label, put_label}
use Rattle.process_terms.specs.Processes.{Bound}
use Rattle.process_terms.specs.Theories.{AreOfSorts}
use Rattle.bisim_laws.specs.LinearProcesses.{Summand, Linear, variables, sorts, reading, put_next, IsLinear, IsWellSorted, LabelIsOver, no_action_left, action_over, NextIsOver, no_next, next_over, LabelIsSorted, action_sorted, NextIsSorted, next_sorted, AreBound}
use Rattle.bisim_laws.proofs.Firing.{contains_first, contains_later, reading_same, bound_reads}
use Rattle.bisim_laws.proofs.SortedFiring.{HaveTerms, put_sorted, put_all_sorted, bound_sorted, read_sorted, terms_on_both}
use Rattle.trace_replay.specs.Settings.{Setting, data_in, theory_in}
use Rattle.trace_replay.specs.Listings.{IsListed, AreListed, no_values, one_value}
use Rattle.lps_simulator.specs.Options.{environment_at}
use Rattle.trace_replay.proofs.DecidedTerms.{HaveStateSorts}
use Rattle.trace_replay.specs.Pairings.{IsClosedLabel}

-- ---- listed values
pub listed_long : {s : Setting} {xs : List Bound} {ts : List Term} → AreListed s xs ts → length ts ≡ length (variables xs)
listed_long no_values = refl
listed_long (one_value i h) = ap suc (listed_long h)

-- each value that is listed for these variables has the variable's sort
abbrev pub ListedHaveSorts : Setting → List Bound → Type 0
ListedHaveSorts s xs = (x : Bound) → Contains xs x → (t : Term) → IsListed s x t → HasSort (data_in s) [] t x.sort

pub listed_sorted : {s : Setting} {xs : List Bound} {ts : List Term} → ListedHaveSorts s xs → AreListed s xs ts → AreOfSorts (theory_in s) (sorts xs) ts
listed_sorted have no_values = tt
listed_sorted have (one_value {x = x} {t = t} {xs = xs} i h) = (have x (contains_first x xs) t i, listed_sorted (λ y j. have y (contains_later x y xs j)) h)

sorts_long : (g : Data) (ts : List Term) (xs : List Bound) → HaveSorts g [] (terms_of ts) (sorts xs) → length ts ≡ length (variables xs)
sorts_long g [] [] h = refl
sorts_long g [] (x ∷ xs) h = absurd h
sorts_long g (t ∷ ts) [] h = absurd h
sorts_long g (t ∷ ts) (x ∷ xs) h = ap suc (sorts_long g ts xs h.1)

-- ---- labels and next terms with terms put in
put_label_closed : (g : Data) (vs : List Sort) (xs : List ℕ) (e : Environment) → HaveTerms g vs xs (term_in e) → (m : Label) → LabelIsOver xs m → LabelIsSorted g vs m → IsClosedLabel g (put_label e m)
put_label_closed g vs xs e have _ no_action_left sorted = tt
put_label_closed g vs xs e have _ (action_over {a = a} {m = m} o over) (action_sorted h sorted) = (
  subst (λ ts. HaveSorts g [] ts a.sorts) (putting_in_goes_through_lists (term_in e) a.args) (put_all_sorted g vs xs (term_in e) have (terms_of a.args) a.sorts o h),
  put_label_closed g vs xs e have m over sorted,
)

put_next_sorted : (g : Data) (vs : List Sort) (xs : List ℕ) (params : List Bound) (e : Environment) → HaveTerms g vs xs (term_in e) → (next : Option (List Term)) → NextIsOver xs params next
    → NextIsSorted g vs (sorts params) next → HaveStateSorts g (sorts params) (put_next e next)
put_next_sorted g vs xs params e have _ no_next sorted = tt
put_next_sorted g vs xs params e have _ (next_over {ts = ts} o l) (next_sorted h) =
    subst (λ us. HaveSorts g [] us (sorts params)) (putting_in_goes_through_lists (term_in e) ts) (put_all_sorted g vs xs (term_in e) have (terms_of ts) (sorts params) o h)

-- ---- a summand in a state
module _ (s : Setting) (vs : List Sort) (l : Linear) (linear : IsLinear l) (sorted : IsWellSorted (data_in s) vs l) (a : Summand) (among : Contains l.summands a) (values ts : List Term)
    (of_sums : AreOfSorts (theory_in s) (sorts a.sums) values) (of_params : AreOfSorts (theory_in s) (sorts l.params) ts) where
  pub sums_read : Agree (variables a.sums) (term_in (environment_at l a ts values)) (term_in (bound (variables a.sums) values))
  sums_read v i = front_is_read (bound (variables a.sums) values) (bound (variables l.params) ts) v (subst (λ z. Contains z v) (sym (bound_are_the_parameters (variables a.sums) values (sorts_long (data_in s) values a.sums of_sums))) i)

  pub params_read : Agree (variables l.params) (term_in (environment_at l a ts values)) (term_in (bound (variables l.params) ts))
  params_read v i =
      front_is_skipped (bound (variables a.sums) values) (bound (variables l.params) ts) v
      (λ j. (linear.summands a among).apart v (subst (λ z. Contains z v) (bound_are_the_parameters (variables a.sums) values (sorts_long (data_in s) values a.sums of_sums)) j) i)

  pub reads_state : reading (environment_at l a ts values) (variables l.params) ≡ ts
  reads_state =
      reading_same (variables l.params) (environment_at l a ts values) (bound (variables l.params) ts) params_read ∙ bound_reads (variables l.params) ts (sorts_long (data_in s) ts l.params of_params) linear.distinct

  pub reads_values : reading (environment_at l a ts values) (variables a.sums) ≡ values
  reads_values =
      reading_same (variables a.sums) (environment_at l a ts values) (bound (variables a.sums) values) sums_read
      ∙ bound_reads (variables a.sums) values (sorts_long (data_in s) values a.sums of_sums) (linear.summands a among).distinct

  pub sums_bound : AreBound (theory_in s) a.sums (environment_at l a ts values)
  sums_bound = read_sorted (theory_in s) a.sums (environment_at l a ts values) (subst (AreOfSorts (theory_in s) (sorts a.sums)) (sym reads_values) of_sums)

  have_terms : HaveTerms (data_in s) vs (variables a.sums ++ variables l.params) (term_in (environment_at l a ts values))
  have_terms =
      terms_on_both (data_in s) vs (variables a.sums) (variables l.params) (term_in (environment_at l a ts values))
      (bound_sorted (theory_in s) vs a.sums (environment_at l a ts values) (sorted.summands a among).sums sums_bound)
      (bound_sorted (theory_in s) vs l.params (environment_at l a ts values) sorted.params
      (read_sorted (theory_in s) l.params (environment_at l a ts values) (subst (AreOfSorts (theory_in s) (sorts l.params)) (sym reads_state) of_params)))

  pub condition_sorted : HasSort (data_in s) [] (put (term_in (environment_at l a ts values)) a.condition) boolean
  condition_sorted =
      put_sorted (data_in s) vs (variables a.sums ++ variables l.params) (term_in (environment_at l a ts values)) have_terms a.condition boolean (linear.summands a among).condition (sorted.summands a among).condition

  pub label_closed : IsClosedLabel (data_in s) (put_label (environment_at l a ts values) a.label)
  label_closed = put_label_closed (data_in s) vs (variables a.sums ++ variables l.params) (environment_at l a ts values) have_terms a.label (linear.summands a among).label (sorted.summands a among).label

  pub next_have_sorts : HaveStateSorts (data_in s) (sorts l.params) (put_next (environment_at l a ts values) a.next)
  next_have_sorts =
      put_next_sorted (data_in s) vs (variables a.sums ++ variables l.params) l.params (environment_at l a ts values) have_terms a.next (linear.summands a among).next (sorted.summands a among).next
