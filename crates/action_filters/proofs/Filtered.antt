-- An operator around a linear process, and the process with its summands filtered: one theorem for all operators.
use Rattle.std.proofs.Common.{◌≡◌, List, ◌++◌, map, sym, subst, Option, Some, None}
use Rattle.std.specs.Prelude.{flat_map}
use Rattle.data_theory.specs.Terms.{Sort, Term}
use Rattle.data_theory.specs.Environments.{Environment, term_in}
use Rattle.process_terms.specs.Theories.{Theory, AreOfSorts}
use Rattle.process_terms.specs.Labels.{Label}
use Rattle.process_terms.specs.Processes.{Around, Bound, Process, around}
use Rattle.process_terms.specs.Steps.{Outcome, within, Passes, Step, by_around}
use Rattle.process_terms.proofs.AgreeingLabels.{agree_refl}
use Rattle.bisim_laws.specs.Bisimulations.{UpTo, up_to, Lands, both_end, both_go_on, Answer, Flipped, Progress}
use Rattle.bisim_laws.specs.LinearProcesses.{Summand, Linear, variables, sorts, state_of, outcome_of, IsLinear, IsWellSorted, AreBound, Does, Fires}
use Rattle.bisim_laws.specs.BaseStates.{AroundState, around_state}
use Rattle.bisim_laws.specs.Links.{Wrapped, IsGood}
use Rattle.bisim_laws.proofs.AlikeProcesses.{alike_refl}
use Rattle.bisim_laws.proofs.ComposedLinks.{up_to_bisimulation}
use Rattle.bisim_laws.proofs.Firing.{fired, fire}
use Rattle.bisim_laws.proofs.SortedFiring.{firings_keep}
use Rattle.lps_core.proofs.Members.{In, in_each, each_in, in_contains, contains_in}
use Rattle.lps_core.proofs.SortedTerms.{HaveTerms, bound_have_terms, read_bound, both_have_terms}
use Rattle.lps_core.proofs.Shapes.{IsSortedSummand, summand_is, summand_sorted, summand_fits}

abbrev pub filtered : (Summand → List Summand) → Linear → Linear
filtered f l = record { params = l.params; summands = flat_map f l.summands }

-- In an environment of sorts, the summands that are made of one do what it does under the operator. `params` are those of
-- the process.
pub record IsFilter (th : Theory) (vs : List Sort) (params : List Bound) (o : Around) (f : Summand → List Summand) : Type 0 where
  pub forth : (s : Summand) (e : Environment) (m n : Label) (q : Option (List Term)) → IsSortedSummand th.declared vs params s → HaveTerms th.declared vs (variables s.sums ++ variables params) (term_in e)
      → Does th s e m q → Passes th o m n → (t : Summand) × (In t (f s) × Does th t e n q)
  pub back : (s t : Summand) (e : Environment) (n : Label) (q : Option (List Term)) → IsSortedSummand th.declared vs params s → HaveTerms th.declared vs (variables s.sums ++ variables params) (term_in e)
      → In t (f s) → Does th t e n q → (m : Label) × (Does th s e m q × Passes th o m n)
  pub sums : (s t : Summand) → In t (f s) → t.sums ≡ s.sums
  pub fits : (s t : Summand) → IsSortedSummand th.declared vs params s → In t (f s) → IsSortedSummand th.declared vs params t

module _ (th : Theory) (vs : List Sort) (l : Linear) (o : Around) (f : Summand → List Summand) (is : IsFilter th vs l.params o f) (linear : IsLinear l) (sorted : IsWellSorted th.declared vs l) where
  abbrev k : Linear
  k = filtered f l

  all_fit : (y : Summand) → In y k.summands → IsSortedSummand th.declared vs l.params y
  all_fit y i = let r = in_each f l.summands i in is.fits r.0 y (summand_fits th.declared vs l linear sorted r.0 r.1) r.2

  pub linear_filtered : IsLinear k
  linear_filtered = record { distinct = linear.distinct; summands = λ y i. summand_is (all_fit y (contains_in k.summands i)) }

  pub sorted_filtered : IsWellSorted th.declared vs k
  sorted_filtered = record { params = sorted.params; param_sorts = sorted.param_sorts; summands = λ y i. summand_sorted (all_fit y (contains_in k.summands i)) }

  scoped : (ts : List Term) → AreOfSorts th (sorts l.params) ts → (s : Summand) → In s l.summands → (e : Environment) → map (term_in e) (variables l.params) ≡ ts → AreBound th s.sums e → HaveTerms th.declared vs (variables s.sums ++ variables l.params) (term_in e)
  scoped ts h s i e r b =
      both_have_terms th.declared vs (variables s.sums) (variables l.params) (term_in e)
      (bound_have_terms th vs s.sums e (summand_fits th.declared vs l linear sorted s i).declared b)
      (bound_have_terms th vs l.params e sorted.params (read_bound th l.params e (subst (λ us. AreOfSorts th (sorts l.params) us) (sym r) h)))

  filter_forth : (ts : List Term) {m n : Label} {q : Option (List Term)} → AreOfSorts th (sorts l.params) ts → Fires th l ts m q → Passes th o m n → Fires th k ts n q
  filter_forth ts {m} {n} {q} w h p =
      let i = contains_in l.summands h.among in
      let r = is.forth h.summand h.environment m n q (summand_fits th.declared vs l linear sorted h.summand i) (scoped ts w h.summand i h.environment h.reads h.bound) h.does p in
      record { summand = r.0; among = in_contains (each_in f i r.1.0); environment = h.environment; reads = h.reads; bound = subst (λ z. AreBound th z h.environment) (sym (is.sums h.summand r.0 r.1.0)) h.bound; does = r.1.1 }

  filter_back : (ts : List Term) {n : Label} {q : Option (List Term)} → AreOfSorts th (sorts l.params) ts → Fires th k ts n q → (m : Label) × (Fires th l ts m q × Passes th o m n)
  filter_back ts {n} {q} w h =
      let i = in_each f l.summands (contains_in k.summands h.among) in
      let b : AreBound th i.0.sums h.environment = subst (λ z. AreBound th z h.environment) (is.sums i.0 h.summand i.2) h.bound in
      let r = is.back i.0 h.summand h.environment n q (summand_fits th.declared vs l linear sorted i.0 i.1) (scoped ts w i.0 i.1 h.environment h.reads b) i.2 h.does in
      (r.0, (record { summand = i.0; among = in_contains i.1; environment = h.environment; reads = h.reads; bound = b; does = r.1.0 }, r.1.1))

  abbrev Related : Process → Process → Type 0
  Related = UpTo th (AroundState th o l k)

  lands_at : (ts : List Term) (m : Label) (q : Option (List Term)) → AreOfSorts th (sorts l.params) ts → Fires th l ts m q → Lands Related (within o (outcome_of l q)) (outcome_of k q)
  lands_at ts m None w h = both_end
  lands_at ts m (Some us) w h = both_go_on (up_to (alike_refl th _) (around_state (firings_keep th vs l ts us m linear sorted w h)) (alike_refl th _))

  lands_back : {R : Process → Process → Type 0} {r s : Outcome} → Lands R r s → Lands (Flipped R) s r
  lands_back both_end = both_end
  lands_back (both_go_on h) = both_go_on h

  step_forth : (ts : List Term) {m : Label} {r : Outcome} → AreOfSorts th (sorts l.params) ts → Step th (around o (state_of l ts)) m r → Answer th Related (state_of k ts) m r
  step_forth ts w (by_around {m = m} {n = n} {r = r} s h) =
      let j = fired th l ts m r linear s in
      record {
        label = n;
        outcome = outcome_of k j.0;
        step = fire th k ts n j.0 linear_filtered (filter_forth ts w j.1.0 h);
        agree = agree_refl th n;
        lands = subst (λ z. Lands Related (within o z) (outcome_of k j.0)) (sym j.1.1) (lands_at ts m j.0 w j.1.0);
      }

  forth : (p q : Process) (m : Label) (r : Outcome) → AroundState th o l k p q → Step th p m r → Answer th Related q m r
  forth p q m r (around_state {ts = ts} w) s = step_forth ts w s

  back : (p q : Process) (m : Label) (r : Outcome) → AroundState th o l k p q → Step th q m r → Answer th (Flipped Related) p m r
  back p q m r (around_state {ts = ts} w) s =
      let j = fired th k ts m r linear_filtered s in
      let b = filter_back ts w j.1.0 in
      record {
        label = m;
        outcome = within o (outcome_of l j.0);
        step = by_around (fire th l ts b.0 j.0 linear b.1.0) b.1.1;
        agree = agree_refl th m;
        lands = subst (λ z. Lands (Flipped Related) z (within o (outcome_of l j.0))) (sym j.1.1) (lands_back (lands_at ts b.0 j.0 w b.1.0));
      }

  pub filter_progress : Progress th (AroundState th o l k)
  filter_progress = record { forth = λ p q m r h s. forth p q m r h s; back = λ q p m r h s. back p q m r h s }

  pub filter_good : (ts : List Term) → AreOfSorts th (sorts l.params) ts → IsGood th (Wrapped o l k) (around o (state_of l ts)) (state_of k ts)
  filter_good ts w = record { starts = up_to (alike_refl th _) (around_state w) (alike_refl th _); follows = up_to_bisimulation filter_progress }
