-- A summand with closed terms for its sums and for the parameters.
use Rattle.std.proofs.Common.{◌≡◌, ℕ, List, [], ◌∷◌, ◌++◌, length, sym, ◌∙◌, subst, Option, Some, None}
use Rattle.std.specs.Prelude.{Contains}
use Rattle.std.proofs.lemmas.List.{length-map}
use Rattle.data_theory.specs.Terms.{Sort, boolean, Term, put}
use Rattle.data_theory.specs.Declarations.{Data, HasSort, HaveSorts}
use Rattle.data_theory.specs.Environments.{Environment, term_in, bound, terms_of, AreDistinct}
use Rattle.data_theory.specs.EqualityLaws.{Grows}
use Rattle.data_theory.proofs.EnvironmentLemmas.{front_is_read, front_is_skipped, bound_are_the_parameters, putting_in_goes_through_lists}
use Rattle.data_theory.proofs.GrowthLemmas.{growth_keeps_sorts}
use Rattle.process_terms.specs.Theories.{Theory, IsTrue, AreOfSorts}
use Rattle.process_terms.specs.Labels.{Label, put_label}
use Rattle.process_terms.specs.Processes.{Bound}
use Rattle.bisim_laws.specs.LinearProcesses.{Summand, Linear, variables, sorts, LabelIsOver, action_over, NextIsOver, next_over, IsSummand, LabelIsSorted, no_action_to_sort, action_sorted, NextIsSorted, no_next_to_sort, next_sorted, AreDeclared, SummandIsSorted, reading, put_next, AreBound}
use Rattle.bisim_laws.proofs.Firing.{reading_same, bound_reads}
use Rattle.bisim_laws.proofs.SortedFiring.{put_all_sorted}
use Rattle.lps_core.proofs.SortedTerms.{HaveTerms, closed_instance, bound_have_terms, read_bound, both_have_terms, columns_long}
use Rattle.lps_simulator.specs.Options.{environment_at}

-- ---- labels and next terms with closed terms put in
module _ (g : Data) (vs : List Sort) (xs : List ℕ) (e : Environment) (have : HaveTerms g vs xs (term_in e)) where
  pub label_closed : (m : Label) → LabelIsOver xs m → LabelIsSorted g vs m → LabelIsSorted g [] (put_label e m)
  label_closed [] o h = no_action_to_sort
  label_closed (a ∷ m) (action_over o os) (action_sorted h hs) =
      action_sorted (subst (λ z. HaveSorts g [] z a.sorts) (putting_in_goes_through_lists (term_in e) a.args) (put_all_sorted g vs xs (term_in e) have (terms_of a.args) a.sorts o h)) (label_closed m os hs)

  pub next_closed : (params : List Bound) (next : Option (List Term)) → NextIsOver xs params next → NextIsSorted g vs (sorts params) next → NextIsSorted g [] (sorts params) (put_next e next)
  next_closed params None o h = no_next_to_sort
  next_closed params (Some ts) (next_over o l) (next_sorted h) =
      next_sorted (subst (λ z. HaveSorts g [] z (sorts params)) (putting_in_goes_through_lists (term_in e) ts) (put_all_sorted g vs xs (term_in e) have (terms_of ts) (sorts params) o h))

sorts_grow : (g h : Data) → Grows g h → (ts : List Term) (ss : List Sort) → HaveSorts g [] (terms_of ts) ss → HaveSorts h [] (terms_of ts) ss
sorts_grow g h grows [] ss k = nothing ss k
  where
    nothing : (ss : List Sort) → HaveSorts g [] (terms_of []) ss → HaveSorts h [] (terms_of []) ss
    nothing [] k = tt
    nothing (s ∷ ss) k = absurd k
sorts_grow g h grows (t ∷ ts) [] k = absurd k
sorts_grow g h grows (t ∷ ts) (s ∷ ss) k = (growth_keeps_sorts g h grows [] t s k.0, sorts_grow g h grows ts ss k.1)

-- ---- what the environment of a combination and a state reads
pub sums_read : (g : Data) (l : Linear) (s : Summand) (state c : List Term) → IsSummand l.params s → HaveSorts g [] (terms_of c) (sorts s.sums) → reading (environment_at l s state c) (variables s.sums) ≡ c
sums_read g l s state c shape h =
    let long : length c ≡ length (variables s.sums) = columns_long g [] c s.sums h ∙ sym (length-map s.sums (λ x. x.var)) in
    reading_same (variables s.sums) (environment_at l s state c) (bound (variables s.sums) c)
    (λ v i. front_is_read (bound (variables s.sums) c) (bound (variables l.params) state) v (subst (λ z. Contains z v) (sym (bound_are_the_parameters (variables s.sums) c long)) i))
    ∙ bound_reads (variables s.sums) c long shape.distinct

pub params_read : (g : Data) (l : Linear) (s : Summand) (state c : List Term) → IsSummand l.params s → AreDistinct (variables l.params) → HaveSorts g [] (terms_of c) (sorts s.sums) → HaveSorts g [] (terms_of state) (sorts l.params)
    → reading (environment_at l s state c) (variables l.params) ≡ state
params_read g l s state c shape apart h k =
    let long : length c ≡ length (variables s.sums) = columns_long g [] c s.sums h ∙ sym (length-map s.sums (λ x. x.var)) in
    let state_long : length state ≡ length (variables l.params) = columns_long g [] state l.params k ∙ sym (length-map l.params (λ x. x.var)) in
    reading_same (variables l.params) (environment_at l s state c) (bound (variables l.params) state)
    (λ v i. front_is_skipped (bound (variables s.sums) c) (bound (variables l.params) state) v (λ j. shape.apart v (subst (λ z. Contains z v) (bound_are_the_parameters (variables s.sums) c long) j) i))
    ∙ bound_reads (variables l.params) state state_long apart

-- ---- in each theory whose data go on
pub record IsInstance (g : Data) (l : Linear) (s : Summand) (state c : List Term) : Type 0 where
  pub reads : reading (environment_at l s state c) (variables l.params) ≡ state
  pub condition : HasSort g [] (put (term_in (environment_at l s state c)) s.condition) boolean
  pub label : LabelIsSorted g [] (put_label (environment_at l s state c) s.label)
  pub next : NextIsSorted g [] (sorts l.params) (put_next (environment_at l s state c) s.next)
  pub bound : (th : Theory) → Grows g th.declared → AreBound th s.sums (environment_at l s state c)

pub is_instance : (g : Data) (vs : List Sort) (l : Linear) (s : Summand) (state c : List Term) → IsSummand l.params s → SummandIsSorted g vs l.params s → AreDeclared vs l.params → AreDistinct (variables l.params)
    → HaveSorts g [] (terms_of state) (sorts l.params) → HaveSorts g [] (terms_of c) (sorts s.sums) → IsInstance g l s state c
is_instance g vs l s state c shape sorted declared apart k h =
    let e : Environment = environment_at l s state c in
    let base : Theory = record { declared = g; equations = [] } in
    let r = sums_read g l s state c shape h in
    let q = params_read g l s state c shape apart h k in
    let sums : AreBound base s.sums e = read_bound base s.sums e (subst (λ z. HaveSorts g [] (terms_of z) (sorts s.sums)) (sym r) h) in
    let params : AreBound base l.params e = read_bound base l.params e (subst (λ z. HaveSorts g [] (terms_of z) (sorts l.params)) (sym q) k) in
    let have : HaveTerms g vs (variables s.sums ++ variables l.params) (term_in e) = both_have_terms g vs (variables s.sums) (variables l.params) (term_in e) (bound_have_terms base vs s.sums e sorted.sums sums) (bound_have_terms base vs l.params e declared params) in
    record {
      reads = q;
      condition = closed_instance g vs (variables s.sums ++ variables l.params) (term_in e) have s.condition boolean shape.condition sorted.condition;
      label = label_closed g vs (variables s.sums ++ variables l.params) e have s.label shape.label sorted.label;
      next = next_closed g vs (variables s.sums ++ variables l.params) e have l.params s.next shape.next sorted.next;
      bound = λ th grows. read_bound th s.sums e (subst (λ z. HaveSorts th.declared [] (terms_of z) (sorts s.sums)) (sym r) (sorts_grow g th.declared grows c (sorts s.sums) h));
    }
