-- Sealed linear processes.
use Rattle.std.proofs.Common.{◌≡◌, ◌+◌, ◌<◌, ◌⊎◌, inl, inr, ℕ, true, false, List, [], ◌∷◌, ◌++◌, map, length, refl, sym, ap, ◌∙◌, subst, arith, ⊎_elim, Option, Some, None, pos, cond}
use Rattle.std.specs.Prelude.{Contains}
use Rattle.std.proofs.lemmas.List.{length-map, length-append, map-append}
use Rattle.std.proofs.lemmas.Bool.Decides.{eqb_tells}
use Rattle.std.proofs.lemmas.Int.{ints}
use Rattle.std.proofs.lemmas.List.Elements.{Contains-append_cases, Contains-append_left, Contains-append_right}
use Rattle.data_theory.specs.Terms.{Sort, boolean, positive, Term, variable, put}
use Rattle.data_theory.specs.Declarations.{Data, IsSort, HasNumeral, Declares, HasSort}
use Rattle.data_theory.specs.Equations.{equals}
use Rattle.data_theory.specs.Provable.{reflexive, symmetric, transitive, reflected}
use Rattle.data_theory.specs.Environments.{Environment, term_in, bound, terms_of, IsOver, Agree, AreDistinct}
use Rattle.data_theory.proofs.EqualityLemmas.{equals_of_equal}
use Rattle.data_theory.proofs.ConsistencyLemmas.{equal_numerals_are_the_same}
use Rattle.data_theory.proofs.EnvironmentLemmas.{contains_nothing, contains_first as number_first, contains_cases as number_cases}
use Rattle.process_terms.specs.Theories.{Theory, Equal, IsTrue, IsConsistent, IsOfSort, AreOfSorts, none_left, true_and_more}
use Rattle.process_terms.specs.Labels.{Label}
use Rattle.process_terms.specs.Processes.{Bound, Process}
use Rattle.process_terms.specs.Steps.{ended, goes_on}
use Rattle.process_terms.proofs.AgreeingLabels.{agree_refl}
use Rattle.bisim_laws.specs.Bisimulations.{Reply, Replies, Flipped, UpTo, up_to}
use Rattle.bisim_laws.specs.Sameness.{Alike}
use Rattle.bisim_laws.specs.Terminations.{terminate_label, IsDeadlock, ComesToDeadlock, comes_to_deadlock, IsLastStep, Terminates, LandsOrTerminates, the_first_ends, the_first_goes_on, Exchanged, EndJoined, end_joined, TerminatingProgress}
use Rattle.bisim_laws.specs.LinearProcesses.{Summand, Linear, variables, sorts, state_of, no_action_left, action_over, NextIsOver, no_next, next_over, IsSummand, IsLinear, no_action_to_sort, action_sorted, NextIsSorted, no_next_to_sort, next_sorted, AreDeclared, HaveDataSorts, SummandIsSorted, IsWellSorted, put_next, outcome_of, Does, AreBound, Fires}
use Rattle.bisim_laws.specs.BaseStates.{number_of, phase_running, phase_ended, phase_done, SealedState, with_phase, without_phase, SealedEnd, in_phase_two}
use Rattle.bisim_laws.proofs.Firing.{contains_first, contains_cases, contains_none, variable_among, reading_same, fired, fire, does_along}
use Rattle.bisim_laws.proofs.SortedFiring.{firings_keep}
use Rattle.bisim_laws.proofs.AlikeProcesses.{alike_refl}
use Rattle.bisim_laws.proofs.TerminatingLinks.{sealed_terminating, enough_terminating}
use Rattle.lps_core.specs.Columns.{as_terms, read}
use Rattle.lps_core.specs.Conditions.{AreConditionsOnce}
use Rattle.lps_core.specs.Sealing.{NeverEnds, phase, phase_is, sealed_next, sealed_summand, last_summand, sealed, IsApart, SealedNeverEnds, SealedIsLinear, SealedIsSorted, SealedIsGood, NeverEndingIsGood, SealedBehindALink}
use Rattle.lps_core.proofs.Members.{map_contains, contains_map}
use Rattle.lps_core.proofs.Chains.{joined_sorted, joined_over, joined_true, first_true, rest_true}
use Rattle.lps_core.proofs.Environments.{variables_append, split_read, join_read, put_variables, base_reads}
use Rattle.lps_core.proofs.OverVariables.{Within, over_more, all_over_more, label_over_more, over_append, variables_over, variables_front, variables_back, distinct_append}
use Rattle.lps_core.proofs.SortedTerms.{closed_instance, bound_have_terms, read_bound, both_have_terms, columns_long, columns_sorted, variables_sorted, declared_both}

none_is_some : {A : Type 0} {x : A} → Some x ≡ None → ⊥
none_is_some e = cc

some_same : {A : Type 0} {x y : A} → Some x ≡ Some y → x ≡ y
some_same e = cc

-- ---- the summands
-- a summand of the sealed process
pub data IsSealedFrom (v : ℕ) (l : Linear) : Summand → Type 0 where
  of_a_summand : (s : Summand) → Contains l.summands s → IsSealedFrom v l (sealed_summand l.params v s)
  the_last : IsSealedFrom v l (last_summand l.params v)

pub sealed_from : (v : ℕ) (l : Linear) (t : Summand) → Contains (sealed v l).summands t → IsSealedFrom v l t
sealed_from v l t i = ⊎_elim
    (λ j. let r = contains_map (sealed_summand l.params v) l.summands t j in subst (λ z. IsSealedFrom v l z) (sym r.1.1) (of_a_summand r.0 r.1.0))
    (λ j. ⊎_elim (λ q. subst (λ z. IsSealedFrom v l z) q the_last) (λ k. absurd (contains_none t k)) (contains_cases (last_summand l.params v) t [] j))
    (Contains-append_cases (map (sealed_summand l.params v) l.summands) (last_summand l.params v ∷ []) t i)

summand_stands : (v : ℕ) (l : Linear) (s : Summand) → Contains l.summands s → Contains (sealed v l).summands (sealed_summand l.params v s)
summand_stands v l s i = Contains-append_left (map (sealed_summand l.params v) l.summands) (last_summand l.params v ∷ []) (sealed_summand l.params v s) (map_contains (sealed_summand l.params v) l.summands s i)

last_stands : (v : ℕ) (l : Linear) → Contains (sealed v l).summands (last_summand l.params v)
last_stands v l = Contains-append_right (map (sealed_summand l.params v) l.summands) (last_summand l.params v ∷ []) (last_summand l.params v) (contains_first (last_summand l.params v) [])

goes_on_from : (v : ℕ) (l : Linear) {t : Summand} → IsSealedFrom v l t → t.next ≡ None → ⊥
goes_on_from v l (of_a_summand s i) e = none_is_some e
goes_on_from v l the_last e = none_is_some e

pub never_ends : SealedNeverEnds
never_ends v l t i e = goes_on_from v l (sealed_from v l t i) e

-- ---- the shape
phase_over : (xs : List ℕ) (v n : ℕ) → Contains xs v → IsOver xs (phase_is v (number_of n))
phase_over xs v n i = (i, (tt, tt))

module _ (v : ℕ) (l : Linear) (is : IsLinear l) (apart : IsApart v l) where
  abbrev P : List Bound
  P = l.params ++ phase v ∷ []

  params_front : Within (variables l.params) (variables P)
  params_front = variables_front l.params (phase v ∷ [])

  phase_behind : Contains (variables P) v
  phase_behind = variables_back l.params (phase v ∷ []) v (number_first v [])

  -- a variable of the sealed parameters
  params_cases : (x : ℕ) → Contains (variables P) x → Contains (variables l.params) x ⊎ (v ≡ x)
  params_cases x i = ⊎_elim (λ j. inl j) (λ j. inr (⊎_elim (λ q. q) (λ k. absurd (contains_nothing x k)) (number_cases v x [] j)))
      (Contains-append_cases (variables l.params) (v ∷ []) x (subst (λ z. Contains z x) (variables_append l.params (phase v ∷ [])) i))

  params_distinct : AreDistinct (variables P)
  params_distinct = subst (λ z. AreDistinct z) (sym (variables_append l.params (phase v ∷ [])))
      (distinct_append (variables l.params) (v ∷ []) is.distinct (contains_nothing v, tt) (λ x i j. apart.params (subst (λ z. Contains (variables l.params) z) (sym (⊎_elim (λ q. q) (λ k. absurd (contains_nothing x k)) (number_cases v x [] j))) i)))

  abbrev before_sealing : Summand → List ℕ
  before_sealing s = variables s.sums ++ variables l.params

  abbrev after_sealing : Summand → List ℕ
  after_sealing s = variables s.sums ++ variables P

  wider : (s : Summand) → Within (before_sealing s) (after_sealing s)
  wider s x i = ⊎_elim (λ j. Contains-append_left (variables s.sums) (variables P) x j) (λ j. Contains-append_right (variables s.sums) (variables P) x (params_front x j)) (Contains-append_cases (variables s.sums) (variables l.params) x i)

  phase_among : (s : Summand) → Contains (after_sealing s) v
  phase_among s = Contains-append_right (variables s.sums) (variables P) v phase_behind

  params_long : (ts : List Term) (t : Term) → length ts ≡ length l.params → length (ts ++ t ∷ []) ≡ length P
  params_long ts t e = length-append ts (t ∷ []) ∙ ap (λ n. n + 1) e ∙ sym (length-append l.params (phase v ∷ []))

  next_is_over : (s : Summand) (next : Option (List Term)) → NextIsOver (before_sealing s) l.params next → NextIsOver (after_sealing s) P (Some (sealed_next l.params v next))
  next_is_over s _ no_next = next_over
      (over_append (after_sealing s) (as_terms l.params) (phase_ended ∷ []) (variables_over l.params (after_sealing s) (λ x i. wider s x (Contains-append_right (variables s.sums) (variables l.params) x i))) (tt, tt))
      (params_long (as_terms l.params) phase_ended (length-map l.params (λ x. variable x.var)))
  next_is_over s _ (next_over {ts = ts} o e) = next_over
      (over_append (after_sealing s) ts (variable v ∷ []) (all_over_more (before_sealing s) (after_sealing s) (wider s) (terms_of ts) o) (phase_among s, tt))
      (params_long ts (variable v) e)

  summand_is : (s : Summand) → Contains l.summands s → IsSummand P (sealed_summand l.params v s)
  summand_is s i =
      let f = is.summands s i in
      record {
        condition = joined_over (after_sealing s) (phase_is v phase_running ∷ s.condition ∷ []) (phase_over (after_sealing s) v 0 (phase_among s), (over_more (before_sealing s) (after_sealing s) (wider s) s.condition f.condition, tt));
        label = label_over_more (before_sealing s) (after_sealing s) (wider s) f.label;
        next = next_is_over s s.next f.next;
        apart = λ x j k. ⊎_elim (λ a. f.apart x j a) (λ q. apart.sums s i (subst (λ z. Contains (variables s.sums) z) (sym q) j)) (params_cases x k);
        distinct = f.distinct;
      }

  last_is : IsSummand P (last_summand l.params v)
  last_is = record {
    condition = phase_over (variables P) v 1 phase_behind;
    label = action_over tt no_action_left;
    next = next_over (over_append (variables P) (as_terms l.params) (phase_done ∷ []) (variables_over l.params (variables P) params_front) (tt, tt)) (params_long (as_terms l.params) phase_done (length-map l.params (λ x. variable x.var)));
    apart = λ x i j. contains_nothing x i;
    distinct = tt;
  }

  each_is : (t : Summand) → IsSealedFrom v l t → IsSummand P t
  each_is _ (of_a_summand s i) = summand_is s i
  each_is _ the_last = last_is

  pub sealed_is_linear : IsLinear (sealed v l)
  sealed_is_linear = record { distinct = params_distinct; summands = λ t i. each_is t (sealed_from v l t i) }

pub sealed_linear : SealedIsLinear
sealed_linear v l is apart = sealed_is_linear v l is apart

-- ---- the sorts
-- 1, 2 and 3 are numerals
pub one_two_three : (n : ℕ) → n < 3 → HasNumeral positive (pos (n + 1))
one_two_three n h = (omega (arith, ints), omega arith)

phase_sorted : (g : Data) (vs : List Sort) (v n : ℕ) → n < 3 → Declares vs v positive → HasSort g vs (phase_is v (number_of n)) boolean
phase_sorted g vs v n h d = (tt, (d, ((refl, one_two_three n h), tt)), refl, refl)

module _ (g : Data) (vs : List Sort) (v : ℕ) (l : Linear) (well : IsWellSorted g vs l) (d : Declares vs v positive) where
  abbrev Q : List Bound
  Q = l.params ++ phase v ∷ []

  phase_declared : AreDeclared vs (phase v ∷ [])
  phase_declared x i = ⊎_elim (λ q. subst (λ z. Declares vs z.var z.sort) q d) (λ j. absurd (contains_none x j)) (contains_cases (phase v) x [] i)

  phase_sort : HaveDataSorts g (phase v ∷ [])
  phase_sort x i = ⊎_elim (λ q. subst (λ z. IsSort g z.sort) q tt) (λ j. absurd (contains_none x j)) (contains_cases (phase v) x [] i)

  next_is_sorted : (next : Option (List Term)) → NextIsSorted g vs (sorts l.params) next → NextIsSorted g vs (sorts Q) (Some (sealed_next l.params v next))
  next_is_sorted _ no_next_to_sort = next_sorted (columns_sorted g vs l.params (phase v ∷ []) (as_terms l.params) (phase_ended ∷ []) (variables_sorted g vs l.params well.params) ((refl, one_two_three 1 (omega arith)), tt))
  next_is_sorted _ (next_sorted {ts = ts} h) = next_sorted (columns_sorted g vs l.params (phase v ∷ []) ts (variable v ∷ []) h (d, tt))

  summand_sorted : (s : Summand) → Contains l.summands s → SummandIsSorted g vs Q (sealed_summand l.params v s)
  summand_sorted s i =
      let f = well.summands s i in
      record {
        sums = f.sums;
        sum_sorts = f.sum_sorts;
        condition = joined_sorted g vs (phase_is v phase_running ∷ s.condition ∷ []) (phase_sorted g vs v 0 (omega arith) d, (f.condition, tt));
        label = f.label;
        next = next_is_sorted s.next f.next;
      }

  last_sorted : SummandIsSorted g vs Q (last_summand l.params v)
  last_sorted = record {
    sums = λ x i. absurd (contains_none x i);
    sum_sorts = λ x i. absurd (contains_none x i);
    condition = phase_sorted g vs v 1 (omega arith) d;
    label = action_sorted tt no_action_to_sort;
    next = next_sorted (columns_sorted g vs l.params (phase v ∷ []) (as_terms l.params) (phase_done ∷ []) (variables_sorted g vs l.params well.params) ((refl, one_two_three 2 (omega arith)), tt));
  }

  each_sorted : (t : Summand) → IsSealedFrom v l t → SummandIsSorted g vs Q t
  each_sorted _ (of_a_summand s i) = summand_sorted s i
  each_sorted _ the_last = last_sorted

  pub sealed_is_sorted : IsWellSorted g vs (sealed v l)
  sealed_is_sorted = record {
    params = declared_both vs l.params (phase v ∷ []) well.params phase_declared;
    param_sorts = λ x i. ⊎_elim (λ j. well.param_sorts x j) (λ j. phase_sort x j) (Contains-append_cases l.params (phase v ∷ []) x i);
    summands = λ t i. each_sorted t (sealed_from v l t i);
  }

pub sealed_sorted : SealedIsSorted
sealed_sorted g vs v l well d = sealed_is_sorted g vs v l well d

-- ---- the steps
-- a phase is one number
same_phase : {i j : ℕ} → pos (i + 1) ≡ pos (j + 1) → i ≡ j
same_phase {i} {j} e = let k : i + 1 ≡ j + 1 = cc in omega (arith, k)

one_phase : (th : Theory) → IsConsistent th → {t : Term} (i j : ℕ) → i < 3 → j < 3 → Equal th t (number_of i) → IsTrue th (equals positive t (number_of j)) → i ≡ j
one_phase th con i j l m h k =
    same_phase (equal_numerals_are_the_same th.declared th.equations con positive (pos (i + 1)) (pos (j + 1)) (refl, one_two_three i l) (refl, one_two_three j m) (transitive (symmetric h) (reflected k)))

in_phase : (th : Theory) {t : Term} (i : ℕ) → IsOfSort th positive t → Equal th t (number_of i) → IsTrue th (equals positive t (number_of i))
in_phase th {t} i s h = equals_of_equal th.declared th.equations positive t (number_of i) tt s h

-- a variable in front of an environment
abbrev with_first : ℕ → Term → Environment → Environment
with_first v t e = record { var = v; term = t } ∷ e

first_is_read : (v : ℕ) (t : Term) (e : Environment) → term_in (with_first v t e) v ≡ t
first_is_read v t e = ⊎_elim (λ k. ap (λ c. cond c t (term_in e v)) k.0) (λ k. absurd (k.1 refl)) (eqb_tells v v)

first_is_skipped : (v : ℕ) (t : Term) (e : Environment) (x : ℕ) → (v ≡ x → ⊥) → term_in (with_first v t e) x ≡ term_in e x
first_is_skipped v t e x n = ⊎_elim (λ k. absurd (n k.1)) (λ k. ap (λ c. cond c t (term_in e x)) k.0) (eqb_tells v x)

apart_agree : (v : ℕ) (t : Term) (e : Environment) (xs : List ℕ) → (Contains xs v → ⊥) → Agree xs (term_in e) (term_in (with_first v t e))
apart_agree v t e xs n x i = sym (first_is_skipped v t e x (λ q. n (subst (λ z. Contains xs z) (sym q) i)))

head_of : {t u : Term} {ts us : List Term} → t ∷ ts ≡ u ∷ us → t ≡ u
head_of e = cc

put_append : (e : Environment) (ts us : List Term) → map (put (term_in e)) (ts ++ us) ≡ map (put (term_in e)) ts ++ map (put (term_in e)) us
put_append e ts us = map-append (put (term_in e)) ts us

module _ (th : Theory) (vs : List Sort) (v : ℕ) (l : Linear) (con : IsConsistent th) (is : IsLinear l) (well : IsWellSorted th.declared vs l) (apart : IsApart v l) (d : Declares vs v positive) where
  abbrev L : Linear
  L = sealed v l

  abbrev S : List Bound
  S = l.params ++ phase v ∷ []

  abbrev U : Process → Process → Type 0
  U = UpTo th (SealedState th true l L)

  abbrev E : Process → Type 0
  E = EndJoined (SealedEnd th true l L) (Alike th)

  linear : IsLinear L
  linear = sealed_linear v l is apart

  sorted : IsWellSorted th.declared vs L
  sorted = sealed_sorted th.declared vs v l well d

  -- where a summand leads, and where the sealed one does
  leads : (e : Environment) (ts : List Term) (t : Term) → read e l.params ≡ ts → term_in e v ≡ t → AreOfSorts th (sorts l.params) ts → IsOfSort th positive t → Equal th t phase_running → (n : Option (List Term))
      → ((us : List Term) → put_next e n ≡ Some us → AreOfSorts th (sorts l.params) us) → LandsOrTerminates U E (outcome_of l (put_next e n)) (outcome_of L (put_next e (Some (sealed_next l.params v n))))
  leads e ts t r q s i h None f =
      let whole : map (put (term_in e)) (as_terms l.params ++ phase_ended ∷ []) ≡ ts ++ phase_ended ∷ [] = put_append e (as_terms l.params) (phase_ended ∷ []) ∙ ap (λ us. us ++ phase_ended ∷ []) (put_variables e l.params ∙ r) in
      subst (λ us. LandsOrTerminates U E ended (goes_on (state_of L us))) (sym whole)
      (the_first_ends (end_joined (in_phase_two ts s (refl, one_two_three 1 (omega arith)) reflexive) (alike_refl th (state_of L (ts ++ phase_ended ∷ [])))))
  leads e ts t r q s i h (Some us) f =
      let new : List Term = map (put (term_in e)) us in
      let whole : map (put (term_in e)) (us ++ variable v ∷ []) ≡ new ++ t ∷ [] = put_append e us (variable v ∷ []) ∙ ap (λ z. new ++ z ∷ []) q in
      subst (λ z. LandsOrTerminates U E (goes_on (state_of l new)) (goes_on (state_of L z))) (sym whole)
      (the_first_goes_on (up_to (alike_refl th (state_of l new)) (with_phase (f new refl) i h) (alike_refl th (state_of L (new ++ t ∷ [])))))

  -- the parts of a sealed condition are closed
  parts_closed : (s : Summand) → Contains l.summands s → (e : Environment) (ts : List Term) (t : Term) → read e S ≡ ts ++ t ∷ [] → AreOfSorts th (sorts l.params) ts → IsOfSort th positive t → AreBound th s.sums e
      → AreConditionsOnce th.declared (term_in e) (phase_is v phase_running ∷ s.condition ∷ [])
  parts_closed s i e ts t r h k b =
      let xs = variables s.sums ++ variables S in
      let f = well.summands s i in
      let w = both_have_terms th.declared vs (variables s.sums) (variables S) (term_in e)
      (bound_have_terms th vs s.sums e f.sums b)
      (bound_have_terms th vs S e sorted.params (read_bound th S e (subst (λ us. AreOfSorts th (sorts S) us) (sym r) (columns_sorted th.declared [] l.params (phase v ∷ []) ts (t ∷ []) h (k, tt))))) in (
        closed_instance th.declared vs xs (term_in e) w (phase_is v phase_running) boolean (phase_over xs v 0 (phase_among v l is apart s)) (phase_sorted th.declared vs v 0 (omega arith) d),
        (closed_instance th.declared vs xs (term_in e) w s.condition boolean (over_more (variables s.sums ++ variables l.params) xs (wider v l is apart s) s.condition (is.summands s i).condition) f.condition, tt),
      )

  -- ---- what fires at a phase
  data AtPhase (ts : List Term) (t : Term) (m : Label) (next : Option (List Term)) : Type 0 where
    up_to_end : (e : Environment) (s : Summand) → Contains l.summands s → read e l.params ≡ ts → term_in e v ≡ t → AreBound th s.sums e → IsTrue th (equals positive t phase_running) → Does th s e m (put_next e s.next)
        → next ≡ put_next e (Some (sealed_next l.params v s.next)) → AtPhase ts t m next
    behind_end : IsTrue th (equals positive t phase_ended) → m ≡ terminate_label → next ≡ Some (ts ++ phase_done ∷ []) → AtPhase ts t m next

  at_phase_of : (ts : List Term) (t : Term) (m : Label) (next : Option (List Term)) → AreOfSorts th (sorts l.params) ts → IsOfSort th positive t → (x : Summand) → IsSealedFrom v l x → (e : Environment) → read e S ≡ ts ++ t ∷ []
      → AreBound th x.sums e → Does th x e m next → AtPhase ts t m next
  at_phase_of ts t m next h k _ (of_a_summand s i) e r b w =
      let c = split_read e l.params (phase v ∷ []) ts (t ∷ []) (columns_long th.declared [] ts l.params h) r in
      let parts = (joined_true th (term_in e) (phase_is v phase_running ∷ s.condition ∷ []) (parts_closed s i e ts t r h k b)).1 w.holds in
      up_to_end e s i c.0 (head_of c.1) b (subst (λ z. IsTrue th (equals positive z phase_running)) (head_of c.1) (first_true th parts)) (record { holds = first_true th (rest_true th parts); label = w.label; onward = refl }) w.onward
  at_phase_of ts t m next h k _ the_last e r b w =
      let c = split_read e l.params (phase v ∷ []) ts (t ∷ []) (columns_long th.declared [] ts l.params h) r in
      behind_end (subst (λ z. IsTrue th (equals positive z phase_ended)) (head_of c.1) w.holds) w.label
      (w.onward ∙ ap (λ us. Some us) (put_append e (as_terms l.params) (phase_done ∷ []) ∙ ap (λ us. us ++ phase_done ∷ []) (put_variables e l.params ∙ c.0)))

  at_phase : (ts : List Term) (t : Term) (m : Label) (next : Option (List Term)) → AreOfSorts th (sorts l.params) ts → IsOfSort th positive t → Fires th L (ts ++ t ∷ []) m next → AtPhase ts t m next
  at_phase ts t m next h k f = at_phase_of ts t m next h k f.summand (sealed_from v l f.summand f.among) f.environment f.reads f.bound f.does

  -- ---- up to the end
  forth_at : (ts : List Term) (t : Term) (m : Label) (next : Option (List Term)) → AreOfSorts th (sorts l.params) ts → IsOfSort th positive t → Equal th t phase_running → Fires th l ts m next
      → Reply th (LandsOrTerminates U E) (state_of L (ts ++ t ∷ [])) m (outcome_of l next)
  forth_at ts t m next h k w f =
      let s = f.summand in
      let e = with_first v t f.environment in
      let agree : Agree (variables s.sums ++ variables l.params) (term_in f.environment) (term_in e) =
      apart_agree v t f.environment (variables s.sums ++ variables l.params) (λ i. ⊎_elim (λ j. apart.sums s f.among j) (λ j. apart.params j) (Contains-append_cases (variables s.sums) (variables l.params) v i)) in
      let does = does_along th l.params s f.environment e m next (is.summands s f.among) agree f.does in
      let r : read e l.params ≡ ts = reading_same (variables l.params) e f.environment (λ x i. sym (agree x (Contains-append_right (variables s.sums) (variables l.params) x i))) ∙ f.reads in
      let q : term_in e v ≡ t = first_is_read v t f.environment in
      let reads : read e S ≡ ts ++ t ∷ [] = join_read e l.params (phase v ∷ []) r (ap (λ z. z ∷ []) q) in
      let b : AreBound th s.sums e = λ x i. subst (λ z. IsOfSort th x.sort z) (agree x.var (Contains-append_left (variables s.sums) (variables l.params) x.var (variable_among s.sums x i))) (f.bound x i) in
      let fires : Fires th L (ts ++ t ∷ []) m (put_next e (Some (sealed_next l.params v s.next))) = record {
        summand = sealed_summand l.params v s;
        among = summand_stands v l s f.among;
        environment = e;
        reads = reads;
        bound = b;
        does = record {
          holds = (joined_true th (term_in e) (phase_is v phase_running ∷ s.condition ∷ []) (parts_closed s f.among e ts t reads h k b)).0
              (true_and_more (subst (λ z. IsTrue th (equals positive z phase_running)) (sym q) (in_phase th 0 k w)) (true_and_more does.holds none_left));
          label = does.label;
          onward = refl;
        };
      } in
      record {
        label = m;
        outcome = outcome_of L (put_next e (Some (sealed_next l.params v s.next)));
        step = fire th L (ts ++ t ∷ []) m (put_next e (Some (sealed_next l.params v s.next))) linear fires;
        agree = agree_refl th m;
        lands = subst (λ z. LandsOrTerminates U E (outcome_of l z) (outcome_of L (put_next e (Some (sealed_next l.params v s.next))))) (sym does.onward)
            (leads e ts t r q h k w s.next (λ us z. firings_keep th vs l ts us m is well h (subst (λ o. Fires th l ts m o) (does.onward ∙ z) f)));
      }

  back_at : (ts : List Term) (t : Term) (m : Label) (next : Option (List Term)) → AreOfSorts th (sorts l.params) ts → IsOfSort th positive t → Equal th t phase_running → AtPhase ts t m next
      → Reply th (Exchanged (LandsOrTerminates U E)) (state_of l ts) m (outcome_of L next)
  back_at ts t m next h k w (up_to_end e s i r q b c does o) =
      let fires : Fires th l ts m (put_next e s.next) = record { summand = s; among = i; environment = e; reads = r; bound = b; does = does } in
      record {
        label = m;
        outcome = outcome_of l (put_next e s.next);
        step = fire th l ts m (put_next e s.next) is fires;
        agree = agree_refl th m;
        lands = subst (λ z. LandsOrTerminates U E (outcome_of l (put_next e s.next)) (outcome_of L z)) (sym o)
            (leads e ts t r q h k w s.next (λ us z. firings_keep th vs l ts us m is well h (subst (λ n. Fires th l ts m n) z fires)));
      }
  back_at ts t m next h k w (behind_end c n o) = let e = one_phase th con 0 1 (omega arith) (omega arith) w c in absurd (omega (arith, e))

  -- ---- behind the end
  at_rest : (ts : List Term) (m : Label) (next : Option (List Term)) → AtPhase ts phase_done m next → ⊥
  at_rest ts m next (up_to_end e s i r q b c does o) = let n = one_phase th con 2 0 (omega arith) (omega arith) reflexive c in absurd (omega (arith, n))
  at_rest ts m next (behind_end c n o) = let k = one_phase th con 2 1 (omega arith) (omega arith) reflexive c in absurd (omega (arith, k))

  rests : (ts : List Term) → AreOfSorts th (sorts l.params) ts → IsDeadlock th (state_of L (ts ++ phase_done ∷ []))
  rests ts h m r s =
      let f = fired th L (ts ++ phase_done ∷ []) m r linear s in
      at_rest ts m f.0 (at_phase ts phase_done m f.0 h (refl, one_two_three 2 (omega arith)) f.1.0)

  last_step : (ts : List Term) (t : Term) (m : Label) (next : Option (List Term)) → AreOfSorts th (sorts l.params) ts → Equal th t phase_ended → AtPhase ts t m next → IsLastStep th m (outcome_of L next)
  last_step ts t m next h w (up_to_end e s i r q b c does o) = let n = one_phase th con 1 0 (omega arith) (omega arith) w c in absurd (omega (arith, n))
  last_step ts t m next h w (behind_end c n o) = record { label = n; deadlock = subst (λ z. ComesToDeadlock th (outcome_of L z)) (sym o) (comes_to_deadlock (rests ts h)) }

  last_fires : (ts : List Term) (t : Term) → AreOfSorts th (sorts l.params) ts → IsOfSort th positive t → Equal th t phase_ended
      → Fires th L (ts ++ t ∷ []) terminate_label (put_next (bound (variables S) (ts ++ t ∷ [])) (last_summand l.params v).next)
  last_fires ts t h k w =
      let e = bound (variables S) (ts ++ t ∷ []) in
      let reads : read e S ≡ ts ++ t ∷ [] = base_reads S (ts ++ t ∷ []) (params_long v l is apart ts t (columns_long th.declared [] ts l.params h)) linear.distinct in
      let c = split_read e l.params (phase v ∷ []) ts (t ∷ []) (columns_long th.declared [] ts l.params h) reads in
      record {
        summand = last_summand l.params v;
        among = last_stands v l;
        environment = e;
        reads = reads;
        bound = λ x i. absurd (contains_none x i);
        does = record { holds = subst (λ z. IsTrue th (equals positive z phase_ended)) (sym (head_of c.1)) (in_phase th 1 k w); label = refl; onward = refl };
      }

  terminates_at : (ts : List Term) (t : Term) → AreOfSorts th (sorts l.params) ts → IsOfSort th positive t → Equal th t phase_ended → Terminates th (state_of L (ts ++ t ∷ []))
  terminates_at ts t h k w = record {
    label = terminate_label;
    outcome = outcome_of L (put_next (bound (variables S) (ts ++ t ∷ [])) (last_summand l.params v).next);
    step = fire th L (ts ++ t ∷ []) terminate_label (put_next (bound (variables S) (ts ++ t ∷ [])) (last_summand l.params v).next) linear (last_fires ts t h k w);
    each = λ m r s.
        let f = fired th L (ts ++ t ∷ []) m r linear s in
        subst (λ z. IsLastStep th m z) (sym f.1.1) (last_step ts t m f.0 h w (at_phase ts t m f.0 h k f.1.0));
  }

  -- ---- the whole
  forth : Replies th (SealedState th true l L) (LandsOrTerminates U E)
  forth p q m r (with_phase {ts = ts} {t = t} h k w) s =
      let f = fired th l ts m r is s in
      subst (λ z. Reply th (LandsOrTerminates U E) (state_of L (ts ++ t ∷ [])) m z) (sym f.1.1) (forth_at ts t m f.0 h k w f.1.0)

  back : Replies th (Flipped (SealedState th true l L)) (Exchanged (LandsOrTerminates U E))
  back q p m r (with_phase {ts = ts} {t = t} h k w) s =
      let f = fired th L (ts ++ t ∷ []) m r linear s in
      subst (λ z. Reply th (Exchanged (LandsOrTerminates U E)) (state_of l ts) m z) (sym f.1.1) (back_at ts t m f.0 h k w (at_phase ts t m f.0 h k f.1.0))

  ends : (q : Process) → SealedEnd th true l L q → Terminates th q
  ends q (in_phase_two {t = t} ts h k w) = terminates_at ts t h k w

  pub sealed_progress : TerminatingProgress th (SealedState th true l L) (SealedEnd th true l L)
  sealed_progress = record { forth = forth; back = back; terminates = ends }

pub sealed_good : SealedIsGood
sealed_good th vs v l ts con is well apart d h = record {
  starts = up_to (alike_refl th (state_of l ts)) (with_phase h (refl, one_two_three 0 (omega arith)) reflexive) (alike_refl th (state_of (sealed v l) (ts ++ phase_running ∷ [])));
  follows = enough_terminating th true l (sealed v l) (sealed_progress th vs v l con is well apart d);
}

pub sealed_behind : SealedBehindALink
sealed_behind th vs v l ts j p con is well apart d h g = sealed_terminating th true l (sealed v l) j p (state_of l ts) (state_of (sealed v l) (ts ++ phase_running ∷ [])) g (sealed_good th vs v l ts con is well apart d h)

-- ---- what never ends
module _ (th : Theory) (vs : List Sort) (l : Linear) (is : IsLinear l) (well : IsWellSorted th.declared vs l) (never : NeverEnds l) where
  abbrev V : Process → Process → Type 0
  V = UpTo th (SealedState th false l l)

  abbrev F : Process → Type 0
  F = EndJoined (SealedEnd th false l l) (Alike th)

  onward : (n : Option (List Term)) (e : Environment) → (n ≡ None → ⊥) → ((us : List Term) → put_next e n ≡ Some us → AreOfSorts th (sorts l.params) us) → LandsOrTerminates V F (outcome_of l (put_next e n)) (outcome_of l (put_next e n))
  onward None e n f = absurd (n refl)
  onward (Some us) e n f =
      let new : List Term = map (put (term_in e)) us in the_first_goes_on (up_to (alike_refl th (state_of l new)) (without_phase (f new refl)) (alike_refl th (state_of l new)))

  stays : (ts : List Term) (m : Label) (next : Option (List Term)) → AreOfSorts th (sorts l.params) ts → Fires th l ts m next → LandsOrTerminates V F (outcome_of l next) (outcome_of l next)
  stays ts m next h f =
      subst (λ z. LandsOrTerminates V F (outcome_of l z) (outcome_of l z)) (sym f.does.onward)
      (onward f.summand.next f.environment (never f.summand f.among) (λ us z. firings_keep th vs l ts us m is well h (subst (λ n. Fires th l ts m n) (f.does.onward ∙ z) f)))

  stay_forth : Replies th (SealedState th false l l) (LandsOrTerminates V F)
  stay_forth p q m r (without_phase {ts = ts} h) s =
      let f = fired th l ts m r is s in
      record { label = m; outcome = r; step = s; agree = agree_refl th m; lands = subst (λ z. LandsOrTerminates V F z z) (sym f.1.1) (stays ts m f.0 h f.1.0) }

  stay_back : Replies th (Flipped (SealedState th false l l)) (Exchanged (LandsOrTerminates V F))
  stay_back q p m r (without_phase {ts = ts} h) s =
      let f = fired th l ts m r is s in
      record { label = m; outcome = r; step = s; agree = agree_refl th m; lands = subst (λ z. LandsOrTerminates V F z z) (sym f.1.1) (stays ts m f.0 h f.1.0) }

  no_end : (q : Process) → SealedEnd th false l l q → Terminates th q
  no_end q h = elim h [ ]

  pub staying_progress : TerminatingProgress th (SealedState th false l l) (SealedEnd th false l l)
  staying_progress = record { forth = stay_forth; back = stay_back; terminates = no_end }

pub never_ending_good : NeverEndingIsGood
never_ending_good th vs l ts is well never h = record {
  starts = up_to (alike_refl th (state_of l ts)) (without_phase h) (alike_refl th (state_of l ts));
  follows = enough_terminating th false l l (staying_progress th vs l is well never);
}
