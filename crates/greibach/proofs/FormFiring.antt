-- The steps of a call of a form's equation are its firings.
use Rattle.std.proofs.Common.{◌≡◌, ℕ, inl, inr, ⊎_elim, List, [], ◌∷◌, ◌++◌, map, length, refl, sym, ap, ap₂, ◌∙◌, subst, Some}
use Rattle.std.specs.Prelude.{Contains, slice_get, option_map}
use Rattle.std.proofs.lemmas.Option.{slice_get-map}
use Rattle.data_theory.specs.Terms.{Term, put}
use Rattle.data_theory.specs.Environments.{Environment, term_in, bound, Agree}
use Rattle.data_theory.proofs.EnvironmentLemmas.{agreeing_give_the_same_term, agreeing_give_the_same_terms}
use Rattle.process_terms.specs.Theories.{Theory, IsTrue}
use Rattle.process_terms.specs.Labels.{Label, put_label}
use Rattle.process_terms.specs.Processes.{written_cond, written_delta, choice_of, seq_of, Table, close, Process, BodyOf, the_body, call, seq}
use Rattle.process_terms.specs.Steps.{Outcome, goes_on, Step, by_act, by_left, by_right, by_seq, by_true, by_false, by_call}
use Rattle.bisim_laws.specs.LinearProcesses.{variables, reading}
use Rattle.bisim_laws.specs.BaseStates.{GreibachCall}
use Rattle.bisim_laws.proofs.Firing.{contains_first, contains_later, contains_cases, contains_none, reading_same, reading_agrees, bound_reads, reading_long, agree_on_both, label_along, SumsBound, step_inside, step_outside, sums_keep, sums_of_sorts, restored}
use Rattle.greibach.specs.Forms.{FormSummand, FormEquation, Form, call_body, label_and_calls, form_summand_body, form_definition, form_table, CallIsOver, IsFormEquation, after_calls, FormFires}

label_step : (th : Theory) (d : Table) (e : Environment) (m : Label) (cs : List GreibachCall) {n : Label} {r : Outcome} → Step th (close d e (label_and_calls m cs)) n r → (n ≡ put_label e m) × (r ≡ after_calls d e cs)
label_step th d e m [] by_act = (refl, refl)
label_step th d e m (c ∷ cs) (by_seq by_act) = (refl, refl)

step_label : (th : Theory) (d : Table) (e : Environment) (m : Label) (cs : List GreibachCall) → Step th (close d e (label_and_calls m cs)) (put_label e m) (after_calls d e cs)
step_label th d e m [] = by_act
step_label th d e m (c ∷ cs) = by_seq by_act

pub record BodyStep (th : Theory) (d : Table) (ss : List FormSummand) (e : Environment) (m : Label) (r : Outcome) : Type 0 where
  pub summand : FormSummand
  pub among : Contains ss summand
  pub environment : Environment
  pub sums : SumsBound th summand.sums e environment
  pub holds : IsTrue th (put (term_in environment) summand.condition)
  pub label : m ≡ put_label environment summand.label
  pub outcome : r ≡ after_calls d environment summand.next

under_condition : (th : Theory) (d : Table) (s : FormSummand) (e : Environment) {m : Label} {r : Outcome} → Step th (close d e (written_cond s.condition (label_and_calls s.label s.next) written_delta)) m r
    → IsTrue th (put (term_in e) s.condition) × ((m ≡ put_label e s.label) × (r ≡ after_calls d e s.next))
under_condition th d s e (by_true h k) = (h, label_step th d e s.label s.next k)
under_condition th d s e (by_false h k) = elim k [ ]

summand_step : (th : Theory) (d : Table) (s : FormSummand) (ss : List FormSummand) (e : Environment) {m : Label} {r : Outcome} → Step th (close d e (form_summand_body s)) m r → BodyStep th d (s ∷ ss) e m r
summand_step th d s ss e k =
    let i = step_inside th d s.sums (written_cond s.condition (label_and_calls s.label s.next) written_delta) e k in
    let u = under_condition th d s i.environment i.step in
    record { summand = s; among = contains_first s ss; environment = i.environment; sums = i.sums; holds = u.0; label = u.1.0; outcome = u.1.1 }

later_step : {th : Theory} {d : Table} (s : FormSummand) {ss : List FormSummand} {e : Environment} {m : Label} {r : Outcome} → BodyStep th d ss e m r → BodyStep th d (s ∷ ss) e m r
later_step s {ss = ss} k = record { summand = k.summand; among = contains_later s k.summand ss k.among; environment = k.environment; sums = k.sums; holds = k.holds; label = k.label; outcome = k.outcome }

pub body_step : (th : Theory) (d : Table) (ss : List FormSummand) (e : Environment) {m : Label} {r : Outcome} → Step th (close d e (choice_of (map form_summand_body ss))) m r → BodyStep th d ss e m r
body_step th d [] e k = elim k [ ]
body_step th d (s ∷ []) e k = summand_step th d s [] e k
body_step th d (s ∷ s' ∷ ss) e (by_left k) = summand_step th d s (s' ∷ ss) e k
body_step th d (s ∷ s' ∷ ss) e (by_right k) = later_step s (body_step th d (s' ∷ ss) e k)

pub step_summand : (th : Theory) (d : Table) (s : FormSummand) (e e' : Environment) → SumsBound th s.sums e e' → IsTrue th (put (term_in e') s.condition)
    → Step th (close d e (form_summand_body s)) (put_label e' s.label) (after_calls d e' s.next)
step_summand th d s e e' k h = step_outside th d (written_cond s.condition (label_and_calls s.label s.next) written_delta) k (by_true h (step_label th d e' s.label s.next))

pub step_body : (th : Theory) (d : Table) (ss : List FormSummand) (s : FormSummand) (e : Environment) {m : Label} {r : Outcome} → Contains ss s → Step th (close d e (form_summand_body s)) m r
    → Step th (close d e (choice_of (map form_summand_body ss))) m r
step_body th d [] s e i k = absurd (contains_none s i)
step_body th d (x ∷ []) s e {m} {r} i k = ⊎_elim (λ q. subst (λ z. Step th (close d e (form_summand_body z)) m r) (sym q) k) (λ j. absurd (contains_none s j)) (contains_cases x s [] i)
step_body th d (x ∷ y ∷ ss) s e {m} {r} i k = ⊎_elim
    (λ q. by_left (subst (λ z. Step th (close d e (form_summand_body z)) m r) (sym q) k))
    (λ j. by_right (step_body th d (y ∷ ss) s e j k))
    (contains_cases x s (y ∷ ss) i)

-- ---- the laws
pub definition_at : (form : Form) (i : ℕ) (q : FormEquation) → slice_get form i ≡ Some q → slice_get (form_table form) i ≡ Some (form_definition q)
definition_at form i q e = slice_get-map form_definition form i ∙ ap (option_map form_definition) e

fired_in : (th : Theory) (form : Form) (q : FormEquation) (ts : List Term) {m : Label} {r : Outcome} → IsFormEquation form q → length ts ≡ length (variables q.params)
    → Step th (close (form_table form) (bound (variables q.params) ts) (choice_of (map form_summand_body q.summands))) m r → FormFires th form q ts m r
fired_in th form q ts is long s =
    let k = body_step th (form_table form) q.summands (bound (variables q.params) ts) s in
    let f = is.summands k.summand k.among in
    record {
      summand = k.summand;
      among = k.among;
      environment = k.environment;
      reads = reading_same (variables q.params) k.environment (bound (variables q.params) ts) (λ v i. sums_keep k.sums v (λ j. f.apart v j i)) ∙ bound_reads (variables q.params) ts long is.distinct;
      bound = sums_of_sorts k.sums f.distinct;
      holds = k.holds;
      label = k.label;
      outcome = k.outcome;
    }

some_same : {A : Type 0} {x y : A} → Some x ≡ Some y → x ≡ y
some_same e = cc

fired_by : (th : Theory) (form : Form) (i : ℕ) (q : FormEquation) (ts : List Term) {m : Label} {r : Outcome} → slice_get form i ≡ Some q → IsFormEquation form q
    → {p : Process} → BodyOf (form_table form) i ts p → Step th p m r → FormFires th form q ts m r
fired_by th form i q ts {m} {r} at is (the_body f fat long) s =
    let same : form_definition q ≡ f = some_same (sym (definition_at form i q at) ∙ fat) in
    fired_in th form q ts is (long ∙ sym (ap (λ z. length z.params) same)) (subst (λ z. Step th (close (form_table form) (bound z.params ts) z.body) m r) (sym same) s)

pub form_fired : (th : Theory) (form : Form) (i : ℕ) (q : FormEquation) (ts : List Term) (m : Label) (r : Outcome) → slice_get form i ≡ Some q → IsFormEquation form q
    → Step th (call (form_table form) i ts) m r → FormFires th form q ts m r
form_fired th form i q ts m r at is (by_call b s) = fired_by th form i q ts at is b s

-- calls in environments that agree
calls_along : (form : Form) (xs : List ℕ) (d e : Environment) → Agree xs (term_in d) (term_in e) → (cs : List GreibachCall) → ((c : GreibachCall) → Contains cs c → CallIsOver form xs c)
    → close (form_table form) d (seq_of (map call_body cs)) ≡ close (form_table form) e (seq_of (map call_body cs))
calls_along form xs d e g [] h = refl
calls_along form xs d e g (c ∷ []) h = ap (call (form_table form) c.equation) (agreeing_give_the_same_terms xs (term_in d) (term_in e) g c.args (h c (contains_first c [])).args)
calls_along form xs d e g (c ∷ c' ∷ cs) h =
    ap₂ (λ ts p. seq (call (form_table form) c.equation ts) p)
    (agreeing_give_the_same_terms xs (term_in d) (term_in e) g c.args (h c (contains_first c (c' ∷ cs))).args)
    (calls_along form xs d e g (c' ∷ cs) (λ a i. h a (contains_later c a (c' ∷ cs) i)))

after_along : (form : Form) (xs : List ℕ) (d e : Environment) → Agree xs (term_in d) (term_in e) → (cs : List GreibachCall) → ((c : GreibachCall) → Contains cs c → CallIsOver form xs c)
    → after_calls (form_table form) d cs ≡ after_calls (form_table form) e cs
after_along form xs d e g [] h = refl
after_along form xs d e g (c ∷ cs) h = ap goes_on (calls_along form xs d e g (c ∷ cs) h)

pub form_fire : (th : Theory) (form : Form) (i : ℕ) (q : FormEquation) (ts : List Term) (m : Label) (r : Outcome) → slice_get form i ≡ Some q → IsFormEquation form q
    → FormFires th form q ts m r → Step th (call (form_table form) i ts) m r
form_fire th form i q ts m r at is k =
    let s = k.summand in
    let f = is.summands s k.among in
    let d = form_table form in
    let base = bound (variables q.params) ts in
    let w = restored th s.sums base k.environment k.bound in
    let long : length ts ≡ length (variables q.params) = ap length (sym k.reads) ∙ reading_long k.environment (variables q.params) in
    let reads : reading base (variables q.params) ≡ reading k.environment (variables q.params) = bound_reads (variables q.params) ts long is.distinct ∙ sym k.reads in
    let xs = variables s.sums ++ variables q.params in
    let both : Agree xs (term_in k.environment) (term_in w.environment) =
    agree_on_both (variables s.sums) (variables q.params) (term_in k.environment) (term_in w.environment)
    (λ v i. sym (w.same v (inl i)))
    (λ v i. sym (w.same v (inr (reading_agrees (variables q.params) base k.environment reads v i)))) in
    subst (λ n. Step th (call d i ts) n r) (sym (k.label ∙ label_along xs k.environment w.environment both s.label f.label))
    (subst (λ n. Step th (call d i ts) (put_label w.environment s.label) n) (sym (k.outcome ∙ after_along form xs k.environment w.environment both s.next f.next))
    (by_call (the_body (form_definition q) (definition_at form i q at) long)
    (step_body th d q.summands s base k.among (step_summand th d s base w.environment w.sums
    (subst (λ t. IsTrue th t) (agreeing_give_the_same_term xs (term_in k.environment) (term_in w.environment) both s.condition f.condition) k.holds)))))
