-- The steps of a linear process are its firings.
use Rattle.std.proofs.Common.{◌≡◌, ℕ, zero, suc, ◌<◌, ◌⊎◌, inl, inr, ⊎_elim, List, [], ◌∷◌, ◌++◌, map, length, Bool, true, false, if◌then◌else◌, cond as by_test, refl, sym, ap, ap₂, ◌∙◌, subst, arith, append-nil, Option, Some, None}
use Rattle.std.specs.Prelude.{Contains, slice_index_or}
use Rattle.std.proofs.lemmas.Bool.Decides.{eqb_tells}
use Rattle.std.proofs.lemmas.List.Elements.{Contains-append_cases}
use Rattle.data_theory.specs.Terms.{Term, truth, variable, application, none, put}
use Rattle.data_theory.specs.Equations.{trueᵗ}
use Rattle.data_theory.specs.Provable.{reflexive}
use Rattle.data_theory.specs.Environments.{Environment, term_in, bound, Agree, AreDistinct}
use Rattle.data_theory.proofs.EnvironmentLemmas.{contains_nothing, contains_cases as number_cases, contains_first as number_first, contains_later as number_later, agreeing_give_the_same_term, agreeing_give_the_same_terms, parameters_read_back}
use Rattle.process_terms.specs.Theories.{Theory, IsTrue, IsOfSort}
use Rattle.process_terms.specs.Labels.{Label, put_label}
use Rattle.process_terms.specs.Processes.{Bound, Body, written_cond, written_delta, choice_of, sums_around, Table, close, Definition, Process, delta, cond, call, BodyOf, the_body}
use Rattle.process_terms.specs.Steps.{Outcome, Step, by_act, by_left, by_right, by_seq, by_true, by_false, by_sum, by_call}
use Rattle.bisim_laws.specs.LinearProcesses.{Summand, Linear, variables, label_and_next, is_true, summand_body, linear_table, WritesSummand, with_condition, without_condition, WriteSummands, no_summand_written, one_summand_written, writes_linear, LabelIsOver, no_action_left, action_over, NextIsOver, no_next, next_over, IsLinear, reading, put_next, outcome_in, AreBound, Fires}
use Rattle.bisim_laws.specs.LinkLaws.{StepsAreFirings, FiringsAreSteps, WrittenStepsAreFirings, FiringsAreWrittenSteps, PrintedTablesAreWritten, OtherEnvironmentsServe}

-- ---- elements of lists
pub contains_first : {A : Type 0} (x : A) (xs : List A) → Contains (x ∷ xs) x
contains_first x xs = (0, omega arith, refl)

pub contains_later : {A : Type 0} (x v : A) (xs : List A) → Contains xs v → Contains (x ∷ xs) v
contains_later x v xs h = let l = h.1 in (suc h.0, omega arith, h.2)

pub contains_cases : {A : Type 0} (x v : A) (xs : List A) → Contains (x ∷ xs) v → (x ≡ v) ⊎ Contains xs v
contains_cases {A} x v xs h = by_place h.0 h.1 h.2
  where
    by_place : (k : ℕ) → k < length (x ∷ xs) → slice_index_or (x ∷ xs) k v ≡ v → (x ≡ v) ⊎ Contains xs v
    by_place zero l e = inl e
    by_place (suc k) l e = inr (k, omega arith, e)

pub contains_none : {A : Type 0} (v : A) → Contains [] v → ⊥
contains_none v h = let l = h.1 in omega arith

pub variable_among : (xs : List Bound) (x : Bound) → Contains xs x → Contains (variables xs) x.var
variable_among [] x h = absurd (contains_none x h)
variable_among (y ∷ xs) x h = ⊎_elim
    (λ q. subst (λ z. Contains (y.var ∷ variables xs) z) (ap (λ b. b.var) q) (number_first y.var (variables xs)))
    (λ i. number_later y.var x.var (variables xs) (variable_among xs x i))
    (contains_cases y x xs h)

-- ---- what environments have for variables
pub read_now : (v : ℕ) (t : Term) (e : Environment) → term_in (record { var = v; term = t } ∷ e) v ≡ t
read_now v t e = ⊎_elim (λ k. ap (λ c. by_test c t (term_in e v)) k.0) (λ k. absurd (k.1 refl)) (eqb_tells v v)

pub read_later : (x : ℕ) (t : Term) (e : Environment) (v : ℕ) → (x ≡ v → ⊥) → term_in (record { var = x; term = t } ∷ e) v ≡ term_in e v
read_later x t e v n = ⊎_elim (λ k. absurd (n k.1)) (λ k. ap (λ c. by_test c t (term_in e v)) k.0) (eqb_tells x v)

pub head_same : {t u : Term} {ts us : List Term} → t ∷ ts ≡ u ∷ us → t ≡ u
head_same e = cc

pub tail_same : {t u : Term} {ts us : List Term} → t ∷ ts ≡ u ∷ us → ts ≡ us
tail_same e = cc

-- equal readings are agreement
pub reading_same : (xs : List ℕ) (d e : Environment) → Agree xs (term_in d) (term_in e) → reading d xs ≡ reading e xs
reading_same [] d e g = refl
reading_same (x ∷ xs) d e g = ap₂ (λ t ts. t ∷ ts) (g x (number_first x xs)) (reading_same xs d e (λ v i. g v (number_later x v xs i)))

pub reading_agrees : (xs : List ℕ) (d e : Environment) → reading d xs ≡ reading e xs → Agree xs (term_in d) (term_in e)
reading_agrees [] d e h v i = absurd (contains_nothing v i)
reading_agrees (x ∷ xs) d e h v i = ⊎_elim (λ q. subst (λ z. term_in d z ≡ term_in e z) q (head_same h)) (λ j. reading_agrees xs d e (tail_same h) v j) (number_cases x v xs i)

pub reading_put : (e : Environment) (xs : List ℕ) → map (put (term_in e)) (map variable xs) ≡ reading e xs
reading_put e [] = refl
reading_put e (x ∷ xs) = ap (λ ts. term_in e x ∷ ts) (reading_put e xs)

-- bound parameters read back
pub bound_reads : (xs : List ℕ) (ts : List Term) → length ts ≡ length xs → AreDistinct xs → reading (bound xs ts) xs ≡ ts
bound_reads xs ts l n =
    sym (reading_put (bound xs ts) xs)
    ∙ ap (λ e. map (put (term_in e)) (map variable xs)) (sym (append-nil (bound xs ts)))
    ∙ parameters_read_back [] [] xs ts l (λ v i j. contains_nothing v i) n

pub agree_on_both : (xs ys : List ℕ) (d e : ℕ → Term) → Agree xs d e → Agree ys d e → Agree (xs ++ ys) d e
agree_on_both xs ys d e g h v i = ⊎_elim (λ j. g v j) (λ j. h v j) (Contains-append_cases xs ys v i)

-- ---- one summand in another environment
pub label_along : (xs : List ℕ) (d e : Environment) → Agree xs (term_in d) (term_in e) → (m : Label) → LabelIsOver xs m → put_label d m ≡ put_label e m
label_along xs d e g _ no_action_left = refl
label_along xs d e g _ (action_over {a = a} {m = m} h k) =
    ap₂ (λ ts n. record { name = a.name; sorts = a.sorts; args = ts } ∷ n) (agreeing_give_the_same_terms xs (term_in d) (term_in e) g a.args h) (label_along xs d e g m k)

pub next_along : (xs : List ℕ) (params : List Bound) (d e : Environment) → Agree xs (term_in d) (term_in e) → (next : Option (List Term)) → NextIsOver xs params next → put_next d next ≡ put_next e next
next_along xs params d e g _ no_next = refl
next_along xs params d e g _ (next_over {ts = ts} h l) = ap (λ us. Some us) (agreeing_give_the_same_terms xs (term_in d) (term_in e) g ts h)

pub does_along : OtherEnvironmentsServe
does_along th params s d e m next is g k = record {
  holds = subst (λ t. IsTrue th t) (agreeing_give_the_same_term (variables s.sums ++ variables params) (term_in d) (term_in e) g s.condition is.condition) k.holds;
  label = k.label ∙ label_along (variables s.sums ++ variables params) d e g s.label is.label;
  onward = k.onward ∙ next_along (variables s.sums ++ variables params) params d e g s.next is.next;
}

-- ---- sums
-- closed terms for sum variables, one after another in front of an environment
pub data SumsBound (th : Theory) : List Bound → Environment → Environment → Type 0 where
  no_sum : {e : Environment} → SumsBound th [] e e
  one_sum : {x : Bound} {xs : List Bound} {e e' : Environment} (t : Term) → IsOfSort th x.sort t → SumsBound th xs (record { var = x.var; term = t } ∷ e) e' → SumsBound th (x ∷ xs) e e'

pub record StepInside (th : Theory) (d : Table) (xs : List Bound) (e : Environment) (p : Body) (m : Label) (r : Outcome) : Type 0 where
  pub environment : Environment
  pub sums : SumsBound th xs e environment
  pub step : Step th (close d environment p) m r

pub step_inside : (th : Theory) (d : Table) (xs : List Bound) (p : Body) (e : Environment) {m : Label} {r : Outcome} → Step th (close d e (sums_around xs p)) m r → StepInside th d xs e p m r
step_inside th d [] p e s = record { environment = e; sums = no_sum; step = s }
step_inside th d (x ∷ xs) p e (by_sum t h s) =
    let k = step_inside th d xs p (record { var = x.var; term = t } ∷ e) s in
    record { environment = k.environment; sums = one_sum t h k.sums; step = k.step }

pub step_outside : (th : Theory) (d : Table) (p : Body) {xs : List Bound} {e e' : Environment} {m : Label} {r : Outcome} → SumsBound th xs e e' → Step th (close d e' p) m r → Step th (close d e (sums_around xs p)) m r
step_outside th d p no_sum s = s
step_outside th d p (one_sum t h k) s = by_sum t h (step_outside th d p k s)

pub sums_keep : {th : Theory} {xs : List Bound} {e e' : Environment} → SumsBound th xs e e' → (v : ℕ) → (Contains (variables xs) v → ⊥) → term_in e' v ≡ term_in e v
sums_keep no_sum v n = refl
sums_keep (one_sum {x = x} {xs = xs} {e = e} t h k) v n =
    sums_keep k v (λ i. n (number_later x.var v (variables xs) i))
    ∙ read_later x.var t e v (λ q. n (subst (λ z. Contains (x.var ∷ variables xs) z) q (number_first x.var (variables xs))))

pub sums_of_sorts : {th : Theory} {xs : List Bound} {e e' : Environment} → SumsBound th xs e e' → AreDistinct (variables xs) → AreBound th xs e'
sums_of_sorts no_sum n y i = absurd (contains_none y i)
sums_of_sorts {th} (one_sum {x = x} {xs = xs} {e = e} {e' = e'} t h k) n y i = ⊎_elim
    (λ q. subst (λ z. IsOfSort th z.sort (term_in e' z.var)) q (subst (λ u. IsOfSort th x.sort u) (sym (sums_keep k x.var n.0 ∙ read_now x.var t e)) h))
    (λ j. sums_of_sorts k n.1 y j)
    (contains_cases x y xs i)

-- bindings that give the terms of e again
pub record Restored (th : Theory) (xs : List Bound) (base e : Environment) : Type 0 where
  pub environment : Environment
  pub sums : SumsBound th xs base environment
  pub same : (v : ℕ) → Contains (variables xs) v ⊎ (term_in base v ≡ term_in e v) → term_in environment v ≡ term_in e v

pub restored : (th : Theory) (xs : List Bound) (base e : Environment) → AreBound th xs e → Restored th xs base e
restored th [] base e h = record { environment = base; sums = no_sum; same = λ v c. ⊎_elim (λ i. absurd (contains_nothing v i)) (λ q. q) c }
restored th (x ∷ xs) base e h =
    let r = restored th xs (record { var = x.var; term = term_in e x.var } ∷ base) e (λ y i. h y (contains_later x y xs i)) in
    record {
      environment = r.environment;
      sums = one_sum (term_in e x.var) (h x (contains_first x xs)) r.sums;
      same = λ v c. restored_at x (variables xs) base e r.environment v (r.same v) c;
    }
  where
    restored_at : (x : Bound) (vs : List ℕ) (base e f : Environment) (v : ℕ)
        → (Contains vs v ⊎ (term_in (record { var = x.var; term = term_in e x.var } ∷ base) v ≡ term_in e v) → term_in f v ≡ term_in e v)
        → Contains (x.var ∷ vs) v ⊎ (term_in base v ≡ term_in e v) → term_in f v ≡ term_in e v
    restored_at x vs base e f v go (inl i) = ⊎_elim
        (λ q. go (inr (subst (λ z. term_in (record { var = x.var; term = term_in e x.var } ∷ base) z ≡ term_in e z) q (read_now x.var (term_in e x.var) base))))
        (λ j. go (inl j))
        (number_cases x.var v vs i)
    restored_at x vs base e f v go (inr q) = go (inr (⊎_elim
        (λ k. ap (λ c. by_test c (term_in e x.var) (term_in base v)) k.0 ∙ ap (λ z. term_in e z) k.1)
        (λ k. ap (λ c. by_test c (term_in e x.var) (term_in base v)) k.0 ∙ q)
        (eqb_tells x.var v)))

-- ---- conditions that are left out
tests_differ : false ≡ true → ⊥
tests_differ e = cc

pub true_alone : (c : Term) → is_true c ≡ true → c ≡ trueᵗ
true_alone (application truth none) e = refl
true_alone _ e = absurd (tests_differ e)

-- what is printed for a summand writes it
body_written : (s : Summand) → WritesSummand s (summand_body s)
body_written s = tested (is_true s.condition) refl
  where
    tested : (b : Bool) → is_true s.condition ≡ b
        → WritesSummand s (sums_around s.sums (if b then label_and_next s.label s.next else written_cond s.condition (label_and_next s.label s.next) written_delta))
    tested true q = without_condition (true_alone s.condition q)
    tested false q = with_condition

bodies_written : (ss : List Summand) → WriteSummands ss (map summand_body ss)
bodies_written [] = no_summand_written
bodies_written (s ∷ ss) = one_summand_written (body_written s) (bodies_written ss)

pub table_written : PrintedTablesAreWritten
table_written l = writes_linear (bodies_written l.summands)

-- ---- summands
label_step : (th : Theory) (d : Table) (e : Environment) (m : Label) (next : Option (List Term)) {n : Label} {r : Outcome} → Step th (close d e (label_and_next m next)) n r
    → (n ≡ put_label e m) × (r ≡ outcome_in d (put_next e next))
label_step th d e m None by_act = (refl, refl)
label_step th d e m (Some ts) (by_seq by_act) = (refl, refl)

step_label : (th : Theory) (d : Table) (e : Environment) (m : Label) (next : Option (List Term)) → Step th (close d e (label_and_next m next)) (put_label e m) (outcome_in d (put_next e next))
step_label th d e m None = by_act
step_label th d e m (Some ts) = by_seq by_act

-- a step of a choice of summands
record BodyStep (th : Theory) (d : Table) (ss : List Summand) (e : Environment) (m : Label) (r : Outcome) : Type 0 where
  summand : Summand
  among : Contains ss summand
  environment : Environment
  sums : SumsBound th summand.sums e environment
  holds : IsTrue th (put (term_in environment) summand.condition)
  label : m ≡ put_label environment summand.label
  outcome : r ≡ outcome_in d (put_next environment summand.next)

-- of the first summand, inside its sums and its condition
stepped : (th : Theory) (d : Table) (s : Summand) (ss : List Summand) {e f : Environment} {m : Label} {r : Outcome} → SumsBound th s.sums e f → IsTrue th (put (term_in f) s.condition)
    → Step th (close d f (label_and_next s.label s.next)) m r → BodyStep th d (s ∷ ss) e m r
stepped th d s ss {f = f} sums h k =
    let n = label_step th d f s.label s.next k in
    record { summand = s; among = contains_first s ss; environment = f; sums = sums; holds = h; label = n.0; outcome = n.1 }

under_condition : {th : Theory} {c : Term} {p : Process} {m : Label} {r : Outcome} → Step th (cond c p delta) m r → IsTrue th c × Step th p m r
under_condition (by_true h s) = (h, s)
under_condition (by_false h s) = elim s [ ]

summand_step : (th : Theory) (d : Table) (s : Summand) (ss : List Summand) (e : Environment) {p : Body} {m : Label} {r : Outcome} → WritesSummand s p → Step th (close d e p) m r
    → BodyStep th d (s ∷ ss) e m r
summand_step th d s ss e with_condition k =
    let i = step_inside th d s.sums (written_cond s.condition (label_and_next s.label s.next) written_delta) e k in
    let u = under_condition i.step in
    stepped th d s ss i.sums u.0 u.1
summand_step th d s ss e (without_condition q) k =
    let i = step_inside th d s.sums (label_and_next s.label s.next) e k in
    stepped th d s ss i.sums (subst (λ t. IsTrue th (put (term_in i.environment) t)) (sym q) reflexive) i.step

later_step : {th : Theory} {d : Table} (s : Summand) {ss : List Summand} {e : Environment} {m : Label} {r : Outcome} → BodyStep th d ss e m r → BodyStep th d (s ∷ ss) e m r
later_step s {ss = ss} k = record { summand = k.summand; among = contains_later s k.summand ss k.among; environment = k.environment; sums = k.sums; holds = k.holds; label = k.label; outcome = k.outcome }

body_step : (th : Theory) (d : Table) (ss : List Summand) (e : Environment) {ps : List Body} {m : Label} {r : Outcome} → WriteSummands ss ps → Step th (close d e (choice_of ps)) m r
    → BodyStep th d ss e m r
body_step th d [] e no_summand_written k = elim k [ ]
body_step th d (s ∷ []) e (one_summand_written w no_summand_written) k = summand_step th d s [] e w k
body_step th d (s ∷ s' ∷ ss) e (one_summand_written w (one_summand_written w' ws)) (by_left k) = summand_step th d s (s' ∷ ss) e w k
body_step th d (s ∷ s' ∷ ss) e (one_summand_written w (one_summand_written w' ws)) (by_right k) = later_step s (body_step th d (s' ∷ ss) e (one_summand_written w' ws) k)

step_summand : (th : Theory) (d : Table) (s : Summand) (e e' : Environment) → SumsBound th s.sums e e' → IsTrue th (put (term_in e') s.condition)
    → (p : Body) → WritesSummand s p → Step th (close d e p) (put_label e' s.label) (outcome_in d (put_next e' s.next))
step_summand th d s e e' k h _ with_condition =
    step_outside th d (written_cond s.condition (label_and_next s.label s.next) written_delta) k (by_true h (step_label th d e' s.label s.next))
step_summand th d s e e' k h _ (without_condition q) = step_outside th d (label_and_next s.label s.next) k (step_label th d e' s.label s.next)

step_body : (th : Theory) (d : Table) (ss : List Summand) (s : Summand) (e : Environment) {ps : List Body} {m : Label} {r : Outcome} → WriteSummands ss ps → Contains ss s
    → ((p : Body) → WritesSummand s p → Step th (close d e p) m r) → Step th (close d e (choice_of ps)) m r
step_body th d [] s e no_summand_written i k = absurd (contains_none s i)
step_body th d (x ∷ []) s e (one_summand_written {p = p} w no_summand_written) i k = ⊎_elim (λ q. k p (subst (λ z. WritesSummand z p) q w)) (λ j. absurd (contains_none s j)) (contains_cases x s [] i)
step_body th d (x ∷ y ∷ ss) s e (one_summand_written {p = p} w (one_summand_written w' ws)) i k = ⊎_elim
    (λ q. by_left (k p (subst (λ z. WritesSummand z p) q w)))
    (λ j. by_right (step_body th d (y ∷ ss) s e (one_summand_written w' ws) j k))
    (contains_cases x s (y ∷ ss) i)

-- ---- the laws
pub reading_long : (e : Environment) (xs : List ℕ) → length (reading e xs) ≡ length xs
reading_long e [] = refl
reading_long e (x ∷ xs) = ap suc (reading_long e xs)

-- the one definition that is written for a linear process
abbrev the_definition : Linear → List Body → Definition
the_definition l ps = record { params = variables l.params; body = choice_of ps }

fired_in : (th : Theory) (l : Linear) (ps : List Body) (d : Table) (ts : List Term) (m : Label) (r : Outcome) → IsLinear l → WriteSummands l.summands ps → length ts ≡ length (variables l.params)
    → Step th (close d (bound (variables l.params) ts) (choice_of ps)) m r → (next : Option (List Term)) × (Fires th l ts m next × (r ≡ outcome_in d next))
fired_in th l ps d ts m r is w long s =
    let k = body_step th d l.summands (bound (variables l.params) ts) w s in
    let f = is.summands k.summand k.among in (
      put_next k.environment k.summand.next,
      (
        record {
          summand = k.summand;
          among = k.among;
          environment = k.environment;
          reads = reading_same (variables l.params) k.environment (bound (variables l.params) ts) (λ v i. sums_keep k.sums v (λ j. f.apart v j i)) ∙ bound_reads (variables l.params) ts long is.distinct;
          bound = sums_of_sorts k.sums f.distinct;
          does = record { holds = k.holds; label = k.label; onward = refl };
        },
        k.outcome,
      ),
    )

fired_by : (th : Theory) (l : Linear) (ps : List Body) (ts : List Term) (m : Label) (r : Outcome) → IsLinear l → WriteSummands l.summands ps → {p : Process} → BodyOf (the_definition l ps ∷ []) 0 ts p → Step th p m r
    → (next : Option (List Term)) × (Fires th l ts m next × (r ≡ outcome_in (the_definition l ps ∷ []) next))
fired_by th l ps ts m r is w (the_body f at long) s =
    let d : Table = the_definition l ps ∷ [] in
    let same : the_definition l ps ≡ f = cc in
    fired_in th l ps d ts m r is w (long ∙ sym (ap (λ z. length z.params) same)) (subst (λ z. Step th (close d (bound z.params ts) z.body) m r) (sym same) s)

pub fired_at : WrittenStepsAreFirings
fired_at th l _ ts m r is (writes_linear {ps = ps} w) (by_call b s) = fired_by th l ps ts m r is w b s

pub fired : StepsAreFirings
fired th l ts m r is s = fired_at th l (linear_table l) ts m r is (table_written l) s

pub fire_at : FiringsAreWrittenSteps
fire_at th l _ ts m next is (writes_linear {ps = ps} w) k =
    let d : Table = the_definition l ps ∷ [] in
    let s = k.summand in
    let base = bound (variables l.params) ts in
    let r = restored th s.sums base k.environment k.bound in
    let long : length ts ≡ length (variables l.params) = ap length (sym k.reads) ∙ reading_long k.environment (variables l.params) in
    let reads : reading base (variables l.params) ≡ reading k.environment (variables l.params) = bound_reads (variables l.params) ts long is.distinct ∙ sym k.reads in
    let both : Agree (variables s.sums ++ variables l.params) (term_in k.environment) (term_in r.environment) =
    agree_on_both (variables s.sums) (variables l.params) (term_in k.environment) (term_in r.environment)
    (λ v i. sym (r.same v (inl i)))
    (λ v i. sym (r.same v (inr (reading_agrees (variables l.params) base k.environment reads v i)))) in
    let h = does_along th l.params s k.environment r.environment m next (is.summands s k.among) both k.does in
    subst (λ n. Step th (call d 0 ts) n (outcome_in d next)) (sym h.label)
    (subst (λ n. Step th (call d 0 ts) (put_label r.environment s.label) (outcome_in d n)) (sym h.onward)
    (by_call (the_body (the_definition l ps) refl long) (step_body th d l.summands s base w k.among (step_summand th d s base r.environment r.sums h.holds))))

pub fire : FiringsAreSteps
fire th l ts m next is k = fire_at th l (linear_table l) ts m next is (table_written l) k
