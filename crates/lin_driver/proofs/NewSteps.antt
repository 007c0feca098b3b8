-- Steps under new numbers.
use Rattle.std.proofs.Common.{◌≡◌, ℕ, zero, suc, List, [], ◌∷◌, ◌++◌, Bool, true, false, cond as by_test, refl, sym, ap, ap₂, ◌∙◌, subst, map, ◌==◌}
use Rattle.std.specs.Prelude.{Some, Contains, slice_get}
use Rattle.std.proofs.lemmas.List.{map-append}
use Rattle.std.proofs.lemmas.Option.{none-some, same_Some}
use Rattle.data_theory.specs.Terms.{Sort, Term, Terms, variable, numeral, unknown, application, none, more, apply, put, put_all}
use Rattle.data_theory.specs.Equations.{trueᵗ, falseᵗ, equals, ◌∧ᵗ◌}
use Rattle.data_theory.specs.Environments.{Environment, Binding, term_in, bound}
use Rattle.process_terms.specs.Names.{Name}
use Rattle.process_terms.specs.Theories.{Theory, Equal, IsTrue, IsFalse, AllTrue, none_left, true_and_more}
use Rattle.process_terms.specs.Labels.{Action, Label, names, put_label, Permuted}
use Rattle.process_terms.specs.Communication.{Rule, Split, all_split, to_first, to_second, HaveArgumentSorts, no_more_actions, one_more_action, IsGroup, equalities, group_equalities, conjunction_of, Grouped, all_grouped, stays, joins, NoneFurther, Communicates}
use Rattle.process_terms.specs.Processes as processes
use Rattle.process_terms.specs.Processes.{Around, Bound, Body, written_delta, written_act, written_choice, written_seq, written_cond, written_sum, written_call, written_merge, written_starting, written_around, Definition, Table, Process, delta, act, choice, seq, sum, call, merge, starting, around, close, BodyOf, the_body}
use Rattle.process_terms.specs.Steps.{Outcome, ended, goes_on, before, beside, within, Passes, silent_allowed, named_allowed, not_blocked, nothing_hidden, one_hidden, one_shown, nothing_renamed, one_renamed, communicated, Step, by_act, by_left, by_right, by_seq, by_true, by_false, by_sum, by_call, by_left_alone, by_right_alone, by_both, by_left_merge, by_sync, by_around}
use Rattle.lin_driver.specs.Renumberings.{Renumbering, back, new_sort, new_symbol, new_term, new_terms, new_action, new_label, new_body, new_definition, new_table, new_process, new_outcome, TakesTheory, StepsAreRenumbered}
use Rattle.lin_driver.proofs.NewTerms.{sort_back, sorts_back, term_back, list_back, new_apply, new_long, data_back}
use Rattle.lin_driver.proofs.NewDerivations.{new_has_sort}

-- ---- environments
abbrev pub new_environment : Renumbering → Environment → Environment
new_environment r e = map (λ (b : Binding). record { var = b.var; term = new_term r b.term }) e

chosen : (r : Renumbering) (b : Bool) (t u : Term) → new_term r (by_test b t u) ≡ by_test b (new_term r t) (new_term r u)
chosen r true t u = refl
chosen r false t u = refl

new_term_in : (r : Renumbering) (e : Environment) (v : ℕ) → new_term r (term_in e v) ≡ term_in (new_environment r e) v
new_term_in r [] v = refl
new_term_in r (b ∷ e) v = chosen r (b.var == v) b.term (term_in e v) ∙ ap (λ (t : Term). by_test (b.var == v) (new_term r b.term) t) (new_term_in r e v)

mutual
  pub new_put : (r : Renumbering) (e : Environment) (t : Term) → new_term r (put (term_in e) t) ≡ put (term_in (new_environment r e)) (new_term r t)
  new_put r e (variable v) = new_term_in r e v
  new_put r e (numeral s z) = refl
  new_put r e (unknown d k) = refl
  new_put r e (application f ts) = new_apply r f (put_all (term_in e) ts) ∙ ap (apply (new_symbol r f)) (new_put_all r e ts)

  new_put_all : (r : Renumbering) (e : Environment) (ts : Terms) → new_terms r (put_all (term_in e) ts) ≡ put_all (term_in (new_environment r e)) (new_terms r ts)
  new_put_all r e none = refl
  new_put_all r e (more t ts) = ap₂ more (new_put r e t) (new_put_all r e ts)

new_put_list : (r : Renumbering) (e : Environment) (ts : List Term) → map (new_term r) (map (put (term_in e)) ts) ≡ map (put (term_in (new_environment r e))) (map (new_term r) ts)
new_put_list r e [] = refl
new_put_list r e (t ∷ ts) = ap₂ (λ (x : Term) (xs : List Term). x ∷ xs) (new_put r e t) (new_put_list r e ts)

new_put_label : (r : Renumbering) (e : Environment) (m : Label) → new_label r (put_label e m) ≡ put_label (new_environment r e) (new_label r m)
new_put_label r e [] = refl
new_put_label r e (a ∷ m) =
    ap₂ (λ (ts : List Term) (l : Label). record { name = a.name; sorts = map (new_sort r) a.sorts; args = ts } ∷ l) (new_put_list r e a.args) (new_put_label r e m)

pub new_bindings : (r : Renumbering) (xs : List ℕ) (ts : List Term) → new_environment r (bound xs ts) ≡ bound xs (map (new_term r) ts)
new_bindings r [] ts = refl
new_bindings r (x ∷ xs) [] = refl
new_bindings r (x ∷ xs) (t ∷ ts) = ap (λ (e : Environment). record { var = x; term = new_term r t } ∷ e) (new_bindings r xs ts)

-- ---- closing
pub new_close : (r : Renumbering) (d : Table) (e : Environment) (b : Body) → new_process r (close d e b) ≡ close (new_table r d) (new_environment r e) (new_body r b)
new_close r d e written_delta = refl
new_close r d e (written_act m) = ap act (new_put_label r e m)
new_close r d e (written_choice p q) = ap₂ choice (new_close r d e p) (new_close r d e q)
new_close r d e (written_seq p q) = ap₂ seq (new_close r d e p) (new_close r d e q)
new_close r d e (written_cond c p q) = λ i. processes.cond (new_put r e c i) (new_close r d e p i) (new_close r d e q i)
new_close r d e (written_sum x p) = λ i. sum (new_sort r x.sort) (λ t. for_a_term (λ u. new_close r d (record { var = x.var; term = u } ∷ e) p) t i)
  where
    for_a_term : ((u : Term) → new_process r (close d (record { var = x.var; term = u } ∷ e) p) ≡ close (new_table r d) (record { var = x.var; term = new_term r u } ∷ new_environment r e) (new_body r p))
        → (t : Term) → new_process r (close d (record { var = x.var; term = new_term (back r) t } ∷ e) p) ≡ close (new_table r d) (record { var = x.var; term = t } ∷ new_environment r e) (new_body r p)
    for_a_term inside t = inside (new_term (back r) t) ∙ ap (λ (u : Term). close (new_table r d) (record { var = x.var; term = u } ∷ new_environment r e) (new_body r p)) (term_back (back r) t)
new_close r d e (written_call x ts) = ap (call (new_table r d) x) (new_put_list r e ts)
new_close r d e (written_merge p q) = ap₂ merge (new_close r d e p) (new_close r d e q)
new_close r d e (written_starting o p q) = ap₂ (starting o) (new_close r d e p) (new_close r d e q)
new_close r d e (written_around o p) = ap (around o) (new_close r d e p)

new_at : {A B : Type 0} (f : A → B) (xs : List A) (i : ℕ) (x : A) → slice_get xs i ≡ Some x → slice_get (map f xs) i ≡ Some (f x)
new_at f [] i x h = absurd (none-some x h)
new_at f (y ∷ xs) zero x h = ap (λ z. Some (f z)) (same_Some y x h)
new_at f (y ∷ xs) (suc i) x h = new_at f xs i x h

new_body_of : (r : Renumbering) {d : Table} {x : ℕ} {ts : List Term} {p : Process} → BodyOf d x ts p → BodyOf (new_table r d) x (map (new_term r) ts) (new_process r p)
new_body_of r {d} (the_body {x = x} {ts = ts} f at l) =
    subst (λ (q : Process). BodyOf (new_table r d) x (map (new_term r) ts) q)
    (sym (new_close r d (bound f.params ts) f.body ∙ ap (λ (e : Environment). close (new_table r d) e (new_body r f.body)) (new_bindings r f.params ts)))
    (the_body (new_definition r f) (new_at (new_definition r) d x f at) (new_long (new_term r) ts ∙ l))

-- ---- back again
action_back : (r : Renumbering) (a : Action) → new_action (back r) (new_action r a) ≡ a
action_back r a = λ i. record { name = a.name; sorts = sorts_back r a.sorts i; args = list_back r a.args i }

pub label_back : (r : Renumbering) (m : Label) → new_label (back r) (new_label r m) ≡ m
label_back r [] = refl
label_back r (a ∷ m) = ap₂ (λ (x : Action) (l : Label). x ∷ l) (action_back r a) (label_back r m)

body_back : (r : Renumbering) (b : Body) → new_body (back r) (new_body r b) ≡ b
body_back r written_delta = refl
body_back r (written_act m) = ap written_act (label_back r m)
body_back r (written_choice p q) = ap₂ written_choice (body_back r p) (body_back r q)
body_back r (written_seq p q) = ap₂ written_seq (body_back r p) (body_back r q)
body_back r (written_cond c p q) = λ i. written_cond (term_back r c i) (body_back r p i) (body_back r q i)
body_back r (written_sum x p) = λ i. written_sum (record { var = x.var; sort = sort_back r x.sort i }) (body_back r p i)
body_back r (written_call x ts) = ap (written_call x) (list_back r ts)
body_back r (written_merge p q) = ap₂ written_merge (body_back r p) (body_back r q)
body_back r (written_starting o p q) = ap₂ (written_starting o) (body_back r p) (body_back r q)
body_back r (written_around o p) = ap (written_around o) (body_back r p)

pub table_back : (r : Renumbering) (d : Table) → new_table (back r) (new_table r d) ≡ d
table_back r [] = refl
table_back r (f ∷ d) = λ i. record { params = f.params; body = body_back r f.body i } ∷ table_back r d i

pub process_back : (r : Renumbering) (p : Process) → new_process (back r) (new_process r p) ≡ p
process_back r delta = refl
process_back r (act m) = ap act (label_back r m)
process_back r (choice p q) = ap₂ choice (process_back r p) (process_back r q)
process_back r (seq p q) = ap₂ seq (process_back r p) (process_back r q)
process_back r (processes.cond c p q) = λ i. processes.cond (term_back r c i) (process_back r p i) (process_back r q i)
process_back r (sum s f) = λ i. sum (sort_back r s i) (λ t. (process_back r (f (new_term (back r) (new_term r t))) ∙ ap f (term_back r t)) i)
process_back r (call d x ts) = λ i. call (table_back r d i) x (list_back r ts i)
process_back r (merge p q) = ap₂ merge (process_back r p) (process_back r q)
process_back r (starting o p q) = ap₂ (starting o) (process_back r p) (process_back r q)
process_back r (around o p) = ap (around o) (process_back r p)

pub outcome_back : (r : Renumbering) (o : Outcome) → new_outcome (back r) (new_outcome r o) ≡ o
outcome_back r ended = refl
outcome_back r (goes_on p) = ap goes_on (process_back r p)

pub theory_back : (r : Renumbering) (th ti : Theory) → TakesTheory r th ti → TakesTheory (back r) ti th
theory_back r th ti takes = record {
  declared = data_back r th.declared ti.declared takes.declared;
  equal = λ t u. (
      let e = takes.equal (new_term (back r) t) (new_term (back r) u) in
      let one : new_term r (new_term (back r) t) ≡ t = term_back (back r) t in
      let two : new_term r (new_term (back r) u) ≡ u = term_back (back r) u in (
        λ h. e.1 (subst (λ x. Equal ti x (new_term r (new_term (back r) u))) (sym one) (subst (λ x. Equal ti t x) (sym two) h)),
        λ h. subst (λ x. Equal ti t x) two (subst (λ x. Equal ti x (new_term r (new_term (back r) u))) one (e.0 h)),
      )
      );
}

-- ---- outcomes
new_before : (r : Renumbering) (o : Outcome) (q : Process) → new_outcome r (before o q) ≡ before (new_outcome r o) (new_process r q)
new_before r ended q = refl
new_before r (goes_on p) q = refl

new_beside : (r : Renumbering) (o u : Outcome) → new_outcome r (beside o u) ≡ beside (new_outcome r o) (new_outcome r u)
new_beside r ended ended = refl
new_beside r ended (goes_on q) = refl
new_beside r (goes_on p) ended = refl
new_beside r (goes_on p) (goes_on q) = refl

new_within : (r : Renumbering) (w : Around) (o : Outcome) → new_outcome r (within w o) ≡ within w (new_outcome r o)
new_within r w ended = refl
new_within r w (goes_on p) = refl

-- ---- communication
pub new_names : (r : Renumbering) (m : Label) → names (new_label r m) ≡ names m
new_names r [] = refl
new_names r (a ∷ m) = ap (λ (xs : List Name). a.name ∷ xs) (new_names r m)

new_split : {A B : Type 0} (f : A → B) {xs ys zs : List A} → Split xs ys zs → Split (map f xs) (map f ys) (map f zs)
new_split f all_split = all_split
new_split f (to_first s) = to_first (new_split f s)
new_split f (to_second s) = to_second (new_split f s)

new_sorted : (r : Renumbering) {ss : List Sort} {m : Label} → HaveArgumentSorts ss m → HaveArgumentSorts (map (new_sort r) ss) (new_label r m)
new_sorted r no_more_actions = no_more_actions
new_sorted r (one_more_action e h) = one_more_action (ap (map (new_sort r)) e) (new_sorted r h)

new_group : (r : Renumbering) (c : Rule) (a : Action) (others : Label) → IsGroup c a others → IsGroup c (new_action r a) (new_label r others)
new_group r c a others g = record { named = subst (λ (xs : List Name). Permuted xs c.left) (sym (new_names r (a ∷ others))) g.named; sorted = new_sorted r g.sorted }

new_equalities : (r : Renumbering) (ss : List Sort) (ts us : List Term) → map (new_term r) (equalities ss ts us) ≡ equalities (map (new_sort r) ss) (map (new_term r) ts) (map (new_term r) us)
new_equalities r [] ts us = refl
new_equalities r (s ∷ ss) [] us = refl
new_equalities r (s ∷ ss) (t ∷ ts) [] = refl
new_equalities r (s ∷ ss) (t ∷ ts) (u ∷ us) = ap (λ (xs : List Term). equals (new_sort r s) (new_term r t) (new_term r u) ∷ xs) (new_equalities r ss ts us)

new_group_equalities : (r : Renumbering) (a : Action) (others : Label) → map (new_term r) (group_equalities a others) ≡ group_equalities (new_action r a) (new_label r others)
new_group_equalities r a [] = refl
new_group_equalities r a (b ∷ others) =
    map-append (new_term r) (equalities a.sorts a.args b.args) (group_equalities a others)
    ∙ ap₂ (λ (xs ys : List Term). xs ++ ys) (new_equalities r a.sorts a.args b.args) (new_group_equalities r a others)

new_conjunction : (r : Renumbering) (ts : List Term) → new_term r (conjunction_of ts) ≡ conjunction_of (map (new_term r) ts)
new_conjunction r [] = refl
new_conjunction r (t ∷ []) = refl
new_conjunction r (t ∷ u ∷ ts) = ap (λ (x : Term). new_term r t ∧ᵗ x) (new_conjunction r (u ∷ ts))

module _ (r : Renumbering) (th ti : Theory) (takes : TakesTheory r th ti) where
  new_true : (t : Term) → IsTrue th t → IsTrue ti (new_term r t)
  new_true t h = (takes.equal t trueᵗ).0 h

  new_false : (t : Term) → IsFalse th t → IsFalse ti (new_term r t)
  new_false t h = (takes.equal t falseᵗ).0 h

  new_all_true : {ts : List Term} → AllTrue th ts → AllTrue ti (map (new_term r) ts)
  new_all_true none_left = none_left
  new_all_true (true_and_more {t = t} h hs) = true_and_more (new_true t h) (new_all_true hs)

  new_grouped : {rules : List Rule} {m n rest : Label} → Grouped th rules m n rest → Grouped ti rules (new_label r m) (new_label r n) (new_label r rest)
  new_grouped all_grouped = all_grouped
  new_grouped (stays g) = stays (new_grouped g)
  new_grouped (joins {c = c} {a = a} {others = others} i s g t h) =
      joins i (new_split (new_action r) s) (new_group r c a others g) (subst (AllTrue ti) (new_group_equalities r a others) (new_all_true t)) (new_grouped h)

  new_none_further : (rules : List Rule) (rest : Label) → NoneFurther th rules rest → NoneFurther ti rules (new_label r rest)
  new_none_further rules rest further c a others behind i s g =
      let b : Action = new_action (back r) a in
      let bs : Label = new_label (back r) others in
      let split : Split (b ∷ bs) (new_label (back r) behind) rest = subst (λ (l : Label). Split (b ∷ bs) (new_label (back r) behind) l) (label_back r rest) (new_split (new_action (back r)) s) in
      let no : IsFalse th (conjunction_of (group_equalities b bs)) = further c b bs (new_label (back r) behind) i split (new_group (back r) c a others g) in
      let same : new_term r (conjunction_of (group_equalities b bs)) ≡ conjunction_of (group_equalities a others) =
      new_conjunction r (group_equalities b bs) ∙ ap conjunction_of (new_group_equalities r b bs)
      ∙ ap₂ (λ (x : Action) (l : Label). conjunction_of (group_equalities x l)) (action_back (back r) a) (label_back (back r) others) in
      subst (IsFalse ti) same (new_false (conjunction_of (group_equalities b bs)) no)

  new_communicates : (rules : List Rule) (m n : Label) → Communicates th rules m n → Communicates ti rules (new_label r m) (new_label r n)
  new_communicates rules m n c = record { rest = new_label r c.rest; grouped = new_grouped c.grouped; none_further = new_none_further rules c.rest c.none_further }

  -- ---- steps
  new_passes : {o : Around} {m n : Label} → Passes th o m n → Passes ti o (new_label r m) (new_label r n)
  new_passes silent_allowed = silent_allowed
  new_passes (named_allowed {m = m} v i h) = named_allowed v i (subst (λ (xs : List Name). Permuted xs v) (sym (new_names r m)) h)
  new_passes (not_blocked {m = m} h) = not_blocked (λ x i. h x (subst (λ (xs : List Name). Contains xs x) (new_names r m) i))
  new_passes nothing_hidden = nothing_hidden
  new_passes (one_hidden i h) = one_hidden i (new_passes h)
  new_passes (one_shown i h) = one_shown i (new_passes h)
  new_passes nothing_renamed = nothing_renamed
  new_passes (one_renamed x i h) = one_renamed x i (new_passes h)
  new_passes (communicated {rules = rules} {m = m} {n = n} c) = communicated (new_communicates rules m n c)

  pub new_step : {p : Process} {m : Label} {o : Outcome} → Step th p m o → Step ti (new_process r p) (new_label r m) (new_outcome r o)
  new_step by_act = by_act
  new_step (by_left s) = by_left (new_step s)
  new_step (by_right s) = by_right (new_step s)
  new_step (by_seq {p = p} {q = q} {m = m} {r = o} s) = subst (λ (u : Outcome). Step ti (seq (new_process r p) (new_process r q)) (new_label r m) u) (sym (new_before r o q)) (by_seq (new_step s))
  new_step (by_true {c = c} h s) = by_true (new_true c h) (new_step s)
  new_step (by_false {c = c} h s) = by_false (new_false c h) (new_step s)
  new_step (by_sum {s = s} {f = f} {m = m} {r = o} t h k) =
      by_sum (new_term r t) (new_has_sort r th.declared ti.declared takes.declared [] t s h) (subst (λ (u : Term). Step ti (new_process r (f u)) (new_label r m) (new_outcome r o)) (sym (term_back r t)) (new_step k))
  new_step (by_call b s) = by_call (new_body_of r b) (new_step s)
  new_step (by_left_alone {p = p} {q = q} {m = m} {r = o} s) = subst (λ (u : Outcome). Step ti (merge (new_process r p) (new_process r q)) (new_label r m) u) (sym (new_beside r o (goes_on q))) (by_left_alone (new_step s))
  new_step (by_right_alone {p = p} {q = q} {m = m} {r = o} s) = subst (λ (u : Outcome). Step ti (merge (new_process r p) (new_process r q)) (new_label r m) u) (sym (new_beside r (goes_on p) o)) (by_right_alone (new_step s))
  new_step (by_both {p = p} {q = q} {m = m} {n = n} {r = o} {s = u} s k) =
      subst (λ (l : Label). Step ti (merge (new_process r p) (new_process r q)) l (new_outcome r (beside o u))) (sym (map-append (new_action r) m n))
      (subst (λ (x : Outcome). Step ti (merge (new_process r p) (new_process r q)) (new_label r m ++ new_label r n) x) (sym (new_beside r o u)) (by_both (new_step s) (new_step k)))
  new_step (by_left_merge {p = p} {q = q} {m = m} {r = o} s) =
      subst (λ (u : Outcome). Step ti (starting processes.left_merge (new_process r p) (new_process r q)) (new_label r m) u) (sym (new_beside r o (goes_on q))) (by_left_merge (new_step s))
  new_step (by_sync {p = p} {q = q} {m = m} {n = n} {r = o} {s = u} s k) =
      subst (λ (l : Label). Step ti (starting processes.sync (new_process r p) (new_process r q)) l (new_outcome r (beside o u))) (sym (map-append (new_action r) m n))
      (subst (λ (x : Outcome). Step ti (starting processes.sync (new_process r p) (new_process r q)) (new_label r m ++ new_label r n) x) (sym (new_beside r o u)) (by_sync (new_step s) (new_step k)))
  new_step (by_around {o = w} {p = p} {m = m} {n = n} {r = o} s h) = subst (λ (u : Outcome). Step ti (around w (new_process r p)) (new_label r n) u) (sym (new_within r w o)) (by_around (new_step s) (new_passes h))

pub steps_are_renumbered : StepsAreRenumbered
steps_are_renumbered r th ti takes p m o = (new_step r th ti takes, there)
  where
    there : Step ti (new_process r p) (new_label r m) (new_outcome r o) → Step th p m o
    there s =
        let t = new_step (back r) ti th (theory_back r th ti takes) s in
        subst (λ (x : Process). Step th x m o) (process_back r p)
        (subst (λ (x : Label). Step th (new_process (back r) (new_process r p)) x o) (label_back r m)
        (subst (λ (x : Outcome). Step th (new_process (back r) (new_process r p)) (new_label (back r) (new_label r m)) x) (outcome_back r o) t))
