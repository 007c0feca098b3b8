-- What is printed for a text stands for it in each reading of both texts.
use Rattle.std.proofs.Common.{◌≡◌, ℕ, List, [], ◌∷◌, ◌++◌, map, refl, sym, ap, ap₂, ◌∙◌, subst}
use Rattle.std.specs.Prelude.{Some, option_map}
use Rattle.std.proofs.lemmas.List.{append-nil, map-append}
use Rattle.data_theory.specs.Terms.{Sort, boolean, positive, natural, integer, list, named, Symbol, truth, falsity, negation, conjunction, disjunction, implication, equality, inequality, conditional, comparison, arithmetic, minus, upcast, empty, cons, snoc, concatenation, size, element_at, head, rhead, tail, rtail, membership, function, Term, Terms, variable, numeral, unknown, application, none, more}
use Rattle.data_theory.specs.Equations.{trueᵗ, falseᵗ}
use Rattle.data_theory.specs.Environments.{Environment, bound}
use Rattle.process_terms.specs.Theories.{Theory, Equals, no_terms, more_terms, IsConsistent}
use Rattle.process_terms.specs.Labels.{Action, Label, AgreeAction, equal_args, AgreeInOrder, both_silent, next_agree}
use Rattle.process_terms.specs.Processes as processes
use Rattle.process_terms.specs.Processes.{Bound, Body, written_delta, written_act, written_choice, written_seq, written_cond, written_sum, written_call, written_merge, written_starting, written_around, Definition, Table, Process, delta, act, choice, seq, sum, call, merge, starting, around, close}
use Rattle.process_terms.specs.Steps.{Outcome, Step}
use Rattle.bisim_laws.specs.Bisimulations.{Lands, both_end, both_go_on, Answers, Flipped, Bisimulation}
use Rattle.bisim_laws.specs.Links.{Pairs, IsGood}
use Rattle.bisim_laws.proofs.AlikeProcesses.{answer_weaken}
use Rattle.sort_table.specs.Expressions.{Name}
use Rattle.sort_table.specs.NamedLists.{all_named, first_named}
use Rattle.sort_table.specs.Growth.{More, with_more}
use Rattle.sort_table.specs.Vocabularies.{Vocabulary}
use Rattle.sort_table.proofs.Growing.{first_behind, all_behind}
use Rattle.lin_driver.specs.Renumberings.{Renumbering, back, new_sort, new_symbol, new_term, new_terms, new_action, new_label, new_body, new_definition, new_table, new_process, new_outcome, TakesVocabulary, TakesTheory}
use Rattle.lin_driver.specs.SameProcesses.{SameDefinition, SameDefinitions, SameProcess, same_delta, same_act, same_choice, same_seq, same_cond, same_sum, same_call, same_merge, same_starting, same_around}
use Rattle.lin_driver.specs.EachReading.{FindsVocabulary, Under, under, WhatStandsForATextDoesSoInEachReading}
use Rattle.lin_driver.proofs.NewTerms.{list_back, new_long}
use Rattle.lin_driver.proofs.NewSteps.{new_close, new_bindings, table_back, label_back, process_back, theory_back, new_step}
use Rattle.lin_driver.proofs.SameSteps.{process_turned, same_step}
use Rattle.lin_driver.proofs.OneReading.{texts_have_one_reading}

-- ---- one renumbering and then another
abbrev and_then : Renumbering → Renumbering → Renumbering
and_then r t = record {
  sorts = λ d. t.sorts (r.sorts d);
  old_sorts = λ d. r.old_sorts (t.old_sorts d);
  functions = λ k. t.functions (r.functions k);
  old_functions = λ k. r.old_functions (t.old_functions k);
  sorts_back = λ d. ap r.old_sorts (t.sorts_back (r.sorts d)) ∙ r.sorts_back d;
  sorts_there = λ d. ap t.sorts (r.sorts_there (t.old_sorts d)) ∙ t.sorts_there d;
  functions_back = λ k. ap r.old_functions (t.functions_back (r.functions k)) ∙ r.functions_back k;
  functions_there = λ k. ap t.functions (r.functions_there (t.old_functions k)) ∙ t.functions_there k;
}

sort_then : (r t : Renumbering) (s : Sort) → new_sort (and_then r t) s ≡ new_sort t (new_sort r s)
sort_then r t boolean = refl
sort_then r t positive = refl
sort_then r t natural = refl
sort_then r t integer = refl
sort_then r t (list s) = ap list (sort_then r t s)
sort_then r t (named d) = refl

sorts_then : (r t : Renumbering) (ss : List Sort) → map (new_sort (and_then r t)) ss ≡ map (new_sort t) (map (new_sort r) ss)
sorts_then r t [] = refl
sorts_then r t (s ∷ ss) = ap₂ (λ (x : Sort) (xs : List Sort). x ∷ xs) (sort_then r t s) (sorts_then r t ss)

symbol_then : (r t : Renumbering) (f : Symbol) → new_symbol (and_then r t) f ≡ new_symbol t (new_symbol r f)
symbol_then r t truth = refl
symbol_then r t falsity = refl
symbol_then r t negation = refl
symbol_then r t conjunction = refl
symbol_then r t disjunction = refl
symbol_then r t implication = refl
symbol_then r t (equality s) = ap equality (sort_then r t s)
symbol_then r t (inequality s) = ap inequality (sort_then r t s)
symbol_then r t (conditional s) = ap conditional (sort_then r t s)
symbol_then r t (comparison c s) = ap (comparison c) (sort_then r t s)
symbol_then r t (arithmetic op ss to) = ap₂ (arithmetic op) (sorts_then r t ss) (sort_then r t to)
symbol_then r t (minus s) = ap minus (sort_then r t s)
symbol_then r t (upcast s to) = ap₂ upcast (sort_then r t s) (sort_then r t to)
symbol_then r t (empty s) = ap empty (sort_then r t s)
symbol_then r t (cons s) = ap cons (sort_then r t s)
symbol_then r t (snoc s) = ap snoc (sort_then r t s)
symbol_then r t (concatenation s) = ap concatenation (sort_then r t s)
symbol_then r t (size s) = ap size (sort_then r t s)
symbol_then r t (element_at s) = ap element_at (sort_then r t s)
symbol_then r t (head s) = ap head (sort_then r t s)
symbol_then r t (rhead s) = ap rhead (sort_then r t s)
symbol_then r t (tail s) = ap tail (sort_then r t s)
symbol_then r t (rtail s) = ap rtail (sort_then r t s)
symbol_then r t (membership s) = ap membership (sort_then r t s)
symbol_then r t (function k) = refl

mutual
  term_then : (r t : Renumbering) (x : Term) → new_term (and_then r t) x ≡ new_term t (new_term r x)
  term_then r t (variable v) = refl
  term_then r t (numeral s z) = ap (λ (x : Sort). numeral x z) (sort_then r t s)
  term_then r t (unknown d k) = refl
  term_then r t (application f xs) = ap₂ application (symbol_then r t f) (terms_then r t xs)

  terms_then : (r t : Renumbering) (xs : Terms) → new_terms (and_then r t) xs ≡ new_terms t (new_terms r xs)
  terms_then r t none = refl
  terms_then r t (more x xs) = ap₂ more (term_then r t x) (terms_then r t xs)

list_then : (r t : Renumbering) (xs : List Term) → map (new_term (and_then r t)) xs ≡ map (new_term t) (map (new_term r) xs)
list_then r t [] = refl
list_then r t (x ∷ xs) = ap₂ (λ (y : Term) (ys : List Term). y ∷ ys) (term_then r t x) (list_then r t xs)

label_then : (r t : Renumbering) (m : Label) → new_label (and_then r t) m ≡ new_label t (new_label r m)
label_then r t [] = refl
label_then r t (a ∷ m) = λ i. record { name = a.name; sorts = sorts_then r t a.sorts i; args = list_then r t a.args i } ∷ label_then r t m i

body_then : (r t : Renumbering) (b : Body) → new_body (and_then r t) b ≡ new_body t (new_body r b)
body_then r t written_delta = refl
body_then r t (written_act m) = ap written_act (label_then r t m)
body_then r t (written_choice p q) = ap₂ written_choice (body_then r t p) (body_then r t q)
body_then r t (written_seq p q) = ap₂ written_seq (body_then r t p) (body_then r t q)
body_then r t (written_cond c p q) = λ i. written_cond (term_then r t c i) (body_then r t p i) (body_then r t q i)
body_then r t (written_sum x p) = λ i. written_sum (record { var = x.var; sort = sort_then r t x.sort i }) (body_then r t p i)
body_then r t (written_call x ts) = ap (written_call x) (list_then r t ts)
body_then r t (written_merge p q) = ap₂ written_merge (body_then r t p) (body_then r t q)
body_then r t (written_starting o p q) = ap₂ (written_starting o) (body_then r t p) (body_then r t q)
body_then r t (written_around o p) = ap (written_around o) (body_then r t p)

table_then : (r t : Renumbering) (d : Table) → new_table (and_then r t) d ≡ new_table t (new_table r d)
table_then r t [] = refl
table_then r t (f ∷ d) = λ i. record { params = f.params; body = body_then r t f.body i } ∷ table_then r t d i

process_then : (r t : Renumbering) (p : Process) → new_process (and_then r t) p ≡ new_process t (new_process r p)
process_then r t delta = refl
process_then r t (act m) = ap act (label_then r t m)
process_then r t (choice p q) = ap₂ choice (process_then r t p) (process_then r t q)
process_then r t (seq p q) = ap₂ seq (process_then r t p) (process_then r t q)
process_then r t (processes.cond c p q) = λ i. processes.cond (term_then r t c i) (process_then r t p i) (process_then r t q i)
process_then r t (sum s f) = λ i. sum (sort_then r t s i) (λ x. (process_then r t (f (new_term (and_then (back t) (back r)) x)) ∙ ap (λ (y : Term). new_process t (new_process r (f y))) (term_then (back t) (back r) x)) i)
process_then r t (call d x ts) = λ i. call (table_then r t d i) x (list_then r t ts i)
process_then r t (merge p q) = ap₂ merge (process_then r t p) (process_then r t q)
process_then r t (starting o p q) = ap₂ (starting o) (process_then r t p) (process_then r t q)
process_then r t (around o p) = ap (around o) (process_then r t p)

-- ---- what is the same stays so
module _ (r : Renumbering) where
  closed_new : (d : Table) (f : Definition) (ts : List Term) → new_process r (close (new_table (back r) d) (bound f.params (map (new_term (back r)) ts)) f.body) ≡ close d (bound f.params ts) (new_body r f.body)
  closed_new d f ts =
      new_close r (new_table (back r) d) (bound f.params (map (new_term (back r)) ts)) f.body
      ∙ ap₂ (λ (e : Table) (k : Environment). close e k (new_body r f.body)) (table_back (back r) d) (new_bindings r f.params (map (new_term (back r)) ts) ∙ ap (bound f.params) (list_back (back r) ts))

  definition_stays : (f g : Definition) → SameDefinition f g → SameDefinition (new_definition r f) (new_definition r g)
  definition_stays f g h = record {
    params = h.params;
    bodies = λ d ts l. sym (closed_new d f ts) ∙ ap (new_process r) (h.bodies (new_table (back r) d) (map (new_term (back r)) ts) (new_long (new_term (back r)) ts ∙ l)) ∙ closed_new d g ts;
  }

  definitions_stay : (d e : Table) → SameDefinitions d e → SameDefinitions (new_table r d) (new_table r e)
  definitions_stay [] [] h = tt
  definitions_stay [] (g ∷ e) h = absurd h
  definitions_stay (f ∷ d) [] h = absurd h
  definitions_stay (f ∷ d) (g ∷ e) h = (definition_stays f g h.0, definitions_stay d e h.1)

  process_stays : {p q : Process} → SameProcess p q → SameProcess (new_process r p) (new_process r q)
  process_stays same_delta = same_delta
  process_stays same_act = same_act
  process_stays (same_choice h k) = same_choice (process_stays h) (process_stays k)
  process_stays (same_seq h k) = same_seq (process_stays h) (process_stays k)
  process_stays (same_cond h k) = same_cond (process_stays h) (process_stays k)
  process_stays (same_sum h) = same_sum (λ t. process_stays (h (new_term (back r) t)))
  process_stays (same_call {d = d} {e = e} h) = same_call (definitions_stay d e h)
  process_stays (same_merge h k) = same_merge (process_stays h) (process_stays k)
  process_stays (same_starting h k) = same_starting (process_stays h) (process_stays k)
  process_stays (same_around h) = same_around (process_stays h)

-- ---- relations under new numbers
module _ (r : Renumbering) (th ti : Theory) (takes : TakesTheory r th ti) where
  new_equals : {ts us : List Term} → Equals th ts us → Equals ti (map (new_term r) ts) (map (new_term r) us)
  new_equals no_terms = no_terms
  new_equals (more_terms {t = t} {u = u} h hs) = more_terms ((takes.equal t u).0 h) (new_equals hs)

  new_agree_action : {a b : Action} → AgreeAction th a b → AgreeAction ti (new_action r a) (new_action r b)
  new_agree_action (equal_args h) = equal_args (new_equals h)

  new_agree : {m n : Label} → AgreeInOrder th m n → AgreeInOrder ti (new_label r m) (new_label r n)
  new_agree both_silent = both_silent
  new_agree (next_agree h hs) = next_agree (new_agree_action h) (new_agree hs)

  lands_under : (R : Process → Process → Type 0) (o u z x : Outcome) → Lands SameProcess o u → Lands R (new_outcome (back r) u) z → Lands SameProcess (new_outcome r z) x → Lands (Under r R) o x
  lands_under R _ _ _ _ both_end both_end both_end = both_end
  lands_under R _ _ _ _ (both_go_on {p = p} {q = q} h) (both_go_on k) (both_go_on i) = both_go_on (under (subst (λ (y : Process). SameProcess p y) (sym (process_back (back r) q)) h) k i)

  answers_under : (R : Process → Process → Type 0) → Answers th R R → Answers ti (Under r R) (Under r R)
  answers_under R good p q m o (under {a = a} {b = b} h k i) s =
      let x = same_step ti h s in
      let first : Step th a (new_label (back r) m) (new_outcome (back r) x.0) = subst (λ (y : Process). Step th y (new_label (back r) m) (new_outcome (back r) x.0)) (process_back r a) (new_step (back r) ti th (theory_back r th ti takes) x.1) in
      let answer = good a b (new_label (back r) m) (new_outcome (back r) x.0) k first in
      let y = same_step ti i (new_step r th ti takes answer.step) in
      record {
        label = new_label r answer.label;
        outcome = y.0;
        step = y.1;
        agree = subst (λ (l : Label). AgreeInOrder ti l (new_label r answer.label)) (label_back (back r) m) (new_agree answer.agree);
        lands = lands_under R o x.0 answer.outcome y.0 x.2 answer.lands y.2;
      }

  flipped : (R : Process → Process → Type 0) {p q : Process} → Under r R p q → Under r (Flipped R) q p
  flipped R (under h k i) = under (process_turned i) k (process_turned h)

  unflipped : (R : Process → Process → Type 0) {p q : Process} → Under r (Flipped R) q p → Under r R p q
  unflipped R (under h k i) = under (process_turned i) k (process_turned h)

  bisimulation_under : (R : Process → Process → Type 0) → Bisimulation th R → Bisimulation ti (Under r R)
  bisimulation_under R is = record {
    forth = answers_under R is.forth;
    back = λ p q m o h s. answer_weaken (λ x y k. unflipped R k) (answers_under (Flipped R) is.back p q m o (flipped R h) s);
  }

  pub consistent_under : IsConsistent ti → IsConsistent th
  consistent_under c e = c ((takes.equal trueᵗ falseᵗ).0 e)

-- ---- vocabularies
numbers_then : (r t : Renumbering) (ks : List ℕ) → map t.functions (map r.functions ks) ≡ map (and_then r t).functions ks
numbers_then r t [] = refl
numbers_then r t (k ∷ ks) = ap (λ xs. t.functions (r.functions k) ∷ xs) (numbers_then r t ks)

lists_then : (r t : Renumbering) (sss : List (List Sort)) → map (map (new_sort t)) (map (map (new_sort r)) sss) ≡ map (map (new_sort (and_then r t))) sss
lists_then r t [] = refl
lists_then r t (ss ∷ sss) = ap₂ (λ (x : List Sort) (xs : List (List Sort)). x ∷ xs) (sym (sorts_then r t ss)) (lists_then r t sss)

found : (r t : Renumbering) (v x y w : Vocabulary) (m : More) → TakesVocabulary r v x → y ≡ with_more x m → m.actions ≡ [] → TakesVocabulary t y w → FindsVocabulary (and_then r t) v w
found r t v x y w m first grown no_more second = record {
  sorts = λ n s h. (
      let one : first_named n x.sort_names ≡ Some (new_sort r s) = first.sorts n ∙ ap (option_map (new_sort r)) h in
      let two : first_named n y.sort_names ≡ Some (new_sort r s) = ap (λ (z : Vocabulary). first_named n z.sort_names) grown ∙ first_behind n x.sort_names m.sort_names (new_sort r s) one in
      second.sorts n ∙ ap (option_map (new_sort t)) two ∙ ap (λ (z : Sort). Some z) (sym (sort_then r t s))
      );
  functions = λ f. (
    map t.functions (all_named f m.function_names),
    second.functions f ∙ ap (map t.functions) (ap (λ (z : Vocabulary). all_named f z.function_names) grown ∙ all_behind f x.function_names m.function_names)
        ∙ map-append t.functions (all_named f x.function_names) (all_named f m.function_names)
        ∙ ap (λ ks. ks ++ map t.functions (all_named f m.function_names)) (ap (map t.functions) (first.functions f) ∙ numbers_then r t (all_named f v.function_names)),
  );
  actions = λ a. second.actions a ∙ ap (map (map (new_sort t))) (ap (λ (z : Vocabulary). all_named a z.actions) grown ∙ ap (all_named a) (ap (λ as_. x.actions ++ as_) no_more ∙ append-nil x.actions) ∙ first.actions a) ∙ lists_then r t (all_named a v.actions);
}

-- ---- the law
pub each_reading_stands : WhatStandsForATextDoesSoInEachReading
each_reading_stands text printed one v w th ti p q own its =
    let first = texts_have_one_reading text v one.vocabulary th one.own_theory p one.process own one.specifies in
    let second = texts_have_one_reading printed one.printed_vocabulary w one.theory ti one.linear q one.printed_specifies its in
    let takes : TakesTheory second.0 one.theory ti = second.1.theory in
    let good : IsConsistent ti → IsGood one.theory one.link one.process one.linear = λ c. one.bisimilar (consistent_under second.0 one.theory ti takes c) in
    record {
      numbers = and_then first.0 second.0;
      found = found first.0 second.0 v.declared one.vocabulary.declared one.printed_vocabulary.declared w.declared one.numbers.0 first.1.vocabulary.declared one.numbers.1 one.numbers.2 second.1.vocabulary.declared;
      link_numbers = second.0;
      starts = λ c. under (subst (λ (x : Process). SameProcess x (new_process second.0 one.process)) (sym (process_then first.0 second.0 p)) (process_stays second.0 first.1.process)) (good c).starts second.1.process;
      follows = λ c. bisimulation_under second.0 one.theory ti takes (Pairs one.theory one.link) (good c).follows;
    }
