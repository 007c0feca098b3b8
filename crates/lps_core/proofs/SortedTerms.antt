-- What sorts terms have.
use Rattle.std.proofs.Common.{◌≡◌, ℕ, zero, suc, List, [], ◌∷◌, ◌++◌, map, length, refl, sym, ap, ◌∙◌, subst, ⊎_elim, cond, Option}
use Rattle.std.proofs.lemmas.List.{length-map, map-append}
use Rattle.std.specs.Prelude.{Contains}
use Rattle.std.proofs.lemmas.Bool.Decides.{eqb_tells}
use Rattle.std.proofs.lemmas.List.Elements.{Contains-append_cases}
use Rattle.data_theory.specs.Terms.{Sort, Term, Terms, variable, numeral, unknown, application, none, more, put, put_all}
use Rattle.data_theory.specs.Declarations.{Data, Declares, argument_sorts, HasSort, HaveSorts}
use Rattle.data_theory.specs.Environments.{Environment, term_in, terms_of, IsOver, AreOver}
use Rattle.data_theory.proofs.EnvironmentLemmas.{contains_nothing, contains_cases, putting_in_goes_through_lists, putting_all_in_keeps_sorts, applications_have_sorts}
use Rattle.process_terms.specs.Theories.{Theory, IsOfSort, AreOfSorts}
use Rattle.process_terms.specs.Labels.{Label, put_label}
use Rattle.process_terms.specs.Processes.{Bound}
use Rattle.bisim_laws.specs.LinearProcesses.{variables, sorts, LabelIsSorted, no_action_to_sort, action_sorted, NextIsSorted, no_next_to_sort, next_sorted, AreDeclared, AreBound, reading, put_next}
use Rattle.bisim_laws.proofs.Firing.{contains_first as bound_first, contains_later as bound_later, contains_none as bound_none, contains_cases as bound_cases}
use Rattle.lps_core.specs.Moving.{renaming_to, SameSorts, no_more, one_more}
use Rattle.lps_core.specs.Columns.{as_terms}

-- ---- with terms put in
pub one_sort : (vs : List Sort) (v : ℕ) (a b : Sort) → Declares vs v a → Declares vs v b → a ≡ b
one_sort [] v a b h k = absurd h
one_sort (s ∷ vs) zero a b h k = sym h ∙ k
one_sort (s ∷ vs) (suc v) a b h k = one_sort vs v a b h k

-- each term that is put in has its variable's sort
abbrev pub HaveTheirSorts : Data → List Sort → List Sort → (ℕ → Term) → Type 0
HaveTheirSorts g vs us e = (v : ℕ) (s : Sort) → Declares vs v s → HasSort g us (e v) s

pub label_sorted : (g : Data) (vs us : List Sort) (r : Environment) → HaveTheirSorts g vs us (term_in r) → (m : Label) → LabelIsSorted g vs m → LabelIsSorted g us (put_label r m)
label_sorted g vs us r h _ no_action_to_sort = no_action_to_sort
label_sorted g vs us r h _ (action_sorted {a = a} {m = m} i k) =
    action_sorted (subst (λ ts. HaveSorts g us ts a.sorts) (putting_in_goes_through_lists (term_in r) a.args) (putting_all_in_keeps_sorts g vs us (term_in r) h (terms_of a.args) a.sorts i)) (label_sorted g vs us r h m k)

pub puts_sorted : (g : Data) (vs us : List Sort) (e : ℕ → Term) → HaveTheirSorts g vs us e → (ts : List Term) (ss : List Sort) → HaveSorts g vs (terms_of ts) ss → HaveSorts g us (terms_of (map (put e) ts)) ss
puts_sorted g vs us e h ts ss i = subst (λ z. HaveSorts g us z ss) (putting_in_goes_through_lists e ts) (putting_all_in_keeps_sorts g vs us e h (terms_of ts) ss i)

pub next_sorted_put : (g : Data) (vs us ss : List Sort) (r : Environment) → HaveTheirSorts g vs us (term_in r) → (next : Option (List Term)) → NextIsSorted g vs ss next → NextIsSorted g us ss (put_next r next)
next_sorted_put g vs us ss r h _ no_next_to_sort = no_next_to_sort
next_sorted_put g vs us ss r h _ (next_sorted {ts = ts} i) = next_sorted (puts_sorted g vs us (term_in r) h ts ss i)

pub renamed_sorted : (g : Data) (vs : List Sort) {xs ys : List Bound} → SameSorts xs ys → AreDeclared vs xs → AreDeclared vs ys → HaveTheirSorts g vs vs (term_in (renaming_to (variables xs) (variables ys)))
renamed_sorted g vs no_more d e v s h = h
renamed_sorted g vs (one_more {x = x} {y = y} {xs = xs} {ys = ys} q k) d e v s h = ⊎_elim
    (λ w. subst (λ b. HasSort g vs (cond b (variable y.var) (term_in (renaming_to (variables xs) (variables ys)) v)) s) (sym w.0)
    (subst (λ z. Declares vs y.var z) (sym q ∙ one_sort vs v x.sort s (subst (λ z. Declares vs z x.sort) w.1 (d x (bound_first x xs))) h) (e y (bound_first y ys))))
    (λ w. subst (λ b. HasSort g vs (cond b (variable y.var) (term_in (renaming_to (variables xs) (variables ys)) v)) s) (sym w.0)
    (renamed_sorted g vs k (λ z i. d z (bound_later x z xs i)) (λ z i. e z (bound_later y z ys i)) v s h))
    (eqb_tells x.var v)

-- ---- closed instances
-- the variables of a list have closed terms of their sorts
abbrev pub HaveTerms : Data → List Sort → List ℕ → (ℕ → Term) → Type 0
HaveTerms g vs xs e = (v : ℕ) (s : Sort) → Contains xs v → Declares vs v s → HasSort g [] (e v) s

mutual
  pub closed_instance : (g : Data) (vs : List Sort) (xs : List ℕ) (e : ℕ → Term) → HaveTerms g vs xs e → (t : Term) (s : Sort) → IsOver xs t → HasSort g vs t s → HasSort g [] (put e t) s
  closed_instance g vs xs e f (variable v) s i h = f v s i h
  closed_instance g vs xs e f (numeral a z) s i h = h
  closed_instance g vs xs e f (unknown d k) s i h = h
  closed_instance g vs xs e f (application k ts) s i h =
      subst (λ r. HasSort g [] (put e (application k ts)) r) h.2 (applications_have_sorts g [] k (put_all e ts) h.0 (closed_instances g vs xs e f ts (argument_sorts g k) i h.1))

  closed_instances : (g : Data) (vs : List Sort) (xs : List ℕ) (e : ℕ → Term) → HaveTerms g vs xs e → (ts : Terms) (ss : List Sort) → AreOver xs ts → HaveSorts g vs ts ss → HaveSorts g [] (put_all e ts) ss
  closed_instances g vs xs e f none [] i h = tt
  closed_instances g vs xs e f none (s ∷ ss) i h = absurd h
  closed_instances g vs xs e f (more t ts) [] i h = absurd h
  closed_instances g vs xs e f (more t ts) (s ∷ ss) i h = (closed_instance g vs xs e f t s i.0 h.0, closed_instances g vs xs e f ts ss i.1 h.1)

pub bound_have_terms : (th : Theory) (vs : List Sort) (xs : List Bound) (e : Environment) → AreDeclared vs xs → AreBound th xs e → HaveTerms th.declared vs (variables xs) (term_in e)
bound_have_terms th vs [] e d h v s i k = absurd (contains_nothing v i)
bound_have_terms th vs (x ∷ xs) e d h v s i k = ⊎_elim
    (λ q. subst (λ z. IsOfSort th s (term_in e z)) q
    (subst (λ r. IsOfSort th r (term_in e x.var)) (one_sort vs x.var x.sort s (d x (bound_first x xs)) (subst (λ z. Declares vs z s) (sym q) k)) (h x (bound_first x xs))))
    (λ j. bound_have_terms th vs xs e (λ y l. d y (bound_later x y xs l)) (λ y l. h y (bound_later x y xs l)) v s j k)
    (contains_cases x.var v (variables xs) i)

-- what is read for variables has their sorts, and the other way round
pub read_bound : (th : Theory) (xs : List Bound) (e : Environment) → AreOfSorts th (sorts xs) (reading e (variables xs)) → AreBound th xs e
read_bound th [] e h y i = absurd (bound_none y i)
read_bound th (x ∷ xs) e h y i = ⊎_elim (λ q. subst (λ z. IsOfSort th z.sort (term_in e z.var)) q h.0) (λ j. read_bound th xs e h.1 y j) (bound_cases x y xs i)

pub both_have_terms : (g : Data) (vs : List Sort) (xs ys : List ℕ) (e : ℕ → Term) → HaveTerms g vs xs e → HaveTerms g vs ys e → HaveTerms g vs (xs ++ ys) e
both_have_terms g vs xs ys e f h v s i k = ⊎_elim (λ j. f v s j k) (λ j. h v s j k) (Contains-append_cases xs ys v i)

-- ---- lists of terms
pub sorts_append : (g : Data) (vs : List Sort) (ts us : List Term) (ss rs : List Sort) → HaveSorts g vs (terms_of ts) ss → HaveSorts g vs (terms_of us) rs → HaveSorts g vs (terms_of (ts ++ us)) (ss ++ rs)
sorts_append g vs [] us [] rs h k = k
sorts_append g vs [] us (s ∷ ss) rs h k = absurd h
sorts_append g vs (t ∷ ts) us [] rs h k = absurd h
sorts_append g vs (t ∷ ts) us (s ∷ ss) rs h k = (h.0, sorts_append g vs ts us ss rs h.1 k)

pub sorts_long : (g : Data) (vs : List Sort) (ts : List Term) (ss : List Sort) → HaveSorts g vs (terms_of ts) ss → length ts ≡ length ss
sorts_long g vs [] [] h = refl
sorts_long g vs [] (s ∷ ss) h = absurd h
sorts_long g vs (t ∷ ts) [] h = absurd h
sorts_long g vs (t ∷ ts) (s ∷ ss) h = ap suc (sorts_long g vs ts ss h.1)

pub columns_long : (g : Data) (vs : List Sort) (ts : List Term) (xs : List Bound) → HaveSorts g vs (terms_of ts) (sorts xs) → length ts ≡ length xs
columns_long g vs ts xs h = sorts_long g vs ts (sorts xs) h ∙ length-map xs (λ x. x.sort)

pub columns_sorted : (g : Data) (vs : List Sort) (xs ys : List Bound) (ts us : List Term) → HaveSorts g vs (terms_of ts) (sorts xs) → HaveSorts g vs (terms_of us) (sorts ys) → HaveSorts g vs (terms_of (ts ++ us)) (sorts (xs ++ ys))
columns_sorted g vs xs ys ts us h k = subst (λ ss. HaveSorts g vs (terms_of (ts ++ us)) ss) (sym (map-append (λ x. x.sort) xs ys)) (sorts_append g vs ts us (sorts xs) (sorts ys) h k)

pub label_sorted_append : {g : Data} {vs : List Sort} {m n : Label} → LabelIsSorted g vs m → LabelIsSorted g vs n → LabelIsSorted g vs (m ++ n)
label_sorted_append no_action_to_sort k = k
label_sorted_append (action_sorted h i) k = action_sorted h (label_sorted_append i k)

pub variables_sorted : (g : Data) (vs : List Sort) (xs : List Bound) → AreDeclared vs xs → HaveSorts g vs (terms_of (as_terms xs)) (sorts xs)
variables_sorted g vs [] d = tt
variables_sorted g vs (x ∷ xs) d = (d x (bound_first x xs), variables_sorted g vs xs (λ y i. d y (bound_later x y xs i)))

pub declared_both : (vs : List Sort) (xs ys : List Bound) → AreDeclared vs xs → AreDeclared vs ys → AreDeclared vs (xs ++ ys)
declared_both vs xs ys h k x i = ⊎_elim (λ j. h x j) (λ j. k x j) (Contains-append_cases xs ys x i)
