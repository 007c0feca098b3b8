-- A firing keeps the sorts of the arguments.
use Rattle.std.proofs.Common.{◌≡◌, ℕ, zero, suc, ⊎_elim, List, [], ◌∷◌, ◌++◌, sym, ◌∙◌, subst, Option, Some, None}
use Rattle.std.specs.Prelude.{Contains}
use Rattle.std.proofs.lemmas.List.Elements.{Contains-append_cases}
use Rattle.data_theory.specs.Terms.{Sort, Term, Terms, variable, numeral, unknown, application, none, more, put, put_all}
use Rattle.data_theory.specs.Declarations.{Data, Declares, argument_sorts, HasSort, HaveSorts}
use Rattle.data_theory.specs.Environments.{Environment, term_in, terms_of, IsOver, AreOver}
use Rattle.data_theory.proofs.EnvironmentLemmas.{contains_nothing, contains_cases as number_cases, applications_have_sorts, putting_in_goes_through_lists}
use Rattle.process_terms.specs.Theories.{Theory, IsOfSort, AreOfSorts}
use Rattle.process_terms.specs.Processes.{Bound}
use Rattle.bisim_laws.specs.LinearProcesses.{variables, sorts, NextIsOver, next_over, NextIsSorted, next_sorted, AreDeclared, reading, put_next, AreBound}
use Rattle.bisim_laws.specs.LinkLaws.{FiringsKeepSorts}
use Rattle.bisim_laws.proofs.Firing.{contains_first, contains_later, contains_cases, contains_none}

-- the variables of a list have their terms' sorts
abbrev pub HaveTerms : Data → List Sort → List ℕ → (ℕ → Term) → Type 0
HaveTerms g vs xs e = (v : ℕ) (s : Sort) → Contains xs v → Declares vs v s → HasSort g [] (e v) s

mutual
  pub put_sorted : (g : Data) (vs : List Sort) (xs : List ℕ) (e : ℕ → Term) → HaveTerms g vs xs e → (t : Term) (s : Sort) → IsOver xs t → HasSort g vs t s → HasSort g [] (put e t) s
  put_sorted g vs xs e f (variable v) s i h = f v s i h
  put_sorted g vs xs e f (numeral a z) s i h = h
  put_sorted g vs xs e f (unknown d k) s i h = h
  put_sorted g vs xs e f (application k ts) s i h =
      subst (λ r. HasSort g [] (put e (application k ts)) r) h.2 (applications_have_sorts g [] k (put_all e ts) h.0 (put_all_sorted g vs xs e f ts (argument_sorts g k) i h.1))

  pub put_all_sorted : (g : Data) (vs : List Sort) (xs : List ℕ) (e : ℕ → Term) → HaveTerms g vs xs e → (ts : Terms) (ss : List Sort) → AreOver xs ts → HaveSorts g vs ts ss → HaveSorts g [] (put_all e ts) ss
  put_all_sorted g vs xs e f none [] i h = tt
  put_all_sorted g vs xs e f none (s ∷ ss) i h = absurd h
  put_all_sorted g vs xs e f (more t ts) [] i h = absurd h
  put_all_sorted g vs xs e f (more t ts) (s ∷ ss) i h = (put_sorted g vs xs e f t s i.0 h.0, put_all_sorted g vs xs e f ts ss i.1 h.1)

-- a variable has one sort
pub one_sort : (vs : List Sort) (v : ℕ) (a b : Sort) → Declares vs v a → Declares vs v b → a ≡ b
one_sort [] v a b h k = absurd h
one_sort (s ∷ vs) zero a b h k = sym h ∙ k
one_sort (s ∷ vs) (suc v) a b h k = one_sort vs v a b h k

-- bound variables with terms of their sorts
pub bound_sorted : (th : Theory) (vs : List Sort) (xs : List Bound) (e : Environment) → AreDeclared vs xs → AreBound th xs e → HaveTerms th.declared vs (variables xs) (term_in e)
bound_sorted th vs [] e d h v s i k = absurd (contains_nothing v i)
bound_sorted th vs (x ∷ xs) e d h v s i k = ⊎_elim
    (λ q. subst (λ z. IsOfSort th s (term_in e z)) q
    (subst (λ r. IsOfSort th r (term_in e x.var)) (one_sort vs x.var x.sort s (d x (contains_first x xs)) (subst (λ z. Declares vs z s) (sym q) k)) (h x (contains_first x xs))))
    (λ j. bound_sorted th vs xs e (λ y l. d y (contains_later x y xs l)) (λ y l. h y (contains_later x y xs l)) v s j k)
    (number_cases x.var v (variables xs) i)

-- what is read for the parameters has their sorts
pub read_sorted : (th : Theory) (xs : List Bound) (e : Environment) → AreOfSorts th (sorts xs) (reading e (variables xs)) → AreBound th xs e
read_sorted th [] e h y i = absurd (contains_none y i)
read_sorted th (x ∷ xs) e h y i = ⊎_elim (λ q. subst (λ z. IsOfSort th z.sort (term_in e z.var)) q h.0) (λ j. read_sorted th xs e h.1 y j) (contains_cases x y xs i)

pub terms_on_both : (g : Data) (vs : List Sort) (xs ys : List ℕ) (e : ℕ → Term) → HaveTerms g vs xs e → HaveTerms g vs ys e → HaveTerms g vs (xs ++ ys) e
terms_on_both g vs xs ys e f h v s i k = ⊎_elim (λ j. f v s j k) (λ j. h v s j k) (Contains-append_cases xs ys v i)

pub next_of_sorts : (g : Data) (vs : List Sort) (xs : List ℕ) (params : List Bound) (e : Environment) → HaveTerms g vs xs (term_in e) → (next : Option (List Term)) → NextIsOver xs params next
    → NextIsSorted g vs (sorts params) next → (us : List Term) → Some us ≡ put_next e next → HaveSorts g [] (terms_of us) (sorts params)
next_of_sorts g vs xs params e f None i h us q = absurd (none_is_some q)
  where
    none_is_some : {us : List Term} → Some us ≡ None → ⊥
    none_is_some q = cc
next_of_sorts g vs xs params e f (Some ts) (next_over i l) (next_sorted h) us q =
    subst (λ ts. HaveSorts g [] (terms_of ts) (sorts params)) (sym (same_list q))
    (subst (λ ts. HaveSorts g [] ts (sorts params)) (putting_in_goes_through_lists (term_in e) ts) (put_all_sorted g vs xs (term_in e) f (terms_of ts) (sorts params) i h))
  where
    same_list : {us ts : List Term} → Some us ≡ Some ts → us ≡ ts
    same_list q = cc

pub firings_keep : FiringsKeepSorts
firings_keep th vs l ts us m is sorted h k =
    let s = k.summand in
    let f = sorted.summands s k.among in
    let params : AreBound th l.params k.environment = read_sorted th l.params k.environment (subst (λ us. AreOfSorts th (sorts l.params) us) (sym k.reads) h) in
    next_of_sorts th.declared vs (variables s.sums ++ variables l.params) l.params k.environment
    (terms_on_both th.declared vs (variables s.sums) (variables l.params) (term_in k.environment)
    (bound_sorted th vs s.sums k.environment f.sums k.bound)
    (bound_sorted th vs l.params k.environment sorted.params params))
    s.next (is.summands s k.among).next f.next us k.does.onward
