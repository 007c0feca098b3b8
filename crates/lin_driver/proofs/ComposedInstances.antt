-- What is an instance of a term with closed terms in it is an instance of the term itself.
use Rattle.std.proofs.Common.{◌≡◌, ◌⊎◌, inl, inr, ⊎_elim, cond, ℕ, List, [], ◌∷◌, ◌++◌, map, length, sym, ap, ◌∙◌, subst, arith}
use Rattle.std.specs.Prelude.{Contains}
use Rattle.std.proofs.lemmas.Bool.Decides.{eqb_tells}
use Rattle.std.proofs.lemmas.List.{length-map}
use Rattle.std.proofs.lemmas.List.Elements.{Contains-append_left, Contains-append_right}
use Rattle.data_theory.specs.Terms.{Sort, positive, natural, integer, Symbol, upcast, minus, Term, Terms, variable, numeral, unknown, application, none, more, apply, put, put_all}
use Rattle.data_theory.specs.Declarations.{Data, HaveSorts}
use Rattle.data_theory.specs.Environments.{Environment, term_in, bound, bound_variables, terms_of, IsOver, AreOver}
use Rattle.data_theory.proofs.EnvironmentLemmas.{contains_first, contains_later, contains_nothing, front_is_read, front_is_skipped, unbound_stay, bound_together, bound_are_the_parameters, putting_in_twice, closed_terms_stay, closed_terms_fit}
use Rattle.process_terms.specs.Processes.{Bound}
use Rattle.bisim_laws.specs.LinearProcesses.{variables, sorts, AreDeclared}
use Rattle.lps_core.specs.MadeTerms.{Origin, AreMade, IsInstance, an_instance}
use Rattle.lps_core.proofs.Environments.{later_in, variables_append}
use Rattle.lps_core.proofs.MeantTrees.{put_pointwise}
use Rattle.lps_core.proofs.SortedTerms.{columns_sorted, columns_long, declared_both}
use Rattle.bisim_laws.proofs.Firing.{contains_none}
use Rattle.stack_encoder.proofs.WiderOrigins.{all_made_in_more, only_stacks}
use Rattle.lin_driver.proofs.PlainlyConjoined.{both_made}

-- ---- variables of a term that terms are put into
apply_over_back : (xs : List ℕ) (f : Symbol) (ts : Terms) → IsOver xs (apply f ts) → AreOver xs ts
apply_over_back xs (upcast positive natural) (more (numeral positive z) none) h = (tt, tt)
apply_over_back xs (upcast natural integer) (more (numeral natural z) none) h = (tt, tt)
apply_over_back xs (upcast positive integer) (more (numeral positive z) none) h = (tt, tt)
apply_over_back xs (minus positive) (more (numeral positive z) none) h = (tt, tt)
apply_over_back xs (minus natural) (more (numeral natural z) none) h = (tt, tt)
apply_over_back xs (minus integer) (more (numeral integer z) none) h = (tt, tt)
apply_over_back xs f ts h = h

module _ (zs ys : List ℕ) (e : ℕ → Term) (h : (v : ℕ) → Contains zs v ⊎ (e v ≡ variable v)) where
  mutual
    over_back : (t : Term) → IsOver ys (put e t) → IsOver (zs ++ ys) t
    over_back (variable v) i = ⊎_elim (λ j. Contains-append_left zs ys v j) (λ q. Contains-append_right zs ys v (subst (λ z. IsOver ys z) q i)) (h v)
    over_back (numeral a z) i = tt
    over_back (unknown d k) i = tt
    over_back (application f ts) i = all_over_back ts (apply_over_back ys f (put_all e ts) i)

    all_over_back : (ts : Terms) → AreOver ys (put_all e ts) → AreOver (zs ++ ys) ts
    all_over_back none i = tt
    all_over_back (more t ts) i = (over_back t i.0, all_over_back ts i.1)

-- ---- closed terms in an environment
decided_number : (xs : List ℕ) (v : ℕ) → Contains xs v ⊎ (Contains xs v → ⊥)
decided_number [] v = inr (λ i. contains_nothing v i)
decided_number (x ∷ xs) v = ⊎_elim
    (λ q. inl (subst (λ z. Contains (x ∷ xs) z) q.1 (contains_first x xs)))
    (λ q. ⊎_elim (λ i. inl (contains_later x v xs i)) (λ n. inr (λ i. n (later_in x v xs q.1 i))) (decided_number xs v))
    (eqb_tells x v)

fixed_at : (g : Data) (xs : List ℕ) (us : List Term) (ss : List Sort) → HaveSorts g [] (terms_of us) ss → length us ≡ length xs → (v : ℕ) → Contains xs v → (f : ℕ → Term) → put f (term_in (bound xs us) v) ≡ term_in (bound xs us) v
fixed_at g [] us ss h l v i f = absurd (contains_nothing v i)
fixed_at g (x ∷ xs) [] ss h l v i f = absurd (omega (arith, l))
fixed_at g (x ∷ xs) (u ∷ us) [] h l v i f = absurd h
fixed_at g (x ∷ xs) (u ∷ us) (s ∷ ss) h l v i f = ⊎_elim
    (λ q. subst (λ b. put f (cond b u (term_in (bound xs us) v)) ≡ cond b u (term_in (bound xs us) v)) (sym q.0) (closed_terms_stay g f u s h.0))
    (λ q. subst (λ b. put f (cond b u (term_in (bound xs us) v)) ≡ cond b u (term_in (bound xs us) v)) (sym q.0) (fixed_at g xs us ss h.1 (omega (arith, l)) v (later_in x v xs q.1 i) f))
    (eqb_tells x v)

pub closed_lists_fit : (g : Data) (vs : List Sort) (us : List Term) (ss : List Sort) → HaveSorts g [] (terms_of us) ss → HaveSorts g vs (terms_of us) ss
closed_lists_fit g vs [] [] h = tt
closed_lists_fit g vs [] (s ∷ ss) h = absurd h
closed_lists_fit g vs (u ∷ us) [] h = absurd h
closed_lists_fit g vs (u ∷ us) (s ∷ ss) h = (closed_terms_fit g vs u s h.0, closed_lists_fit g vs us ss h.1)

-- closed made terms for declared variables, of their sorts
pub record HasClosedTerms (o : Origin) (e : Environment) : Type 0 where
  pub vars : List Bound
  pub terms : List Term
  pub is : e ≡ bound (variables vars) terms
  pub declared : AreDeclared o.variable_sorts vars
  pub sorted : HaveSorts o.declared [] (terms_of terms) (sorts vars)
  pub made : AreMade o [] [] terms

module _ (o : Origin) (vars : List Bound) (terms : List Term) (declared : AreDeclared o.variable_sorts vars) (sorted : HaveSorts o.declared [] (terms_of terms) (sorts vars)) (made : AreMade o [] [] terms) where
  abbrev E : Environment
  E = bound (variables vars) terms

  long : length terms ≡ length (variables vars)
  long = columns_long o.declared [] terms vars sorted ∙ sym (length-map vars (λ (x : Bound). x.var))

  unread : (v : ℕ) → (Contains (variables vars) v → ⊥) → Contains (bound_variables E) v → ⊥
  unread v n i = n (subst (λ z. Contains z v) (bound_are_the_parameters (variables vars) terms long) i)

  bound_or_open : (v : ℕ) → Contains (variables vars) v ⊎ (term_in E v ≡ variable v)
  bound_or_open v = ⊎_elim (λ i. inl i) (λ n. inr (unbound_stay E v (unread v n))) (decided_number (variables vars) v)

  reads_both : (d : Environment) (v : ℕ) → put (term_in d) (term_in E v) ≡ term_in (E ++ d) v
  reads_both d v = ⊎_elim
      (λ i. fixed_at o.declared (variables vars) terms (sorts vars) sorted long v i (term_in d) ∙ sym (front_is_read E d v (subst (λ z. Contains z v) (sym (bound_are_the_parameters (variables vars) terms long)) i)))
      (λ n. ap (put (term_in d)) (unbound_stay E v (unread v n)) ∙ sym (front_is_skipped E d v (unread v n)))
      (decided_number (variables vars) v)

  put_both : (d : Environment) (t : Term) → put (term_in d) (put (term_in E) t) ≡ put (term_in (E ++ d)) t
  put_both d t = putting_in_twice (term_in E) (term_in d) t ∙ put_pointwise (λ v. put (term_in d) (term_in E v)) (term_in (E ++ d)) (reads_both d) t

  made_anywhere : (ps xs : List Bound) → AreMade o ps xs terms
  made_anywhere ps xs =
      all_made_in_more o.declared o.variable_sorts o.WasAnswered o.written o.written o.stacks o.stacks (only_stacks o.declared o.variable_sorts o.WasAnswered o.written o.stacks o.stacks (λ k i. i)) [] ps [] xs
      (λ x n. absurd (contains_none x n)) (λ x n. absurd (contains_none x n)) terms made

  composed : (ps xs : List Bound) (t v w : Term) → v ≡ put (term_in E) t → IsInstance o ps xs v w → IsInstance o ps xs t w
  composed ps xs t _ _ is (an_instance {t = v} ks ws over declared_too fit made_too) =
      let variables_are = variables_append vars ks in
      let over_first : IsOver (variables vars ++ variables ks) t = over_back (variables vars) (variables ks) (term_in E) bound_or_open t (subst (λ z. IsOver (variables ks) z) is over) in
      let same : put (term_in (bound (variables (vars ++ ks)) (terms ++ ws))) t ≡ put (term_in (bound (variables ks) ws)) v =
      ap (λ ns. put (term_in (bound ns (terms ++ ws))) t) variables_are ∙ ap (λ d. put (term_in d) t) (bound_together (variables vars) (variables ks) terms ws long)
      ∙ sym (put_both (bound (variables ks) ws) t) ∙ ap (put (term_in (bound (variables ks) ws))) (sym is) in
      subst (λ z. IsInstance o ps xs t z) same
      (an_instance (vars ++ ks) (terms ++ ws) (subst (λ ns. IsOver ns t) (sym variables_are) over_first) (declared_both o.variable_sorts vars ks declared declared_too)
      (columns_sorted o.declared o.variable_sorts vars ks terms ws (closed_lists_fit o.declared o.variable_sorts terms (sorts vars) sorted) fit) (both_made o ps xs terms ws (made_anywhere ps xs) made_too))

pub instances_compose : (o : Origin) (e : Environment) → HasClosedTerms o e → (ps xs : List Bound) (t v w : Term) → v ≡ put (term_in e) t → IsInstance o ps xs v w → IsInstance o ps xs t w
instances_compose o e k ps xs t v w is i = composed o k.vars k.terms k.declared k.sorted k.made ps xs t v w (is ∙ ap (λ d. put (term_in d) t) k.is) i
