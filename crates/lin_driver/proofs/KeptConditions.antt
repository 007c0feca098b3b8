-- What is left of a condition: where parts are joined, and where variables get other names.
use Rattle.std.proofs.Common.{◌≡◌, ⊎_elim, ℕ, Bool, true, false, if◌then◌else◌, List, [], ◌∷◌, map, refl, sym, ap, ap₂, ◌∙◌, subst}
use Rattle.std.proofs.lemmas.Bool.Decides.{eqb_tells}
use Rattle.std.proofs.lemmas.List.{append-nil}
use Rattle.data_theory.specs.Terms.{Symbol, truth, conjunction, Term, Terms, variable, numeral, unknown, application, none, more, apply, put, put_all}
use Rattle.data_theory.specs.Environments.{term_in, bound}
use Rattle.data_theory.specs.Equations.{◌∧ᵗ◌}
use Rattle.data_theory.proofs.NormalForms.{merges_or_not}
use Rattle.process_terms.specs.Communication.{conjunction_of}
use Rattle.bisim_laws.specs.LinearProcesses.{is_true}
use Rattle.bisim_laws.proofs.Firing.{true_alone}
use Rattle.lps_core.specs.Conditions.{parts, without_true, joined}
use Rattle.lin_driver.specs.NeededParts.{in_front, needed_parts, tidied}

-- ---- joined conditions
-- the parts that conditions need: each one in front of those behind it
abbrev needed_of : List Term → List Term
needed_of [] = []
needed_of (c ∷ cs) = in_front c (needed_parts c) (needed_of cs)

needed_in_chain : (cs : List Term) → needed_parts (conjunction_of cs) ≡ needed_of cs
needed_in_chain [] = refl
needed_in_chain (c ∷ []) = refl
needed_in_chain (c ∷ d ∷ cs) = ap (in_front c (needed_parts c)) (needed_in_chain (d ∷ cs))

true_needs_none : (c : Term) → is_true c ≡ true → needed_parts c ≡ []
true_needs_none c e = subst (λ z. needed_parts z ≡ []) (sym (true_alone c e)) refl

fewer_need : (cs : List Term) → needed_of (without_true cs) ≡ needed_of cs
fewer_need [] = refl
fewer_need (c ∷ cs) = by_first (is_true c) refl (fewer_need cs)
  where
    left_out : (ds : List Term) → is_true c ≡ true → ds ≡ in_front c (needed_parts c) ds
    left_out [] q = sym (true_needs_none c q)
    left_out (d ∷ ds) q = sym (ap (λ b. if b then d ∷ ds else c ∷ d ∷ ds) q)

    by_first : (b : Bool) → is_true c ≡ b → needed_of (without_true cs) ≡ needed_of cs → needed_of (if b then without_true cs else c ∷ without_true cs) ≡ in_front c (needed_parts c) (needed_of cs)
    by_first true q h = h ∙ left_out (needed_of cs) q
    by_first false q h = ap (in_front c (needed_parts c)) h

parts_need : (c : Term) → needed_of (parts c) ≡ needed_parts c
parts_need (application conjunction (more c (more d none))) = ap (in_front c (needed_parts c)) (parts_need d)
parts_need c = refl

-- joining leaves out nothing else
pub tidied_when_joined : (c : Term) → tidied (joined (c ∷ [])) ≡ tidied c
tidied_when_joined c = ap conjunction_of (ap (λ l. needed_parts (conjunction_of (without_true l))) (append-nil (parts c)) ∙ needed_in_chain (without_true (parts c)) ∙ fewer_need (parts c) ∙ parts_need c)

-- ---- other variables
-- what is put in for each variable is a variable
abbrev pub AreVariables : (ℕ → Term) → Type 0
AreVariables e = (v : ℕ) → (w : ℕ) × (e v ≡ variable w)

abbrev is_and : Symbol → Bool
is_and conjunction = true
is_and _ = false

abbrev is_truth : Symbol → Bool
is_truth truth = true
is_truth _ = false

tests_differ : true ≡ false → ⊥
tests_differ e = cc

needs_itself : (f : Symbol) (ts : Terms) → is_and f ≡ false → is_truth f ≡ false → needed_parts (application f ts) ≡ application f ts ∷ []
needs_itself conjunction ts e k = absurd (tests_differ e)
needs_itself truth ts e k = absurd (tests_differ k)
needs_itself f ts e k = refl

applied_needs : (f : Symbol) (ts : Terms) → is_and f ≡ false → is_truth f ≡ false → needed_parts (apply f ts) ≡ apply f ts ∷ []
applied_needs f ts e k = ⊎_elim
    (λ q. subst (λ z. needed_parts z ≡ z ∷ []) (sym q) (needs_itself f ts e k))
    (λ q. subst (λ z. needed_parts z ≡ z ∷ []) (sym q.2) refl)
    (merges_or_not f ts)

not_true : (f : Symbol) (ts : Terms) → is_truth f ≡ false → is_true (application f ts) ≡ false
not_true truth ts e = absurd (tests_differ e)
not_true f ts e = refl

applied_true : (f : Symbol) (ts : Terms) → is_truth f ≡ false → is_true (apply f ts) ≡ false
applied_true f ts e = ⊎_elim
    (λ q. subst (λ z. is_true z ≡ false) (sym q) (not_true f ts e))
    (λ q. subst (λ z. is_true z ≡ false) (sym q.2) refl)
    (merges_or_not f ts)

module _ (e : ℕ → Term) (are : AreVariables e) where
  true_put : (c : Term) → is_true (put e c) ≡ is_true c
  true_put (variable v) = ap is_true (are v).1
  true_put (numeral a z) = refl
  true_put (unknown d k) = refl
  true_put (application truth none) = refl
  true_put (application truth (more c ts)) = refl
  true_put (application f ts) = applied_true f (put_all e ts) refl

  front_put : (c : Term) (own ds : List Term) → in_front (put e c) (map (put e) own) (map (put e) ds) ≡ map (put e) (in_front c own ds)
  front_put c own [] = refl
  front_put c own (d ∷ ds) =
      ap (λ b. if b then map (put e) (d ∷ ds) else put e c ∷ map (put e) (d ∷ ds)) (true_put c)
      ∙ elim (is_true c) as (λ b. (if b then map (put e) (d ∷ ds) else put e c ∷ map (put e) (d ∷ ds)) ≡ map (put e) (if b then d ∷ ds else c ∷ d ∷ ds)) [ true ↦ refl | false ↦ refl ]

  needed_put : (c : Term) → needed_parts (put e c) ≡ map (put e) (needed_parts c)
  needed_put (variable v) = subst (λ z. needed_parts z ≡ z ∷ []) (sym (are v).1) refl
  needed_put (numeral a z) = refl
  needed_put (unknown d k) = refl
  needed_put (application truth none) = refl
  needed_put (application truth (more c ts)) = refl
  needed_put (application conjunction none) = refl
  needed_put (application conjunction (more c none)) = refl
  needed_put (application conjunction (more c (more d none))) = ap₂ (λ own ds. in_front (put e c) own ds) (needed_put c) (needed_put d) ∙ front_put c (needed_parts c) (needed_parts d)
  needed_put (application conjunction (more c (more d (more b ts)))) = refl
  needed_put (application f ts) = applied_needs f (put_all e ts) refl refl

  chain_put : (cs : List Term) → conjunction_of (map (put e) cs) ≡ put e (conjunction_of cs)
  chain_put [] = refl
  chain_put (c ∷ []) = refl
  chain_put (c ∷ d ∷ cs) = ap (λ z. put e c ∧ᵗ z) (chain_put (d ∷ cs))

  pub tidied_put : (c : Term) → tidied (put e c) ≡ put e (tidied c)
  tidied_put c = ap conjunction_of (needed_put c) ∙ chain_put (needed_parts c)

-- a renaming puts in variables
pub bound_variables_are : (xs ys : List ℕ) → AreVariables (term_in (bound xs (map variable ys)))
bound_variables_are [] ys v = (v, refl)
bound_variables_are (x ∷ xs) [] v = (v, refl)
bound_variables_are (x ∷ xs) (y ∷ ys) v = ⊎_elim
    (λ k. (y, ap (λ b. if b then variable y else term_in (bound xs (map variable ys)) v) k.0))
    (λ k. let r = bound_variables_are xs ys v in (r.0, ap (λ b. if b then variable y else term_in (bound xs (map variable ys)) v) k.0 ∙ r.1))
    (eqb_tells x v)
