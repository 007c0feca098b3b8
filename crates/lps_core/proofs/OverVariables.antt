-- What terms are over.
use Rattle.std.proofs.Common.{◌≡◌, ℕ, List, [], ◌∷◌, ◌++◌, map, length, sym, ◌∙◌, subst, arith, ⊎_elim, cond, true, false, Option, ℤ, pos}
use Rattle.std.proofs.lemmas.List.{length-map}
use Rattle.std.specs.Prelude.{Contains}
use Rattle.std.proofs.lemmas.Bool.Decides.{eqb_tells}
use Rattle.std.proofs.lemmas.List.Elements.{Contains-append_cases, Contains-append_left, Contains-append_right}
use lib.Signed.{lt_z}
use lib.IntN.{neg_ℤ}
use Rattle.data_theory.specs.Terms.{Sort, positive, natural, integer, Symbol, upcast, minus, Term, Terms, variable, numeral, unknown, application, none, more, negated, apply, put, put_all}
use Rattle.data_theory.specs.Environments.{Environment, term_in, terms_of, IsOver, AreOver, Apart, AreDistinct}
use Rattle.data_theory.proofs.EnvironmentLemmas.{contains_nothing, contains_first, contains_later}
use Rattle.process_terms.specs.Labels.{Label, put_label}
use Rattle.process_terms.specs.Processes.{Bound}
use Rattle.bisim_laws.specs.LinearProcesses.{variables, LabelIsOver, no_action_left, action_over, NextIsOver, no_next, next_over, put_next}
use Rattle.lps_core.specs.Moving.{renaming_to}
use Rattle.lps_core.specs.Columns.{as_terms}
use Rattle.lps_core.proofs.Environments.{later_in, variables_append}

-- ---- lists of variables
abbrev pub Within : List ℕ → List ℕ → Type 0
Within xs ys = (v : ℕ) → Contains xs v → Contains ys v

pub within_both : (xs ys zs : List ℕ) → Within xs zs → Within ys zs → Within (xs ++ ys) zs
within_both xs ys zs f h v i = ⊎_elim (λ j. f v j) (λ j. h v j) (Contains-append_cases xs ys v i)

pub within_front : (xs ys : List ℕ) → Within xs (xs ++ ys)
within_front xs ys v i = Contains-append_left xs ys v i

pub within_back : (xs ys : List ℕ) → Within ys (xs ++ ys)
within_back xs ys v i = Contains-append_right xs ys v i

pub distinct_append : (xs ys : List ℕ) → AreDistinct xs → AreDistinct ys → Apart xs ys → AreDistinct (xs ++ ys)
distinct_append [] ys h k n = k
distinct_append (x ∷ xs) ys h k n = (
  λ i. ⊎_elim (λ j. h.0 j) (λ j. n x (contains_first x xs) j) (Contains-append_cases xs ys x i),
  distinct_append xs ys h.1 k (λ v i j. n v (contains_later x v xs i) j),
)

pub variables_front : (xs ys : List Bound) → Within (variables xs) (variables (xs ++ ys))
variables_front xs ys v i = subst (λ zs. Contains zs v) (sym (variables_append xs ys)) (Contains-append_left (variables xs) (variables ys) v i)

pub variables_back : (xs ys : List Bound) → Within (variables ys) (variables (xs ++ ys))
variables_back xs ys v i = subst (λ zs. Contains zs v) (sym (variables_append xs ys)) (Contains-append_right (variables xs) (variables ys) v i)

-- ---- over more variables
mutual
  pub over_more : (xs ys : List ℕ) → Within xs ys → (t : Term) → IsOver xs t → IsOver ys t
  over_more xs ys f (variable v) h = f v h
  over_more xs ys f (numeral a z) h = h
  over_more xs ys f (unknown d k) h = h
  over_more xs ys f (application k ts) h = all_over_more xs ys f ts h

  pub all_over_more : (xs ys : List ℕ) → Within xs ys → (ts : Terms) → AreOver xs ts → AreOver ys ts
  all_over_more xs ys f none h = h
  all_over_more xs ys f (more t ts) h = (over_more xs ys f t h.0, all_over_more xs ys f ts h.1)

pub label_over_more : (xs ys : List ℕ) → Within xs ys → {m : Label} → LabelIsOver xs m → LabelIsOver ys m
label_over_more xs ys f no_action_left = no_action_left
label_over_more xs ys f (action_over {a = a} h k) = action_over (all_over_more xs ys f (terms_of a.args) h) (label_over_more xs ys f k)

-- ---- over lists of variables
pub over_append : (xs : List ℕ) (ts us : List Term) → AreOver xs (terms_of ts) → AreOver xs (terms_of us) → AreOver xs (terms_of (ts ++ us))
over_append xs [] us h k = k
over_append xs (t ∷ ts) us h k = (h.0, over_append xs ts us h.1 k)

pub label_over_append : {xs : List ℕ} {m n : Label} → LabelIsOver xs m → LabelIsOver xs n → LabelIsOver xs (m ++ n)
label_over_append no_action_left k = k
label_over_append (action_over h i) k = action_over h (label_over_append i k)

pub variables_over : (xs : List Bound) (ys : List ℕ) → Within (variables xs) ys → AreOver ys (terms_of (as_terms xs))
variables_over [] ys f = tt
variables_over (x ∷ xs) ys f = (f x.var (contains_first x.var (variables xs)), variables_over xs ys (λ v i. f v (contains_later x.var v (variables xs) i)))

-- ---- with terms put in
negated_over : (xs : List ℕ) (s : Sort) (z : ℤ) → IsOver xs (negated s z)
negated_over xs s z = elim (lt_z (pos 0) z) as (λ b. IsOver xs (cond b (numeral integer (neg_ℤ z)) (application (minus s) (more (numeral s z) none)))) [ true ↦ tt | false ↦ (tt, tt) ]

apply_over : (xs : List ℕ) (f : Symbol) (ts : Terms) → AreOver xs ts → IsOver xs (apply f ts)
apply_over xs (upcast positive natural) (more (numeral positive z) none) h = tt
apply_over xs (upcast natural integer) (more (numeral natural z) none) h = tt
apply_over xs (upcast positive integer) (more (numeral positive z) none) h = tt
apply_over xs (minus positive) (more (numeral positive z) none) h = negated_over xs positive z
apply_over xs (minus natural) (more (numeral natural z) none) h = negated_over xs natural z
apply_over xs (minus integer) (more (numeral integer z) none) h = negated_over xs integer z
apply_over xs f ts h = h

abbrev pub ArePutOver : List ℕ → List ℕ → (ℕ → Term) → Type 0
ArePutOver xs ys e = (v : ℕ) → Contains xs v → IsOver ys (e v)

mutual
  pub put_over : (xs ys : List ℕ) (e : ℕ → Term) → ArePutOver xs ys e → (t : Term) → IsOver xs t → IsOver ys (put e t)
  put_over xs ys e h (variable v) i = h v i
  put_over xs ys e h (numeral a z) i = tt
  put_over xs ys e h (unknown d k) i = tt
  put_over xs ys e h (application f ts) i = apply_over ys f (put_all e ts) (put_all_over xs ys e h ts i)

  put_all_over : (xs ys : List ℕ) (e : ℕ → Term) → ArePutOver xs ys e → (ts : Terms) → AreOver xs ts → AreOver ys (put_all e ts)
  put_all_over xs ys e h none i = tt
  put_all_over xs ys e h (more t ts) i = (put_over xs ys e h t i.0, put_all_over xs ys e h ts i.1)

pub puts_over : (xs ys : List ℕ) (e : ℕ → Term) → ArePutOver xs ys e → (ts : List Term) → AreOver xs (terms_of ts) → AreOver ys (terms_of (map (put e) ts))
puts_over xs ys e h [] i = tt
puts_over xs ys e h (t ∷ ts) i = (put_over xs ys e h t i.0, puts_over xs ys e h ts i.1)

pub label_over : (xs ys : List ℕ) (r : Environment) → ArePutOver xs ys (term_in r) → (m : Label) → LabelIsOver xs m → LabelIsOver ys (put_label r m)
label_over xs ys r h _ no_action_left = no_action_left
label_over xs ys r h _ (action_over {a = a} {m = m} i k) = action_over (puts_over xs ys (term_in r) h a.args i) (label_over xs ys r h m k)

pub next_over_put : (xs ys : List ℕ) (params : List Bound) (r : Environment) → ArePutOver xs ys (term_in r) → (next : Option (List Term)) → NextIsOver xs params next → NextIsOver ys params (put_next r next)
next_over_put xs ys params r h _ no_next = no_next
next_over_put xs ys params r h _ (next_over {ts = ts} i l) = next_over (puts_over xs ys (term_in r) h ts i) (length-map ts (put (term_in r)) ∙ l)

-- what is bound to other variables is over these
pub renamed_over : (xs ys zs : List ℕ) → length ys ≡ length xs → ((v : ℕ) → Contains ys v → Contains zs v) → ArePutOver xs zs (term_in (renaming_to xs ys))
renamed_over [] ys zs l w v i = absurd (contains_nothing v i)
renamed_over (x ∷ xs) [] zs l w v i = absurd (omega (arith, l))
renamed_over (x ∷ xs) (y ∷ ys) zs l w v i = ⊎_elim
    (λ k. subst (λ b. IsOver zs (cond b (variable y) (term_in (renaming_to xs ys) v))) (sym k.0) (w y (contains_first y ys)))
    (λ k. subst (λ b. IsOver zs (cond b (variable y) (term_in (renaming_to xs ys) v))) (sym k.0) (renamed_over xs ys zs (omega (arith, l)) (λ u j. w u (contains_later y u ys j)) v (later_in x v xs k.1 i)))
    (eqb_tells x v)
