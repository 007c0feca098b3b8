-- Environments side by side.
use Rattle.std.proofs.Common.{◌≡◌, ℕ, List, [], ◌∷◌, ◌++◌, map, length, refl, sym, ap, ap₂, ◌∙◌, subst, arith, ⊎_elim, cond, Option, Some}
use Rattle.std.proofs.lemmas.List.{length-map, map-append}
use Rattle.std.specs.Prelude.{Contains}
use Rattle.std.proofs.lemmas.Bool.Decides.{eqb_tells}
use Rattle.std.proofs.lemmas.List.Elements.{Contains-append_cases}
use Rattle.data_theory.specs.Terms.{Term, variable, put}
use Rattle.data_theory.specs.Environments.{Environment, term_in, bound, terms_of, IsOver, AreOver, Agree, Apart, AreDistinct}
use Rattle.data_theory.proofs.EnvironmentLemmas.{contains_nothing, contains_cases, contains_first, contains_later, front_is_read, front_is_skipped, unbound_stay, bound_are_the_parameters, agreeing_give_the_same_term, putting_in_twice}
use Rattle.process_terms.specs.Theories.{Theory, IsOfSort}
use Rattle.process_terms.specs.Labels.{Label, put_label}
use Rattle.process_terms.specs.Processes.{Bound}
use Rattle.bisim_laws.specs.LinearProcesses.{variables, LabelIsOver, no_action_left, action_over, NextIsOver, no_next, next_over, reading, put_next, AreBound}
use Rattle.bisim_laws.proofs.Firing.{reading_same, reading_agrees, bound_reads, reading_long, variable_among, agree_on_both, head_same, tail_same}
use Rattle.lps_core.specs.Moving.{Through, beside_reading, renaming_to}
use Rattle.lps_core.specs.Columns.{as_terms, read}

-- ---- environments that have the same terms for some variables
pub record Agrees (xs : List ℕ) (d e : Environment) : Type 0 where
  pub same : Agree xs (term_in d) (term_in e)

pub agrees_flip : {xs : List ℕ} {d e : Environment} → Agrees xs d e → Agrees xs e d
agrees_flip g = record { same = λ v i. sym (g.same v i) }

pub agrees_chain : {xs : List ℕ} {d e f : Environment} → Agrees xs d e → Agrees xs e f → Agrees xs d f
agrees_chain g h = record { same = λ v i. g.same v i ∙ h.same v i }

pub agrees_append : {xs ys : List ℕ} {d e : Environment} → Agrees xs d e → Agrees ys d e → Agrees (xs ++ ys) d e
agrees_append {xs} {ys} {d} {e} g h = record { same = agree_on_both xs ys (term_in d) (term_in e) g.same h.same }

pub read_same : (d e : Environment) (xs : List Bound) → Agrees (variables xs) d e → read d xs ≡ read e xs
read_same d e xs g = reading_same (variables xs) d e g.same

pub read_agrees : (d e : Environment) (xs : List Bound) → read d xs ≡ read e xs → Agrees (variables xs) d e
read_agrees d e xs h = record { same = reading_agrees (variables xs) d e h }

-- ---- some variables in front of the others
pub in_front_agree : (e d : Environment) (xs : List ℕ) → AreDistinct xs → Agree xs (term_in (beside_reading e xs d)) (term_in e)
in_front_agree e d xs n v i =
    front_is_read (bound xs (reading e xs)) d v (subst (λ z. Contains z v) (sym (bound_are_the_parameters xs (reading e xs) (reading_long e xs))) i)
    ∙ reading_agrees xs (bound xs (reading e xs)) e (bound_reads xs (reading e xs) (reading_long e xs) n) v i

pub behind_agree : (e d : Environment) (xs ys : List ℕ) → Apart xs ys → Agree ys (term_in (beside_reading e xs d)) (term_in d)
behind_agree e d xs ys n v i = front_is_skipped (bound xs (reading e xs)) d v (λ j. n v (subst (λ z. Contains z v) (bound_are_the_parameters xs (reading e xs) (reading_long e xs)) j) i)

-- behind the sums, the parameters are read as they are bound
pub reads_behind : (e : Environment) (xs ps : List ℕ) (ts : List Term) → Apart xs ps → AreDistinct ps → length ts ≡ length ps → reading (beside_reading e xs (bound ps ts)) ps ≡ ts
reads_behind e xs ps ts n d l = reading_same ps (beside_reading e xs (bound ps ts)) (bound ps ts) (behind_agree e (bound ps ts) xs ps n) ∙ bound_reads ps ts l d

-- ---- terms that are moved
pub put_through : (xs : List ℕ) (r d e : Environment) → Through xs r d e → (t : Term) → IsOver xs t → put (term_in d) (put (term_in r) t) ≡ put (term_in e) t
put_through xs r d e g t i = putting_in_twice (term_in r) (term_in d) t ∙ agreeing_give_the_same_term xs (λ v. put (term_in d) (term_in r v)) (term_in e) g t i

pub puts_through : (xs : List ℕ) (r d e : Environment) → Through xs r d e → (ts : List Term) → AreOver xs (terms_of ts) → map (put (term_in d)) (map (put (term_in r)) ts) ≡ map (put (term_in e)) ts
puts_through xs r d e g [] i = refl
puts_through xs r d e g (t ∷ ts) i = ap₂ (λ u us. u ∷ us) (put_through xs r d e g t i.0) (puts_through xs r d e g ts i.1)

pub label_through : (xs : List ℕ) (r d e : Environment) → Through xs r d e → (m : Label) → LabelIsOver xs m → put_label d (put_label r m) ≡ put_label e m
label_through xs r d e g _ no_action_left = refl
label_through xs r d e g _ (action_over {a = a} {m = m} h k) = ap₂ (λ ts n. record { name = a.name; sorts = a.sorts; args = ts } ∷ n) (puts_through xs r d e g a.args h) (label_through xs r d e g m k)

pub next_through : (xs : List ℕ) (params : List Bound) (r d e : Environment) → Through xs r d e → (next : Option (List Term)) → NextIsOver xs params next → put_next d (put_next r next) ≡ put_next e next
next_through xs params r d e g _ no_next = refl
next_through xs params r d e g _ (next_over {ts = ts} h l) = ap (λ us. Some us) (puts_through xs r d e g ts h)

-- ---- other variables in place of some
pub later_in : (x v : ℕ) (xs : List ℕ) → (x ≡ v → ⊥) → Contains (x ∷ xs) v → Contains xs v
later_in x v xs n i = ⊎_elim (λ q. absurd (n q)) (λ j. j) (contains_cases x v xs i)

pub renamed_through : (xs ys : List ℕ) (d e : Environment) → reading d ys ≡ reading e xs → Through xs (renaming_to xs ys) d e
renamed_through [] ys d e h v i = absurd (contains_nothing v i)
renamed_through (x ∷ xs) [] d e h v i = absurd (omega (arith, ap length h))
renamed_through (x ∷ xs) (y ∷ ys) d e h v i = ⊎_elim
    (λ k. ap (λ c. put (term_in d) (cond c (variable y) (term_in (renaming_to xs ys) v))) k.0 ∙ head_same h ∙ ap (term_in e) k.1)
    (λ k. ap (λ c. put (term_in d) (cond c (variable y) (term_in (renaming_to xs ys) v))) k.0 ∙ renamed_through xs ys d e (tail_same h) v (later_in x v xs k.1 i))
    (eqb_tells x v)

-- variables that aren't renamed stay
pub unrenamed_stay : (xs ys : List ℕ) (v : ℕ) → length ys ≡ length xs → (Contains xs v → ⊥) → term_in (renaming_to xs ys) v ≡ variable v
unrenamed_stay xs ys v l n = unbound_stay (renaming_to xs ys) v (λ i. n (subst (λ z. Contains z v) (bound_are_the_parameters xs (map variable ys) (length-map ys variable ∙ l)) i))

-- sums that stay and parameters that get other variables
pub through_behind : (sums ps qs : List ℕ) (d e : Environment) → Apart sums ps → length qs ≡ length ps → Agree sums (term_in d) (term_in e) → reading d qs ≡ reading e ps → Through (sums ++ ps) (renaming_to ps qs) d e
through_behind sums ps qs d e n l g h v i = ⊎_elim
    (λ j. ap (put (term_in d)) (unrenamed_stay ps qs v l (λ k. n v j k)) ∙ g v j)
    (λ j. renamed_through ps qs d e h v j)
    (Contains-append_cases sums ps v i)

-- a list of variables, each bound to a term of its own
pub bound_to : (f : ℕ → Term) (xs : List ℕ) (v : ℕ) → Contains xs v → term_in (bound xs (map f xs)) v ≡ f v
bound_to f [] v i = absurd (contains_nothing v i)
bound_to f (x ∷ xs) v i = ⊎_elim
    (λ k. ap (λ c. cond c (f x) (term_in (bound xs (map f xs)) v)) k.0 ∙ ap f k.1)
    (λ k. ap (λ c. cond c (f x) (term_in (bound xs (map f xs)) v)) k.0 ∙ bound_to f xs v (later_in x v xs k.1 i))
    (eqb_tells x v)

pub readings_to : (f : ℕ → Term) (xs ys : List ℕ) → ((v : ℕ) → Contains ys v → Contains xs v) → reading (bound xs (map f xs)) ys ≡ map f ys
readings_to f xs [] w = refl
readings_to f xs (y ∷ ys) w = ap₂ (λ t ts. t ∷ ts) (bound_to f xs y (w y (contains_first y ys))) (readings_to f xs ys (λ v i. w v (contains_later y v ys i)))

-- ---- the terms that e has for xs, in front of d
abbrev pub front : List Bound → Environment → Environment → Environment
front xs e d = beside_reading e (variables xs) d

pub front_agrees : (xs : List Bound) (e d : Environment) → AreDistinct (variables xs) → Agrees (variables xs) e (front xs e d)
front_agrees xs e d n = record { same = λ v i. sym (in_front_agree e d (variables xs) n v i) }

pub behind_agrees : (xs : List Bound) (e d : Environment) (ys : List ℕ) → Apart (variables xs) ys → Agrees ys d (front xs e d)
behind_agrees xs e d ys n = record { same = λ v i. sym (behind_agree e d (variables xs) ys n v i) }

-- ---- lists that are read in two pieces
pub cut : (xs us : List Term) {ys vs : List Term} → length xs ≡ length us → xs ++ ys ≡ us ++ vs → (xs ≡ us) × (ys ≡ vs)
cut [] [] l e = (refl, e)
cut [] (u ∷ us) l e = absurd (omega arith)
cut (x ∷ xs) [] l e = absurd (omega arith)
cut (x ∷ xs) (u ∷ us) l e = let k = cut xs us (omega arith) (tail_same e) in (ap₂ (λ t ts. t ∷ ts) (head_same e) k.0, k.1)

pub variables_append : (xs ys : List Bound) → variables (xs ++ ys) ≡ variables xs ++ variables ys
variables_append xs ys = map-append (λ x. x.var) xs ys

read_append : (e : Environment) (xs ys : List Bound) → read e (xs ++ ys) ≡ read e xs ++ read e ys
read_append e xs ys = ap (λ zs. reading e zs) (variables_append xs ys) ∙ map-append (term_in e) (variables xs) (variables ys)

pub read_long : (e : Environment) (xs : List Bound) → length (read e xs) ≡ length xs
read_long e xs = reading_long e (variables xs) ∙ length-map xs (λ x. x.var)

pub split_read : (e : Environment) (xs ys : List Bound) (us vs : List Term) → length us ≡ length xs → read e (xs ++ ys) ≡ us ++ vs → (read e xs ≡ us) × (read e ys ≡ vs)
split_read e xs ys us vs l h = cut (read e xs) us (read_long e xs ∙ sym l) (sym (read_append e xs ys) ∙ h)

pub join_read : (e : Environment) (xs ys : List Bound) {us vs : List Term} → read e xs ≡ us → read e ys ≡ vs → read e (xs ++ ys) ≡ us ++ vs
join_read e xs ys h k = read_append e xs ys ∙ ap₂ (λ x y. x ++ y) h k

pub put_variables : (e : Environment) (xs : List Bound) → map (put (term_in e)) (as_terms xs) ≡ read e xs
put_variables e [] = refl
put_variables e (x ∷ xs) = ap (λ l. term_in e x.var ∷ l) (put_variables e xs)

pub base_reads : (xs : List Bound) (ts : List Term) → length ts ≡ length xs → AreDistinct (variables xs) → read (bound (variables xs) ts) xs ≡ ts
base_reads xs ts l n = bound_reads (variables xs) ts (l ∙ sym (length-map xs (λ x. x.var))) n

pub bound_along : (th : Theory) (xs : List Bound) (d e : Environment) → Agrees (variables xs) d e → AreBound th xs d → AreBound th xs e
bound_along th xs d e g h x i = subst (λ t. IsOfSort th x.sort t) (g.same x.var (variable_among xs x i)) (h x i)
