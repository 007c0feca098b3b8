-- Closed terms put into an environment over the variables of an equation.
use Rattle.std.proofs.Common.{◌≡◌, ℕ, ⊎_elim, List, [], ◌∷◌, map, cond, refl, sym, ap, ap₂, ◌∙◌, subst}
use Rattle.std.specs.Prelude.{Contains}
use Rattle.std.proofs.lemmas.Bool.Decides.{eqb_tells}
use Rattle.data_theory.specs.Terms.{Term, put}
use Rattle.data_theory.specs.Provable.{reflexive}
use Rattle.data_theory.specs.Declarations.{Data}
use Rattle.data_theory.specs.Environments.{Environment, term_in, bound, bound_variables, terms_of, IsOver, AreOver, Agree}
use Rattle.data_theory.proofs.EnvironmentLemmas.{contains_first, contains_later, contains_cases, contains_nothing, agreeing_give_the_same_term, agreeing_give_the_same_terms, putting_in_twice}
use Rattle.process_terms.specs.Theories.{Theory, Equal, Equals}
use Rattle.process_terms.proofs.AgreeingLabels.{agree_refl, equals_refl}
use Rattle.process_terms.specs.Labels.{Label, put_label, AgreeInOrder}
use Rattle.process_terms.specs.Processes.{Body, written_delta, written_act, written_choice, written_seq, written_cond, written_sum, written_call, written_merge, written_starting, written_around}
use Rattle.bisim_laws.specs.LinearProcesses.{LabelIsOver, no_action_left, action_over, reading}
use Rattle.bisim_laws.specs.Sameness.{SameBody, same_delta, same_act, same_choice, same_seq, same_cond, same_sum, same_call}
use Rattle.bisim_laws.proofs.Firing.{label_along}
use Rattle.lps_core.proofs.OverVariables.{Within, over_more, all_over_more, label_over_more}
use Rattle.greibach.specs.Places.{Text, IsSortedBody}

-- f put into the terms of e
abbrev pub under : Environment → Environment → Environment
under f [] = []
under f (b ∷ e) = record { var = b.var; term = put (term_in f) b.term } ∷ under f e

-- the terms of e are over these variables
abbrev pub EnvironmentIsOver : List ℕ → Environment → Type 0
EnvironmentIsOver over [] = Unit {0}
EnvironmentIsOver over (b ∷ e) = IsOver over b.term × EnvironmentIsOver over e

pub under_reads : (f e : Environment) (v : ℕ) → Contains (bound_variables e) v → term_in (under f e) v ≡ put (term_in f) (term_in e v)
under_reads f [] v i = absurd (contains_nothing v i)
under_reads f (b ∷ e) v i = ⊎_elim
    (λ y. ap (λ c. cond c (put (term_in f) b.term) (term_in (under f e) v)) y.0 ∙ sym (ap (λ c. put (term_in f) (cond c b.term (term_in e v))) y.0))
    (λ n. ap (λ c. cond c (put (term_in f) b.term) (term_in (under f e) v)) n.0
    ∙ under_reads f e v (⊎_elim (λ q. absurd (n.1 q)) (λ j. j) (contains_cases b.var v (bound_variables e) i))
    ∙ sym (ap (λ c. put (term_in f) (cond c b.term (term_in e v))) n.0))
    (eqb_tells b.var v)

pub under_variables : (f e : Environment) → bound_variables (under f e) ≡ bound_variables e
under_variables f [] = refl
under_variables f (b ∷ e) = ap (λ l. b.var ∷ l) (under_variables f e)

pub under_term : (f e : Environment) (t : Term) → IsOver (bound_variables e) t → put (term_in f) (put (term_in e) t) ≡ put (term_in (under f e)) t
under_term f e t o =
    putting_in_twice (term_in e) (term_in f) t
    ∙ agreeing_give_the_same_term (bound_variables e) (λ v. put (term_in f) (term_in e v)) (term_in (under f e)) (λ v i. sym (under_reads f e v i)) t o

pub under_terms : (f e : Environment) (ts : List Term) → AreOver (bound_variables e) (terms_of ts) → map (put (term_in f)) (map (put (term_in e)) ts) ≡ map (put (term_in (under f e))) ts
under_terms f e [] o = refl
under_terms f e (t ∷ ts) o = ap₂ (λ u us. u ∷ us) (under_term f e t o.0) (under_terms f e ts o.1)

pub under_label : (f e : Environment) (m : Label) → LabelIsOver (bound_variables e) m → put_label f (put_label e m) ≡ put_label (under f e) m
under_label f e _ no_action_left = refl
under_label f e _ (action_over {a = a} {m = m} h k) = ap₂ (λ ts n. record { name = a.name; sorts = a.sorts; args = ts } ∷ n) (under_terms f e a.args h) (under_label f e m k)

pub under_bound : (f : Environment) (xs : List ℕ) (ts : List Term) → under f (bound xs ts) ≡ bound xs (map (put (term_in f)) ts)
under_bound f [] ts = refl
under_bound f (x ∷ xs) [] = refl
under_bound f (x ∷ xs) (t ∷ ts) = ap (λ l. record { var = x; term = put (term_in f) t } ∷ l) (under_bound f xs ts)

pub under_same : (over : List ℕ) (f f' e : Environment) → Agree over (term_in f) (term_in f') → EnvironmentIsOver over e → under f e ≡ under f' e
under_same over f f' [] g o = refl
under_same over f f' (b ∷ e) g o =
    ap₂ (λ t l. record { var = b.var; term = t } ∷ l) (agreeing_give_the_same_term over (term_in f) (term_in f') g b.term o.0) (under_same over f f' e g o.1)

pub under_reading : (f e : Environment) (xs : List ℕ) → ((v : ℕ) → Contains xs v → Contains (bound_variables e) v) → map (put (term_in f)) (reading e xs) ≡ reading (under f e) xs
under_reading f e [] w = refl
under_reading f e (x ∷ xs) w = ap₂ (λ t ts. t ∷ ts) (sym (under_reads f e x (w x (contains_first x xs)))) (under_reading f e xs (λ v i. w v (contains_later x v xs i)))

-- ---- more variables
pub within_first : (x : ℕ) (xs : List ℕ) → Within xs (x ∷ xs)
within_first x xs v i = contains_later x v xs i

pub within_one_more : (x : ℕ) (xs ys : List ℕ) → Within xs ys → Within (x ∷ xs) (x ∷ ys)
within_one_more x xs ys w v i = ⊎_elim (λ q. subst (λ z. Contains (x ∷ ys) z) q (contains_first x ys)) (λ j. contains_later x v ys (w v j)) (contains_cases x v xs i)

pub sorted_more : (g : Data) (t : Text) (xs ys : List ℕ) → Within xs ys → (b : Body) → IsSortedBody g t xs b → IsSortedBody g t ys b
sorted_more g t xs ys w written_delta h = tt
sorted_more g t xs ys w (written_act m) h = label_over_more xs ys w h
sorted_more g t xs ys w (written_choice p q) h = (sorted_more g t xs ys w p h.0, sorted_more g t xs ys w q h.1)
sorted_more g t xs ys w (written_seq p q) h = (sorted_more g t xs ys w p h.0, sorted_more g t xs ys w q h.1)
sorted_more g t xs ys w (written_cond c p q) h = (over_more xs ys w c h.0, h.1, sorted_more g t xs ys w p h.2, sorted_more g t xs ys w q h.3)
sorted_more g t xs ys w (written_sum x p) h = (h.0, sorted_more g t (x.var ∷ xs) (x.var ∷ ys) (within_one_more x.var xs ys w) p h.1)
sorted_more g t xs ys w (written_call x ts) h = (all_over_more xs ys w (terms_of ts) h.0, h.1)
sorted_more g t xs ys w (written_merge p q) h = h
sorted_more g t xs ys w (written_starting start p q) h = h
sorted_more g t xs ys w (written_around o p) h = h

pub environment_more : (xs ys : List ℕ) → Within xs ys → (e : Environment) → EnvironmentIsOver xs e → EnvironmentIsOver ys e
environment_more xs ys w [] o = tt
environment_more xs ys w (b ∷ e) o = (over_more xs ys w b.term o.0, environment_more xs ys w e o.1)

-- ---- environments that agree
pub agree_first : (x : ℕ) (t : Term) (xs : List ℕ) (d e : Environment) → Agree xs (term_in d) (term_in e) → Agree (x ∷ xs) (term_in (record { var = x; term = t } ∷ d)) (term_in (record { var = x; term = t } ∷ e))
agree_first x t xs d e g v i = ⊎_elim
    (λ k. ap (λ c. cond c t (term_in d v)) k.0 ∙ sym (ap (λ c. cond c t (term_in e v)) k.0))
    (λ k. ap (λ c. cond c t (term_in d v)) k.0 ∙ g v (⊎_elim (λ q. absurd (k.1 q)) (λ j. j) (contains_cases x v xs i)) ∙ sym (ap (λ c. cond c t (term_in e v)) k.0))
    (eqb_tells x v)

same_term : (th : Theory) {t u : Term} → t ≡ u → Equal th t u
same_term th {t} q = subst (λ z. Equal th t z) q reflexive

same_terms : (th : Theory) {ts us : List Term} → ts ≡ us → Equals th ts us
same_terms th {ts} q = subst (λ z. Equals th ts z) q (equals_refl th ts)

same_label : (th : Theory) {m n : Label} → m ≡ n → AgreeInOrder th m n
same_label th {m} q = subst (λ z. AgreeInOrder th m z) q (agree_refl th m)

-- a body is the same under environments that agree on its variables
pub body_along : (th : Theory) (t : Text) (xs : List ℕ) (d e : Environment) → Agree xs (term_in d) (term_in e) → (b : Body) → IsSortedBody th.declared t xs b → SameBody th d b e b
body_along th t xs d e g written_delta h = same_delta
body_along th t xs d e g (written_act m) h = same_act (same_label th (label_along xs d e g m h))
body_along th t xs d e g (written_choice p q) h = same_choice (body_along th t xs d e g p h.0) (body_along th t xs d e g q h.1)
body_along th t xs d e g (written_seq p q) h = same_seq (body_along th t xs d e g p h.0) (body_along th t xs d e g q h.1)
body_along th t xs d e g (written_cond c p q) h =
    same_cond (same_term th (agreeing_give_the_same_term xs (term_in d) (term_in e) g c h.0)) (body_along th t xs d e g p h.2) (body_along th t xs d e g q h.3)
body_along th t xs d e g (written_sum x p) h =
    same_sum (λ u. body_along th t (x.var ∷ xs) (record { var = x.var; term = u } ∷ d) (record { var = x.var; term = u } ∷ e) (agree_first x.var u xs d e g) p h.1)
body_along th t xs d e g (written_call x ts) h = same_call (same_terms th (agreeing_give_the_same_terms xs (term_in d) (term_in e) g ts h.0))
body_along th t xs d e g (written_merge p q) h = absurd h
body_along th t xs d e g (written_starting start p q) h = absurd h
body_along th t xs d e g (written_around o p) h = absurd h
