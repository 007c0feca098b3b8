-- Labels whose actions are paired.
use Rattle.std.specs.Prelude.{◌≡◌, List, [], ◌∷◌, ◌++◌}
use Rattle.std.proofs.Common.{refl, sym, subst}
use Rattle.std.specs.List.{AllByRecursion, Contains}
use Rattle.data_theory.specs.Terms.{Sort, boolean, Term}
use Rattle.data_theory.specs.Equations.{equals}
use Rattle.data_theory.specs.Declarations.{IsData, HasSort, HaveSorts}
use Rattle.data_theory.specs.Environments.{Environment, terms_of}
use Rattle.data_theory.specs.Provable.{Equation}
use Rattle.data_theory.specs.Rewriting.{IsWellFormed, yes_decided}
use Rattle.data_theory.proofs.EqualityLemmas.{equals_is}
use Rattle.data_theory.proofs.WellSorted.{sort_of_term}
use Rattle.process_terms.specs.Communication.{equalities}
use Rattle.process_terms.specs.Labels.{Action, Label, put_label, Inserted, at_front, further, Permuted, nothing_left, one_placed, AgreeAction, equal_args, AgreeInOrder, both_silent, next_agree}
use Rattle.process_terms.specs.Names.{Name}
use Rattle.process_terms.specs.Theories.{Theory, IsTrue, Equals, no_terms, more_terms}
use Rattle.trace_replay.specs.Settings.{Setting, data_in, theory_in}
use Rattle.trace_replay.specs.Decidings.{Decides}
use Rattle.trace_replay.specs.Pairings.{AreAlike, label_equalities, IsClosedLabel}
use Rattle.trace_replay.proofs.DecidedTerms.{yes_is_true}

-- ---- in another order
inserted_all : {A : Type 0} (P : A → Type 0) {x : A} {ys zs : List A} → Inserted x ys zs → AllByRecursion P zs → P x × AllByRecursion P ys
inserted_all P at_front all = all
inserted_all P (further i) all = let r = inserted_all P i all.1 in (r.0, (all.0, r.1))

pub permuted_all : {A : Type 0} (P : A → Type 0) {xs ys : List A} → Permuted xs ys → AllByRecursion P ys → AllByRecursion P xs
permuted_all P nothing_left all = tt
permuted_all P (one_placed p i) all = let r = inserted_all P i all in (r.0, permuted_all P p r.1)

-- ---- alike labels
pub alike_put : (e : Environment) (m n : Label) → AreAlike m n → AreAlike (put_label e m) n
alike_put e [] [] h = tt
alike_put e [] (b ∷ n) h = absurd h
alike_put e (a ∷ m) [] h = absurd h
alike_put e (a ∷ m) (b ∷ n) h = (h.0, h.1, alike_put e m n h.2)

pub put_alike : (e : Environment) (m n : Label) → AreAlike (put_label e m) n → AreAlike m n
put_alike e [] [] h = tt
put_alike e [] (b ∷ n) h = absurd h
put_alike e (a ∷ m) [] h = absurd h
put_alike e (a ∷ m) (b ∷ n) h = (h.0, h.1, put_alike e m n h.2)

pub agreeing_are_alike : {th : Theory} {m n : Label} → AgreeInOrder th m n → AreAlike m n
agreeing_are_alike both_silent = tt
agreeing_are_alike (next_agree (equal_args k) h) = (refl, refl, agreeing_are_alike h)

-- ---- equalities
pub all_append : {A : Type 0} (P : A → Type 0) (xs ys : List A) → AllByRecursion P xs → AllByRecursion P ys → AllByRecursion P (xs ++ ys)
all_append P [] ys f h = h
all_append P (x ∷ xs) ys f h = (f.0, all_append P xs ys f.1 h)

pub all_cut : {A : Type 0} (P : A → Type 0) (xs ys : List A) → AllByRecursion P (xs ++ ys) → AllByRecursion P xs × AllByRecursion P ys
all_cut P [] ys h = (tt, h)
all_cut P (x ∷ xs) ys h = let r = all_cut P xs ys h.1 in ((h.0, r.0), r.1)

-- actions with the same name and sorts, and provably equal arguments
pub agree_named : (th : Theory) (a b : Action) → a.name ≡ b.name → a.sorts ≡ b.sorts → Equals th a.args b.args → AgreeAction th a b
agree_named th a b e f h =
    subst (λ (ss : List Sort). AgreeAction th a (record { name = b.name; sorts = ss; args = b.args })) f
    (subst (λ (n : Name). AgreeAction th a (record { name = n; sorts = a.sorts; args = b.args })) e (equal_args h))

-- a condition that is true
pub record Holds (s : Setting) (c : Term) : Type 0 where
  pub sorted : HasSort (data_in s) [] c boolean
  pub holds : IsTrue (theory_in s) c

module _ (s : Setting) (ok : IsData (data_in s)) (formed : (q : Equation) → Contains s.equations q → IsWellFormed (data_in s) q) where
  equality_sorted : (a : Sort) (t u : Term) → HasSort (data_in s) [] t a → HasSort (data_in s) [] u a → HasSort (data_in s) [] (equals a t u) boolean
  equality_sorted a t u h k = (sort_of_term (data_in s) ok t a h, (h, (k, tt)), refl, refl)

  arguments_equal : (ss : List Sort) (ts us : List Term) → HaveSorts (data_in s) [] (terms_of ts) ss → HaveSorts (data_in s) [] (terms_of us) ss → AllByRecursion (Decides s yes_decided) (equalities ss ts us)
      → Equals (theory_in s) ts us
  arguments_equal [] [] [] h k d = no_terms
  arguments_equal [] [] (u ∷ us) h k d = absurd k
  arguments_equal [] (t ∷ ts) us h k d = absurd h
  arguments_equal (a ∷ ss) [] us h k d = absurd h
  arguments_equal (a ∷ ss) (t ∷ ts) [] h k d = absurd k
  arguments_equal (a ∷ ss) (t ∷ ts) (u ∷ us) h k d =
      more_terms ((equals_is (data_in s) s.equations ok a t u h.0 k.0).0 (yes_is_true s ok formed (equals a t u) (equality_sorted a t u h.0 k.0) d.0)) (arguments_equal ss ts us h.1 k.1 d.1)

  equal_arguments_hold : (ss : List Sort) {ts us : List Term} → HaveSorts (data_in s) [] (terms_of ts) ss → HaveSorts (data_in s) [] (terms_of us) ss → Equals (theory_in s) ts us
      → AllByRecursion (Holds s) (equalities ss ts us)
  equal_arguments_hold [] h k no_terms = tt
  equal_arguments_hold (a ∷ ss) h k no_terms = tt
  equal_arguments_hold [] h k (more_terms e d) = tt
  equal_arguments_hold (a ∷ ss) h k (more_terms {t = t} {u = u} e d) =
      (record { sorted = equality_sorted a t u h.0 k.0; holds = (equals_is (data_in s) s.equations ok a t u h.0 k.0).1 e }, equal_arguments_hold ss h.1 k.1 d)

  -- where the equalities are decided Yes, the labels agree
  pub decided_agree : (m n : Label) → IsClosedLabel (data_in s) m → IsClosedLabel (data_in s) n → AreAlike m n → AllByRecursion (Decides s yes_decided) (label_equalities m n) → AgreeInOrder (theory_in s) m n
  decided_agree [] [] f h alike d = both_silent
  decided_agree [] (b ∷ n) f h alike d = absurd alike
  decided_agree (a ∷ m) [] f h alike d = absurd alike
  decided_agree (a ∷ m) (b ∷ n) f h alike d =
      let parts = all_cut (Decides s yes_decided) (equalities a.sorts a.args b.args) (label_equalities m n) d in
      let same : HaveSorts (data_in s) [] (terms_of b.args) a.sorts = subst (HaveSorts (data_in s) [] (terms_of b.args)) (sym alike.1) h.0 in
      next_agree (agree_named (theory_in s) a b alike.0 alike.1 (arguments_equal a.sorts a.args b.args f.0 same parts.0)) (decided_agree m n f.1 h.1 alike.2 parts.1)

  -- where the labels agree, the equalities hold
  pub agreeing_hold : {m n : Label} → IsClosedLabel (data_in s) m → IsClosedLabel (data_in s) n → AgreeInOrder (theory_in s) m n → AllByRecursion (Holds s) (label_equalities m n)
  agreeing_hold f h both_silent = tt
  agreeing_hold f h (next_agree {m = m} {n = n} (equal_args {ss = ss} {ts = ts} {us = us} k) d) =
      all_append (Holds s) (equalities ss ts us) (label_equalities m n) (equal_arguments_hold ss f.0 h.0 k) (agreeing_hold f.1 h.1 d)
