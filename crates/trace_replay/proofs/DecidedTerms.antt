-- What closed terms are when they are decided and rewritten.
use Rattle.std.specs.Prelude.{ℕ, List, [], ◌∷◌, Option, Some, None}
use Rattle.std.proofs.Common.{sym, subst, inl, inr}
use Rattle.std.specs.List.{AllByRecursion, AllZip, Contains}
use Rattle.data_theory.specs.Terms.{Sort, boolean, Term, variable, put}
use Rattle.data_theory.specs.Equations.{trueᵗ, falseᵗ}
use Rattle.data_theory.specs.Declarations.{Data, IsData, HasSort, HaveSorts}
use Rattle.data_theory.specs.Environments.{terms_of}
use Rattle.data_theory.specs.Provable.{Equation, ProvablyEqual, reflexive, symmetric, transitive}
use Rattle.data_theory.specs.Rewriting.{GoesTo, IsWellFormed, yes_decided, no_decided}
use Rattle.data_theory.proofs.EnvironmentLemmas.{closed_terms_stay}
use Rattle.data_theory.proofs.GoesToIsEqual.{goes_to_is_provably_equal, goes_to_keeps_the_sort}
use Rattle.process_terms.specs.Theories.{Equal, IsTrue, IsConsistent, Equals, no_terms, more_terms}
use Rattle.bisim_laws.specs.LinearProcesses.{NextEquals, both_without, both_with}
use Rattle.bisim_laws.proofs.Firing.{contains_cases, contains_none}
use Rattle.trace_replay.specs.Settings.{Setting, data_in, theory_in}
use Rattle.lps_simulator.specs.Rewritten.{IsRewritten, NextIsRewritten, both_end, both_go_on}
use Rattle.trace_replay.specs.Decidings.{Decides}

-- what holds of all elements holds of each one
pub one_of_all : {A : Type 0} (P : A → Type 0) (xs : List A) → AllByRecursion P xs → (x : A) → Contains xs x → P x
one_of_all P [] all x i = absurd (contains_none x i)
one_of_all P (y ∷ ys) all x i = elim (contains_cases y x ys i) as (λ _. P x) [ inl e ↦ subst P e all.0 | inr j ↦ one_of_all P ys all.1 x j ]

-- closed terms of these sorts, where there are some
abbrev pub HaveStateSorts : Data → List Sort → Option (List Term) → Type 0
HaveStateSorts g ss None = Unit {0}
HaveStateSorts g ss (Some ts) = HaveSorts g [] (terms_of ts) ss

module _ (s : Setting) (ok : IsData (data_in s)) (formed : (q : Equation) → Contains s.equations q → IsWellFormed (data_in s) q) where
  -- ---- one term
  pub sorted_to : (t u : Term) (n : ℕ) (a : Sort) → HasSort (data_in s) [] t a → GoesTo (data_in s) s.equations t u n → HasSort (data_in s) [] u a
  sorted_to t u n a h r = goes_to_keeps_the_sort (data_in s) s.equations ok formed [] (λ v b k. absurd k) t u n a h r

  pub equal_to : (t u : Term) (n : ℕ) (a : Sort) → HasSort (data_in s) [] t a → GoesTo (data_in s) s.equations t u n → Equal (theory_in s) t u
  equal_to t u n a h r =
      let sorted : HasSort (data_in s) [] u a = sorted_to t u n a h r in
      let e : ProvablyEqual (data_in s) s.equations (put variable t) (put variable u) = goes_to_is_provably_equal (data_in s) s.equations ok formed [] (λ v b k. absurd k) t u n a h r variable (λ v b k. absurd k) in
      subst (λ x. ProvablyEqual (data_in s) s.equations x u) (closed_terms_stay (data_in s) variable t a h) (subst (λ x. ProvablyEqual (data_in s) s.equations (put variable t) x) (closed_terms_stay (data_in s) variable u a sorted) e)

  pub yes_is_true : (t : Term) → HasSort (data_in s) [] t boolean → Decides s yes_decided t → IsTrue (theory_in s) t
  yes_is_true t h d = equal_to t trueᵗ d.0 boolean h d.1

  -- over consistent data what is true isn't decided No
  pub true_is_not_no : IsConsistent (theory_in s) → (t : Term) → HasSort (data_in s) [] t boolean → IsTrue (theory_in s) t → Decides s no_decided t → ⊥
  true_is_not_no consistent t h true_ d = consistent (transitive (symmetric true_) (equal_to t falseᵗ d.0 boolean h d.1))

  -- ---- what terms are rewritten to
  pub rewritten_equal : (t u : Term) (a : Sort) → HasSort (data_in s) [] t a → IsRewritten (data_in s) s.equations s.fuel t u → Equal (theory_in s) t u
  rewritten_equal t u a h (inl r) = equal_to t u r.0 a h r.1
  rewritten_equal t u a h (inr r) = subst (λ (x : Term). Equal (theory_in s) t x) (sym r.0) reflexive

  pub rewritten_sorted : (t u : Term) (a : Sort) → HasSort (data_in s) [] t a → IsRewritten (data_in s) s.equations s.fuel t u → HasSort (data_in s) [] u a
  rewritten_sorted t u a h (inl r) = sorted_to t u r.0 a h r.1
  rewritten_sorted t u a h (inr r) = subst (λ (x : Term). HasSort (data_in s) [] x a) (sym r.0) h

  pub all_rewritten_equal : (ss : List Sort) (ts us : List Term) → HaveSorts (data_in s) [] (terms_of ts) ss → AllZip (IsRewritten (data_in s) s.equations s.fuel) ts us → Equals (theory_in s) ts us
  all_rewritten_equal ss [] [] h k = no_terms
  all_rewritten_equal ss [] (u ∷ us) h k = absurd k
  all_rewritten_equal ss (t ∷ ts) [] h k = absurd k
  all_rewritten_equal [] (t ∷ ts) (u ∷ us) h k = absurd h
  all_rewritten_equal (a ∷ ss) (t ∷ ts) (u ∷ us) h k = more_terms (rewritten_equal t u a h.0 k.0) (all_rewritten_equal ss ts us h.1 k.1)

  pub all_rewritten_sorted : (ss : List Sort) (ts us : List Term) → HaveSorts (data_in s) [] (terms_of ts) ss → AllZip (IsRewritten (data_in s) s.equations s.fuel) ts us → HaveSorts (data_in s) [] (terms_of us) ss
  all_rewritten_sorted ss [] [] h k = h
  all_rewritten_sorted ss [] (u ∷ us) h k = absurd k
  all_rewritten_sorted ss (t ∷ ts) [] h k = absurd k
  all_rewritten_sorted [] (t ∷ ts) (u ∷ us) h k = absurd h
  all_rewritten_sorted (a ∷ ss) (t ∷ ts) (u ∷ us) h k = (rewritten_sorted t u a h.0 k.0, all_rewritten_sorted ss ts us h.1 k.1)

  -- ---- next arguments
  pub next_rewritten_equal : (ss : List Sort) {o p : Option (List Term)} → HaveStateSorts (data_in s) ss o → NextIsRewritten (data_in s) s.equations s.fuel o p → NextEquals (theory_in s) o p
  next_rewritten_equal ss h both_end = both_without
  next_rewritten_equal ss h (both_go_on {ts = ts} {us = us} k) = both_with (all_rewritten_equal ss ts us h k)

  pub next_rewritten_sorted : (ss : List Sort) {o p : Option (List Term)} → HaveStateSorts (data_in s) ss o → NextIsRewritten (data_in s) s.equations s.fuel o p → HaveStateSorts (data_in s) ss p
  next_rewritten_sorted ss h both_end = h
  next_rewritten_sorted ss h (both_go_on {ts = ts} {us = us} k) = all_rewritten_sorted ss ts us h k
