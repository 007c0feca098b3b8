-- Closed terms that are rewritten: their sorts, and that they stay provably equal.
use Rattle.std.proofs.Common.{◌≡◌, ℕ, List, [], ◌∷◌, ◌++◌, map, sym, ap₂, subst, ⊎_elim, append-nil, Option, Some, None}
use Rattle.std.specs.Prelude.{◌⊎◌, Contains}
use Rattle.std.specs.List.{AllZip}
use Rattle.data_theory.specs.Terms.{Sort, Term, Terms, variable, more, put}
use Rattle.data_theory.specs.Declarations.{Data, IsData, HasSort, HaveSorts}
use Rattle.data_theory.specs.Environments.{terms_of}
use Rattle.data_theory.specs.EqualityLaws.{Grows, AreAmong}
use Rattle.data_theory.specs.Provable.{Equation, ProvablyEqual, reflexive, symmetric}
use Rattle.data_theory.specs.Rewriting.{GoesTo, ChainOfMoreThan, IsWellFormed}
use Rattle.data_theory.proofs.EnvironmentLemmas.{closed_terms_stay}
use Rattle.data_theory.proofs.GoesToIsEqual.{goes_to_keeps_the_sort}
use Rattle.data_theory.proofs.GrowthLemmas.{growth_keeps_derivations}
use Rattle.data_rewriter.proofs.LaterData.{goes_to_is_equal_later}
use Rattle.process_terms.specs.Theories.{Theory, Equal, Equals, no_terms, more_terms}
use Rattle.process_terms.specs.Labels.{Action, Label, AgreeAction, equal_args, AgreeInOrder, both_silent, next_agree}
use Rattle.bisim_laws.specs.LinearProcesses.{LabelIsSorted, no_action_to_sort, action_sorted, NextIsSorted, no_next_to_sort, next_sorted, NextEquals, both_without, both_with}
use Rattle.lps_simulator.specs.Rewritten.{IsRewritten, ActionIsRewritten, LabelIsRewritten, NextIsRewritten, both_end, both_go_on}

-- ---- sorts
module _ (g : Data) (own : List Equation) (formed : IsData g) (fine : (q : Equation) → Contains own q → IsWellFormed g q) (fuel : ℕ) where
  pub sort_kept : (t u : Term) (s : Sort) → HasSort g [] t s → IsRewritten g own fuel t u → HasSort g [] u s
  sort_kept t u s h r = ⊎_elim
      (λ k. goes_to_keeps_the_sort g own formed fine [] (λ v a d. absurd d) t u k.0 s h k.1)
      (λ k. subst (λ z. HasSort g [] z s) (sym k.0) h)
      r

  pub sorts_kept : (ts us : List Term) (ss : List Sort) → HaveSorts g [] (terms_of ts) ss → AllZip (IsRewritten g own fuel) ts us → HaveSorts g [] (terms_of us) ss
  sorts_kept [] [] ss h r = h
  sorts_kept [] (u ∷ us) ss h r = absurd r
  sorts_kept (t ∷ ts) [] ss h r = absurd r
  sorts_kept (t ∷ ts) (u ∷ us) [] h r = absurd h
  sorts_kept (t ∷ ts) (u ∷ us) (s ∷ ss) h r = (sort_kept t u s h.0 r.0, sorts_kept ts us ss h.1 r.1)

  pub label_sorts_kept : (m n : Label) → LabelIsSorted g [] m → LabelIsRewritten g own fuel m n → LabelIsSorted g [] n
  label_sorts_kept [] [] h r = no_action_to_sort
  label_sorts_kept [] (b ∷ n) h r = absurd r
  label_sorts_kept (a ∷ m) [] h r = absurd r
  label_sorts_kept (a ∷ m) (b ∷ n) (action_sorted h k) r =
      action_sorted (subst (λ ss. HaveSorts g [] (terms_of b.args) ss) (sym r.0.sorts) (sorts_kept a.args b.args a.sorts h r.0.args)) (label_sorts_kept m n k r.1)

  pub next_sorts_kept : (ss : List Sort) {o q : Option (List Term)} → NextIsSorted g [] ss o → NextIsRewritten g own fuel o q → NextIsSorted g [] ss q
  next_sorts_kept ss h both_end = no_next_to_sort
  next_sorts_kept ss (next_sorted h) (both_go_on {ts = ts} {us = us} r) = next_sorted (sorts_kept ts us ss h r)

  -- ---- equality, over later data
  module _ (th : Theory) (grows : Grows g th.declared) (later : IsData th.declared) (among : AreAmong own th.equations) where
    itself_grows : (h : Data) → Grows h h
    itself_grows h = record { new_sorts = []; new_functions = []; sorts = sym (append-nil h.sorts); functions = sym (append-nil h.functions) }

    pub goes_equal : (t u : Term) (s : Sort) (n : ℕ) → HasSort g [] t s → GoesTo g own t u n → Equal th t u
    goes_equal t u s n h k =
        let closed : HasSort g [] u s = goes_to_keeps_the_sort g own formed fine [] (λ v a d. absurd d) t u n s h k in
        growth_keeps_derivations th.declared th.declared (itself_grows th.declared) own th.equations among t u
        (subst (λ z. ProvablyEqual th.declared own z u) (closed_terms_stay g variable t s h)
        (subst (λ z. ProvablyEqual th.declared own (put variable t) z) (closed_terms_stay g variable u s closed)
        (goes_to_is_equal_later g th.declared own grows formed later fine [] (λ v a d. absurd d) t u n s h k variable (λ v a d. absurd d))))

    pub equal_back : (t u : Term) (s : Sort) → HasSort g [] t s → IsRewritten g own fuel t u → Equal th u t
    equal_back t u s h r = ⊎_elim
        (λ k. symmetric (goes_equal t u s k.0 h k.1))
        (λ k. subst (λ z. Equal th z t) (sym k.0) reflexive)
        r

    pub equals_back : (ts us : List Term) (ss : List Sort) → HaveSorts g [] (terms_of ts) ss → AllZip (IsRewritten g own fuel) ts us → Equals th us ts
    equals_back [] [] ss h r = no_terms
    equals_back [] (u ∷ us) ss h r = absurd r
    equals_back (t ∷ ts) [] ss h r = absurd r
    equals_back (t ∷ ts) (u ∷ us) [] h r = absurd h
    equals_back (t ∷ ts) (u ∷ us) (s ∷ ss) h r = more_terms (equal_back t u s h.0 r.0) (equals_back ts us ss h.1 r.1)

    action_agrees : (a b : Action) → HaveSorts g [] (terms_of a.args) a.sorts → ActionIsRewritten g own fuel a b → AgreeAction th b a
    action_agrees a b h r =
        subst (λ (z : Action). AgreeAction th z a) (same a b r.name r.sorts) (equal_args {n = a.name} {ss = a.sorts} (equals_back a.args b.args a.sorts h r.args))
      where
        same : (a b : Action) → b.name ≡ a.name → b.sorts ≡ a.sorts → record { name = a.name; sorts = a.sorts; args = b.args } ≡ b
        same a b e k = sym (ap₂ (λ n ss. record { name = n; sorts = ss; args = b.args }) e k)

    pub label_agrees : (m n : Label) → LabelIsSorted g [] m → LabelIsRewritten g own fuel m n → AgreeInOrder th n m
    label_agrees [] [] h r = both_silent
    label_agrees [] (b ∷ n) h r = absurd r
    label_agrees (a ∷ m) [] h r = absurd r
    label_agrees (a ∷ m) (b ∷ n) (action_sorted h k) r = next_agree (action_agrees a b h r.0) (label_agrees m n k r.1)

    pub next_equal : (ss : List Sort) {o q : Option (List Term)} → NextIsSorted g [] ss o → NextIsRewritten g own fuel o q → NextEquals th q o
    next_equal ss h both_end = both_without
    next_equal ss (next_sorted h) (both_go_on {ts = ts} {us = us} r) = both_with (equals_back ts us ss h r)
