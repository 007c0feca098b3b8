-- What a term goes to is provably equal to it over data that go on from those in which it was rewritten.
use Rattle.std.proofs.Common.{◌≡◌, ℕ, List, [], ◌∷◌, length, sym, ap, ◌∙◌, subst, arith, length-append}
use Rattle.std.specs.Prelude.{Contains}
use Rattle.std.proofs.lemmas.Option.{slice_get_within, get_or_from_slice_get}
use Rattle.data_theory.specs.Terms.{Sort, boolean, positive, natural, integer, list, named, Term, Terms, more, apply, put, put_all}
use Rattle.data_theory.specs.Declarations.{Data, IsData, IsSort, argument_sorts, HasSort, HaveSorts}
use Rattle.data_theory.specs.Equations.{trueᵗ}
use Rattle.data_theory.specs.EqualityLaws.{Grows}
use Rattle.data_theory.specs.Provable.{Equation, ProvablyEqual, PlacesEqual, reflexive, transitive, congruent, built_in, no_places, place}
use Rattle.data_theory.specs.Rewriting.{Applies, a_line, an_equation, GoesTo, a_variable, a_numeral, an_unknown, by_the_first, by_all, ArgumentsGoTo, no_arguments, an_argument, RootGoesTo, merged, tries, FromEquation, stays, passed, refused, used, ConditionGoesTo, without_condition, with_condition, IsWellFormed, AreSorts, Closes}
use Rattle.data_theory.proofs.EqualityLemmas.{places_reflexive}
use Rattle.data_theory.proofs.EnvironmentLemmas.{put-apply, putting_in_keeps_sorts, applications_have_sorts}
use Rattle.data_theory.proofs.LinesOnTerms.{line_put}
use Rattle.data_theory.proofs.GrowthLemmas.{line_in_grown, growth_keeps_sorts}
use Rattle.data_theory.proofs.GoesToIsEqual.{applied, equation_applied, looks_first_unmerged}

module _ (g h : Data) (grows : Grows g h) where
  sort_on : (s : Sort) → IsSort g s → IsSort h s
  sort_on boolean k = tt
  sort_on positive k = tt
  sort_on natural k = tt
  sort_on integer k = tt
  sort_on (list s) k = sort_on s k
  sort_on (named d) k = let e = ap length grows.sorts ∙ length-append g.sorts grows.new_sorts in omega (arith, e, k)

  equation_on : (q : Equation) → IsWellFormed g q → IsWellFormed h q
  equation_on q w = record {
    covered = w.covered;
    no_variable = w.no_variable;
    sort = w.sort;
    condition = growth_keeps_sorts g h grows q.sorts q.condition boolean w.condition;
    left = growth_keeps_sorts g h grows q.sorts q.left w.sort w.left;
    right = growth_keeps_sorts g h grows q.sorts q.right w.sort w.right;
  }

module _ (g h : Data) (own : List Equation) (grows : Grows g h) (ok : IsData g) (later : IsData h) (all : (q : Equation) → Contains own q → IsWellFormed g q) (vs : List Sort) (sorts : AreSorts g vs) where
  -- u has the sort s, and the closed instances of t and u over the later data are provably equal
  record Follows (t u : Term) (s : Sort) : Type 0 where
    sort : HasSort g vs u s
    equal : (e : ℕ → Term) → Closes h vs e → ProvablyEqual h own (put e t) (put e u)

  record AllFollow (ts us : Terms) (ss : List Sort) : Type 0 where
    sorts' : HaveSorts g vs us ss
    equal : (e : ℕ → Term) → Closes h vs e → PlacesEqual h own (put_all e ts) (put_all e us)

  later_sorts : AreSorts h vs
  later_sorts = λ v s d. sort_on g h grows s (sorts v s d)

  -- an equation that is used
  used_later : {k : ℕ} {t c r : Term} {x : ℕ} (s : Sort) → HasSort g vs t s → Applies g own k t c r x → (e : ℕ → Term) → Closes h vs e → ProvablyEqual h own (put e c) trueᵗ → ProvablyEqual h own (put e t) (put e r)
  used_later {t = t} s i (a_line b p) e closes c =
      let l = line_in_grown g h grows b in
      let j = growth_keeps_sorts g h grows vs t s i in
      built_in s (line_put h vs later later_sorts l s j e) (putting_in_keeps_sorts h vs [] e closes t s j) c
  used_later {t = t} s i (an_equation {q = q} n d p k is) e closes c =
      let j = subst (λ x. HasSort h vs x s) (sym is) (growth_keeps_sorts g h grows vs t s i) in
      let w = equation_applied h own later (λ q m. equation_on g h grows q (all q m)) vs later_sorts q (n, slice_get_within own n q p, get_or_from_slice_get own n q q p) d s j in
      subst (λ x. ProvablyEqual h own (put e x) (put e (put d q.right))) is (w.equal e closes c)

  first_follows : (ss : List Sort) (a b : Term) (ts : Terms) → ((s : Sort) → HasSort g vs a s → Follows a b s) → HaveSorts g vs (more a ts) ss → AllFollow (more a ts) (more b ts) ss
  first_follows [] a b ts f i = absurd i
  first_follows (s ∷ ss) a b ts f i = let r = f s i.0 in record { sorts' = (r.sort, i.1); equal = λ e closes. place (r.equal e closes) (places_reflexive h own (put_all e ts)) }

  mutual
    follows : {t u : Term} {n : ℕ} → GoesTo g own t u n → (s : Sort) → HasSort g vs t s → Follows t u s
    follows a_variable s i = record { sort = i; equal = λ e closes. reflexive }
    follows a_numeral s i = record { sort = i; equal = λ e closes. reflexive }
    follows an_unknown s i = record { sort = i; equal = λ e closes. reflexive }
    follows (by_the_first {f = f} {t = a} {b = b} {ts = ts} k c r) s i =
        let p = first_follows (argument_sorts g f) a b ts (λ x j. follows k x j) i.1 in
        let q = root_follows r s (i.0, p.sorts', i.2, looks_first_unmerged f (more b ts) c.0) in
        record { sort = q.sort; equal = λ e closes. transitive (congruent f (p.equal e closes)) (q.equal e closes) }
    follows (by_all {f = f} {us = us} {u = u} k n r) s i =
        let p = all_follow k (argument_sorts g f) i.1 in
        let sort : HasSort g vs (apply f us) s = subst (HasSort g vs (apply f us)) i.2 (applications_have_sorts g vs f us i.0 p.sorts') in
        let q = root_follows r s sort in
        record { sort = q.sort; equal = λ e closes. transitive (congruent f (p.equal e closes)) (subst (λ x. ProvablyEqual h own x (put e u)) (put-apply e f us) (q.equal e closes)) }

    all_follow : {ts us : Terms} {n : ℕ} → ArgumentsGoTo g own ts us n → (ss : List Sort) → HaveSorts g vs ts ss → AllFollow ts us ss
    all_follow no_arguments ss i = record { sorts' = i; equal = λ e closes. no_places }
    all_follow (an_argument k rest) [] i = absurd i
    all_follow (an_argument k rest) (s ∷ ss) i =
        let p = follows k s i.0 in
        let q = all_follow rest ss i.1 in
        record { sorts' = (p.sort, q.sorts'); equal = λ e closes. place (p.equal e closes) (q.equal e closes) }

    root_follows : {t u : Term} {n : ℕ} → RootGoesTo g own t u n → (s : Sort) → HasSort g vs t s → Follows t u s
    root_follows merged s i = record { sort = i; equal = λ e closes. reflexive }
    root_follows (tries r) s i = equation_follows r s i

    condition_follows : {c d : Term} {n : ℕ} → ConditionGoesTo g own c d n → HasSort g vs c boolean → d ≡ trueᵗ → (e : ℕ → Term) → Closes h vs e → ProvablyEqual h own (put e c) trueᵗ
    condition_follows {c} (without_condition p) i k e closes = subst (λ x. ProvablyEqual h own (put e x) trueᵗ) (sym p) reflexive
    condition_follows {c} (with_condition n j) i k e closes = subst (λ x. ProvablyEqual h own (put e c) (put e x)) k ((follows j boolean i).equal e closes)

    equation_follows : {k : ℕ} {t u : Term} {n : ℕ} → FromEquation g own k t u n → (s : Sort) → HasSort g vs t s → Follows t u s
    equation_follows (stays p) s i = record { sort = i; equal = λ e closes. reflexive }
    equation_follows (passed l n r) s i = equation_follows r s i
    equation_follows (refused l a c d r) s i = equation_follows r s i
    equation_follows (used l a c d r) s i =
        let p = applied g own ok all vs sorts s i a in
        let q = follows r s p.sort in
        record { sort = q.sort; equal = λ e closes. transitive (used_later s i a e closes (condition_follows c p.condition d e closes)) (q.equal e closes) }

-- over the same written equations
pub goes_to_is_equal_later : (g h : Data) (own : List Equation) → Grows g h → IsData g → IsData h → ((q : Equation) → Contains own q → IsWellFormed g q)
    → (vs : List Sort) → AreSorts g vs → (t u : Term) (n : ℕ) (s : Sort) → HasSort g vs t s → GoesTo g own t u n → (e : ℕ → Term) → Closes h vs e → ProvablyEqual h own (put e t) (put e u)
goes_to_is_equal_later g h own grows ok later all vs sorts t u n s i r e closes = (follows g h own grows ok later all vs sorts r s i).equal e closes
