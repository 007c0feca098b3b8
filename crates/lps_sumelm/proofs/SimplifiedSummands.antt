-- Summands whose terms were simplified do what they did.
use Rattle.std.proofs.Common.{◌≡◌, ℕ, suc, List, [], ◌∷◌, ◌++◌, map, length, refl, sym, ap, ap₂, ◌∙◌, subst, Option}
use Rattle.std.specs.Prelude.{Contains}
use Rattle.std.specs.List.{AllZip}
use Rattle.data_theory.specs.Terms.{Sort, boolean, Term, put}
use Rattle.data_theory.specs.Declarations.{HasSort, HaveSorts, NoSortIsEmpty}
use Rattle.data_theory.specs.Environments.{Environment, term_in, terms_of, IsOver, AreOver, AreDistinct}
use Rattle.data_theory.specs.Provable.{Equation, symmetric, transitive}
use Rattle.data_theory.specs.Rewriting.{AreSorts}
use Rattle.data_theory.specs.Signature.{Sig}
use Rattle.data_theory.specs.IdData.{data_meant}
use Rattle.data_theory.proofs.EnvironmentLemmas.{agreeing_give_the_same_term}
use Rattle.data_rewriter.specs.Simplifying.{AreLater}
use Rattle.process_terms.specs.Theories.{Theory, Equal, Equals, no_terms, more_terms, AreOfSorts}
use Rattle.process_terms.specs.Labels.{Action, Label, put_label, equal_args, AgreeInOrder, both_silent, next_agree}
use Rattle.process_terms.specs.Processes.{Bound}
use Rattle.process_terms.proofs.AgreeingLabels.{agree_sym, equals_sym}
use Rattle.bisim_laws.specs.LinearProcesses.{Summand, variables, sorts, reading, put_next, NextEquals, both_without, both_with, LabelIsOver, no_action_left, action_over, NextIsOver, no_next, next_over, IsSummand, LabelIsSorted, no_action_to_sort, action_sorted, NextIsSorted, no_next_to_sort, next_sorted, SummandIsSorted, AreDeclared, HaveDataSorts, AreBound}
use Rattle.lps_core.proofs.GrowingData.{sort_grown}
use Rattle.lps_core.proofs.SortedTerms.{HaveTerms}
use Rattle.lps_sumelm.specs.Simplified.{IsAnswer, ActionBecomes, NextBecomes, neither_goes_on, both_go_on, SummandBecomes}
use Rattle.lps_sumelm.specs.SolvingLaws.{IsAnswered, AnswerEachOther}
use Rattle.lps_sumelm.proofs.ClosedTerms.{closing, closing_closes, closing_agrees}
use Rattle.lps_sumelm.proofs.SolvingSteps.{terms_for}

-- actions have their names and sorts
pub action_is : {To : Term → Term → Type 0} {a b : Action} → ActionBecomes To a b → b ≡ record { name = a.name; sorts = a.sorts; args = b.args }
action_is {a = a} {b = b} h = ap₂ (λ n ss. record { name = n; sorts = ss; args = b.args }) h.name h.sorts

module _ (g : Sig) (own : List Equation) (P : Term → Type 0) where
  abbrev To : Term → Term → Type 0
  To = IsAnswer g own P

  -- ---- the shape
  terms_over : (xs : List ℕ) (ts us : List Term) → AllZip To ts us → AreOver xs (terms_of ts) → AreOver xs (terms_of us)
  terms_over xs [] [] h i = tt
  terms_over xs [] (u ∷ us) h i = absurd h
  terms_over xs (t ∷ ts) [] h i = absurd h
  terms_over xs (t ∷ ts) (u ∷ us) h i = (h.0.variables xs i.0, terms_over xs ts us h.1 i.1)

  terms_long : (ts us : List Term) → AllZip To ts us → length us ≡ length ts
  terms_long [] [] h = refl
  terms_long [] (u ∷ us) h = absurd h
  terms_long (t ∷ ts) [] h = absurd h
  terms_long (t ∷ ts) (u ∷ us) h = ap suc (terms_long ts us h.1)

  label_over : (xs : List ℕ) (m n : Label) → AllZip (ActionBecomes To) m n → LabelIsOver xs m → LabelIsOver xs n
  label_over xs [] [] h i = no_action_left
  label_over xs [] (b ∷ n) h i = absurd h
  label_over xs (a ∷ m) [] h i = absurd h
  label_over xs (a ∷ m) (b ∷ n) h (action_over i k) = action_over (terms_over xs a.args b.args h.0.args i) (label_over xs m n h.1 k)

  next_is_over : (xs : List ℕ) (ps : List Bound) {o q : Option (List Term)} → NextBecomes To o q → NextIsOver xs ps o → NextIsOver xs ps q
  next_is_over xs ps neither_goes_on i = no_next
  next_is_over xs ps (both_go_on {ts = ts} {us = us} h) (next_over i l) = next_over (terms_over xs ts us h i) (terms_long ts us h ∙ l)

  pub becomes_shape : (params : List Bound) (s t : Summand) → SummandBecomes To s t → IsSummand params s → IsSummand params t
  becomes_shape params s t h is =
      let same : variables t.sums ++ variables params ≡ variables s.sums ++ variables params = ap (λ xs. variables xs ++ variables params) h.sums in
      let xs = variables s.sums ++ variables params in
      record {
        condition = subst (λ ys. IsOver ys t.condition) (sym same) (h.condition.variables xs is.condition);
        label = subst (λ ys. LabelIsOver ys t.label) (sym same) (label_over xs s.label t.label h.label is.label);
        next = subst (λ ys. NextIsOver ys params t.next) (sym same) (next_is_over xs params h.next is.next);
        apart = λ v i. is.apart v (subst (λ ys. Contains (variables ys) v) h.sums i);
        distinct = subst (λ ys. AreDistinct (variables ys)) (sym h.sums) is.distinct;
      }

  -- ---- the sorts
  module _ (vs : List Sort) (of_data : AreSorts (data_meant g) vs) where
    terms_sorted : (ts us : List Term) (ss : List Sort) → AllZip To ts us → HaveSorts (data_meant g) vs (terms_of ts) ss → HaveSorts (data_meant g) vs (terms_of us) ss
    terms_sorted [] [] ss h i = i
    terms_sorted [] (u ∷ us) ss h i = absurd h
    terms_sorted (t ∷ ts) [] ss h i = absurd h
    terms_sorted (t ∷ ts) (u ∷ us) [] h i = absurd i
    terms_sorted (t ∷ ts) (u ∷ us) (s ∷ ss) h i = (h.0.sort vs of_data s i.0, terms_sorted ts us ss h.1 i.1)

    label_is_sorted : (m n : Label) → AllZip (ActionBecomes To) m n → LabelIsSorted (data_meant g) vs m → LabelIsSorted (data_meant g) vs n
    label_is_sorted [] [] h i = no_action_to_sort
    label_is_sorted [] (b ∷ n) h i = absurd h
    label_is_sorted (a ∷ m) [] h i = absurd h
    label_is_sorted (a ∷ m) (b ∷ n) h (action_sorted i k) =
        action_sorted (subst (λ ss. HaveSorts (data_meant g) vs (terms_of b.args) ss) (sym h.0.sorts) (terms_sorted a.args b.args a.sorts h.0.args i)) (label_is_sorted m n h.1 k)

    next_is_sorted : (ss : List Sort) {o q : Option (List Term)} → NextBecomes To o q → NextIsSorted (data_meant g) vs ss o → NextIsSorted (data_meant g) vs ss q
    next_is_sorted ss neither_goes_on i = no_next_to_sort
    next_is_sorted ss (both_go_on {ts = ts} {us = us} h) (next_sorted i) = next_sorted (terms_sorted ts us ss h i)

    pub becomes_sorts : (params : List Bound) (s t : Summand) → SummandBecomes To s t → SummandIsSorted (data_meant g) vs params s → SummandIsSorted (data_meant g) vs params t
    becomes_sorts params s t h is = record {
      sums = subst (AreDeclared vs) (sym h.sums) is.sums;
      sum_sorts = subst (HaveDataSorts (data_meant g)) (sym h.sums) is.sum_sorts;
      condition = h.condition.sort vs of_data boolean is.condition;
      label = label_is_sorted s.label t.label h.label is.label;
      next = next_is_sorted (sorts params) h.next is.next;
    }

  -- ---- what they do
  module _ (vs : List Sort) (of_data : AreSorts (data_meant g) vs) (th : Theory) (later : AreLater g own th.declared th.equations) (some : NoSortIsEmpty th.declared) where
    later_sorts : AreSorts th.declared vs
    later_sorts = λ v s d. sort_grown (data_meant g) th.declared later.grows s (of_data v s d)

    module _ (xs : List ℕ) (e : ℕ → Term) (has : HaveTerms th.declared vs xs e) where
      abbrev f : ℕ → Term
      f = closing th.declared some vs later_sorts xs e has

      put_same : (t : Term) → IsOver xs t → put f t ≡ put e t
      put_same t i = agreeing_give_the_same_term xs f e (closing_agrees th.declared some vs later_sorts xs e has) t i

      term_equal : (t u : Term) (s : Sort) → To t u → IsOver xs t → HasSort (data_meant g) vs t s → Equal th (put e t) (put e u)
      term_equal t u s h i k =
          subst (λ z. Equal th z (put e u)) (put_same t i)
          (subst (λ z. Equal th (put f t) z) (put_same u (h.variables xs i)) (h.equal vs of_data s k th.declared th.equations later f (closing_closes th.declared some vs later_sorts xs e has)))

      terms_equal : (ts us : List Term) (ss : List Sort) → AllZip To ts us → AreOver xs (terms_of ts) → HaveSorts (data_meant g) vs (terms_of ts) ss → Equals th (map (put e) ts) (map (put e) us)
      terms_equal [] [] ss h i k = no_terms
      terms_equal [] (u ∷ us) ss h i k = absurd h
      terms_equal (t ∷ ts) [] ss h i k = absurd h
      terms_equal (t ∷ ts) (u ∷ us) [] h i k = absurd k
      terms_equal (t ∷ ts) (u ∷ us) (s ∷ ss) h i k = more_terms (term_equal t u s h.0 i.0 k.0) (terms_equal ts us ss h.1 i.1 k.1)

    label_equal : (xs : List ℕ) (e : Environment) (has : HaveTerms th.declared vs xs (term_in e)) (m n : Label) → AllZip (ActionBecomes To) m n → LabelIsOver xs m → LabelIsSorted (data_meant g) vs m → AgreeInOrder th (put_label e m) (put_label e n)
    label_equal xs e has [] [] h i k = both_silent
    label_equal xs e has [] (b ∷ n) h i k = absurd h
    label_equal xs e has (a ∷ m) [] h i k = absurd h
    label_equal xs e has (a ∷ m) (b ∷ n) h (action_over i j) (action_sorted k l) =
        subst (λ z. AgreeInOrder th (put_label e (a ∷ m)) (put_label e (z ∷ n))) (sym (action_is h.0))
        (next_agree (equal_args (terms_equal xs (term_in e) has a.args b.args a.sorts h.0.args i k)) (label_equal xs e has m n h.1 j l))

    next_equal : (xs : List ℕ) (ps : List Bound) (e : Environment) (has : HaveTerms th.declared vs xs (term_in e)) {o q : Option (List Term)} → NextBecomes To o q → NextIsOver xs ps o → NextIsSorted (data_meant g) vs (sorts ps) o → NextEquals th (put_next e o) (put_next e q)
    next_equal xs ps e has neither_goes_on i k = both_without
    next_equal xs ps e has (both_go_on {ts = ts} {us = us} h) (next_over i l) (next_sorted k) = both_with (terms_equal xs (term_in e) has ts us (sorts ps) h i k)

    pub becomes_answers : (params : List Bound) → AreDeclared vs params → (s t : Summand) → SummandBecomes To s t → IsSummand params s → SummandIsSorted (data_meant g) vs params s → AnswerEachOther th params s t
    becomes_answers params declared s t h is sorted = record { forth = forth; back = back }
      where
        at : (e : Environment) → AreBound th s.sums e → AreOfSorts th (sorts params) (reading e (variables params)) → HaveTerms th.declared vs (variables s.sums ++ variables params) (term_in e)
        at e b a = terms_for th vs params s.sums declared sorted.sums e b a

        forth : IsAnswered th params s t
        forth e b a c =
            let has = at e b a in
            record {
              environment = e;
              reads = refl;
              bound = subst (λ ys. AreBound th ys e) (sym h.sums) b;
              holds = transitive (symmetric (term_equal (variables s.sums ++ variables params) (term_in e) has s.condition t.condition boolean h.condition is.condition sorted.condition)) c;
              label = label_equal (variables s.sums ++ variables params) e has s.label t.label h.label is.label sorted.label;
              next = next_equal (variables s.sums ++ variables params) params e has h.next is.next sorted.next;
            }

        back : IsAnswered th params t s
        back e b' a c =
            let b : AreBound th s.sums e = subst (λ ys. AreBound th ys e) h.sums b' in
            let has = at e b a in
            record {
              environment = e;
              reads = refl;
              bound = b;
              holds = transitive (term_equal (variables s.sums ++ variables params) (term_in e) has s.condition t.condition boolean h.condition is.condition sorted.condition) c;
              label = agree_sym (label_equal (variables s.sums ++ variables params) e has s.label t.label h.label is.label sorted.label);
              next = next_turned (next_equal (variables s.sums ++ variables params) params e has h.next is.next sorted.next);
            }
          where
            next_turned : {o q : Option (List Term)} → NextEquals th o q → NextEquals th q o
            next_turned both_without = both_without
            next_turned (both_with h) = both_with (equals_sym h)
