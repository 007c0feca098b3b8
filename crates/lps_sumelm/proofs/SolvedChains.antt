-- Solved summands do what the summands did, and nothing is left to solve.
use Rattle.std.proofs.Common.{◌≡◌, ℕ, Bool, true, false, List, [], ◌∷◌, refl, sym, ap, ◌∙◌, subst, ⊎_elim, if◌then◌else◌, Option}
use Rattle.std.specs.Prelude.{Contains}
use Rattle.std.specs.List.{AllByRecursion, AllZip}
use Rattle.data_theory.specs.Terms.{Sort, boolean, Term}
use Rattle.data_theory.specs.Declarations.{Data, NoSortIsEmpty}
use Rattle.data_theory.specs.EqualityLaws.{Grows}
use Rattle.data_theory.specs.Provable.{Equation}
use Rattle.data_theory.specs.Rewriting.{AreSorts}
use Rattle.data_theory.specs.Signature.{Sig}
use Rattle.data_theory.specs.IdData.{data_meant}
use Rattle.data_theory.proofs.GrowthLemmas.{growth_keeps_sorts}
use Rattle.data_rewriter.specs.Simplifying.{AreLater}
use Rattle.process_terms.specs.Theories.{Theory}
use Rattle.process_terms.specs.Labels.{Action, Label}
use Rattle.process_terms.specs.Processes.{Bound}
use Rattle.bisim_laws.specs.LinearProcesses.{Summand, variables, sorts, is_true, IsSummand, SummandIsSorted, AreDeclared}
use Rattle.bisim_laws.proofs.Firing.{contains_none, contains_first, contains_later, contains_cases}
use Rattle.lps_core.specs.Conditions.{parts, without_true}
use Rattle.lps_core.proofs.GrowingData.{data_sorts_grown, label_grown, next_grown}
use Rattle.lps_sumelm.specs.Solutions.{Gives, on_the_left, on_the_right}
use Rattle.lps_sumelm.specs.Simplified.{IsAnswer, ActionBecomes, NextBecomes, neither_goes_on, both_go_on, SummandBecomes, NextHas, EachTermIs}
use Rattle.lps_sumelm.specs.Solving.{solve, conditions_of, IsSolvedFrom, nothing_to_solve, one_solved, IsSolvedSummand}
use Rattle.lps_sumelm.specs.SolvingLaws.{AnswerEachOther, HasNoSolution, HasNoUnused}
use Rattle.lps_sumelm.proofs.SolvableParts.{tests_differ, first_is_found, none_is_solvable}
use Rattle.lps_sumelm.proofs.AnsweringSummands.{each_other_then, AllAnswer}
use Rattle.lps_sumelm.proofs.SolvingSteps.{solve_shape, solve_sorts, solve_answers}
use Rattle.lps_sumelm.proofs.ClosedTerms.{a_term, inhabited}
use Rattle.lps_sumelm.proofs.SimplifiedSummands.{becomes_shape, becomes_sorts, becomes_answers}
use Rattle.lps_sumelm.proofs.UnusedSums.{used_number, none_unused, unused_answers, unused_shape, unused_sorts}

-- ---- what is left
given_is_not_true : {p : Term} {v : ℕ} {t : Term} → Gives p v t → is_true p ≡ false
given_is_not_true on_the_left = refl
given_is_not_true on_the_right = refl

fewer_contain : (cs : List Term) (p : Term) → is_true p ≡ false → Contains cs p → Contains (without_true cs) p
fewer_contain [] p e i = absurd (contains_none p i)
fewer_contain (c ∷ cs) p e i = by_test (is_true c) refl (λ j. fewer_contain cs p e j)
  where
    by_test : (b : Bool) → is_true c ≡ b → (Contains cs p → Contains (without_true cs) p) → Contains (if b then without_true cs else c ∷ without_true cs) p
    by_test true q again = ⊎_elim (λ k. absurd (tests_differ (sym q ∙ ap is_true k ∙ e))) again (contains_cases c p cs i)
    by_test false q again = ⊎_elim (λ k. subst (λ z. Contains (c ∷ without_true cs) z) k (contains_first c (without_true cs))) (λ j. contains_later c p (without_true cs) (again j)) (contains_cases c p cs i)

module _ (To : Term → Term → Type 0) where
  pub nothing_left : {s t : Summand} → IsSolvedFrom To s t → HasNoSolution t
  nothing_left (nothing_to_solve {s = s} h) = λ p b i k.
      none_is_solvable (variables s.sums) (conditions_of s) h p b (fewer_contain (parts s.condition) p (given_is_not_true k.gives) i) (record { gives = k.gives; among = used_number _ s.sums b.var k.among; absent = k.absent })
  nothing_left (one_solved f h k) = nothing_left k

  pub all_occur : {s t : Summand} → IsSolvedFrom To s t → HasNoUnused t
  all_occur (nothing_to_solve {s = s} h) = none_unused s
  all_occur (one_solved f h k) = all_occur k

-- ---- all terms are simple
module _ (g : Sig) (own : List Equation) (P : Term → Type 0) where
  terms_simple : (ts us : List Term) → AllZip (IsAnswer g own P) ts us → AllByRecursion P us
  terms_simple [] [] h = tt
  terms_simple [] (u ∷ us) h = absurd h
  terms_simple (t ∷ ts) [] h = absurd h
  terms_simple (t ∷ ts) (u ∷ us) h = (h.0.simple, terms_simple ts us h.1)

  label_simple : (m n : Label) → AllZip (ActionBecomes (IsAnswer g own P)) m n → AllByRecursion (λ (a : Action). AllByRecursion P a.args) n
  label_simple [] [] h = tt
  label_simple [] (b ∷ n) h = absurd h
  label_simple (a ∷ m) [] h = absurd h
  label_simple (a ∷ m) (b ∷ n) h = (terms_simple a.args b.args h.0.args, label_simple m n h.1)

  next_simple : {o q : Option (List Term)} → NextBecomes (IsAnswer g own P) o q → NextHas P q
  next_simple neither_goes_on = tt
  next_simple (both_go_on {ts = ts} {us = us} h) = terms_simple ts us h

  becomes_simple : {s t : Summand} → SummandBecomes (IsAnswer g own P) s t → EachTermIs P t
  becomes_simple {s} {t} h = record { condition = h.condition.simple; label = label_simple s.label t.label h.label; next = next_simple h.next }

  stays_simple : {s t : Summand} → IsSolvedFrom (IsAnswer g own P) s t → EachTermIs P s → EachTermIs P t
  stays_simple (nothing_to_solve h) k = record { condition = k.condition; label = k.label; next = k.next }
  stays_simple (one_solved f h k) i = stays_simple k (becomes_simple h)

  pub solved_simple : {s t : Summand} → IsSolvedSummand (IsAnswer g own P) s t → EachTermIs P t
  solved_simple h = stays_simple h.solved (becomes_simple h.becomes)

-- ---- what they do
summand_grown : (g h : Data) → Grows g h → (vs : List Sort) (params : List Bound) (s : Summand) → SummandIsSorted g vs params s → SummandIsSorted h vs params s
summand_grown g h w vs params s k = record {
  sums = k.sums;
  sum_sorts = data_sorts_grown g h w s.sums k.sum_sorts;
  condition = growth_keeps_sorts g h w vs s.condition boolean k.condition;
  label = label_grown g h w vs s.label k.label;
  next = next_grown g h w vs (sorts params) s.next k.next;
}

module _ (g : Sig) (own : List Equation) (P : Term → Type 0) (vs : List Sort) (of_data : AreSorts (data_meant g) vs) (params : List Bound) (declared : AreDeclared vs params) where
  -- a summand of the same process that does the same in all later theories
  pub record Follows (s t : Summand) : Type 0 where
    pub shape : IsSummand params t
    pub sorted : SummandIsSorted (data_meant g) vs params t
    pub answers : (th : Theory) → AreLater g own th.declared th.equations → NoSortIsEmpty th.declared → AnswerEachOther th params s t

  follows_then : {s t u : Summand} → Follows s t → Follows t u → Follows s u
  follows_then {s} {t} {u} a b = record { shape = b.shape; sorted = b.sorted; answers = λ th later some. each_other_then {th = th} {ps = params} {s = s} {t = t} {u = u} (a.answers th later some) (b.answers th later some) }

  becomes_follows : (s t : Summand) → SummandBecomes (IsAnswer g own P) s t → IsSummand params s → SummandIsSorted (data_meant g) vs params s → Follows s t
  becomes_follows s t h is sorted = record {
    shape = becomes_shape g own P params s t h is;
    sorted = becomes_sorts g own P vs of_data params s t h sorted;
    answers = λ th later some. becomes_answers g own P vs of_data th later some params declared s t h is sorted;
  }

  solved_follows : {s t : Summand} → IsSolvedFrom (IsAnswer g own P) s t → IsSummand params s → SummandIsSorted (data_meant g) vs params s → Follows s t
  solved_follows (nothing_to_solve {s = s} h) is sorted = record {
    shape = unused_shape params s is;
    sorted = unused_sorts (data_meant g) vs params s sorted;
    answers = λ th later some.
        let there = data_sorts_grown (data_meant g) th.declared later.grows s.sums sorted.sum_sorts in
        unused_answers th params s is (λ x. a_term th.declared some x.sort) (λ x i. inhabited th.declared some x.sort (there x i));
  }
  solved_follows (one_solved {s = s} {t = t} {b = b} {rest = rest} f h k) is sorted =
      let found = first_is_found f in
      let one : Follows s (solve b rest s) = record {
        shape = solve_shape params s b rest is found;
        sorted = solve_sorts (data_meant g) vs params s b rest sorted found;
        answers = λ th later some. solve_answers th vs params s b rest is (summand_grown (data_meant g) th.declared later.grows vs params s sorted) declared found;
      } in
      let two = becomes_follows (solve b rest s) t h one.shape one.sorted in
      follows_then one (follows_then two (solved_follows k two.shape two.sorted))

  pub summand_follows : (s t : Summand) → IsSolvedSummand (IsAnswer g own P) s t → IsSummand params s → SummandIsSorted (data_meant g) vs params s → Follows s t
  summand_follows s t h is sorted =
      let one = becomes_follows s h.simplified h.becomes is sorted in
      follows_then one (solved_follows h.solved one.shape one.sorted)

  -- ---- all summands
  abbrev pub Each : List Summand → Type 0
  Each ss = (s : Summand) → Contains ss s → IsSummand params s × SummandIsSorted (data_meant g) vs params s

  pub each_follows : (ss ts : List Summand) → AllZip (IsSolvedSummand (IsAnswer g own P)) ss ts → Each ss → Each ts
  each_follows ss [] h e t i = absurd (contains_none t i)
  each_follows [] (u ∷ ts) h e t i = absurd h
  each_follows (s ∷ ss) (u ∷ ts) h e t i = ⊎_elim
      (λ q. let w = e s (contains_first s ss) in let f = summand_follows s u h.0 w.0 w.1 in subst (λ z. IsSummand params z × SummandIsSorted (data_meant g) vs params z) q (f.shape, f.sorted))
      (λ j. each_follows ss ts h.1 (λ x k. e x (contains_later s x ss k)) t j)
      (contains_cases u t ts i)

  pub all_answer : (th : Theory) → AreLater g own th.declared th.equations → NoSortIsEmpty th.declared → (ss ts : List Summand) → AllZip (IsSolvedSummand (IsAnswer g own P)) ss ts → Each ss → AllAnswer th params ss ts
  all_answer th later some [] [] h e = tt
  all_answer th later some [] (t ∷ ts) h e = absurd h
  all_answer th later some (s ∷ ss) [] h e = absurd h
  all_answer th later some (s ∷ ss) (t ∷ ts) h e =
      let w = e s (contains_first s ss) in
      ((summand_follows s t h.0 w.0 w.1).answers th later some, all_answer th later some ss ts h.1 (λ x k. e x (contains_later s x ss k)))
