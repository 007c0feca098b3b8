-- What is decided of places tells what holds in every later theory.
use Rattle.std.proofs.Common.{ℕ, List, [], ◌∷◌, ◌++◌, map, sym, subst, cond, inl, inr, ⊎_elim, Option}
use Rattle.std.specs.Prelude.{Contains}
use Rattle.std.specs.List.{AllByRecursion}
use Rattle.std.proofs.lemmas.Bool.Decides.{eqb_tells}
use Rattle.std.proofs.lemmas.List.{append-nil}
use Rattle.data_theory.specs.Terms.{Sort, boolean, Term, conjunction, application, none, more, put}
use Rattle.data_theory.specs.Declarations.{Data, IsData, Declares, HasSort, HaveSorts}
use Rattle.data_theory.specs.Equations.{trueᵗ, falseᵗ}
use Rattle.data_theory.specs.Environments.{Binding, term_in, bound, terms_of}
use Rattle.data_theory.specs.Provable.{Equation, ProvablyEqual}
use Rattle.data_theory.specs.EqualityLaws.{Grows}
use Rattle.data_theory.specs.Rewriting.{AreSorts, yes_decided, no_decided, IsDecided}
use Rattle.data_theory.specs.Signature.{Sig}
use Rattle.data_theory.specs.IdData.{data_meant}
use Rattle.data_theory.proofs.EnvironmentLemmas.{putting_in_keeps_sorts, one_sort}
use Rattle.data_theory.proofs.GrowthLemmas.{growth_keeps_derivations}
use Rattle.data_rewriter.specs.Simplifying.{AreLater, AreWellFormed}
use Rattle.data_rewriter.proofs.LaterData.{goes_to_is_equal_later}
use Rattle.process_terms.specs.Theories.{Theory}
use Rattle.process_terms.specs.Processes.{Bound}
use Rattle.bisim_laws.specs.LinearProcesses.{Summand, Linear, variables, sorts, NextIsSorted, no_next_to_sort, next_sorted, IsLinear, AreDeclared, IsWellSorted}
use Rattle.bisim_laws.proofs.Firing.{contains_none, contains_first, contains_later, contains_cases}
use Rattle.lps_core.specs.Conditions.{parts}
use Rattle.lps_sumelm.specs.Solutions.{Gives, on_the_left, on_the_right}
use Rattle.lps_sumelm.proofs.SolvableParts.{first_is_found, taken_apart}
use Rattle.lps_core.proofs.SortedTerms.{HaveTheirSorts}
use Rattle.lps_invariant.specs.Places.{Place, first_place, next_goals, summand_place, summand_variables, IsSolvedPlace, SolvedPlaceIs, nothing_to_solve, one_solved, IsAlwaysTrue, IsAlwaysFalse, IsShown, IsContradictory, AreJudged, none_to_judge, it_stays, it_is_left_out}
use Rattle.lps_invariant.specs.InvariantLaws.{IsJudged}
use Rattle.lps_invariant.specs.Decisions.{IsProvedWhole, IsRefuted, PlaceIsSorted, HaveInitialSorts, SummandPlacesAreSorted, SolvedPlacesAreSorted, IsJudgedBy, DecisionsTell}

-- ---- lists of terms of sort Bool
abbrev Booleans : Data → List Sort → List Term → Type 0
Booleans g vs ts = AllByRecursion (λ t. HasSort g vs t boolean) ts

one_of : (g : Data) (vs : List Sort) (ts : List Term) → Booleans g vs ts → (t : Term) → Contains ts t → HasSort g vs t boolean
one_of g vs [] h t i = absurd (contains_none t i)
one_of g vs (u ∷ ts) h t i = ⊎_elim (λ q. subst (λ z. HasSort g vs z boolean) q h.0) (λ j. one_of g vs ts h.1 t j) (contains_cases u t ts i)

both_are : (g : Data) (vs : List Sort) (ts us : List Term) → Booleans g vs ts → Booleans g vs us → Booleans g vs (ts ++ us)
both_are g vs [] us h k = k
both_are g vs (t ∷ ts) us h k = (h.0, both_are g vs ts us h.1 k)

parts_are : (g : Data) (vs : List Sort) (c : Term) → HasSort g vs c boolean → Booleans g vs (parts c)
parts_are g vs (application conjunction (more x (more y none))) h = (h.1.0, parts_are g vs y h.1.1.0)
parts_are g vs c h = (h, tt)

puts_are : (g : Data) (vs : List Sort) (e : ℕ → Term) → HaveTheirSorts g vs vs e → (ts : List Term) → Booleans g vs ts → Booleans g vs (map (put e) ts)
puts_are g vs e f [] h = tt
puts_are g vs e f (t ∷ ts) h = (putting_in_keeps_sorts g vs vs e f t boolean h.0, puts_are g vs e f ts h.1)

-- ---- terms of their sorts in place of variables
bound_has_sorts : (g : Data) (vs : List Sort) (xs : List Bound) (us : List Term) → AreDeclared vs xs → HaveSorts g vs (terms_of us) (sorts xs) → HaveTheirSorts g vs vs (term_in (bound (variables xs) us))
bound_has_sorts g vs [] us d h v s k = k
bound_has_sorts g vs (x ∷ xs) [] d h v s k = k
bound_has_sorts g vs (x ∷ xs) (u ∷ us) d h v s k = ⊎_elim
    (λ w. subst (λ b. HasSort g vs (cond b u (term_in (bound (variables xs) us) v)) s) (sym w.0)
    (subst (λ z. HasSort g vs u z) (one_sort vs v x.sort s (subst (λ z. Declares vs z x.sort) w.1 (d x (contains_first x xs))) k) h.0))
    (λ w. subst (λ b. HasSort g vs (cond b u (term_in (bound (variables xs) us) v)) s) (sym w.0) (bound_has_sorts g vs xs us (λ y i. d y (contains_later x y xs i)) h.1 v s k))
    (eqb_tells x.var v)

given_sorted : (g : Data) (vs : List Sort) {p : Term} {v : ℕ} {t : Term} → Gives p v t → HasSort g vs p boolean → (s : Sort) × (Declares vs v s × HasSort g vs t s)
given_sorted g vs (on_the_left {s = s}) h = (s, (h.1.0, h.1.1.0))
given_sorted g vs (on_the_right {s = s}) h = (s, (h.1.1.0, h.1.0))

given_has_sorts : (g : Data) (vs : List Sort) (b : Binding) (a : Sort) → Declares vs b.var a → HasSort g vs b.term a → HaveTheirSorts g vs vs (term_in (b ∷ []))
given_has_sorts g vs b a d h v s k = ⊎_elim
    (λ w. subst (λ c. HasSort g vs (cond c b.term (term_in [] v)) s) (sym w.0) (subst (λ z. HasSort g vs b.term z) (one_sort vs v a s (subst (λ z. Declares vs z a) w.1 d) k) h))
    (λ w. subst (λ c. HasSort g vs (cond c b.term (term_in [] v)) s) (sym w.0) k)
    (eqb_tells b.var v)

pub solved_sorted : SolvedPlacesAreSorted
solved_sorted g vs xs p _ (nothing_to_solve n) h = h
solved_sorted g vs xs p q (one_solved {b = b} {rest = rest} f s) h =
    let k = first_is_found f in
    let w = taken_apart (λ t. HasSort g vs t boolean) k.taken h.hypotheses in
    let r = given_sorted g vs k.solvable.gives w.0 in
    let e = given_has_sorts g vs b r.0 r.1.0 r.1.1 in
    solved_sorted g vs xs _ q s (record { hypotheses = puts_are g vs (term_in (b ∷ [])) e rest w.1; goals = puts_are g vs (term_in (b ∷ [])) e p.goals h.goals })

goals_are : (g : Data) (vs : List Sort) (params : List Bound) (inv : Term) → AreDeclared vs params → HasSort g vs inv boolean → (next : Option (List Term)) → NextIsSorted g vs (sorts params) next → Booleans g vs (next_goals params inv next)
goals_are g vs params inv d i _ no_next_to_sort = tt
goals_are g vs params inv d i _ (next_sorted {ts = ts} h) = puts_are g vs (term_in (bound (variables params) ts)) (bound_has_sorts g vs params ts d h) (parts inv) (parts_are g vs inv i)

pub places_sorted : SummandPlacesAreSorted
places_sorted g vs l inv s is well i j =
    let f = well.summands s j in
    record { hypotheses = both_are g vs (parts inv) (parts s.condition) (parts_are g vs inv i) (parts_are g vs s.condition f.condition); goals = goals_are g vs l.params inv well.params i s.next f.next }

-- ---- decisions
grown_itself : (g : Data) → Grows g g
grown_itself g = record { new_sorts = []; new_functions = []; sorts = sym (append-nil g.sorts); functions = sym (append-nil g.functions) }

keeps : {g : Sig} {own : List Equation} (th : Theory) → AreLater g own th.declared th.equations → {t u : Term} → ProvablyEqual th.declared own t u → ProvablyEqual th.declared th.equations t u
keeps {g} {own} th later {t} {u} h = growth_keeps_derivations th.declared th.declared (grown_itself th.declared) own th.equations later.among t u h

module _ (g : Sig) (own : List Equation) (fuel : ℕ) (vs : List Sort) (fine : AreWellFormed g own) (are_sorts : AreSorts (data_meant g) vs) (ok : IsData (data_meant g)) (th : Theory) (later : AreLater g own th.declared th.equations) where
  yes_tells : (t : Term) → HasSort (data_meant g) vs t boolean → IsDecided (data_meant g) own fuel t yes_decided → IsAlwaysTrue th vs t
  yes_tells t s d e c = keeps th later (goes_to_is_equal_later (data_meant g) th.declared own later.grows ok later.is_data fine vs are_sorts t trueᵗ d.0 boolean s d.1 e c)

  no_tells : (t : Term) → HasSort (data_meant g) vs t boolean → IsDecided (data_meant g) own fuel t no_decided → IsAlwaysFalse th vs t
  no_tells t s d e c = keeps th later (goes_to_is_equal_later (data_meant g) th.declared own later.grows ok later.is_data fine vs are_sorts t falseᵗ d.0 boolean s d.1 e c)

  shown_by : (p : Place) → PlaceIsSorted (data_meant g) vs p → IsProvedWhole (data_meant g) own fuel p → IsShown th vs p
  shown_by p s h t i = ⊎_elim (λ j. inl j) (λ d. inr (yes_tells t (one_of (data_meant g) vs p.goals s.goals t i) d)) (h t i)

  refuted_by : (p : Place) → PlaceIsSorted (data_meant g) vs p → IsRefuted (data_meant g) own fuel p → IsContradictory th vs p
  refuted_by p s h = record { hypothesis = h.hypothesis; among = h.among; never = no_tells h.hypothesis (one_of (data_meant g) vs p.hypotheses s.hypotheses h.hypothesis h.among) h.no }

  module _ (l : Linear) (inv : Term) (init : List Term) (is : IsLinear l) (well : IsWellSorted (data_meant g) vs l) (sort : HasSort (data_meant g) vs inv boolean) (starts : HaveInitialSorts g vs l init) where
    sorted_there : (s : Summand) → Contains l.summands s → (p : Place) → IsSolvedPlace (summand_variables l.params s) (summand_place l.params inv s) p → PlaceIsSorted (data_meant g) vs p
    sorted_there s i p solved = solved_sorted (data_meant g) vs (summand_variables l.params s) (summand_place l.params inv s) p solved (places_sorted (data_meant g) vs l inv s is well sort i)

    pub summand_shown : (s : Summand) → Contains l.summands s → SolvedPlaceIs (IsProvedWhole (data_meant g) own fuel) l.params inv s → SolvedPlaceIs (IsShown th vs) l.params inv s
    summand_shown s i h = record { place = h.place; solved = h.solved; is = shown_by h.place (sorted_there s i h.place h.solved) h.is }

    pub summand_refuted : (s : Summand) → Contains l.summands s → SolvedPlaceIs (IsRefuted (data_meant g) own fuel) l.params inv s → SolvedPlaceIs (IsContradictory th vs) l.params inv s
    summand_refuted s i h = record { place = h.place; solved = h.solved; is = refuted_by h.place (sorted_there s i h.place h.solved) h.is }

    all_by : (ss ts : List Summand) → ((s : Summand) → Contains ss s → Contains l.summands s) → AreJudged (IsProvedWhole (data_meant g) own fuel) (IsRefuted (data_meant g) own fuel) l.params inv ss ts → AreJudged (IsShown th vs) (IsContradictory th vs) l.params inv ss ts
    all_by _ _ w none_to_judge = none_to_judge
    all_by _ _ w (it_stays {s = s} {ss = ss} {ts = ts} h k) = it_stays (summand_shown s (w s (contains_first s ss)) h) (all_by ss ts (λ t i. w t (contains_later s t ss i)) k)
    all_by _ _ w (it_is_left_out {s = s} {ss = ss} {ts = ts} h k) = it_is_left_out (summand_refuted s (w s (contains_first s ss)) h) (all_by ss ts (λ t i. w t (contains_later s t ss i)) k)

    pub judged_by : (ts : List Summand) → IsJudgedBy (data_meant g) own fuel l inv init ts → IsJudged th vs l inv init ts
    judged_by ts j = record {
      start = shown_by (first_place l.params inv init)
          (record { hypotheses = tt; goals = puts_are (data_meant g) vs (term_in (bound (variables l.params) init)) (bound_has_sorts (data_meant g) vs l.params init well.params starts) (parts inv) (parts_are (data_meant g) vs inv sort) })
          j.start;
      summands = all_by l.summands ts (λ s i. i) j.summands;
    }

pub decisions_tell : DecisionsTell
decisions_tell g own fuel vs l inv init ts fine are_sorts ok is well sort starts j th later = judged_by g own fuel vs fine are_sorts ok th later l inv init is well sort starts ts j
