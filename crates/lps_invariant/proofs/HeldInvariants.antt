-- An invariant that is shown holds in every state, and what stays is bisimilar.
use Rattle.std.proofs.Common.{◌≡◌, ℕ, List, [], ◌∷◌, ◌++◌, map, length, refl, sym, ap, ap₂, ◌∙◌, subst, ⊎_elim, Option, Some, None}
use Rattle.std.specs.Prelude.{Contains}
use Rattle.std.specs.List.{AllByRecursion}
use Rattle.std.proofs.lemmas.List.{length-map}
use Rattle.std.proofs.lemmas.List.Elements.{Contains-append_right}
use Rattle.data_theory.specs.Terms.{Sort, boolean, Term, conjunction, application, none, more, put}
use Rattle.data_theory.specs.Declarations.{Data, HasSort, HaveSorts}
use Rattle.data_theory.specs.Equations.{trueᵗ, falseᵗ}
use Rattle.data_theory.specs.Environments.{Environment, term_in, bound, terms_of, Agree}
use Rattle.data_theory.specs.Rewriting.{Closes}
use Rattle.data_theory.proofs.BooleanLemmas.{conjunction_true}
use Rattle.data_theory.proofs.EnvironmentLemmas.{contains_nothing, contains_cases as number_cases, agreeing_give_the_same_term, agreeing_give_the_same_terms, putting_in_twice, closed_terms_stay}
use Rattle.process_terms.specs.Theories.{Theory, Equal, Equals, IsTrue, IsConsistent, AreOfSorts}
use Rattle.process_terms.specs.Labels.{Label}
use Rattle.process_terms.specs.Processes.{Bound, Process}
use Rattle.process_terms.specs.Steps.{Outcome, ended, goes_on, Step}
use Rattle.process_terms.proofs.AgreeingLabels.{equals_refl, equals_sym}
use Rattle.bisim_laws.specs.Bisimulations.{up_to}
use Rattle.bisim_laws.specs.Runs.{Run, no_step, one_step}
use Rattle.bisim_laws.specs.LinearProcesses.{Summand, Linear, variables, sorts, state_of, NextIsOver, no_next, next_over, IsLinear, reading, put_next, NextEquals, both_without, both_with, outcome_of, Fires}
use Rattle.bisim_laws.specs.BaseStates.{HeldState, held_state}
use Rattle.bisim_laws.specs.Links.{Held, IsGood}
use Rattle.bisim_laws.proofs.Firing.{contains_none, contains_first, contains_later, contains_cases, bound_reads, reading_agrees, fired}
use Rattle.bisim_laws.proofs.SortedFiring.{firings_keep}
use Rattle.bisim_laws.proofs.AlikeFiring.{fire_alike}
use Rattle.bisim_laws.proofs.AlikeProcesses.{alike_refl}
use Rattle.lps_core.specs.Conditions.{parts}
use Rattle.lps_core.specs.Progressing.{Paired, paired, NextPaired, both_end, both_go_on, FiresReply, Turned}
use Rattle.lps_core.proofs.Answering.{link_of_answers}
use Rattle.lps_core.proofs.SortedTerms.{HaveTerms, closed_instance, bound_have_terms, read_bound, both_have_terms, columns_long}
use Rattle.lps_sumelm.proofs.ClosedTerms.{closing, closing_closes, closing_agrees}
use Rattle.lps_invariant.specs.Places.{parts_at, first_place, next_goals, summand_variables, IsShown, IsContradictory, SolvedPlaceIs, AreJudged, none_to_judge, it_stays, it_is_left_out}
use Rattle.lps_invariant.specs.InvariantLaws.{HoldsAt, IsInvariantOf, IsJudged, with_summands, HoldsIn, InvariantHolds, LeftOutNeverFires, WhatStaysIsLinear, WhatStaysIsSorted, HeldIsGood}
use Rattle.lps_invariant.proofs.SolvedPlaces.{all_is_true, solved_same, shown_holds, contradiction}

-- ---- a conjunction and its parts
module _ (th : Theory) (e : ℕ → Term) where
  parts_hold : (c : Term) → HasSort th.declared [] (put e c) boolean → IsTrue th (put e c) → AllByRecursion (λ t. IsTrue th (put e t)) (parts c)
  parts_hold (application conjunction (more x (more y none))) s h = let k = (conjunction_true th.declared th.equations (put e x) (put e y) s.1.0 s.1.1.0).0 h in (k.0, parts_hold y s.1.1.0 k.1)
  parts_hold c s h = (h, tt)

  whole_holds : (c : Term) → HasSort th.declared [] (put e c) boolean → AllByRecursion (λ t. IsTrue th (put e t)) (parts c) → IsTrue th (put e c)
  whole_holds (application conjunction (more x (more y none))) s h = (conjunction_true th.declared th.equations (put e x) (put e y) s.1.0 s.1.1.0).1 (h.0, whole_holds y s.1.1.0 h.1)
  whole_holds c s h = h.0

all_append : (P : Term → Type 0) (ts us : List Term) → AllByRecursion P ts → AllByRecursion P us → AllByRecursion P (ts ++ us)
all_append P [] us h k = k
all_append P (t ∷ ts) us h k = (h.0, all_append P ts us h.1 k)

-- what is put in twice
all_put_twice : (th : Theory) (d r : ℕ → Term) (cs : List Term) → AllByRecursion (λ t. IsTrue th (put d t)) (map (put r) cs) → AllByRecursion (λ t. IsTrue th (put (λ v. put d (r v)) t)) cs
all_put_twice th d r [] h = tt
all_put_twice th d r (c ∷ cs) h = (subst (λ z. IsTrue th z) (putting_in_twice r d c) h.0, all_put_twice th d r cs h.1)

-- variables that are mapped alike
maps_agree : (f k : ℕ → Term) (xs : List ℕ) → map f xs ≡ map k xs → Agree xs f k
maps_agree f k [] h v i = absurd (contains_nothing v i)
maps_agree f k (x ∷ xs) h v i = ⊎_elim (λ q. subst (λ z. f z ≡ k z) q (first h)) (λ j. maps_agree f k xs (others h) v j) (number_cases x v xs i)
  where
    first : {t u : Term} {ts us : List Term} → t ∷ ts ≡ u ∷ us → t ≡ u
    first e = cc

    others : {t u : Term} {ts us : List Term} → t ∷ ts ≡ u ∷ us → ts ≡ us
    others e = cc

map_twice : (f : Term → Term) (k : ℕ → Term) (xs : List ℕ) → map (λ v. f (k v)) xs ≡ map f (map k xs)
map_twice f k [] = refl
map_twice f k (x ∷ xs) = ap (λ ts. f (k x) ∷ ts) (map_twice f k xs)

closed_stay : (g : Data) (e : ℕ → Term) (ts : List Term) (ss : List Sort) → HaveSorts g [] (terms_of ts) ss → map (put e) ts ≡ ts
closed_stay g e [] ss h = refl
closed_stay g e (t ∷ ts) [] h = absurd h
closed_stay g e (t ∷ ts) (s ∷ ss) h = ap₂ (λ u us. u ∷ us) (closed_terms_stay g e t s h.0) (closed_stay g e ts ss h.1)

-- ---- the summands that stay
module _ (th : Theory) (vs : List Sort) (params : List Bound) (inv : Term) where
  pub data Judgement (ts : List Summand) (s : Summand) : Type 0 where
    stays : Contains ts s → SolvedPlaceIs (IsShown th vs) params inv s → Judgement ts s
    left : SolvedPlaceIs (IsContradictory th vs) params inv s → Judgement ts s

  more_stay : {ts : List Summand} {s : Summand} (t : Summand) → Judgement ts s → Judgement (t ∷ ts) s
  more_stay {ts} {s} t (stays i h) = stays (contains_later t s ts i) h
  more_stay t (left h) = left h

  pub judged : {ss ts : List Summand} → AreJudged (IsShown th vs) (IsContradictory th vs) params inv ss ts → (s : Summand) → Contains ss s → Judgement ts s
  judged none_to_judge s i = absurd (contains_none s i)
  judged (it_stays {s = t} {ss = ss} {ts = ts} h k) s i = ⊎_elim (λ q. subst (λ z. Judgement (t ∷ ts) z) q (stays (contains_first t ts) h)) (λ j. more_stay t (judged k s j)) (contains_cases t s ss i)
  judged (it_is_left_out {s = t} {ss = ss} {ts = ts} h k) s i = ⊎_elim (λ q. subst (λ z. Judgement ts z) q (left h)) (λ j. judged k s j) (contains_cases t s ss i)

  pub stays_among : {ss ts : List Summand} → AreJudged (IsShown th vs) (IsContradictory th vs) params inv ss ts → (s : Summand) → Contains ts s → Contains ss s
  stays_among none_to_judge s i = absurd (contains_none s i)
  stays_among (it_stays {s = t} {ss = ss} {ts = ts} h k) s i = ⊎_elim (λ q. subst (λ z. Contains (t ∷ ss) z) q (contains_first t ss)) (λ j. contains_later t s ss (stays_among k s j)) (contains_cases t s ts i)
  stays_among (it_is_left_out {s = t} {ss = ss} h k) s i = contains_later t s ss (stays_among k s i)

pub stays_linear : WhatStaysIsLinear
stays_linear th vs l inv ts is j = record { distinct = is.distinct; summands = λ s i. is.summands s (stays_among th vs l.params inv j s i) }

pub stays_sorted : WhatStaysIsSorted
stays_sorted th vs l inv ts g well j = record { params = well.params; param_sorts = well.param_sorts; summands = λ s i. well.summands s (stays_among th vs l.params inv j s i) }

-- ---- one firing
module _ (th : Theory) (vs : List Sort) (l : Linear) (inv : Term) (init : List Term) (is : IsInvariantOf th vs l inv init) where
  abbrev ps : List ℕ
  ps = variables l.params

  abbrev at : List Term → Environment
  at us = bound ps us

  long : (us : List Term) → AreOfSorts th (sorts l.params) us → length us ≡ length ps
  long us h = columns_long th.declared [] us l.params h ∙ sym (length-map l.params (λ x. x.var))

  own_reads : (us : List Term) → AreOfSorts th (sorts l.params) us → reading (at us) ps ≡ us
  own_reads us h = bound_reads ps us (long us h) is.linear.distinct

  closed_there : (us : List Term) → AreOfSorts th (sorts l.params) us → HasSort th.declared [] (put (term_in (at us)) inv) boolean
  closed_there us h =
      closed_instance th.declared vs ps (term_in (at us))
      (bound_have_terms th vs l.params (at us) is.sorted.params (read_bound th l.params (at us) (subst (λ ts. AreOfSorts th (sorts l.params) ts) (sym (own_reads us h)) h)))
      inv boolean is.over is.sort

  -- the parts of the invariant with some terms put in, and then d
  put_there : (d : ℕ → Term) (ns us : List Term) → length ns ≡ length ps → AreOfSorts th (sorts l.params) us → map (put d) ns ≡ us → put (λ v. put d (term_in (at ns) v)) inv ≡ put (term_in (at us)) inv
  put_there d ns us n h q =
      agreeing_give_the_same_term ps (λ v. put d (term_in (at ns) v)) (term_in (at us))
      (maps_agree (λ v. put d (term_in (at ns) v)) (term_in (at us)) ps (map_twice (put d) (term_in (at ns)) ps ∙ ap (map (put d)) (bound_reads ps ns n is.linear.distinct) ∙ q ∙ sym (own_reads us h)))
      inv is.over

  goals_hold : (d : ℕ → Term) (ns us : List Term) → length ns ≡ length ps → AreOfSorts th (sorts l.params) us → map (put d) ns ≡ us → AllByRecursion (λ t. IsTrue th (put d t)) (parts_at l.params inv ns) → HoldsAt th l inv us
  goals_hold d ns us n h q k =
      let r : ℕ → Term = λ v. put d (term_in (at ns) v) in
      let same : put r inv ≡ put (term_in (at us)) inv = put_there d ns us n h q in
      subst (λ z. IsTrue th z) same (whole_holds th r inv (subst (λ z. HasSort th.declared [] z boolean) (sym same) (closed_there us h)) (all_put_twice th d (term_in (at ns)) (parts inv) k))

  -- ---- in the environment of a firing, with closed terms for all other variables
  module _ (us : List Term) (m : Label) (next : Option (List Term)) (h : AreOfSorts th (sorts l.params) us) (holds : HoldsAt th l inv us) (f : Fires th l us m next) where
    abbrev S : Summand
    S = f.summand

    abbrev X : List ℕ
    X = summand_variables l.params S

    has_terms : HaveTerms th.declared vs X (term_in f.environment)
    has_terms =
        both_have_terms th.declared vs (variables S.sums) ps (term_in f.environment)
        (bound_have_terms th vs S.sums f.environment (is.sorted.summands S f.among).sums f.bound)
        (bound_have_terms th vs l.params f.environment is.sorted.params (read_bound th l.params f.environment (subst (λ ts. AreOfSorts th (sorts l.params) ts) (sym f.reads) h)))

    abbrev D : ℕ → Term
    D = closing th.declared is.inhabited vs is.variable_sorts X (term_in f.environment) has_terms

    closes : Closes th.declared vs D
    closes = closing_closes th.declared is.inhabited vs is.variable_sorts X (term_in f.environment) has_terms

    agrees : Agree X D (term_in f.environment)
    agrees = closing_agrees th.declared is.inhabited vs is.variable_sorts X (term_in f.environment) has_terms

    agrees_there : Agree ps D (term_in (at us))
    agrees_there v i = agrees v (Contains-append_right (variables S.sums) ps v i) ∙ reading_agrees ps f.environment (at us) (f.reads ∙ sym (own_reads us h)) v i

    same_invariant : put D inv ≡ put (term_in (at us)) inv
    same_invariant = agreeing_give_the_same_term ps D (term_in (at us)) agrees_there inv is.over

    same_condition : put D S.condition ≡ put (term_in f.environment) S.condition
    same_condition = agreeing_give_the_same_term X D (term_in f.environment) agrees S.condition (is.linear.summands S f.among).condition

    hypotheses_hold : AllByRecursion (λ t. IsTrue th (put D t)) (parts inv ++ parts S.condition)
    hypotheses_hold =
        all_append (λ t. IsTrue th (put D t)) (parts inv) (parts S.condition)
        (parts_hold th D inv (subst (λ z. HasSort th.declared [] z boolean) (sym same_invariant) (closed_there us h)) (subst (λ z. IsTrue th z) (sym same_invariant) holds))
        (parts_hold th D S.condition (subst (λ z. HasSort th.declared [] z boolean) (sym same_condition) (closed_instance th.declared vs X (term_in f.environment) has_terms S.condition boolean (is.linear.summands S f.among).condition (is.sorted.summands S f.among).condition))
        (subst (λ z. IsTrue th z) (sym same_condition) f.does.holds))

    -- a summand that is left out fires only where the data prove `true` equal to `false`
    pub left_out : SolvedPlaceIs (IsContradictory th vs) l.params inv S → Equal th trueᵗ falseᵗ
    left_out k = contradiction th vs D closes k.place k.is (solved_same th vs D X k.solved hypotheses_hold).hypotheses

    some_same : {ts us : List Term} → Some ts ≡ Some us → ts ≡ us
    some_same q = cc

    some_none : {ts : List Term} → Some ts ≡ None → ⊥
    some_none q = cc

    reached : (n : Option (List Term)) → NextIsOver X l.params n → (ws : List Term) → Some ws ≡ put_next f.environment n → AreOfSorts th (sorts l.params) ws → AllByRecursion (λ t. IsTrue th (put D t)) (next_goals l.params inv n) → HoldsAt th l inv ws
    reached _ no_next ws q s k = absurd (some_none q)
    reached _ (next_over {ts = ns} o e) ws q s k =
        goals_hold D ns ws (e ∙ sym (length-map l.params (λ x. x.var))) s (agreeing_give_the_same_terms X D (term_in f.environment) agrees ns o ∙ sym (some_same q)) k

    pub shown_goes_on : SolvedPlaceIs (IsShown th vs) l.params inv S → (ws : List Term) → Some ws ≡ next → AreOfSorts th (sorts l.params) ws → HoldsAt th l inv ws
    shown_goes_on k ws q s =
        let r = solved_same th vs D X k.solved hypotheses_hold in
        reached S.next (is.linear.summands S f.among).next ws (q ∙ f.does.onward) s (r.goals (shown_holds th vs D closes k.place k.is r.hypotheses))

  module _ (ts : List Summand) (j : IsJudged th vs l inv init ts) where
    -- what fires keeps the invariant
    keeps : (us : List Term) (m : Label) (ws : List Term) → AreOfSorts th (sorts l.params) us → HoldsAt th l inv us → Fires th l us m (Some ws) → AreOfSorts th (sorts l.params) ws × HoldsAt th l inv ws
    keeps us m ws h holds f = (s, by_cases (judged th vs l.params inv j.summands f.summand f.among))
      where
        s : AreOfSorts th (sorts l.params) ws
        s = firings_keep th vs l us ws m is.linear is.sorted h f

        by_cases : Judgement th vs l.params inv ts f.summand → HoldsAt th l inv ws
        by_cases (stays i k) = shown_goes_on us m (Some ws) h holds f k ws refl s
        by_cases (left k) = all_is_true th (left_out us m (Some ws) h holds f k) (put (term_in (at ws)) inv) (closed_there ws s)

    pub only_stays : IsConsistent th → (us : List Term) (m : Label) (next : Option (List Term)) → AreOfSorts th (sorts l.params) us → HoldsAt th l inv us → (f : Fires th l us m next) → Contains ts f.summand
    only_stays con us m next h holds f = by_cases (judged th vs l.params inv j.summands f.summand f.among)
      where
        by_cases : Judgement th vs l.params inv ts f.summand → Contains ts f.summand
        by_cases (stays i k) = i
        by_cases (left k) = absurd (con (left_out us m next h holds f k))

    -- ---- the start
    abbrev some_terms : ℕ → Term
    some_terms = closing th.declared is.inhabited vs is.variable_sorts [] (term_in []) (λ v s i k. absurd (contains_nothing v i))

    pub starts : HoldsAt th l inv init
    starts =
        goals_hold some_terms init init (long init is.of_sorts) is.of_sorts (closed_stay th.declared some_terms init (sorts l.params) is.of_sorts)
        (shown_holds th vs some_terms (closing_closes th.declared is.inhabited vs is.variable_sorts [] (term_in []) (λ v s i k. absurd (contains_nothing v i))) (first_place l.params inv init) j.start tt)

    -- ---- runs
    data OutcomeHolds : Outcome → Type 0 where
      at_the_end : OutcomeHolds ended
      in_a_state : {p : Process} → HoldsIn th l inv p → OutcomeHolds (goes_on p)

    after_firing : (us : List Term) (m : Label) (next : Option (List Term)) → AreOfSorts th (sorts l.params) us → HoldsAt th l inv us → Fires th l us m next → OutcomeHolds (outcome_of l next)
    after_firing us m None h holds f = at_the_end
    after_firing us m (Some ws) h holds f = let k = keeps us m ws h holds f in in_a_state (record { args = ws; is = refl; of_sorts = k.0; holds = k.1 })

    after_step : {p : Process} {m : Label} {o : Outcome} → HoldsIn th l inv p → Step th p m o → OutcomeHolds o
    after_step {p} {m} {o} h s =
        let d = fired th l h.args m o is.linear (subst (λ z. Step th z m o) h.is s) in
        subst (λ z. OutcomeHolds z) (sym d.1.1) (after_firing h.args m d.0 h.of_sorts h.holds d.1.0)

    along : {o r : Outcome} {ms : List Label} → Run th o ms r → OutcomeHolds o → OutcomeHolds r
    along no_step h = h
    along (one_step s k) (in_a_state h) = along k (after_step h s)

    in_state : {p : Process} → OutcomeHolds (goes_on p) → HoldsIn th l inv p
    in_state (in_a_state h) = h

    pub in_every_run : (ms : List Label) (p : Process) → Run th (goes_on (state_of l init)) ms (goes_on p) → HoldsIn th l inv p
    in_every_run ms p k = in_state (along k (in_a_state (record { args = init; is = refl; of_sorts = is.of_sorts; holds = starts })))

    -- ---- the link
    abbrev K : Linear
    K = with_summands l ts

    data HeldArgs : List Term → List Term → Type 0 where
      held_args : {us ws : List Term} → AreOfSorts th (sorts l.params) us → AreOfSorts th (sorts l.params) ws → Equals th us ws → HoldsAt th l inv us → HeldArgs us ws

    right_linear : IsLinear K
    right_linear = stays_linear th vs l inv ts is.linear j.summands

    forth_lands : (o q : Option (List Term)) → NextEquals th o q → ((us : List Term) → o ≡ Some us → HeldArgs us us) → NextPaired th HeldArgs o q
    forth_lands _ _ both_without w = both_end
    forth_lands _ _ (both_with {ts = us} e) w = both_go_on (equals_refl th us) (w us refl) e

    back_lands : (o q : Option (List Term)) → NextEquals th o q → ((us : List Term) → q ≡ Some us → HeldArgs us us) → NextPaired th (Turned HeldArgs) o q
    back_lands _ _ both_without w = both_end
    back_lands _ _ (both_with {us = us} e) w = both_go_on e (w us refl) (equals_refl th us)

    held_next : (us : List Term) (m : Label) (next : Option (List Term)) → AreOfSorts th (sorts l.params) us → HoldsAt th l inv us → Fires th l us m next → (ws : List Term) → next ≡ Some ws → HeldArgs ws ws
    held_next us m next h holds f ws q = let k = keeps us m ws h holds (subst (λ z. Fires th l us m z) q f) in held_args k.0 k.0 (equals_refl th ws) k.1

    module _ (con : IsConsistent th) where
      held_forth : (us ws : List Term) (m : Label) (next : Option (List Term)) → HeldArgs us ws → Fires th l us m next → FiresReply th HeldArgs K ws m next
      held_forth us ws m next (held_args h k e holds) f =
          let g : Fires th K us m next = record { summand = f.summand; among = only_stays con us m next h holds f; environment = f.environment; reads = f.reads; bound = f.bound; does = f.does } in
          let a = fire_alike th K us ws m next right_linear e g in
          record { label = a.label; onward = a.onward; fires = a.fires; agree = a.agree; lands = forth_lands next a.onward a.equal (held_next us m next h holds f) }

      held_back : (ws us : List Term) (m : Label) (next : Option (List Term)) → HeldArgs us ws → Fires th K ws m next → FiresReply th (Turned HeldArgs) l us m next
      held_back ws us m next (held_args h k e holds) f =
          let g : Fires th l ws m next = record { summand = f.summand; among = stays_among th vs l.params inv j.summands f.summand f.among; environment = f.environment; reads = f.reads; bound = f.bound; does = f.does } in
          let a = fire_alike th l ws us m next is.linear (equals_sym e) g in
          record { label = a.label; onward = a.onward; fires = a.fires; agree = a.agree; lands = back_lands next a.onward a.equal (held_next us a.label a.onward h holds a.fires) }

      to_state : (p q : Process) → Paired HeldArgs l K p q → HeldState th inv l K p q
      to_state p q (paired (held_args h k e holds)) = held_state h k e holds

      from_state : (p q : Process) → HeldState th inv l K p q → Paired HeldArgs l K p q
      from_state p q (held_state h k e holds) = paired (held_args h k e holds)

      pub held : IsGood th (Held inv l K) (state_of l init) (state_of K init)
      held = record {
        starts = up_to (alike_refl th (state_of l init)) (held_state is.of_sorts is.of_sorts (equals_refl th init) starts) (alike_refl th (state_of K init));
        follows = link_of_answers th (Held inv l K) HeldArgs l K tt is.linear right_linear (record { forth = to_state; back = from_state }) (record { forth = held_forth; back = held_back });
      }

-- ---- the laws
pub invariant_holds : InvariantHolds
invariant_holds th vs l inv init ts is j ms p k = in_every_run th vs l inv init is ts j ms p k

pub left_out_never_fires : LeftOutNeverFires
left_out_never_fires th vs l inv init ts con is j us m next h holds f = only_stays th vs l inv init is ts j con us m next h holds f

pub held_good : HeldIsGood
held_good th vs l inv init ts con is j = held th vs l inv init is ts j con
