-- What is dropped from a linear process is answered.
use Rattle.std.proofs.Common.{◌≡◌, ℕ, suc, List, [], ◌∷◌, ◌++◌, length, refl, sym, ap, ◌∙◌, subst, ⊎_elim, Option, Some}
use Rattle.std.specs.Prelude.{Contains}
use Rattle.std.proofs.lemmas.List.Elements.{Contains-append_cases}
use Rattle.data_theory.specs.Terms.{Sort, Term}
use Rattle.data_theory.specs.Provable.{symmetric, transitive}
use Rattle.data_theory.specs.Environments.{Environment, term_in, bound, Agree, Apart}
use Rattle.process_terms.specs.Theories.{Theory, Equals, no_terms, more_terms, AreOfSorts}
use Rattle.process_terms.specs.Labels.{Label, put_label, AgreeInOrder}
use Rattle.process_terms.specs.Processes.{Bound, Process}
use Rattle.process_terms.proofs.AgreeingLabels.{equals_refl, equals_sym, equals_trans, agree_sym, agree_trans}
use Rattle.bisim_laws.specs.LinearProcesses.{Summand, Linear, variables, sorts, state_of, IsLinear, IsWellSorted, reading, beside_reading, put_next, NextEquals, both_without, both_with, AreBound, Fires}
use Rattle.bisim_laws.specs.BaseStates.{Fate, kept, constant, not_needed, AfterDropping, nothing_more, one_kept, one_constant, one_not_needed, DroppedState, dropped_state}
use Rattle.bisim_laws.specs.Bisimulations.{Bisimulation, up_to}
use Rattle.bisim_laws.specs.Links.{Dropped, Pairs, IsGood}
use Rattle.bisim_laws.proofs.AlikeProcesses.{alike_refl}
use Rattle.bisim_laws.proofs.Firing.{contains_none, contains_first, contains_later, contains_cases, reading_agrees, does_along}
use Rattle.bisim_laws.proofs.SortedFiring.{firings_keep}
use Rattle.bisim_laws.proofs.AlikeFiring.{fire_alike}
use Rattle.lps_core.specs.Progressing.{Paired, paired, NextPaired, both_end, both_go_on as both_on, FiresReply, FiresProgress, Turned}
use Rattle.lps_core.proofs.Answering.{link_of_answers}
use Rattle.lps_core.proofs.Environments.{in_front_agree, reads_behind, bound_along}
use Rattle.lps_parelm.specs.Keeping.{keep}
use Rattle.lps_parelm.proofs.KeptPlaces.{keep_map, keep_variables}
use Rattle.lps_parelm.proofs.Drops.{Stay, IsAt, NextDropped, neither_goes_on, both_go_on, IsDropped, AreDropped, no_summand, one_summand, Drops}

-- ---- the relation of the link
pub stays : {th : Theory} {fates : List Fate} {ts us : List Term} → AfterDropping th fates ts us → Stay th fates ts
stays nothing_more = tt
stays (one_kept e h) = stays h
stays (one_constant e h) = (e, stays h)
stays (one_not_needed h) = stays h

pub kept_equal : {th : Theory} {fates : List Fate} {ts us : List Term} → AfterDropping th fates ts us → Equals th (keep fates ts) us
kept_equal nothing_more = no_terms
kept_equal (one_kept e h) = more_terms e (kept_equal h)
kept_equal (one_constant e h) = kept_equal h
kept_equal (one_not_needed h) = kept_equal h

pub after : (th : Theory) (fates : List Fate) (ts : List Term) {us : List Term} → Stay th fates ts → Equals th (keep fates ts) us → AfterDropping th fates ts us
after th [] [] s no_terms = nothing_more
after th [] (t ∷ ts) s e = absurd s
after th (f ∷ fates) [] s e = absurd s
after th (kept ∷ fates) (t ∷ ts) s (more_terms h e) = one_kept h (after th fates ts s e)
after th (constant c ∷ fates) (t ∷ ts) s e = one_constant s.0 (after th fates ts s.1 e)
after th (not_needed ∷ fates) (t ∷ ts) s e = one_not_needed (after th fates ts s e)

pub data DroppedArgs (th : Theory) (fates : List Fate) (l k : Linear) : List Term → List Term → Type 0 where
  dropped_args : {ts us : List Term} → AreOfSorts th (sorts l.params) ts → AreOfSorts th (sorts k.params) us → Stay th fates ts → Equals th (keep fates ts) us → DroppedArgs th fates l k ts us

to_state : (th : Theory) (fates : List Fate) (l k : Linear) (p q : Process) → Paired (DroppedArgs th fates l k) l k p q → DroppedState th fates l k p q
to_state th fates l k p q (paired (dropped_args {ts = ts} h i s e)) = dropped_state h i (after th fates ts s e)

from_state : (th : Theory) (fates : List Fate) (l k : Linear) (p q : Process) → DroppedState th fates l k p q → Paired (DroppedArgs th fates l k) l k p q
from_state th fates l k p q (dropped_state h i a) = paired (dropped_args h i (stays a) (kept_equal a))

-- ---- a summand and what is left of it
record Left (th : Theory) (fates : List Fate) (l : Linear) (ts : List Summand) (s : Summand) : Type 0 where
  summand : Summand
  among : Contains ts summand
  is : IsDropped th fates l s summand

left_of : {th : Theory} {fates : List Fate} {l : Linear} {ss ts : List Summand} → AreDropped th fates l ss ts → (s : Summand) → Contains ss s → Left th fates l ts s
left_of no_summand s i = absurd (contains_none s i)
left_of {th} {fates} {l} (one_summand {s = x} {t = t} {ss = ss} {ts = ts} h k) s i = ⊎_elim
    (λ q. subst (λ z. Left th fates l (t ∷ ts) z) q (record { summand = t; among = contains_first t ts; is = h }))
    (λ j. let r = left_of k s j in record { summand = r.summand; among = contains_later t r.summand ts r.among; is = r.is })
    (contains_cases x s ss i)

record Whole (th : Theory) (fates : List Fate) (l : Linear) (ss : List Summand) (t : Summand) : Type 0 where
  summand : Summand
  among : Contains ss summand
  is : IsDropped th fates l summand t

whole_of : {th : Theory} {fates : List Fate} {l : Linear} {ss ts : List Summand} → AreDropped th fates l ss ts → (t : Summand) → Contains ts t → Whole th fates l ss t
whole_of no_summand t i = absurd (contains_none t i)
whole_of {th} {fates} {l} (one_summand {s = s} {t = x} {ss = ss} {ts = ts} h k) t i = ⊎_elim
    (λ q. subst (λ z. Whole th fates l (s ∷ ss) z) q (record { summand = s; among = contains_first s ss; is = h }))
    (λ j. let r = whole_of k t j in record { summand = r.summand; among = contains_later s r.summand ss r.among; is = r.is })
    (contains_cases x t ts i)

pub sorts_long : (th : Theory) (xs : List Bound) (ts : List Term) → AreOfSorts th (sorts xs) ts → length ts ≡ length (variables xs)
sorts_long th [] [] h = refl
sorts_long th [] (t ∷ ts) h = absurd h
sorts_long th (x ∷ xs) [] h = absurd h
sorts_long th (x ∷ xs) (t ∷ ts) h = ap suc (sorts_long th xs ts h.1)

module _ (th : Theory) (vs : List Sort) (fates : List Fate) (l k : Linear) (left : IsLinear l) (right : IsLinear k) (sl : IsWellSorted th.declared vs l) (sk : IsWellSorted th.declared vs k) (drops : Drops th fates l k) where
  abbrev R : List Term → List Term → Type 0
  R = DroppedArgs th fates l k

  same_variables : variables k.params ≡ keep fates (variables l.params)
  same_variables = ap variables drops.params ∙ keep_variables fates l.params

  reads_kept : (e : Environment) (ts : List Term) → reading e (variables l.params) ≡ ts → reading e (variables k.params) ≡ keep fates ts
  reads_kept e ts h = ap (reading e) same_variables ∙ sym (keep_map (term_in e) fates (variables l.params)) ∙ ap (keep fates) h

  lands_forth : {o p q : Option (List Term)} → NextDropped th fates o p → NextEquals th p q → ((us : List Term) → o ≡ Some us → AreOfSorts th (sorts l.params) us) → ((us : List Term) → q ≡ Some us → AreOfSorts th (sorts k.params) us) → NextPaired th R o q
  lands_forth neither_goes_on both_without f g = both_end
  lands_forth (both_go_on {ts = ts} s h) (both_with {us = us} e) f g = both_on (equals_refl th ts) (dropped_args (f ts refl) (g us refl) s (equals_trans h e)) (equals_refl th us)

  lands_back : {o p q : Option (List Term)} → NextDropped th fates o p → NextEquals th q p → ((us : List Term) → o ≡ Some us → AreOfSorts th (sorts l.params) us) → ((us : List Term) → q ≡ Some us → AreOfSorts th (sorts k.params) us) → NextPaired th (Turned R) q o
  lands_back neither_goes_on both_without f g = both_end
  lands_back (both_go_on {ts = ts} s h) (both_with {ts = us} e) f g = both_on (equals_refl th us) (dropped_args (f ts refl) (g us refl) s (equals_trans h (equals_sym e))) (equals_refl th ts)

  forth_at : (ts us : List Term) (m : Label) (next : Option (List Term)) → AreOfSorts th (sorts l.params) ts → AreOfSorts th (sorts k.params) us → Stay th fates ts → Equals th (keep fates ts) us → Fires th l ts m next → FiresReply th R k us m next
  forth_at ts us m next a b s h f =
      let e = f.environment in
      let w = left_of drops.summands f.summand f.among in
      let t = w.summand in
      let at : IsAt th fates l f.summand.sums e = record { sums = f.bound; params = subst (λ z. AreOfSorts th (sorts l.params) z) (sym f.reads) a; stay = subst (λ z. Stay th fates z) (sym f.reads) s } in
      let g : Fires th k (keep fates ts) (put_label e t.label) (put_next e t.next) = record {
        summand = t;
        among = w.among;
        environment = e;
        reads = reads_kept e ts f.reads;
        bound = subst (λ z. AreBound th z e) (sym w.is.sums) f.bound;
        does = record { holds = transitive (symmetric (w.is.condition e at)) f.does.holds; label = refl; onward = refl };
      } in
      let r = fire_alike th k (keep fates ts) us (put_label e t.label) (put_next e t.next) right h g in
      record {
        label = r.label;
        onward = r.onward;
        fires = r.fires;
        agree = agree_trans (subst (λ z. AgreeInOrder th z (put_label e t.label)) (sym f.does.label) (w.is.label e at)) r.agree;
        lands = lands_forth (subst (λ z. NextDropped th fates z (put_next e t.next)) (sym f.does.onward) (w.is.next e at)) r.equal
            (λ xs q. firings_keep th vs l ts xs m left sl a (subst (λ z. Fires th l ts m z) q f))
            (λ xs q. firings_keep th vs k us xs r.label right sk b (subst (λ z. Fires th k us r.label z) q r.fires));
      }

  back_at : (ts us : List Term) (m : Label) (next : Option (List Term)) → AreOfSorts th (sorts l.params) ts → AreOfSorts th (sorts k.params) us → Stay th fates ts → Equals th (keep fates ts) us → length ts ≡ length (variables l.params) → Fires th k us m next → FiresReply th (Turned R) l ts m next
  back_at ts us m next a b s h long f =
      let r = fire_alike th k us (keep fates ts) m next right (equals_sym h) f in
      let d = r.fires.environment in
      let t = r.fires.summand in
      let w = whole_of drops.summands t r.fires.among in
      let x = w.summand in
      let sums : List ℕ = variables t.sums in
      let ps : List ℕ = variables l.params in
      let e : Environment = beside_reading d sums (bound ps ts) in
      let apart : Apart sums ps = subst (λ z. Apart (variables z) ps) (sym w.is.sums) (left.summands x w.among).apart in
      let distinct = (right.summands t r.fires.among).distinct in
      let reads : reading e ps ≡ ts = reads_behind d sums ps ts apart left.distinct long in
      let front : Agree sums (term_in e) (term_in d) = in_front_agree d (bound ps ts) sums distinct in
      let both : Agree (sums ++ variables k.params) (term_in d) (term_in e) = λ v i. ⊎_elim
      (λ j. sym (front v j))
      (λ j. reading_agrees (variables k.params) d e (r.fires.reads ∙ sym (reads_kept e ts reads)) v j)
      (Contains-append_cases sums (variables k.params) v i) in
      let does = does_along th k.params t d e r.label r.onward (right.summands t r.fires.among) both r.fires.does in
      let bound_sums : AreBound th x.sums e = subst (λ z. AreBound th z e) w.is.sums (bound_along th t.sums d e (record { same = λ v i. sym (front v i) }) r.fires.bound) in
      let at : IsAt th fates l x.sums e = record { sums = bound_sums; params = subst (λ z. AreOfSorts th (sorts l.params) z) (sym reads) a; stay = subst (λ z. Stay th fates z) (sym reads) s } in
      let g : Fires th l ts (put_label e x.label) (put_next e x.next) = record {
        summand = x;
        among = w.among;
        environment = e;
        reads = reads;
        bound = bound_sums;
        does = record { holds = transitive (w.is.condition e at) does.holds; label = refl; onward = refl };
      } in
      record {
        label = put_label e x.label;
        onward = put_next e x.next;
        fires = g;
        agree = agree_trans r.agree (subst (λ z. AgreeInOrder th z (put_label e x.label)) (sym does.label) (agree_sym (w.is.label e at)));
        lands = lands_back (w.is.next e at) (subst (λ z. NextEquals th next z) does.onward r.equal)
            (λ xs q. firings_keep th vs l ts xs (put_label e x.label) left sl a (subst (λ z. Fires th l ts (put_label e x.label) z) q g))
            (λ xs q. firings_keep th vs k us xs m right sk b (subst (λ z. Fires th k us m z) q f));
      }

  forth : (ts us : List Term) (m : Label) (next : Option (List Term)) → R ts us → Fires th l ts m next → FiresReply th R k us m next
  forth ts us m next (dropped_args a b s h) f = forth_at ts us m next a b s h f

  back : (us ts : List Term) (m : Label) (next : Option (List Term)) → R ts us → Fires th k us m next → FiresReply th (Turned R) l ts m next
  back us ts m next (dropped_args a b s h) f = back_at ts us m next a b s h (sorts_long th l.params ts a) f

  pub dropped_progress : FiresProgress th R l k
  dropped_progress = record { forth = forth; back = back }

pub dropping_good : (th : Theory) (vs : List Sort) (fates : List Fate) (l k : Linear) → IsLinear l → IsLinear k → IsWellSorted th.declared vs l → IsWellSorted th.declared vs k → Drops th fates l k → Bisimulation th (Pairs th (Dropped fates l k))
dropping_good th vs fates l k left right sl sk drops =
    link_of_answers th (Dropped fates l k) (DroppedArgs th fates l k) l k tt left right (record { forth = to_state th fates l k; back = from_state th fates l k }) (dropped_progress th vs fates l k left right sl sk drops)

-- with initial terms on which the constant parameters are what they are to be
pub dropped_bisimilar : (th : Theory) (vs : List Sort) (fates : List Fate) (l k : Linear) (init first : List Term) → IsLinear l → IsLinear k → IsWellSorted th.declared vs l → IsWellSorted th.declared vs k → Drops th fates l k
    → AreOfSorts th (sorts l.params) init → AreOfSorts th (sorts k.params) first → Stay th fates init → Equals th (keep fates init) first → IsGood th (Dropped fates l k) (state_of l init) (state_of k first)
dropped_bisimilar th vs fates l k init first left right sl sk drops a b s e = record {
  starts = up_to (alike_refl th (state_of l init)) (dropped_state a b (after th fates init s e)) (alike_refl th (state_of k first));
  follows = dropping_good th vs fates l k left right sl sk drops;
}
