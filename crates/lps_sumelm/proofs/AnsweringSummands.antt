-- Summands that answer each other make linear processes that do.
use Rattle.std.proofs.Common.{◌≡◌, List, [], ◌∷◌, refl, sym, ap, ◌∙◌, subst, ⊎_elim, Option, Some}
use Rattle.std.specs.Prelude.{Contains}
use Rattle.std.specs.List.{AllZip}
use Rattle.data_theory.specs.Terms.{Sort, Term}
use Rattle.process_terms.specs.Theories.{Theory, Equals, AreOfSorts}
use Rattle.process_terms.specs.Labels.{Label, put_label, AgreeInOrder}
use Rattle.process_terms.specs.Processes.{Bound, Process}
use Rattle.process_terms.proofs.AgreeingLabels.{equals_refl, equals_sym, equals_trans, agree_trans}
use Rattle.bisim_laws.specs.Bisimulations.{up_to}
use Rattle.bisim_laws.specs.LinearProcesses.{Summand, Linear, variables, sorts, state_of, IsLinear, IsWellSorted, reading, put_next, NextEquals, both_without, both_with, Fires}
use Rattle.bisim_laws.specs.BaseStates.{SolvedState, solved_state}
use Rattle.bisim_laws.specs.Links.{Solved, IsGood}
use Rattle.bisim_laws.proofs.Firing.{contains_none, contains_first, contains_later, contains_cases}
use Rattle.bisim_laws.proofs.SortedFiring.{firings_keep}
use Rattle.bisim_laws.proofs.AlikeFiring.{fire_alike}
use Rattle.bisim_laws.proofs.AlikeProcesses.{alike_refl}
use Rattle.lps_core.specs.Progressing.{Paired, paired, NextPaired, both_end, both_go_on, FiresReply, FiresProgress, Turned}
use Rattle.lps_core.proofs.Answering.{link_of_answers}
use Rattle.lps_sumelm.specs.SolvingLaws.{IsAnswered, AnswerEachOther}

-- ---- one after another
next_trans : {th : Theory} {o p q : Option (List Term)} → NextEquals th o p → NextEquals th p q → NextEquals th o q
next_trans both_without both_without = both_without
next_trans (both_with e) (both_with h) = both_with (equals_trans e h)

answered_then : {th : Theory} {ps : List Bound} {s t u : Summand} → IsAnswered th ps s t → IsAnswered th ps t u → IsAnswered th ps s u
answered_then {th} {ps} f g e b a h =
    let x = f e b a h in
    let y = g x.environment x.bound (subst (λ z. AreOfSorts th (sorts ps) z) (sym x.reads) a) x.holds in
    record { environment = y.environment; reads = y.reads ∙ x.reads; bound = y.bound; holds = y.holds; label = agree_trans x.label y.label; next = next_trans x.next y.next }

pub each_other_then : {th : Theory} {ps : List Bound} {s t u : Summand} → AnswerEachOther th ps s t → AnswerEachOther th ps t u → AnswerEachOther th ps s u
each_other_then {th} {ps} {s} {t} {u} a b = record { forth = answered_then {th = th} {ps = ps} {s = s} {t = t} {u = u} a.forth b.forth; back = answered_then {th = th} {ps = ps} {s = u} {t = t} {u = s} b.back a.back }

-- ---- the other summand
abbrev pub AllAnswer : Theory → List Bound → List Summand → List Summand → Type 0
AllAnswer th ps ss ts = AllZip (AnswerEachOther th ps) ss ts

record Other (th : Theory) (ps : List Bound) (ts : List Summand) (s : Summand) : Type 0 where
  summand : Summand
  among : Contains ts summand
  answered : IsAnswered th ps s summand

other_of : (th : Theory) (ps : List Bound) (ss ts : List Summand) → AllAnswer th ps ss ts → (s : Summand) → Contains ss s → Other th ps ts s
other_of th ps [] ts h s i = absurd (contains_none s i)
other_of th ps (x ∷ ss) [] h s i = absurd h
other_of th ps (x ∷ ss) (t ∷ ts) h s i = ⊎_elim
    (λ q. subst (λ z. Other th ps (t ∷ ts) z) q (record { summand = t; among = contains_first t ts; answered = h.0.forth }))
    (λ j. let r = other_of th ps ss ts h.1 s j in record { summand = r.summand; among = contains_later t r.summand ts r.among; answered = r.answered })
    (contains_cases x s ss i)

turned : (th : Theory) (ps : List Bound) (ss ts : List Summand) → AllAnswer th ps ss ts → AllAnswer th ps ts ss
turned th ps [] [] h = tt
turned th ps [] (t ∷ ts) h = absurd h
turned th ps (s ∷ ss) [] h = absurd h
turned th ps (s ∷ ss) (t ∷ ts) h = (record { forth = h.0.back; back = h.0.forth }, turned th ps ss ts h.1)

-- ---- the relation of the link
pub data SolvedArgs (th : Theory) (l k : Linear) : List Term → List Term → Type 0 where
  solved_args : {ts us : List Term} → AreOfSorts th (sorts l.params) ts → AreOfSorts th (sorts k.params) us → Equals th ts us → SolvedArgs th l k ts us

module _ (th : Theory) (vs : List Sort) (l k : Linear) (left : IsLinear l) (right : IsLinear k) (sl : IsWellSorted th.declared vs l) (sk : IsWellSorted th.declared vs k) where
  lands : (R : List Term → List Term → Type 0) → {o p q : Option (List Term)} → ((ts us : List Term) → o ≡ Some ts → q ≡ Some us → Equals th ts us → R ts us) → NextEquals th o p → NextEquals th p q → NextPaired th R o q
  lands R r both_without both_without = both_end
  lands R r (both_with {ts = ts} e) (both_with {us = us} h) = both_go_on (equals_refl th ts) (r ts us refl refl (equals_trans e h)) (equals_refl th us)

  -- one side fires, and the other one answers
  reply : (R : List Term → List Term → Type 0) → k.params ≡ l.params → AllAnswer th l.params l.summands k.summands
      → ((ts us : List Term) → AreOfSorts th (sorts l.params) ts → AreOfSorts th (sorts k.params) us → Equals th ts us → R ts us)
      → (ts us : List Term) (m : Label) (next : Option (List Term)) → AreOfSorts th (sorts l.params) ts → AreOfSorts th (sorts k.params) us → Equals th ts us → Fires th l ts m next → FiresReply th R k us m next
  reply R params answer r ts us m next a b h f =
      let e = f.environment in
      let w = other_of th l.params l.summands k.summands answer f.summand f.among in
      let x = w.answered e f.bound (subst (λ z. AreOfSorts th (sorts l.params) z) (sym f.reads) a) f.does.holds in
      let g : Fires th k ts (put_label x.environment w.summand.label) (put_next x.environment w.summand.next) = record {
        summand = w.summand;
        among = w.among;
        environment = x.environment;
        reads = ap (λ z. reading x.environment (variables z)) params ∙ x.reads ∙ f.reads;
        bound = x.bound;
        does = record { holds = x.holds; label = refl; onward = refl };
      } in
      let y = fire_alike th k ts us (put_label x.environment w.summand.label) (put_next x.environment w.summand.next) right h g in
      record {
        label = y.label;
        onward = y.onward;
        fires = y.fires;
        agree = agree_trans (subst (λ z. AgreeInOrder th z (put_label x.environment w.summand.label)) (sym f.does.label) x.label) y.agree;
        lands = lands R
            (λ xs ys p q i. r xs ys (firings_keep th vs l ts xs m left sl a (subst (λ z. Fires th l ts m z) p f)) (firings_keep th vs k us ys y.label right sk b (subst (λ z. Fires th k us y.label z) q y.fires)) i)
            (subst (λ z. NextEquals th z (put_next x.environment w.summand.next)) (sym f.does.onward) x.next) y.equal;
      }

to_state : (th : Theory) (l k : Linear) (p q : Process) → Paired (SolvedArgs th l k) l k p q → SolvedState th l k p q
to_state th l k p q (paired (solved_args a b e)) = solved_state a b e

from_state : (th : Theory) (l k : Linear) (p q : Process) → SolvedState th l k p q → Paired (SolvedArgs th l k) l k p q
from_state th l k p q (solved_state a b e) = paired (solved_args a b e)

solved_progress : (th : Theory) (vs : List Sort) (l k : Linear) → IsLinear l → IsLinear k → IsWellSorted th.declared vs l → IsWellSorted th.declared vs k → k.params ≡ l.params → AllAnswer th l.params l.summands k.summands
    → FiresProgress th (SolvedArgs th l k) l k
solved_progress th vs l k left right sl sk params answer = record { forth = forth; back = back }
  where
    forth : (ts us : List Term) (m : Label) (next : Option (List Term)) → SolvedArgs th l k ts us → Fires th l ts m next → FiresReply th (SolvedArgs th l k) k us m next
    forth ts us m next (solved_args a b e) f = reply th vs l k left right sl sk (SolvedArgs th l k) params answer (λ ts us a b e. solved_args a b e) ts us m next a b e f

    back : (us ts : List Term) (m : Label) (next : Option (List Term)) → SolvedArgs th l k ts us → Fires th k us m next → FiresReply th (Turned (SolvedArgs th l k)) l ts m next
    back us ts m next (solved_args a b e) f =
        reply th vs k l right left sk sl (Turned (SolvedArgs th l k)) (sym params) (subst (λ z. AllAnswer th z k.summands l.summands) (sym params) (turned th l.params l.summands k.summands answer)) (λ us ts b a e. solved_args a b (equals_sym e)) us ts m next b a (equals_sym e) f

-- linear processes with the same parameters whose summands answer each other, from the same arguments on
pub answering_is_good : (th : Theory) (vs : List Sort) (l k : Linear) (init : List Term) → IsLinear l → IsLinear k → IsWellSorted th.declared vs l → IsWellSorted th.declared vs k → k.params ≡ l.params → AllAnswer th l.params l.summands k.summands
    → AreOfSorts th (sorts l.params) init → IsGood th (Solved l k) (state_of l init) (state_of k init)
answering_is_good th vs l k init left right sl sk params answer a = record {
  starts = up_to (alike_refl th (state_of l init)) (solved_state a (subst (λ z. AreOfSorts th (sorts z) init) (sym params) a) (equals_refl th init)) (alike_refl th (state_of k init));
  follows =
      link_of_answers th (Solved l k) (SolvedArgs th l k) l k tt left right (record { forth = to_state th l k; back = from_state th l k }) (solved_progress th vs l k left right sl sk params answer);
}
