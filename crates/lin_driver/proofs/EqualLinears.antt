-- Linear processes with provably equal data are bisimilar.
use Rattle.std.proofs.Common.{◌≡◌, List, refl, sym, subst, Option, Some}
use Rattle.data_theory.specs.Terms.{Sort, Term}
use Rattle.data_theory.specs.Provable.{symmetric, transitive}
use Rattle.process_terms.specs.Theories.{Theory, Equals, AreOfSorts}
use Rattle.process_terms.specs.Labels.{Label, put_label, AgreeInOrder}
use Rattle.process_terms.specs.Processes.{Process}
use Rattle.process_terms.proofs.AgreeingLabels.{equals_refl, equals_sym, equals_trans, agree_trans}
use Rattle.bisim_laws.specs.LinearProcesses.{Summand, Linear, variables, sorts, state_of, reading, put_next, NextEquals, both_without, both_with, IsLinear, IsWellSorted, AreBound, Fires}
use Rattle.bisim_laws.specs.LinkLaws.{FiresAlike}
use Rattle.bisim_laws.specs.Bisimulations.{up_to}
use Rattle.bisim_laws.specs.BaseStates.{DroppedState, dropped_state}
use Rattle.bisim_laws.specs.Links.{Dropped}
use Rattle.bisim_laws.proofs.AlikeFiring.{fire_alike}
use Rattle.bisim_laws.proofs.AlikeProcesses.{alike_refl}
use Rattle.bisim_laws.proofs.SortedFiring.{firings_keep}
use Rattle.std.specs.Prelude.{Contains}
use Rattle.lps_core.specs.Moving.{all_kept}
use Rattle.lps_core.specs.Progressing.{Paired, paired, NextPaired, both_end, both_go_on, FiresReply, FiresProgress, Turned}
use Rattle.lps_core.proofs.Answering.{link_of_answers}
use Rattle.lps_core.proofs.Renewing.{EqualOfSorts, equal_of_sorts, kept_equal, equal_kept}
use Rattle.lin_driver.specs.EqualLinears.{HasEqualSummand, AreEqualLinears, EqualLinearsAreGood}

next_trans : {th : Theory} {o p q : Option (List Term)} → NextEquals th o p → NextEquals th p q → NextEquals th o q
next_trans both_without both_without = both_without
next_trans (both_with h) (both_with k) = both_with (equals_trans h k)

-- the equal summand fires in the same environment
fires_equal : (th : Theory) (l k : Linear) → k.params ≡ l.params → ((s : Summand) → Contains l.summands s → HasEqualSummand th k s)
    → (ts : List Term) (m : Label) (next : Option (List Term)) → Fires th l ts m next → FiresAlike th k ts m next
fires_equal th l k same equal ts m next h =
    let e = h.environment in
    let r = equal h.summand h.among in
    record {
      label = put_label e r.summand.label;
      onward = put_next e r.summand.next;
      fires = record {
        summand = r.summand;
        among = r.among;
        environment = e;
        reads = subst (λ ps. reading e (variables ps) ≡ ts) (sym same) h.reads;
        bound = subst (λ xs. AreBound th xs e) (sym r.sums) h.bound;
        does = record { holds = transitive (symmetric (r.condition e)) h.does.holds; label = refl; onward = refl };
      };
      agree = subst (λ n. AgreeInOrder th n (put_label e r.summand.label)) (sym h.does.label) (r.label e);
      equal = subst (λ o. NextEquals th o (put_next e r.summand.next)) (sym h.does.onward) (r.next e);
    }

-- so does one from provably equal arguments
replies : (th : Theory) (vs ws : List Sort) (l k : Linear) (R : List Term → List Term → Type 0) → IsLinear l → IsLinear k → IsWellSorted th.declared vs l → IsWellSorted th.declared ws k → k.params ≡ l.params
    → ((s : Summand) → Contains l.summands s → HasEqualSummand th k s)
    → ((ts us : List Term) → AreOfSorts th (sorts l.params) ts → AreOfSorts th (sorts l.params) us → Equals th ts us → R ts us)
    → (ts us : List Term) (m : Label) (next : Option (List Term)) → AreOfSorts th (sorts l.params) ts → AreOfSorts th (sorts l.params) us → Equals th ts us → Fires th l ts m next → FiresReply th R k us m next
replies th vs ws l k R left right sl sk same equal r ts us m next from to e h =
    let a = fire_alike th l ts us m next left e h in
    let b = fires_equal th l k same equal us a.label a.onward a.fires in
    record {
      label = b.label;
      onward = b.onward;
      fires = b.fires;
      agree = agree_trans a.agree b.agree;
      lands = lands next b.onward (next_trans a.equal b.equal)
          (λ v q. firings_keep th vs l ts v m left sl from (subst (λ o. Fires th l ts m o) q h))
          (λ v q. subst (λ ps. AreOfSorts th (sorts ps) v) same (firings_keep th ws k us v b.label right sk (subst (λ ps. AreOfSorts th (sorts ps) us) (sym same) to) (subst (λ o. Fires th k us b.label o) q b.fires)));
    }
  where
    lands : (o q : Option (List Term)) → NextEquals th o q → ((v : List Term) → o ≡ Some v → AreOfSorts th (sorts l.params) v) → ((v : List Term) → q ≡ Some v → AreOfSorts th (sorts l.params) v) → NextPaired th R o q
    lands _ _ both_without f g = both_end
    lands _ _ (both_with {ts = v} {us = w} d) f g = both_go_on (equals_refl th v) (r v w (f v refl) (g w refl) d) (equals_refl th w)

progress : (th : Theory) (vs ws : List Sort) (l k : Linear) → IsLinear l → IsLinear k → IsWellSorted th.declared vs l → IsWellSorted th.declared ws k → AreEqualLinears th l k → FiresProgress th (EqualOfSorts th l) l k
progress th vs ws l k left right sl sk w = record { forth = forth; back = back }
  where
    forth : (ts us : List Term) (m : Label) (next : Option (List Term)) → EqualOfSorts th l ts us → Fires th l ts m next → FiresReply th (EqualOfSorts th l) k us m next
    forth ts us m next (equal_of_sorts h i a) f = replies th vs ws l k (EqualOfSorts th l) left right sl sk w.params w.forth (λ v u s z d. equal_of_sorts s z d) ts us m next h i a f

    along : (ps : List Term) → AreOfSorts th (sorts l.params) ps → AreOfSorts th (sorts k.params) ps
    along ps h = subst (λ z. AreOfSorts th (sorts z) ps) (sym w.params) h

    alongside : (ps : List Term) → AreOfSorts th (sorts k.params) ps → AreOfSorts th (sorts l.params) ps
    alongside ps h = subst (λ z. AreOfSorts th (sorts z) ps) w.params h

    back : (us ts : List Term) (m : Label) (next : Option (List Term)) → EqualOfSorts th l ts us → Fires th k us m next → FiresReply th (Turned (EqualOfSorts th l)) l ts m next
    back us ts m next (equal_of_sorts h i a) f =
        replies th ws vs k l (Turned (EqualOfSorts th l)) right left sk sl (sym w.params) w.back
        (λ v u s z d. equal_of_sorts (alongside u z) (alongside v s) (equals_sym d))
        us ts m next (along us i) (along ts h) (equals_sym a) f

to_paired : (th : Theory) (l k : Linear) → k.params ≡ l.params → (p q : Process) → DroppedState th (all_kept l.params) l k p q → Paired (EqualOfSorts th l) l k p q
to_paired th l k e p q (dropped_state {ts = ts} {us = us} h i a) = paired (equal_of_sorts h (subst (λ z. AreOfSorts th (sorts z) us) e i) (kept_equal l.params a))

from_paired : (th : Theory) (l k : Linear) → k.params ≡ l.params → (p q : Process) → Paired (EqualOfSorts th l) l k p q → DroppedState th (all_kept l.params) l k p q
from_paired th l k e p q (paired (equal_of_sorts {us = us} h i a)) = dropped_state h (subst (λ z. AreOfSorts th (sorts z) us) (sym e) i) (equal_kept l.params h a)

pub equal_linears_are_good : EqualLinearsAreGood
equal_linears_are_good th vs ws l k ts us left right sl sk w from to e =
    record {
      starts = up_to (alike_refl th (state_of l ts)) (from_paired th l k w.params (state_of l ts) (state_of k us) (paired (equal_of_sorts from to e))) (alike_refl th (state_of k us));
      follows = link_of_answers th (Dropped (all_kept l.params) l k) (EqualOfSorts th l) l k tt left right
          (record { forth = from_paired th l k w.params; back = to_paired th l k w.params })
          (progress th vs ws l k left right sl sk w);
    }
