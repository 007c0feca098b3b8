-- Other ids for the sum variables of each summand.
use Rattle.std.proofs.Common.{◌≡◌, ℕ, suc, List, [], ◌∷◌, ◌++◌, length, refl, sym, ap, ◌∙◌, subst, ⊎_elim, Option, Some}
use Rattle.std.specs.Prelude.{Contains}
use Rattle.std.proofs.lemmas.List.Elements.{Contains-append_cases, Contains-append_left, Contains-append_right}
use Rattle.data_theory.specs.Terms.{Sort, Term, put}
use Rattle.data_theory.specs.Declarations.{Data, IsSort}
use Rattle.data_theory.specs.Environments.{Environment, term_in, bound, bound_variables, Agree, Apart, AreDistinct, IsOver}
use Rattle.data_theory.proofs.EnvironmentLemmas.{front_is_read, front_is_skipped, bound_are_the_parameters, putting_in_keeps_sorts}
use Rattle.process_terms.specs.Theories.{Theory, Equals, no_terms, more_terms, IsTrue, IsOfSort, AreOfSorts}
use Rattle.process_terms.specs.Labels.{Label, put_label}
use Rattle.process_terms.specs.Processes.{Bound, Process}
use Rattle.process_terms.proofs.AgreeingLabels.{equals_refl, equals_sym}
use Rattle.bisim_laws.specs.LinearProcesses.{Summand, Linear, variables, sorts, IsSummand, IsLinear, IsWellSorted, SummandIsSorted, AreDeclared, HaveDataSorts, reading, put_next, NextIsOver, NextIsSorted, NextEquals, both_without, both_with, AreBound, Fires}
use Rattle.bisim_laws.specs.BaseStates.{AfterDropping, nothing_more, one_kept, DroppedState, dropped_state}
use Rattle.bisim_laws.specs.Links.{Dropped}
use Rattle.bisim_laws.proofs.Firing.{contains_none, contains_first, contains_later, contains_cases, reading_same, bound_reads, reading_long, head_same, tail_same}
use Rattle.bisim_laws.proofs.SortedFiring.{firings_keep}
use Rattle.bisim_laws.proofs.AlikeFiring.{fire_alike}
use Rattle.lps_core.specs.Moving.{Through, renaming_to, SameSorts, no_more, one_more, with_sums, HaveOtherSums, no_summand, one_summand, RenewsSums, all_kept, HasOwnSums, RenewedSumsAreGood, RenewedSumsAreLinear, RenewedSumsAreSorted}
use Rattle.lps_core.specs.Progressing.{Paired, paired, NextPaired, both_end, both_go_on, FiresReply, FiresProgress, Turned}
use Rattle.lps_core.proofs.Answering.{link_of_answers}
use Rattle.lps_core.proofs.Environments.{put_through, label_through, next_through, renamed_through, unrenamed_stay}
use Rattle.lps_core.proofs.OverVariables.{put_over, label_over, next_over_put, renamed_over, ArePutOver}
use Rattle.lps_core.proofs.SortedTerms.{label_sorted, next_sorted_put, renamed_sorted}

-- ---- linear processes that fire the same at the same arguments
pub record FiresSame (th : Theory) (l k : Linear) : Type 0 where
  pub forth : (ts : List Term) (m : Label) (next : Option (List Term)) → Fires th l ts m next → Fires th k ts m next
  pub back : (ts : List Term) (m : Label) (next : Option (List Term)) → Fires th k ts m next → Fires th l ts m next

pub data EqualOfSorts (th : Theory) (l : Linear) : List Term → List Term → Type 0 where
  equal_of_sorts : {ts us : List Term} → AreOfSorts th (sorts l.params) ts → AreOfSorts th (sorts l.params) us → Equals th ts us → EqualOfSorts th l ts us

-- one side fires, and the other one from provably equal arguments
reply_alike : (th : Theory) (vs : List Sort) (l k : Linear) (R : List Term → List Term → Type 0) → IsLinear l → IsLinear k → IsWellSorted th.declared vs l
    → ((ts : List Term) → AreOfSorts th (sorts l.params) ts → R ts ts)
    → ((ts : List Term) (m : Label) (next : Option (List Term)) → Fires th l ts m next → Fires th k ts m next)
    → (ts us : List Term) (m : Label) (next : Option (List Term)) → AreOfSorts th (sorts l.params) ts → Equals th ts us → Fires th l ts m next → FiresReply th R k us m next
reply_alike th vs l k R left right sorted r f ts us m next s e h =
    let a = fire_alike th k ts us m next right e (f ts m next h) in
    record { label = a.label; onward = a.onward; fires = a.fires; agree = a.agree; lands = lands next a.onward a.equal (λ vs' q. firings_keep th vs l ts vs' m left sorted s (subst (λ z. Fires th l ts m z) q h)) }
  where
    lands : (o q : Option (List Term)) → NextEquals th o q → ((vs' : List Term) → o ≡ Some vs' → AreOfSorts th (sorts l.params) vs') → NextPaired th R o q
    lands _ _ both_without w = both_end
    lands _ _ (both_with {ts = ts'} e) w = both_go_on (equals_refl th ts') (r ts' (w ts' refl)) e

pub kept_equal : {th : Theory} (xs : List Bound) {ts us : List Term} → AfterDropping th (all_kept xs) ts us → Equals th ts us
kept_equal [] nothing_more = no_terms
kept_equal (x ∷ xs) (one_kept h k) = more_terms h (kept_equal xs k)

pub equal_kept : {th : Theory} (xs : List Bound) {ts us : List Term} → AreOfSorts th (sorts xs) ts → Equals th ts us → AfterDropping th (all_kept xs) ts us
equal_kept [] s no_terms = nothing_more
equal_kept [] s (more_terms h k) = absurd s
equal_kept (x ∷ xs) s no_terms = absurd s
equal_kept (x ∷ xs) s (more_terms h k) = one_kept h (equal_kept xs s.1 k)

to_paired : (th : Theory) (l k : Linear) → k.params ≡ l.params → (p q : Process) → DroppedState th (all_kept l.params) l k p q → Paired (EqualOfSorts th l) l k p q
to_paired th l k e p q (dropped_state {ts = ts} {us = us} h i a) = paired (equal_of_sorts h (subst (λ z. AreOfSorts th (sorts z) us) e i) (kept_equal l.params a))

from_paired : (th : Theory) (l k : Linear) → k.params ≡ l.params → (p q : Process) → Paired (EqualOfSorts th l) l k p q → DroppedState th (all_kept l.params) l k p q
from_paired th l k e p q (paired (equal_of_sorts {us = us} h i a)) = dropped_state h (subst (λ z. AreOfSorts th (sorts z) us) (sym e) i) (equal_kept l.params h a)

same_progress : (th : Theory) (vs : List Sort) (l k : Linear) → IsLinear l → IsLinear k → IsWellSorted th.declared vs l → IsWellSorted th.declared vs k → k.params ≡ l.params → FiresSame th l k → FiresProgress th (EqualOfSorts th l) l k
same_progress th vs l k left right sl sk e f = record {
  forth = λ ts us m next h i. forth_at ts us m next h i;
  back = λ us ts m next h i. back_at us ts m next h i;
}
  where
    forth_at : (ts us : List Term) (m : Label) (next : Option (List Term)) → EqualOfSorts th l ts us → Fires th l ts m next → FiresReply th (EqualOfSorts th l) k us m next
    forth_at ts us m next (equal_of_sorts h i a) w = reply_alike th vs l k (EqualOfSorts th l) left right sl (λ ts s. equal_of_sorts s s (equals_refl th ts)) f.forth ts us m next h a w

    back_at : (us ts : List Term) (m : Label) (next : Option (List Term)) → EqualOfSorts th l ts us → Fires th k us m next → FiresReply th (Turned (EqualOfSorts th l)) l ts m next
    back_at us ts m next (equal_of_sorts h i a) w =
        reply_alike th vs k l (Turned (EqualOfSorts th l)) right left sk
        (λ ts s. let s' = subst (λ z. AreOfSorts th (sorts z) ts) e s in equal_of_sorts s' s' (equals_refl th ts))
        f.back us ts m next (subst (λ z. AreOfSorts th (sorts z) us) (sym e) i) (equals_sym a) w

-- ---- other sums
pub same_long : {xs ys : List Bound} → SameSorts xs ys → length (variables ys) ≡ length (variables xs)
same_long no_more = refl
same_long (one_more q k) = ap suc (same_long k)

pub same_data_sorts : (g : Data) {xs ys : List Bound} → SameSorts xs ys → HaveDataSorts g xs → HaveDataSorts g ys
same_data_sorts g no_more h y i = absurd (contains_none y i)
same_data_sorts g (one_more {x = x} {y = z} {xs = xs} {ys = ys} q k) h y i = ⊎_elim
    (λ w. subst (λ a. IsSort g a.sort) w (subst (λ s. IsSort g s) q (h x (contains_first x xs))))
    (λ j. same_data_sorts g k (λ a l. h a (contains_later x a xs l)) y j)
    (contains_cases z y ys i)

pub same_turned : {xs ys : List Bound} → SameSorts xs ys → SameSorts ys xs
same_turned no_more = no_more
same_turned (one_more q k) = one_more (sym q) (same_turned k)

bound_renewed : (th : Theory) {xs ys : List Bound} (d e : Environment) → SameSorts xs ys → reading d (variables ys) ≡ reading e (variables xs) → AreBound th xs e → AreBound th ys d
bound_renewed th d e no_more h b y i = absurd (contains_none y i)
bound_renewed th d e (one_more {x = x} {y = z} {xs = xs} {ys = ys} q k) h b y i = ⊎_elim
    (λ w. subst (λ a. IsOfSort th a.sort (term_in d a.var)) w (subst (λ s. IsOfSort th s (term_in d z.var)) q (subst (λ t. IsOfSort th x.sort t) (sym (head_same h)) (b x (contains_first x xs)))))
    (λ j. bound_renewed th d e k (tail_same h) (λ a l. b a (contains_later x a xs l)) y j)
    (contains_cases z y ys i)

-- sums that get other variables, in front of parameters that stay
through_front : (sums ys ps : List ℕ) (d e : Environment) → Apart sums ps → length ys ≡ length sums → reading d ys ≡ reading e sums → Agree ps (term_in d) (term_in e) → Through (sums ++ ps) (renaming_to sums ys) d e
through_front sums ys ps d e n l h g v i = ⊎_elim
    (λ j. renamed_through sums ys d e h v j)
    (λ j. ap (put (term_in d)) (unrenamed_stay sums ys v l (λ k. n v k j)) ∙ g v j)
    (Contains-append_cases sums ps v i)

record Other (s : Summand) (ts : List Summand) : Type 0 where
  sums : List Bound
  same : SameSorts s.sums sums
  among : Contains ts (with_sums sums s)

other_of : {ss ts : List Summand} → HaveOtherSums ss ts → (s : Summand) → Contains ss s → Other s ts
other_of no_summand s i = absurd (contains_none s i)
other_of (one_summand {s = x} {ss = ss} {ts = ts} ys q k) s i = ⊎_elim
    (λ w. subst (λ z. Other z (with_sums ys x ∷ ts)) w (record { sums = ys; same = q; among = contains_first (with_sums ys x) ts }))
    (λ j. let r = other_of k s j in record { sums = r.sums; same = r.same; among = contains_later (with_sums ys x) (with_sums r.sums s) ts r.among })
    (contains_cases x s ss i)

record Original (ss : List Summand) (t : Summand) : Type 0 where
  sums : List Bound
  summand : Summand
  same : SameSorts summand.sums sums
  among : Contains ss summand
  is : t ≡ with_sums sums summand

original_of : {ss ts : List Summand} → HaveOtherSums ss ts → (t : Summand) → Contains ts t → Original ss t
original_of no_summand t i = absurd (contains_none t i)
original_of (one_summand {s = x} {ss = ss} {ts = ts} ys q k) t i = ⊎_elim
    (λ w. record { sums = ys; summand = x; same = q; among = contains_first x ss; is = sym w })
    (λ j. let r = original_of k t j in record { sums = r.sums; summand = r.summand; same = r.same; among = contains_later x r.summand ss r.among; is = r.is })
    (contains_cases (with_sums ys x) t ts i)

-- an environment that reads other variables as another one reads these, and the parameters as it does
record Reads (e : Environment) (sums ys ps : List ℕ) : Type 0 where
  environment : Environment
  front : reading environment ys ≡ reading e sums
  behind : Agree ps (term_in environment) (term_in e)

reads_as : (e : Environment) (sums ys ps : List ℕ) → length ys ≡ length sums → Apart ys ps → (AreDist : (ts : List Term) → length ts ≡ length ys → reading (bound ys ts) ys ≡ ts) → Reads e sums ys ps
reads_as e sums ys ps l n d =
    let ts = reading e sums in
    let long : length ts ≡ length ys = reading_long e sums ∙ sym l in
    let own : bound_variables (bound ys ts) ≡ ys = bound_are_the_parameters ys ts long in
    record {
      environment = bound ys ts ++ e;
      front = reading_same ys (bound ys ts ++ e) (bound ys ts) (λ v i. front_is_read (bound ys ts) e v (subst (λ z. Contains z v) (sym own) i)) ∙ d ts long;
      behind = λ v i. front_is_skipped (bound ys ts) e v (λ j. n v (subst (λ z. Contains z v) own j) i);
    }

renewed_fires : (th : Theory) (l k : Linear) → IsLinear l → IsLinear k → RenewsSums l k → FiresSame th l k
renewed_fires th l k left right w = record { forth = forth; back = back }
  where
    forth : (ts : List Term) (m : Label) (next : Option (List Term)) → Fires th l ts m next → Fires th k ts m next
    forth ts m next h =
        let s = h.summand in
        let o = other_of w.summands s h.among in
        let f = left.summands s h.among in
        let g = right.summands (with_sums o.sums s) o.among in
        let ps = variables l.params in
        let xs = variables s.sums ++ ps in
        let r = renaming_to (variables s.sums) (variables o.sums) in
        let same : variables k.params ≡ ps = ap variables w.params in
        let e = reads_as h.environment (variables s.sums) (variables o.sums) ps (same_long o.same) (λ v i j. g.apart v i (subst (λ z. Contains z v) (sym same) j)) (λ ts q. bound_reads (variables o.sums) ts q g.distinct) in
        let t = through_front (variables s.sums) (variables o.sums) ps e.environment h.environment f.apart (same_long o.same) e.front e.behind in
        record {
          summand = with_sums o.sums s;
          among = o.among;
          environment = e.environment;
          reads = ap (reading e.environment) same ∙ reading_same ps e.environment h.environment e.behind ∙ h.reads;
          bound = bound_renewed th e.environment h.environment o.same e.front h.bound;
          does = record {
            holds = subst (λ c. IsTrue th c) (sym (put_through xs r e.environment h.environment t s.condition f.condition)) h.does.holds;
            label = h.does.label ∙ sym (label_through xs r e.environment h.environment t s.label f.label);
            onward = h.does.onward ∙ sym (next_through xs l.params r e.environment h.environment t s.next f.next);
          };
        }

    back : (ts : List Term) (m : Label) (next : Option (List Term)) → Fires th k ts m next → Fires th l ts m next
    back ts m next h =
        let o = original_of w.summands h.summand h.among in
        let s = o.summand in
        let f = left.summands s o.among in
        let ps = variables l.params in
        let xs = variables s.sums ++ ps in
        let r = renaming_to (variables s.sums) (variables o.sums) in
        let same : variables k.params ≡ ps = ap variables w.params in
        let e = reads_as h.environment (variables o.sums) (variables s.sums) ps (sym (same_long o.same)) f.apart (λ ts q. bound_reads (variables s.sums) ts q f.distinct) in
        let t = through_front (variables s.sums) (variables o.sums) ps h.environment e.environment f.apart (same_long o.same) (sym e.front) (λ v i. sym (e.behind v i)) in
        record {
          summand = s;
          among = o.among;
          environment = e.environment;
          reads = reading_same ps e.environment h.environment e.behind ∙ ap (reading h.environment) (sym same) ∙ h.reads;
          bound = bound_renewed th e.environment h.environment (same_turned o.same) e.front (subst (λ z. AreBound th z.sums h.environment) o.is h.bound);
          does = record {
            holds = subst (λ c. IsTrue th c) (put_through xs r h.environment e.environment t s.condition f.condition) (subst (λ z. IsTrue th (put (term_in h.environment) z.condition)) o.is h.does.holds);
            label = h.does.label ∙ ap (λ z. put_label h.environment z.label) o.is ∙ label_through xs r h.environment e.environment t s.label f.label;
            onward = h.does.onward ∙ ap (λ z. put_next h.environment z.next) o.is ∙ next_through xs l.params r h.environment e.environment t s.next f.next;
          };
        }

pub renewed_good : RenewedSumsAreGood
renewed_good th vs l k left right sl sk w =
    link_of_answers th (Dropped (all_kept l.params) l k) (EqualOfSorts th l) l k tt left right
    (record { forth = from_paired th l k w.params; back = to_paired th l k w.params })
    (same_progress th vs l k left right sl sk w.params (renewed_fires th l k left right w))

renewed_summand : (l k : Linear) → IsLinear l → RenewsSums l k → (t : Summand) → Contains k.summands t → HasOwnSums k.params t → IsSummand k.params t
renewed_summand l k is w t i own =
    let o = original_of w.summands t i in
    let s = o.summand in
    let f = is.summands s o.among in
    let r = renaming_to (variables s.sums) (variables o.sums) in
    let xs = variables s.sums ++ variables l.params in
    let ys = variables o.sums ++ variables k.params in
    let over : ArePutOver xs ys (term_in r) = λ v j. ⊎_elim
    (λ a. renamed_over (variables s.sums) (variables o.sums) ys (same_long o.same) (λ u b. Contains-append_left (variables o.sums) (variables k.params) u b) v a)
    (λ a. subst (λ z. IsOver ys z) (sym (unrenamed_stay (variables s.sums) (variables o.sums) v (same_long o.same) (λ b. f.apart v b a))) (Contains-append_right (variables o.sums) (variables k.params) v (subst (λ z. Contains (variables z) v) (sym w.params) a)))
    (Contains-append_cases (variables s.sums) (variables l.params) v j) in
    subst (λ z. IsSummand k.params z) (sym o.is) (record {
      condition = put_over xs ys (term_in r) over s.condition f.condition;
      label = label_over xs ys r over s.label f.label;
      next = subst (λ z. NextIsOver ys z (put_next r s.next)) (sym w.params) (next_over_put xs ys l.params r over s.next f.next);
      apart = subst (λ z. Apart (variables z.sums) (variables k.params)) o.is own.0;
      distinct = subst (λ z. AreDistinct (variables z.sums)) o.is own.1;
    })

pub renewed_linear : RenewedSumsAreLinear
renewed_linear l k is w own = record { distinct = subst (λ z. AreDistinct (variables z)) (sym w.params) is.distinct; summands = λ t i. renewed_summand l k is w t i (own t i) }

pub renewed_are_sorted : RenewedSumsAreSorted
renewed_are_sorted g vs l k is w own = record {
  params = subst (λ z. AreDeclared vs z) (sym w.params) is.params;
  param_sorts = subst (λ z. HaveDataSorts g z) (sym w.params) is.param_sorts;
  summands = λ t i.
      let o = original_of w.summands t i in
      let s = o.summand in
      let f = is.summands s o.among in
      let d = own t i in
      let r = renaming_to (variables s.sums) (variables o.sums) in
      let e = renamed_sorted g vs o.same f.sums (subst (λ z. AreDeclared vs z.sums) o.is d) in
      subst (λ z. SummandIsSorted g vs k.params z) (sym o.is) (record {
        sums = subst (λ z. AreDeclared vs z.sums) o.is d;
        sum_sorts = same_data_sorts g o.same f.sum_sorts;
        condition = putting_in_keeps_sorts g vs vs (term_in r) e s.condition _ f.condition;
        label = label_sorted g vs vs r e s.label f.label;
        next = subst (λ z. NextIsSorted g vs (sorts z) (put_next r s.next)) (sym w.params) (next_sorted_put g vs vs (sorts l.params) r e s.next f.next);
      });
}
