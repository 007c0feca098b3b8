-- Summands with a column more, which says whether the first step is still to come, and the summands that they are made of.
use Rattle.std.proofs.Common.{◌≡◌, ℕ, Bool, true, false, List, [], ◌∷◌, ◌++◌, map, length, refl, sym, ◌∙◌, subst, ⊎_elim, Option, Some, None}
use Rattle.std.specs.Prelude.{Contains}
use Rattle.std.proofs.lemmas.List.{map-append}
use Rattle.std.proofs.lemmas.List.Elements.{Contains-append_cases}
use Rattle.data_theory.specs.Terms.{Sort, boolean, Term, variable, put}
use Rattle.data_theory.specs.Declarations.{Data}
use Rattle.data_theory.specs.Provable.{reflexive}
use Rattle.data_theory.specs.Environments.{Environment, term_in, bound, terms_of, Apart, AreDistinct}
use Rattle.data_theory.proofs.EnvironmentLemmas.{contains_nothing, contains_cases as number_cases}
use Rattle.process_terms.specs.Theories.{Theory, IsTrue, IsFalse, IsOfSort, AreOfSorts, none_left, true_and_more}
use Rattle.process_terms.specs.Labels.{Label}
use Rattle.process_terms.specs.Processes.{Bound}
use Rattle.bisim_laws.specs.LinearProcesses.{Summand, Linear, variables, sorts, AreDeclared, AreBound, put_next, Does, Fires}
use Rattle.bisim_laws.proofs.Firing.{does_along}
use Rattle.lps_core.specs.Columns.{read}
use Rattle.lps_core.specs.Conditions.{parts, IsCondition}
use Rattle.lps_core.proofs.Members.{In, in_map, map_in, in_contains, contains_in}
use Rattle.lps_core.proofs.SortedTerms.{HaveTerms, bound_have_terms, read_bound, both_have_terms, columns_sorted, columns_long, declared_both}
use Rattle.lps_core.proofs.Chains.{conditions_append, parts_conditions, conjoined_condition, not_holds, holds_not, guard_holds, holds_guard, first_true}
use Rattle.lps_core.proofs.Environments.{Agrees, agrees_flip, agrees_append, read_same, read_agrees, front, front_agrees, behind_agrees, split_read, base_reads, bound_along, variables_append}
use Rattle.lps_core.proofs.Shapes.{NextFits, ends_there, goes_there, IsSortedSummand, summand_is, condition_more}
use Rattle.lps_core.proofs.OverVariables.{Within, all_over_more, label_over_more, over_append, within_both, within_front, within_back, distinct_append, variables_front, variables_back}
use Rattle.summand_expander.specs.Product.{flag_of, running_part}
use Rattle.summand_expander.specs.FirstSteps.{first_condition, first_after, one_column_more, started, started_summands}
use Rattle.summand_expander.proofs.OneSide.{FlagKnown, flag_condition, flag_conditions}

-- ---- the column
-- the same next arguments with a term more that is provably false, or none on both sides
pub data OneMoreFalse (th : Theory) : Option (List Term) → Option (List Term) → Type 0 where
  both_end : OneMoreFalse th None None
  both_go_on : {ts : List Term} {t : Term} → IsOfSort th boolean t → IsFalse th t → OneMoreFalse th (Some ts) (Some (ts ++ (t ∷ [])))

-- a firing without the column
pub record Without (th : Theory) (may : Bool) (t : Term) (l : Linear) (cs : List Term) (m : Label) (o : Option (List Term)) : Type 0 where
  pub next : Option (List Term)
  pub fires : Fires th l cs m next
  pub more : OneMoreFalse th next o
  pub begun : may ≡ false → IsFalse th t

-- a firing with it
pub record With (th : Theory) (l : Linear) (cs : List Term) (m : Label) (next : Option (List Term)) : Type 0 where
  pub onward : Option (List Term)
  pub fires : Fires th l cs m onward
  pub more : OneMoreFalse th next onward

first_list : {t u : Term} → t ∷ [] ≡ u ∷ [] → t ≡ u
first_list e = cc

module _ (g : Data) (vs : List Sort) (f : ℕ) (xs : List ℕ) (known : FlagKnown vs xs (Some f)) where
  pub condition_with : (may : Bool) (c : Term) → IsCondition g vs xs c → IsCondition g vs xs (first_condition f may c)
  condition_with true c h = h
  condition_with false c h = conjoined_condition g vs xs (running_part (Some f) ++ parts c) (conditions_append g vs xs (running_part (Some f)) (parts c) (flag_conditions g vs xs (Some f) known) (parts_conditions g vs xs c h))

  pub after_condition : (may : Bool) → IsCondition g vs xs (first_after f may)
  after_condition true = record { over = tt; sorted = (tt, tt, refl, refl) }
  after_condition false = flag_condition g vs xs f known

module _ (th : Theory) (vs : List Sort) (f : ℕ) (xs : List ℕ) (known : FlagKnown vs xs (Some f)) (e : Environment) (has : HaveTerms th.declared vs xs (term_in e)) where
  opened : (may : Bool) (c : Term) → IsCondition th.declared vs xs c → IsTrue th (put (term_in e) (first_condition f may c)) → (may ≡ false → IsFalse th (term_in e f)) × IsTrue th (put (term_in e) c)
  opened true c i h = (λ q. absurd (differ q), h)
    where
      differ : true ≡ false → ⊥
      differ e = cc
  opened false c i h =
      let r = holds_guard th vs xs e has (running_part (Some f)) c (flag_conditions th.declared vs xs (Some f) known) i h in
      (λ q. holds_not th vs xs e has (variable f) (flag_condition th.declared vs xs f known) (first_true th r.0), r.1)

  shut : (may : Bool) (c : Term) → IsCondition th.declared vs xs c → (may ≡ false → IsFalse th (term_in e f)) → IsTrue th (put (term_in e) c) → IsTrue th (put (term_in e) (first_condition f may c))
  shut true c i h k = k
  shut false c i h k =
      guard_holds th vs xs e has (running_part (Some f)) c (flag_conditions th.declared vs xs (Some f) known) i
      (true_and_more (not_holds th vs xs e has (variable f) (flag_condition th.declared vs xs f known) (h refl)) none_left) k

  after_false : (may : Bool) → (may ≡ false → IsFalse th (term_in e f)) → IsFalse th (put (term_in e) (first_after f may))
  after_false true h = reflexive
  after_false false h = h refl

  after_sorted : (may : Bool) → IsOfSort th boolean (term_in e f) → IsOfSort th boolean (put (term_in e) (first_after f may))
  after_sorted true h = (tt, tt, refl, refl)
  after_sorted false h = h

  put_more : (may : Bool) → (may ≡ false → IsFalse th (term_in e f)) → IsOfSort th boolean (term_in e f) → (n : Option (List Term)) → OneMoreFalse th (put_next e n) (put_next e (one_column_more (first_after f may) n))
  put_more may h k None = both_end
  put_more may h k (Some ts) =
      subst (λ us. OneMoreFalse th (Some (map (put (term_in e)) ts)) (Some us)) (sym (map-append (put (term_in e)) ts (first_after f may ∷ [])))
      (both_go_on (after_sorted may k) (after_false may h))

-- ---- a group of summands
module _ (g : Data) (vs : List Sort) (params : List Bound) (f : ℕ) (declared : AreDeclared vs (flag_of (Some f))) (new : Contains (variables params) f → ⊥) where
  abbrev columns : List Bound
  columns = params ++ flag_of (Some f)

  more_next : (xs ys : List ℕ) (may : Bool) → Within xs ys → FlagKnown vs ys (Some f) → {n : Option (List Term)} → NextFits g vs xs params n → NextFits g vs ys columns (one_column_more (first_after f may) n)
  more_next xs ys may w known ends_there = ends_there
  more_next xs ys may w known (goes_there {ts = ts} h k) =
      let c = after_condition g vs f ys known may in
      goes_there (over_append ys ts (first_after f may ∷ []) (all_over_more xs ys w (terms_of ts) h) (c.over, tt)) (columns_sorted g vs params (flag_of (Some f)) ts (first_after f may ∷ []) k (c.sorted, tt))

  own_scope : (d : Summand) → Within (variables d.sums ++ variables params) (variables d.sums ++ variables columns)
  own_scope d v i =
      within_both (variables d.sums) (variables params) (variables d.sums ++ variables columns) (within_front (variables d.sums) (variables columns))
      (λ w j. within_back (variables d.sums) (variables columns) w (variables_front params (flag_of (Some f)) w j)) v i

  pub first_known : (d : Summand) → FlagKnown vs (variables d.sums ++ variables columns) (Some f)
  first_known d = (declared, λ v i. within_back (variables d.sums) (variables columns) v (variables_back params (flag_of (Some f)) v i))

  pub condition_in : (d : Summand) → IsSortedSummand g vs params d → IsCondition g vs (variables d.sums ++ variables columns) d.condition
  condition_in d k = condition_more g vs (variables d.sums ++ variables params) (variables d.sums ++ variables columns) (own_scope d) d.condition k.condition

  pub apart_still : (xs : List ℕ) → Apart xs (variables params) → (Contains xs f → ⊥) → Apart xs (variables columns)
  apart_still xs h n v i j = ⊎_elim
      (λ k. h v i k)
      (λ k. ⊎_elim (λ q. n (subst (λ z. Contains xs z) (sym q) i)) (λ l. contains_nothing v l) (number_cases f v [] k))
      (Contains-append_cases (variables params) (f ∷ []) v (subst (λ z. Contains z v) (variables_append params (flag_of (Some f))) j))

  pub still_distinct : AreDistinct (variables params) → AreDistinct (variables columns)
  still_distinct h = subst (λ z. AreDistinct z) (sym (variables_append params (flag_of (Some f))))
      (distinct_append (variables params) (f ∷ []) h ((λ i. contains_nothing f i), tt)
      (λ v i j. ⊎_elim (λ q. new (subst (λ z. Contains (variables params) z) (sym q) i)) (λ l. contains_nothing v l) (number_cases f v [] j)))

  pub started_fits : (may : Bool) (d : Summand) → IsSortedSummand g vs params d → (Contains (variables d.sums) f → ⊥) → IsSortedSummand g vs columns (started f may d)
  started_fits may d k n = record {
    declared = k.declared;
    sorts_of_data = k.sorts_of_data;
    condition = condition_with g vs f (variables d.sums ++ variables columns) (first_known d) may d.condition (condition_in d k);
    label = label_over_more (variables d.sums ++ variables params) (variables d.sums ++ variables columns) (own_scope d) k.label;
    label_sorted = k.label_sorted;
    next = more_next (variables d.sums ++ variables params) (variables d.sums ++ variables columns) may (own_scope d) (first_known d) k.next;
    apart = apart_still (variables d.sums) k.apart n;
    distinct = k.distinct;
  }

module _ (th : Theory) (vs : List Sort) (params : List Bound) (f : ℕ) (declared : AreDeclared vs (flag_of (Some f))) (own_declared : AreDeclared vs params) (new : Contains (variables params) f → ⊥) (different : AreDistinct (variables params)) (ds : List Summand) (fits : (d : Summand) → In d ds → IsSortedSummand th.declared vs params d) (no_sum : (d : Summand) → In d ds → Contains (variables d.sums) f → ⊥) (cs : List Term) (t : Term) (sorted : AreOfSorts th (sorts params) cs) (flag_sorted : IsOfSort th boolean t) where
  abbrev all : List Bound
  all = params ++ flag_of (Some f)

  abbrev plain : Linear
  plain = record { params = params; summands = ds }

  abbrev group : Bool → Linear
  group may = record { params = all; summands = started_summands f may ds }

  all_sorted : AreOfSorts th (sorts all) (cs ++ (t ∷ []))
  all_sorted = columns_sorted th.declared [] params (flag_of (Some f)) cs (t ∷ []) sorted (flag_sorted, tt)

  cs_long : length cs ≡ length params
  cs_long = columns_long th.declared [] cs params sorted

  scoped : (d : Summand) → In d ds → (e : Environment) → read e all ≡ cs ++ (t ∷ []) → AreBound th d.sums e → HaveTerms th.declared vs (variables d.sums ++ variables all) (term_in e)
  scoped d i e q w =
      both_have_terms th.declared vs (variables d.sums) (variables all) (term_in e) (bound_have_terms th vs d.sums e (fits d i).declared w)
      (bound_have_terms th vs all e (declared_both vs params (flag_of (Some f)) own_declared declared) (read_bound th all e (subst (λ ts. AreOfSorts th (sorts all) ts) (sym q) all_sorted)))

  back_at : (may : Bool) (m : Label) (o : Option (List Term)) (d : Summand) → In d ds → (e : Environment) → read e all ≡ cs ++ (t ∷ []) → AreBound th d.sums e → Does th (started f may d) e m o → Without th may t plain cs m o
  back_at may m o d i e q w does =
      let xs = variables d.sums ++ variables all in
      let c = split_read e params (flag_of (Some f)) cs (t ∷ []) cs_long q in
      let same : term_in e f ≡ t = first_list c.1 in
      let has = scoped d i e q w in
      let known = first_known th.declared vs params f declared new d in
      let held = opened th vs f xs known e has may d.condition (condition_in th.declared vs params f declared new d (fits d i)) does.holds in
      let false_now : may ≡ false → IsFalse th (term_in e f) = held.0 in
      record {
        next = put_next e d.next;
        fires = record {
          summand = d;
          among = in_contains i;
          environment = e;
          reads = c.0;
          bound = w;
          does = record { holds = held.1; label = does.label; onward = refl };
        };
        more = subst (λ z. OneMoreFalse th (put_next e d.next) z) (sym does.onward) (put_more th vs f xs known e has may false_now (subst (λ z. IsOfSort th boolean z) (sym same) flag_sorted) d.next);
        begun = λ z. subst (λ u. IsFalse th u) same (false_now z);
      }

  pub group_back : (may : Bool) (m : Label) (o : Option (List Term)) → Fires th (group may) (cs ++ (t ∷ [])) m o → Without th may t plain cs m o
  group_back may m o k =
      let r = in_map (started f may) ds (contains_in (group may).summands k.among) in
      back_at may m o r.0 r.1 k.environment k.reads (subst (λ z. AreBound th z.sums k.environment) r.2 k.bound) (subst (λ z. Does th z k.environment m o) r.2 k.does)

  forth_at : (may : Bool) → (may ≡ false → IsFalse th t) → (m : Label) (o : Option (List Term)) (d : Summand) → In d ds → (e : Environment) → read e params ≡ cs → AreBound th d.sums e → Does th d e m o → With th (group may) (cs ++ (t ∷ [])) m o
  forth_at may begun m o d i e q w does =
      let xs = variables d.sums ++ variables all in
      let k = fits d i in
      let base : Environment = bound (variables all) (cs ++ (t ∷ [])) in
      let e' = front d.sums e base in
      let reads : read e' all ≡ cs ++ (t ∷ []) = read_same e' base all (agrees_flip (behind_agrees d.sums e base (variables all) (apart_still th.declared vs params f declared new (variables d.sums) k.apart (no_sum d i))))
      ∙ base_reads all (cs ++ (t ∷ [])) (columns_long th.declared [] (cs ++ (t ∷ [])) all all_sorted) (still_distinct th.declared vs params f declared new different) in
      let c = split_read e' params (flag_of (Some f)) cs (t ∷ []) cs_long reads in
      let same : term_in e' f ≡ t = first_list c.1 in
      let sums : Agrees (variables d.sums) e e' = front_agrees d.sums e base k.distinct in
      let bounds = bound_along th d.sums e e' sums w in
      let g = does_along th params d e e' m o (summand_is k) (agrees_append sums (read_agrees e e' params (q ∙ sym c.0))).same does in
      let has = scoped d i e' reads bounds in
      let known = first_known th.declared vs params f declared new d in
      let false_now : may ≡ false → IsFalse th (term_in e' f) = λ z. subst (λ u. IsFalse th u) (sym same) (begun z) in
      record {
        onward = put_next e' (one_column_more (first_after f may) d.next);
        fires = record {
          summand = started f may d;
          among = in_contains (map_in (started f may) i);
          environment = e';
          reads = reads;
          bound = bounds;
          does = record {
            holds = shut th vs f xs known e' has may d.condition (condition_in th.declared vs params f declared new d k) false_now g.holds;
            label = g.label;
            onward = refl;
          };
        };
        more = subst (λ z. OneMoreFalse th z (put_next e' (one_column_more (first_after f may) d.next))) (sym g.onward) (put_more th vs f xs known e' has may false_now (subst (λ z. IsOfSort th boolean z) (sym same) flag_sorted) d.next);
      }

  pub group_forth : (may : Bool) → (may ≡ false → IsFalse th t) → (m : Label) (o : Option (List Term)) → Fires th plain cs m o → With th (group may) (cs ++ (t ∷ [])) m o
  group_forth may begun m o k =
      forth_at may begun m o k.summand (contains_in ds k.among) k.environment k.reads k.bound k.does
