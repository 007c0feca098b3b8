-- One label: what is taken is a firing, and no firing by constructor values is missed.
use Rattle.std.specs.Prelude.{◌⊎◌, false, List, [], ◌∷◌, Option, Some, IsTrue}
use Rattle.std.proofs.Common.{refl, sym, subst, inl, inr, ⊎_elim}
use Rattle.std.specs.List.{AllByRecursion, Contains}
use Rattle.std.proofs.lemmas.List.Elements.{Contains-append_cases}
use Rattle.data_theory.specs.Terms.{Sort, Term, put}
use Rattle.data_theory.specs.Declarations.{IsData}
use Rattle.data_theory.specs.Environments.{Environment, term_in, Agree}
use Rattle.data_theory.specs.Provable.{Equation, reflexive}
use Rattle.data_theory.specs.Rewriting.{IsWellFormed, yes_decided}
use Rattle.process_terms.specs.Labels as labels
use Rattle.process_terms.specs.Labels.{Label, put_label, AgreeInOrder}
use Rattle.process_terms.specs.Processes.{Bound}
use Rattle.process_terms.specs.Theories.{Theory, Equal, Equals, IsConsistent, AreOfSorts}
use Rattle.process_terms.proofs.AgreeingLabels.{equals_sym, equals_trans, agree_trans, agree_sym}
use Rattle.bisim_laws.specs.LinearProcesses.{Summand, Linear, variables, sorts, reading, put_next, IsLinear, IsWellSorted, NextEquals, both_without, both_with, Fires}
use Rattle.bisim_laws.specs.LinkLaws.{ServesUpToEquality}
use Rattle.bisim_laws.proofs.AlikeFiring.{equal_at, fire_alike}
use Rattle.bisim_laws.proofs.EqualFiring.{does_equal}
use Rattle.bisim_laws.proofs.Firing.{contains_first, contains_later, reading_agrees}
use Rattle.trace_replay.specs.Settings.{Setting, data_in, theory_in}
use Rattle.trace_replay.specs.Listings.{IsConstructorValue, IsListed, IsWhole, AreListed, no_values, one_value}
use Rattle.trace_replay.specs.Decidings.{Decides, ComeOut, hold, fail, all_hold, one_fails}
use Rattle.trace_replay.specs.Pairings.{Pairing, IsClosedAction, IsClosedLabel}
use Rattle.lps_simulator.specs.Options.{environment_at}
use Rattle.trace_replay.specs.Replays.{State, Way, conditions, next_under, Takes, IsTried, it_fails, it_is_open, it_is_taken, LeadTo}
use Rattle.trace_replay.specs.Runs.{FiresByValues}
use Rattle.trace_replay.proofs.DecidedTerms.{HaveStateSorts, one_of_all, yes_is_true, true_is_not_no, next_rewritten_equal, next_rewritten_sorted}
use Rattle.trace_replay.proofs.PairedLabels.{permuted_all, alike_put, put_alike, agreeing_are_alike, Holds, decided_agree, agreeing_hold}
use Rattle.trace_replay.proofs.WayEnvironments.{ListedHaveSorts, listed_sorted, reads_state, reads_values, sums_bound, condition_sorted, label_closed, next_have_sorts}

next_trans : {th : Theory} {o p q : Option (List Term)} → NextEquals th o p → NextEquals th p q → NextEquals th o q
next_trans both_without both_without = both_without
next_trans (both_with h) (both_with k) = both_with (equals_trans h k)

next_flip : {th : Theory} {o p : Option (List Term)} → NextEquals th o p → NextEquals th p o
next_flip both_without = both_without
next_flip (both_with h) = both_with (equals_sym h)

agree_before : {th : Theory} {k m n : Label} → AgreeInOrder th k m → labels.Agree th m n → labels.Agree th k n
agree_before h r = record { reordered = r.reordered; in_order = agree_trans h r.in_order; same = r.same }

-- a firing whose label agrees and whose next arguments are provably equal
pub record FiresFor (s : Setting) (l : Linear) (ts : List Term) (m : Label) (next : State) : Type 0 where
  pub label : Label
  pub onward : State
  pub fires : Fires (theory_in s) l ts label onward
  pub agree : labels.Agree (theory_in s) label m
  pub equal : NextEquals (theory_in s) onward next

-- ---- values that are whole are all listed
listed_where_whole : (s : Setting) (xs : List Bound) (d : Environment) → ((x : Bound) (t : Term) → IsWhole s x → IsConstructorValue s.signature x t → IsListed s x t) → AllByRecursion (IsWhole s) xs
    → ((x : Bound) → Contains xs x → IsConstructorValue s.signature x (term_in d x.var)) → AreListed s xs (reading d (variables xs))
listed_where_whole s [] d serve whole values = no_values
listed_where_whole s (x ∷ xs) d serve whole values =
    one_value (serve x (term_in d x.var) whole.0 (values x (contains_first x xs))) (listed_where_whole s xs d serve whole.1 (λ y i. values y (contains_later x y xs i)))

-- what holds isn't decided No
none_fails : (s : Setting) (ok : IsData (data_in s)) → ((q : Equation) → Contains s.equations q → IsWellFormed (data_in s) q) → IsConsistent (theory_in s) → (cs : List Term) → AllByRecursion (Holds s) cs → ComeOut s cs fail → ⊥
none_fails s ok formed consistent cs all (one_fails {c = c} i d) = let h = one_of_all (Holds s) cs all c i in true_is_not_no s ok formed consistent c h.sorted h.holds d

module _ (s : Setting) (ok : IsData (data_in s)) (formed : (q : Equation) → Contains s.equations q → IsWellFormed (data_in s) q) (vs : List Sort) (l : Linear) (linear : IsLinear l)
    (sorted : IsWellSorted (data_in s) vs l) (have : (a : Summand) → Contains l.summands a → ListedHaveSorts s a.sums) where
  -- ---- what is taken is a firing
  yes_all : {cs : List Term} → ComeOut s cs hold → AllByRecursion (Decides s yes_decided) cs
  yes_all (all_hold all) = all

  pub taken_fires : (m : Label) (ts : List Term) (next : State) → IsClosedLabel (data_in s) m → AreOfSorts (theory_in s) (sorts l.params) ts → Takes s l m ts next → FiresFor s l ts m next
  taken_fires m ts next closed of_params t =
      let w = t.way in
      let a = w.summand in
      let e : Environment = environment_at l a ts w.values in
      let of_sums : AreOfSorts (theory_in s) (sorts a.sums) w.values = listed_sorted (have a w.among) w.listed in
      let yes : AllByRecursion (Decides s yes_decided) (conditions l a w.pairing.paired w.values ts) = yes_all t.holds in
      let here : IsClosedLabel (data_in s) (put_label e a.label) = label_closed s vs l linear sorted a w.among w.values ts of_sums of_params in
      let there : IsClosedLabel (data_in s) w.pairing.paired = permuted_all (IsClosedAction (data_in s)) w.pairing.same closed in
      record {
        label = put_label e a.label;
        onward = put_next e a.next;
        fires = record {
          summand = a;
          among = w.among;
          environment = e;
          reads = reads_state s vs l linear sorted a w.among w.values ts of_sums of_params;
          bound = sums_bound s vs l linear sorted a w.among w.values ts of_sums of_params;
          does = record {
            holds = yes_is_true s ok formed (put (term_in e) a.condition) (condition_sorted s vs l linear sorted a w.among w.values ts of_sums of_params) yes.0;
            label = refl;
            onward = refl;
          };
        };
        agree = record {
          reordered = w.pairing.paired;
          in_order = decided_agree s ok formed (put_label e a.label) w.pairing.paired here there (alike_put e a.label w.pairing.paired w.pairing.alike) yes.1;
          same = w.pairing.same;
        };
        equal = next_rewritten_equal s ok formed (sorts l.params) (next_have_sorts s vs l linear sorted a w.among w.values ts of_sums of_params) t.becomes;
      }

  pub taken_sorted : (m : Label) (ts : List Term) (next : State) → AreOfSorts (theory_in s) (sorts l.params) ts → Takes s l m ts next → HaveStateSorts (data_in s) (sorts l.params) next
  taken_sorted m ts next of_params t =
      let w = t.way in
      let of_sums : AreOfSorts (theory_in s) (sorts w.summand.sums) w.values = listed_sorted (have w.summand w.among) w.listed in
      next_rewritten_sorted s ok formed (sorts l.params) (next_have_sorts s vs l linear sorted w.summand w.among w.values ts of_sums of_params) t.becomes

  -- from provably equal arguments as well
  pub taken_fires_from : (m : Label) (us ts : List Term) (next : State) → IsClosedLabel (data_in s) m → AreOfSorts (theory_in s) (sorts l.params) ts → Equals (theory_in s) ts us → Takes s l m ts next → FiresFor s l us m next
  taken_fires_from m us ts next closed of_params equal t =
      let f = taken_fires m ts next closed of_params t in
      let k = fire_alike (theory_in s) l ts us f.label f.onward linear equal f.fires in
      record {
        label = k.label;
        onward = k.onward;
        fires = k.fires;
        agree = agree_before (agree_sym k.agree) f.agree;
        equal = next_trans (next_flip k.equal) f.equal;
      }

  -- ---- no firing by constructor values is missed
  -- the state to which a firing by constructor values leads is among those, up to provable equality
  pub record IsKept (to : List State) (onward : State) : Type 0 where
    pub next : State
    pub among : Contains to next
    pub equal : NextEquals (theory_in s) onward next

  module _ (consistent : IsConsistent (theory_in s)) (serve : (x : Bound) (t : Term) → IsWhole s x → IsConstructorValue s.signature x t → IsListed s x t) where
    kept_way : {m : Label} {to : List State} {ts : List Term} {onward : State} (w : Way s l m) → AllByRecursion (Holds s) (conditions l w.summand w.pairing.paired w.values ts)
        → HaveStateSorts (data_in s) (sorts l.params) (next_under l w.summand w.values ts) → NextEquals (theory_in s) onward (next_under l w.summand w.values ts) → IsTried s l m to false ts w → IsKept to onward
    kept_way {m} {to} {ts} {onward} w holds state equal (it_fails f) = absurd (none_fails s ok formed consistent (conditions l w.summand w.pairing.paired w.values ts) holds f)
    kept_way {m} {to} {ts} {onward} w holds state equal (it_is_open f doubt) = absurd (cc doubt)
    kept_way {m} {to} {ts} {onward} w holds state equal (it_is_taken {next = next} f b i) = record { next = next; among = i; equal = next_trans equal (next_rewritten_equal s ok formed (sorts l.params) state b) }

    whole_sums : (xs : List Bound) → AllByRecursion (IsWhole s) xs ⊎ IsTrue false → AllByRecursion (IsWhole s) xs
    whole_sums xs (inl all) = all
    whole_sums xs (inr doubt) = absurd (cc doubt)

    pub firing_kept : (m n : Label) (from to : List State) (ts us : List Term) (onward : State) → LeadTo s l m from to false → Contains from (Some ts) → IsClosedLabel (data_in s) m
        → AreOfSorts (theory_in s) (sorts l.params) ts → Equals (theory_in s) us ts → FiresByValues s l us n onward → labels.Agree (theory_in s) n m → IsKept to onward
    firing_kept m n from to ts us onward lead i closed of_params equal f agree =
        let th = theory_in s in
        let a = f.summand in
        let d = f.environment in
        let values : List Term = reading d (variables a.sums) in
        let e : Environment = environment_at l a ts values in
        let r : Label = agree.reordered in
        let ordered : AgreeInOrder th (put_label d a.label) r = subst (λ (k : Label). AgreeInOrder th k r) f.does.label agree.in_order in
        let pairing : Pairing a.label m = record { paired = r; alike = put_alike d a.label r (agreeing_are_alike ordered); same = agree.same } in
        let listed : AreListed s a.sums values = listed_where_whole s a.sums d serve (whole_sums a.sums (lead.whole ts i a f.among pairing)) f.values in
        let of_sums : AreOfSorts th (sorts a.sums) values = listed_sorted (have a f.among) listed in
        let same_sums : Agree (variables a.sums) (term_in e) (term_in d) = reading_agrees (variables a.sums) e d (reads_values s vs l linear sorted a f.among values ts of_sums of_params) in
        let equal_params : Equals th (reading d (variables l.params)) (reading e (variables l.params)) =
        subst (λ (ts' : List Term). Equals th ts' (reading e (variables l.params))) (sym f.reads) (subst (λ (ts' : List Term). Equals th us ts') (sym (reads_state s vs l linear sorted a f.among values ts of_sums of_params)) equal) in
        let serves : ServesUpToEquality th a e n onward =
        does_equal th l.params a d e n onward (linear.summands a f.among)
        (λ v j. ⊎_elim (λ k. subst (λ (t : Term). Equal th (term_in d v) t) (sym (same_sums v k)) reflexive) (λ k. equal_at th (variables l.params) d e equal_params v k) (Contains-append_cases (variables a.sums) (variables l.params) v j))
        f.does in
        let closed_here : IsClosedLabel (data_in s) (put_label e a.label) = label_closed s vs l linear sorted a f.among values ts of_sums of_params in
        let closed_there : IsClosedLabel (data_in s) r = permuted_all (IsClosedAction (data_in s)) agree.same closed in
        let w : Way s l m = record { summand = a; among = f.among; pairing = pairing; values = values; listed = listed } in
        kept_way w
        (record { sorted = condition_sorted s vs l linear sorted a f.among values ts of_sums of_params; holds = serves.does.holds }, agreeing_hold s ok formed closed_here closed_there (agree_trans (agree_sym serves.agree) agree.in_order))
        (next_have_sorts s vs l linear sorted a f.among values ts of_sums of_params)
        serves.onward
        (lead.tried ts i w)
