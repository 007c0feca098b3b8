-- A summand with its shape and its sorts in one record.
use Rattle.std.proofs.Common.{ℕ, List, ◌++◌, Option, Some, None}
use Rattle.data_theory.specs.Terms.{Sort, Term}
use Rattle.data_theory.specs.Declarations.{Data, HaveSorts}
use Rattle.data_theory.specs.Environments.{terms_of, AreOver, Apart, AreDistinct}
use Rattle.process_terms.specs.Processes.{Bound}
use Rattle.bisim_laws.specs.LinearProcesses.{variables, sorts, LabelIsOver, LabelIsSorted, AreDeclared, HaveDataSorts, Summand, Linear, NextIsOver, no_next, next_over, NextIsSorted, no_next_to_sort, next_sorted, IsSummand, SummandIsSorted, IsLinear, IsWellSorted}
use Rattle.lps_core.specs.Conditions.{IsCondition, AreConditions, no_conditions, more_conditions}
use Rattle.lps_core.proofs.Members.{In, in_contains}
use Rattle.lps_core.proofs.OverVariables.{Within, over_more}
use Rattle.lps_core.proofs.SortedTerms.{columns_long}

-- a summand of a process with these parameters: its shape and its sorts
pub data NextFits (g : Data) (vs : List Sort) (xs : List ℕ) (params : List Bound) : Option (List Term) → Type 0 where
  ends_there : NextFits g vs xs params None
  goes_there : {ts : List Term} → AreOver xs (terms_of ts) → HaveSorts g vs (terms_of ts) (sorts params) → NextFits g vs xs params (Some ts)

pub record IsSortedSummand (g : Data) (vs : List Sort) (params : List Bound) (s : Summand) : Type 0 where
  pub declared : AreDeclared vs s.sums
  pub sorts_of_data : HaveDataSorts g s.sums
  pub condition : IsCondition g vs (variables s.sums ++ variables params) s.condition
  pub label : LabelIsOver (variables s.sums ++ variables params) s.label
  pub label_sorted : LabelIsSorted g vs s.label
  pub next : NextFits g vs (variables s.sums ++ variables params) params s.next
  pub apart : Apart (variables s.sums) (variables params)
  pub distinct : AreDistinct (variables s.sums)

next_over_of : {g : Data} {vs : List Sort} {xs : List ℕ} {params : List Bound} {n : Option (List Term)} → NextFits g vs xs params n → NextIsOver xs params n
next_over_of ends_there = no_next
next_over_of {g} {vs} {xs} {params} (goes_there {ts = ts} h k) = next_over h (columns_long g vs ts params k)

next_sorted_of : {g : Data} {vs : List Sort} {xs : List ℕ} {params : List Bound} {n : Option (List Term)} → NextFits g vs xs params n → NextIsSorted g vs (sorts params) n
next_sorted_of ends_there = no_next_to_sort
next_sorted_of (goes_there h k) = next_sorted k

next_fits_of : {g : Data} {vs : List Sort} {xs : List ℕ} {params : List Bound} {n : Option (List Term)} → NextIsOver xs params n → NextIsSorted g vs (sorts params) n → NextFits g vs xs params n
next_fits_of no_next k = ends_there
next_fits_of (next_over h l) (next_sorted k) = goes_there h k

pub summand_is : {g : Data} {vs : List Sort} {params : List Bound} {s : Summand} → IsSortedSummand g vs params s → IsSummand params s
summand_is f = record { condition = f.condition.over; label = f.label; next = next_over_of f.next; apart = f.apart; distinct = f.distinct }

pub summand_sorted : {g : Data} {vs : List Sort} {params : List Bound} {s : Summand} → IsSortedSummand g vs params s → SummandIsSorted g vs params s
summand_sorted f = record { sums = f.declared; sum_sorts = f.sorts_of_data; condition = f.condition.sorted; label = f.label_sorted; next = next_sorted_of f.next }

pub fits_of : {g : Data} {vs : List Sort} {params : List Bound} {s : Summand} → IsSummand params s → SummandIsSorted g vs params s → IsSortedSummand g vs params s
fits_of i k = record {
  declared = k.sums;
  sorts_of_data = k.sum_sorts;
  condition = record { over = i.condition; sorted = k.condition };
  label = i.label;
  label_sorted = k.label;
  next = next_fits_of i.next k.next;
  apart = i.apart;
  distinct = i.distinct;
}

pub summand_fits : (g : Data) (vs : List Sort) (l : Linear) → IsLinear l → IsWellSorted g vs l → (s : Summand) → In s l.summands → IsSortedSummand g vs l.params s
summand_fits g vs l i k s j = fits_of (i.summands s (in_contains j)) (k.summands s (in_contains j))

pub condition_more : (g : Data) (vs : List Sort) (xs ys : List ℕ) → Within xs ys → (t : Term) → IsCondition g vs xs t → IsCondition g vs ys t
condition_more g vs xs ys f t c = record { over = over_more xs ys f t c.over; sorted = c.sorted }

pub conditions_more : (g : Data) (vs : List Sort) (xs ys : List ℕ) → Within xs ys → {ts : List Term} → AreConditions g vs xs ts → AreConditions g vs ys ts
conditions_more g vs xs ys f no_conditions = no_conditions
conditions_more g vs xs ys f (more_conditions {c = t} c k) = more_conditions (condition_more g vs xs ys f t c) (conditions_more g vs xs ys f k)
