-- With constants in the place of empty lists a linear process is equal to itself.
use Rattle.std.proofs.Common.{List, refl, sym, subst, Option}
use Rattle.data_theory.specs.Terms.{Sort, Term}
use Rattle.data_theory.specs.Provable.{symmetric}
use Rattle.process_terms.specs.Theories.{Theory}
use Rattle.process_terms.proofs.AgreeingLabels.{equals_sym, agree_sym}
use Rattle.bisim_laws.specs.LinearProcesses.{Linear, sorts, NextEquals, both_without, both_with, IsWellSorted}
use Rattle.lps_core.proofs.Members.{map_contains, contains_map}
use Rattle.lps_printer.specs.FilledLinears.{Constants, filled_summand, filled_linear, HasEquations}
use Rattle.lps_printer.specs.WrittenProcesses.{TextNames}
use Rattle.lps_printer.proofs.FilledLinears.{filled_linears_are_equal}
use Rattle.lin_driver.specs.EqualLinears.{HasEqualSummand, AreEqualLinears}
use Rattle.lin_driver.specs.FilledLinears.{FilledLinearsServe}

next_sym : {th : Theory} {o q : Option (List Term)} → NextEquals th o q → NextEquals th q o
next_sym both_without = both_without
next_sym (both_with h) = both_with (equals_sym h)

filled_is_equal : (th : Theory) (c : Constants) (n : TextNames) (vs : List Sort) (l : Linear) → HasEquations th c → IsWellSorted th.declared vs l → AreEqualLinears th l (filled_linear c n l)
filled_is_equal th c n vs l h sorted =
    let equal = filled_linears_are_equal th c n vs h in
    record {
      params = refl;
      forth = λ s i.
          let k = equal.summands l.params s (sorted.summands s i) in
          record {
            summand = filled_summand c n s;
            among = map_contains (filled_summand c n) l.summands s i;
            sums = refl;
            condition = λ e. (k e).condition;
            label = λ e. (k e).label;
            next = λ e. (k e).next;
          };
      back = λ t i.
          let r = contains_map (filled_summand c n) l.summands t i in
          let k = equal.summands l.params r.0 (sorted.summands r.0 r.1.0) in
          subst (HasEqualSummand th l) (sym r.1.1) (record {
            summand = r.0;
            among = r.1.0;
            sums = refl;
            condition = λ e. symmetric (k e).condition;
            label = λ e. agree_sym (k e).label;
            next = λ e. next_sym (k e).next;
          });
    }

pub filled_linears_serve : FilledLinearsServe
filled_linears_serve th c n vs l ts h sorted from to = record { equal = filled_is_equal th c n vs l h sorted; starts = (filled_linears_are_equal th c n vs h).initial ts (sorts l.params) from to }
