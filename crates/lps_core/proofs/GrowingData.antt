-- Data that go on, and what is sorted over them.
use Rattle.std.proofs.Common.{◌≡◌, List, [], ◌∷◌, ◌++◌, length, Option, ap, ◌∙◌, arith}
use Rattle.std.proofs.lemmas.List.{append_assoc, length-append}
use Rattle.data_theory.specs.Terms.{Sort, boolean, positive, natural, integer, list, named, Term, Terms, none, more}
use Rattle.data_theory.specs.Declarations.{Data, IsSort, HaveSorts}
use Rattle.data_theory.specs.Environments.{terms_of}
use Rattle.data_theory.specs.EqualityLaws.{Grows}
use Rattle.data_theory.proofs.GrowthLemmas.{growth_keeps_sorts}
use Rattle.data_theory.proofs.IdDataLemmas.{growth_keeps_meant_data}
use Rattle.process_terms.specs.Labels.{Label}
use Rattle.process_terms.specs.Processes.{Bound}
use Rattle.bisim_laws.specs.LinearProcesses.{Linear, LabelIsSorted, no_action_to_sort, action_sorted, NextIsSorted, no_next_to_sort, next_sorted, HaveDataSorts, IsWellSorted}
use Rattle.bisim_laws.specs.Scopes.{everything}
use Rattle.bisim_laws.proofs.ComposedWithin.{good_within, within_all_good}
use Rattle.lps_core.specs.GoingOn.{GoingOnGoesBack, GoodLinksStayGood, GoodLinksWithinStayGood, GoodLinksAreGoodWithin, GoodForAllIsGood}

grows_twice : {A : Type 0} (xs ys zs news last : List A) → ys ≡ xs ++ news → zs ≡ ys ++ last → zs ≡ xs ++ (news ++ last)
grows_twice xs ys zs news last e f = f ∙ ap (λ l. l ++ last) e ∙ append_assoc xs news last

pub data_grow_twice : (g h k : Data) → Grows g h → Grows h k → Grows g k
data_grow_twice g h k a b = record {
  new_sorts = a.new_sorts ++ b.new_sorts;
  new_functions = a.new_functions ++ b.new_functions;
  sorts = grows_twice g.sorts h.sorts k.sorts a.new_sorts b.new_sorts a.sorts b.sorts;
  functions = grows_twice g.functions h.functions k.functions a.new_functions b.new_functions a.functions b.functions;
}

pub goes_back : GoingOnGoesBack
goes_back g h table roles new_roles grown th w = record { grows = data_grow_twice _ _ th.declared (growth_keeps_meant_data g h table roles new_roles grown) w.grows; is_data = w.is_data; inhabited = w.inhabited }

pub good_stay_good : GoodLinksStayGood
good_stay_good g h table roles new_roles grown k p q good th w con = good th (goes_back g h table roles new_roles grown th w) con

pub within_stay_good : GoodLinksWithinStayGood
within_stay_good g h table roles new_roles grown w k p q good th over con = good th (goes_back g h table roles new_roles grown th over) con

pub good_over_within : GoodLinksAreGoodWithin
good_over_within g w k p q good th over con = good_within th w k p q (good th over con)

pub good_for_all : GoodForAllIsGood
good_for_all g k p q good th over con = within_all_good th everything (λ ns. tt) k p q (good th over con)

-- ---- sorted over data that grow
pub sort_grown : (g h : Data) → Grows g h → (s : Sort) → IsSort g s → IsSort h s
sort_grown g h w boolean k = tt
sort_grown g h w positive k = tt
sort_grown g h w natural k = tt
sort_grown g h w integer k = tt
sort_grown g h w (list s) k = sort_grown g h w s k
sort_grown g h w (named d) k = let e = ap length w.sorts ∙ length-append g.sorts w.new_sorts in omega (arith, e, k)

pub data_sorts_grown : (g h : Data) → Grows g h → (xs : List Bound) → HaveDataSorts g xs → HaveDataSorts h xs
data_sorts_grown g h w xs k x i = sort_grown g h w x.sort (k x i)

pub terms_grown : (g h : Data) → Grows g h → (vs : List Sort) (ts : Terms) (ss : List Sort) → HaveSorts g vs ts ss → HaveSorts h vs ts ss
terms_grown g h w vs none [] k = tt
terms_grown g h w vs none (s ∷ ss) k = absurd k
terms_grown g h w vs (more t ts) [] k = absurd k
terms_grown g h w vs (more t ts) (s ∷ ss) k = (growth_keeps_sorts g h w vs t s k.0, terms_grown g h w vs ts ss k.1)

pub label_grown : (g h : Data) → Grows g h → (vs : List Sort) (m : Label) → LabelIsSorted g vs m → LabelIsSorted h vs m
label_grown g h w vs _ no_action_to_sort = no_action_to_sort
label_grown g h w vs _ (action_sorted {a = a} {m = m} k n) = action_sorted (terms_grown g h w vs (terms_of a.args) a.sorts k) (label_grown g h w vs m n)

pub next_grown : (g h : Data) → Grows g h → (vs ss : List Sort) (next : Option (List Term)) → NextIsSorted g vs ss next → NextIsSorted h vs ss next
next_grown g h w vs ss _ no_next_to_sort = no_next_to_sort
next_grown g h w vs ss _ (next_sorted {ts = ts} k) = next_sorted (terms_grown g h w vs (terms_of ts) ss k)

pub linear_grown : (g h : Data) → Grows g h → (vs : List Sort) (l : Linear) → IsWellSorted g vs l → IsWellSorted h vs l
linear_grown g h w vs l k = record {
  params = k.params;
  param_sorts = data_sorts_grown g h w l.params k.param_sorts;
  summands = λ s i.
      let f = k.summands s i in
      record {
        sums = f.sums;
        sum_sorts = data_sorts_grown g h w s.sums f.sum_sorts;
        condition = growth_keeps_sorts g h w vs s.condition boolean f.condition;
        label = label_grown g h w vs s.label f.label;
        next = next_grown g h w vs _ s.next f.next;
      };
}
