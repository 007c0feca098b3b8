-- A linear process with other variables is a linear process, and well sorted.
use Rattle.std.proofs.Common.{◌≡◌, ℕ, ⊎_elim, List, [], ◌∷◌, ◌++◌, refl, sym, ap, ◌∙◌, subst, Option}
use Rattle.std.specs.Prelude.{Contains}
use Rattle.std.proofs.lemmas.List.Elements.{Contains-append_cases, Contains-append_left, Contains-append_right}
use Rattle.data_theory.specs.Terms.{Sort, boolean, Term, variable, put}
use Rattle.data_theory.specs.Declarations.{Data, IsSort, Declares, HasSort, HaveSorts}
use Rattle.data_theory.specs.Environments.{terms_of, AreDistinct}
use Rattle.data_theory.proofs.EnvironmentLemmas.{contains_nothing, contains_cases as number_cases, contains_first as number_first, contains_later as number_later, putting_in_keeps_sorts}
use Rattle.process_terms.specs.Labels.{Label}
use Rattle.process_terms.specs.Processes.{Bound}
use Rattle.bisim_laws.specs.LinearProcesses.{Summand, Linear, variables, sorts, LabelIsOver, no_action_left, action_over, LabelIsSorted, no_action_to_sort, action_sorted, IsLinear, IsWellSorted, AreDeclared, HaveDataSorts}
use Rattle.bisim_laws.proofs.Firing.{contains_first, contains_later, contains_cases, contains_none}
use Rattle.lps_core.proofs.Members.{In, in_map, in_contains, contains_in}
use Rattle.lps_core.proofs.OverVariables.{put_over, puts_over}
use Rattle.lps_core.proofs.SortedTerms.{puts_sorted}
use Rattle.lps_core.proofs.Shapes.{NextFits, ends_there, goes_there, IsSortedSummand, summand_is, summand_sorted, summand_fits}
use Rattle.summand_expander.specs.Renewing.{renewed_bounds, renewed_terms, renewed_label, renewed_next, renewed_summand, renewed, Renews}

module _ (r : ℕ → ℕ) where
  abbrev Image : List ℕ → List ℕ → Type 0
  Image xs ys = (v : ℕ) → Contains xs v → Contains ys (r v)

  label_over : (xs ys : List ℕ) → Image xs ys → {m : Label} → LabelIsOver xs m → LabelIsOver ys (renewed_label r m)
  label_over xs ys i no_action_left = no_action_left
  label_over xs ys i (action_over {a = a} h k) = action_over (puts_over xs ys (λ v. variable (r v)) i a.args h) (label_over xs ys i k)

  image : (xs : List Bound) → Image (variables xs) (variables (renewed_bounds r xs))
  image [] v h = absurd (contains_nothing v h)
  image (x ∷ xs) v h = ⊎_elim (λ q. subst (λ z. Contains (r x.var ∷ variables (renewed_bounds r xs)) (r z)) q (number_first (r x.var) (variables (renewed_bounds r xs)))) (λ j. number_later (r x.var) (r v) (variables (renewed_bounds r xs)) (image xs v j)) (number_cases x.var v (variables xs) h)

  from : (xs : List Bound) (v : ℕ) → Contains (variables (renewed_bounds r xs)) v → (x : ℕ) × (Contains (variables xs) x × (r x ≡ v))
  from [] v h = absurd (contains_nothing v h)
  from (x ∷ xs) v h = ⊎_elim (λ q. (x.var, (number_first x.var (variables xs), q))) (λ j. let k = from xs v j in (k.0, (number_later x.var k.0 (variables xs) k.1.0, k.1.1))) (number_cases (r x.var) v (variables (renewed_bounds r xs)) h)

  still_distinct : (xs : List Bound) → AreDistinct (variables xs) → ((x y : ℕ) → Contains (variables xs) x → Contains (variables xs) y → r x ≡ r y → x ≡ y) → AreDistinct (variables (renewed_bounds r xs))
  still_distinct [] h k = tt
  still_distinct (x ∷ xs) h k = (
    λ i. let f = from xs (r x.var) i in
        h.0 (subst (λ z. Contains (variables xs) z) (k f.0 x.var (number_later x.var f.0 (variables xs) f.1.0) (number_first x.var (variables xs)) f.1.1) f.1.0),
    still_distinct xs h.1 (λ y z i j q. k y z (number_later x.var y (variables xs) i) (number_later x.var z (variables xs) j) q),
  )

  both_image : (xs ys : List Bound) → Image (variables xs ++ variables ys) (variables (renewed_bounds r xs) ++ variables (renewed_bounds r ys))
  both_image xs ys v h = ⊎_elim
      (λ j. Contains-append_left (variables (renewed_bounds r xs)) (variables (renewed_bounds r ys)) (r v) (image xs v j))
      (λ j. Contains-append_right (variables (renewed_bounds r xs)) (variables (renewed_bounds r ys)) (r v) (image ys v j))
      (Contains-append_cases (variables xs) (variables ys) v h)

  module _ (g : Data) (vs : List Sort) (keeps : (v : ℕ) (s : Sort) → Declares vs v s → Declares vs (r v) s) where
    term_sorted : (t : Term) (s : Sort) → HasSort g vs t s → HasSort g vs (put (λ v. variable (r v)) t) s
    term_sorted t s h = putting_in_keeps_sorts g vs vs (λ v. variable (r v)) keeps t s h

    label_sorted : {m : Label} → LabelIsSorted g vs m → LabelIsSorted g vs (renewed_label r m)
    label_sorted no_action_to_sort = no_action_to_sort
    label_sorted (action_sorted {a = a} h k) = action_sorted (puts_sorted g vs vs (λ v. variable (r v)) keeps a.args a.sorts h) (label_sorted k)

    same_sorts : (xs : List Bound) → sorts xs ≡ sorts (renewed_bounds r xs)
    same_sorts [] = refl
    same_sorts (x ∷ xs) = ap (λ ss. x.sort ∷ ss) (same_sorts xs)

    next_fits : (xs ys : List ℕ) (params : List Bound) → Image xs ys → {n : Option (List Term)} → NextFits g vs xs params n → NextFits g vs ys (renewed_bounds r params) (renewed_next r n)
    next_fits xs ys params i ends_there = ends_there
    next_fits xs ys params i (goes_there {ts = ts} h k) = goes_there (puts_over xs ys (λ v. variable (r v)) i ts h) (subst (λ ss. HaveSorts g vs (terms_of (renewed_terms r ts)) ss) (same_sorts params) (puts_sorted g vs vs (λ v. variable (r v)) keeps ts (sorts params) k))

    declared : (xs : List Bound) → AreDeclared vs xs → AreDeclared vs (renewed_bounds r xs)
    declared [] h x i = absurd (contains_none x i)
    declared (y ∷ xs) h x i = ⊎_elim (λ q. subst (λ (z : Bound). Declares vs z.var z.sort) q (keeps y.var y.sort (h y (contains_first y xs)))) (λ j. declared xs (λ z k. h z (contains_later y z xs k)) x j) (contains_cases (record { var = r y.var; sort = y.sort }) x (renewed_bounds r xs) i)

    of_data : (xs : List Bound) → HaveDataSorts g xs → HaveDataSorts g (renewed_bounds r xs)
    of_data [] h x i = absurd (contains_none x i)
    of_data (y ∷ xs) h x i = ⊎_elim (λ q. subst (λ (z : Bound). IsSort g z.sort) q (h y (contains_first y xs))) (λ j. of_data xs (λ z k. h z (contains_later y z xs k)) x j) (contains_cases (record { var = r y.var; sort = y.sort }) x (renewed_bounds r xs) i)

    summand_renewed : (params : List Bound) (s : Summand) → IsSortedSummand g vs params s → ((x y : ℕ) → Contains (variables s.sums ++ variables params) x → Contains (variables s.sums ++ variables params) y → r x ≡ r y → x ≡ y) → IsSortedSummand g vs (renewed_bounds r params) (renewed_summand r s)
    summand_renewed params s f k =
        let i = both_image s.sums params in
        let scope = variables s.sums ++ variables params in
        let made = variables (renewed_bounds r s.sums) ++ variables (renewed_bounds r params) in
        record {
          declared = declared s.sums f.declared;
          sorts_of_data = of_data s.sums f.sorts_of_data;
          condition = record { over = put_over scope made (λ v. variable (r v)) i s.condition f.condition.over; sorted = term_sorted s.condition boolean f.condition.sorted };
          label = label_over scope made i f.label;
          label_sorted = label_sorted f.label_sorted;
          next = next_fits scope made params i f.next;
          apart = λ v a b. let x = from s.sums v a in let y = from params v b in
              f.apart x.0 x.1.0 (subst (λ z. Contains (variables params) z) (sym (k x.0 y.0 (Contains-append_left (variables s.sums) (variables params) x.0 x.1.0) (Contains-append_right (variables s.sums) (variables params) y.0 y.1.0) (x.1.1 ∙ sym y.1.1))) y.1.0);
          distinct = still_distinct s.sums f.distinct (λ x y a b q. k x y (Contains-append_left (variables s.sums) (variables params) x a) (Contains-append_left (variables s.sums) (variables params) y b) q);
        }

pub renewed_is_linear : (g : Data) (vs : List Sort) (l : Linear) → IsLinear l → IsWellSorted g vs l → (r : ℕ → ℕ) → Renews vs r l → IsLinear (renewed r l) × IsWellSorted g vs (renewed r l)
renewed_is_linear g vs l is sorted r ok =
    let fits : (s : Summand) → In s (renewed r l).summands → IsSortedSummand g vs (renewed r l).params s = λ s i.
    let k = in_map (λ z. renewed_summand r z) l.summands i in
    subst (λ z. IsSortedSummand g vs (renewed_bounds r l.params) z) (sym k.2) (summand_renewed r g vs ok.sorts l.params k.0 (summand_fits g vs l is sorted k.0 k.1) (ok.summands k.0 (in_contains k.1))) in (
      record { distinct = still_distinct r l.params is.distinct ok.params; summands = λ s i. summand_is (fits s (contains_in (renewed r l).summands i)) },
      record { params = declared r g vs ok.sorts l.params sorted.params; param_sorts = of_data r g vs ok.sorts l.params sorted.param_sorts; summands = λ s i. summand_sorted (fits s (contains_in (renewed r l).summands i)) },
    )
