-- A product is a linear process, and well sorted.
use Rattle.std.proofs.Common.{ℕ, true, false, List, [], ◌∷◌, ◌++◌, map, refl, sym, subst, ⊎_elim, Option, Some, None}
use Rattle.std.specs.Prelude.{flat_map}
use Rattle.std.proofs.lemmas.List.Elements.{Contains-append_cases}
use Rattle.data_theory.specs.Terms.{Sort, boolean, Term}
use Rattle.data_theory.specs.Declarations.{Data, IsSort, HaveSorts}
use Rattle.data_theory.specs.Environments.{terms_of, AreOver, Apart, AreDistinct}
use Rattle.process_terms.specs.Processes.{Bound}
use Rattle.bisim_laws.specs.LinearProcesses.{Summand, variables, sorts, IsLinear, IsWellSorted, AreDeclared, HaveDataSorts}
use Rattle.bisim_laws.proofs.Firing.{contains_none, contains_cases}
use Rattle.bisim_laws.specs.BaseStates.{Side}
use Rattle.lps_core.specs.Columns.{as_terms}
use Rattle.lps_core.specs.Conditions.{parts, AreConditions}
use Rattle.lps_core.proofs.Members.{In, here, there, in_append, in_map, in_each, in_contains, contains_in}
use Rattle.lps_core.proofs.SortedTerms.{columns_sorted}
use Rattle.lps_core.proofs.Chains.{conditions_append, parts_conditions, conjoined_condition}
use Rattle.lps_core.proofs.Environments.{variables_append}
use Rattle.lps_core.proofs.Shapes.{NextFits, ends_there, goes_there, IsSortedSummand, summand_is, summand_sorted, summand_fits, condition_more}
use Rattle.lps_core.proofs.OverVariables.{Within, all_over_more, label_over_more, over_append, label_over_append, variables_over, within_both, within_front, within_back, distinct_append, variables_front, variables_back}
use Rattle.lps_core.proofs.SortedTerms.{label_sorted_append, variables_sorted, declared_both}
use Rattle.summand_expander.specs.Product.{flag_of, columns, running_part, set, onward, guarded, alone, lone, own_first, own_last, together, pair, product, IsSide, Separate}
use Rattle.summand_expander.proofs.OneSide.{FlagKnown, flag_conditions, both_flag_conditions}

set_over : (ys : List ℕ) (xs : List Bound) → AreOver ys (terms_of (set xs))
set_over ys [] = tt
set_over ys (x ∷ xs) = (tt, set_over ys xs)

set_sorted : (g : Data) (vs : List Sort) (f : Option ℕ) → HaveSorts g vs (terms_of (set (flag_of f))) (sorts (flag_of f))
set_sorted g vs None = tt
set_sorted g vs (Some f) = ((tt, tt, refl, refl), tt)

data_sorts_both : (g : Data) (xs ys : List Bound) → HaveDataSorts g xs → HaveDataSorts g ys → HaveDataSorts g (xs ++ ys)
data_sorts_both g xs ys h k x i = ⊎_elim (λ j. h x j) (λ j. k x j) (Contains-append_cases xs ys x i)

flag_has_sort : (g : Data) (f : Option ℕ) → HaveDataSorts g (flag_of f)
flag_has_sort g None x i = absurd (contains_none x i)
flag_has_sort g (Some f) x i = ⊎_elim (λ q. subst (λ (z : Bound). IsSort g z.sort) q tt) (λ j. absurd (contains_none x j)) (contains_cases (record { var = f; sort = boolean }) x [] i)

-- ---- a side's columns after a summand
module _ (g : Data) (vs : List Sort) (a : Side) (is : IsSide g vs a) where
  pub onward_over : (xs ys : List ℕ) (n : Option (List Term)) → Within xs ys → Within (variables (columns a)) ys → NextFits g vs xs a.process.params n → AreOver ys (terms_of (onward a n))
  onward_over xs ys None f c h =
      over_append ys (as_terms a.process.params) (set (flag_of a.flag)) (variables_over a.process.params ys (λ v i. c v (variables_front a.process.params (flag_of a.flag) v i))) (set_over ys (flag_of a.flag))
  onward_over xs ys (Some ts) f c (goes_there h k) =
      over_append ys ts (as_terms (flag_of a.flag)) (all_over_more xs ys f (terms_of ts) h) (variables_over (flag_of a.flag) ys (λ v i. c v (variables_back a.process.params (flag_of a.flag) v i)))

  pub onward_sorted : (xs : List ℕ) (n : Option (List Term)) → NextFits g vs xs a.process.params n → HaveSorts g vs (terms_of (onward a n)) (sorts (columns a))
  onward_sorted xs None h =
      columns_sorted g vs a.process.params (flag_of a.flag) (as_terms a.process.params) (set (flag_of a.flag)) (variables_sorted g vs a.process.params is.sorted.params) (set_sorted g vs a.flag)
  onward_sorted xs (Some ts) (goes_there h k) =
      columns_sorted g vs a.process.params (flag_of a.flag) ts (as_terms (flag_of a.flag)) k (variables_sorted g vs (flag_of a.flag) is.flag)

  pub columns_declared : AreDeclared vs (columns a)
  columns_declared = declared_both vs a.process.params (flag_of a.flag) is.sorted.params is.flag

  pub columns_have_sorts : HaveDataSorts g (columns a)
  columns_have_sorts = data_sorts_both g a.process.params (flag_of a.flag) is.sorted.param_sorts (flag_has_sort g a.flag)

-- ---- one side alone
module _ (g : Data) (vs : List Sort) (place : List Term → List Term → List Term) (a : Side) (side : IsSide g vs a) (others : List Term) (all : List Bound) (own_in : Within (variables (columns a)) (variables all)) (others_over : AreOver (variables all) (terms_of others)) (place_over : (xs : List ℕ) (us : List Term) → AreOver xs (terms_of us) → AreOver xs (terms_of others) → AreOver xs (terms_of (place us others))) (place_sorted : (us : List Term) → HaveSorts g vs (terms_of us) (sorts (columns a)) → HaveSorts g vs (terms_of (place us others)) (sorts all)) (s : Summand) (is : IsSortedSummand g vs a.process.params s) (apart : Apart (variables s.sums) (variables all)) where
  abbrev scope : List ℕ
  scope = variables s.sums ++ variables all

  out_of : Within (variables all) scope
  out_of v i = within_back (variables s.sums) (variables all) v i

  own_of : Within (variables s.sums ++ variables a.process.params) scope
  own_of v i = within_both (variables s.sums) (variables a.process.params) scope (within_front (variables s.sums) (variables all)) (λ w j. out_of w (own_in w (variables_front a.process.params (flag_of a.flag) w j))) v i

  guarded_fits : (ps : List Term) (n : Option (List Term)) → AreConditions g vs scope ps → NextFits g vs scope all n → IsSortedSummand g vs all (guarded ps s n)
  guarded_fits ps n k h = record {
    declared = is.declared;
    sorts_of_data = is.sorts_of_data;
    condition = conjoined_condition g vs scope (ps ++ parts s.condition) (conditions_append g vs scope ps (parts s.condition) k (parts_conditions g vs scope s.condition (condition_more g vs (variables s.sums ++ variables a.process.params) scope own_of s.condition is.condition)));
    label = label_over_more (variables s.sums ++ variables a.process.params) scope own_of is.label;
    label_sorted = is.label_sorted;
    next = h;
    apart = apart;
    distinct = is.distinct;
  }

  placed_fits : (n : Option (List Term)) → NextFits g vs (variables s.sums ++ variables a.process.params) a.process.params n → NextFits g vs scope all (Some (place (onward a n) others))
  placed_fits n h = goes_there
      (place_over scope (onward a n) (onward_over g vs a side (variables s.sums ++ variables a.process.params) scope n own_of (λ v i. out_of v (own_in v i)) h) (all_over_more (variables all) scope out_of (terms_of others) others_over))
      (place_sorted (onward a n) (onward_sorted g vs a side (variables s.sums ++ variables a.process.params) n h))

  own_known : FlagKnown vs scope a.flag
  own_known = (side.flag, λ v i. out_of v (own_in v (variables_back a.process.params (flag_of a.flag) v i)))

  own_parts : AreConditions g vs scope (running_part a.flag)
  own_parts = flag_conditions g vs scope a.flag own_known

  pub alone_fits : (n : Option (List Term)) (h : Option ℕ) (y : Summand) → NextFits g vs (variables s.sums ++ variables a.process.params) a.process.params n → AreDeclared vs (flag_of h) → Within (variables (flag_of h)) (variables all) → In y (alone place a others s n h) → IsSortedSummand g vs all y
  alone_fits (Some ts) h y f d w here = guarded_fits (running_part a.flag) (Some (place (onward a (Some ts)) others)) own_parts (placed_fits (Some ts) f)
  alone_fits (Some ts) h y f d w (there i) = elim i [ ]
  alone_fits None None y f d w here = guarded_fits (running_part a.flag) (Some (place (onward a None) others)) own_parts (placed_fits None f)
  alone_fits None None y f d w (there i) = elim i [ ]
  alone_fits None (Some h) y f d w here = guarded_fits _ (Some (place (onward a None) others)) (both_flag_conditions g vs scope a.flag h false own_known (d, λ v i. out_of v (w v i))) (placed_fits None f)
  alone_fits None (Some h) y f d w (there here) = guarded_fits _ None (both_flag_conditions g vs scope a.flag h true own_known (d, λ v i. out_of v (w v i))) ends_there
  alone_fits None (Some h) y f d w (there (there i)) = elim i [ ]

-- ---- pairs
together_fits : (g : Data) (vs : List Sort) (a b : Side) (left : IsSide g vs a) (right : IsSide g vs b) (xs ys zs : List ℕ) (n o : Option (List Term)) → Within (variables (columns a)) zs → Within (variables (columns b)) zs → Within xs zs → Within ys zs
    → NextFits g vs xs a.process.params n → NextFits g vs ys b.process.params o → NextFits g vs zs (columns a ++ columns b) (together a b n o)
together_fits g vs a b left right xs ys zs n o ca cb f h k j = by n o k j
  where
    both : (n o : Option (List Term)) → NextFits g vs xs a.process.params n → NextFits g vs ys b.process.params o → NextFits g vs zs (columns a ++ columns b) (Some (onward a n ++ onward b o))
    both n o k j = goes_there
        (over_append zs (onward a n) (onward b o) (onward_over g vs a left xs zs n f ca k) (onward_over g vs b right ys zs o h cb j))
        (columns_sorted g vs (columns a) (columns b) (onward a n) (onward b o) (onward_sorted g vs a left xs n k) (onward_sorted g vs b right ys o j))

    by : (n o : Option (List Term)) → NextFits g vs xs a.process.params n → NextFits g vs ys b.process.params o → NextFits g vs zs (columns a ++ columns b) (together a b n o)
    by None None k j = ends_there
    by None (Some us) k j = both None (Some us) k j
    by (Some ts) None k j = both (Some ts) None k j
    by (Some ts) (Some us) k j = both (Some ts) (Some us) k j

module _ (g : Data) (vs : List Sort) (a b : Side) (ok : Separate g vs a b) where
  abbrev all : List Bound
  all = columns a ++ columns b

  in_left : Within (variables (columns a)) (variables all)
  in_left v i = variables_front (columns a) (columns b) v i

  in_right : Within (variables (columns b)) (variables all)
  in_right v i = variables_back (columns a) (columns b) v i

  pub left_fits : (s : Summand) → In s a.process.summands → IsSortedSummand g vs a.process.params s
  left_fits s i = summand_fits g vs a.process ok.left.linear ok.left.sorted s i

  pub right_fits : (s : Summand) → In s b.process.summands → IsSortedSummand g vs b.process.params s
  right_fits s i = summand_fits g vs b.process ok.right.linear ok.right.sorted s i

  lone_left_fits : (s y : Summand) → In s a.process.summands → In y (lone own_first a b s) → IsSortedSummand g vs all y
  lone_left_fits s y i j =
      alone_fits g vs own_first a ok.left (as_terms (columns b)) all in_left (variables_over (columns b) (variables all) in_right)
      (λ xs us h k. over_append xs us (as_terms (columns b)) h k)
      (λ us h. columns_sorted g vs (columns a) (columns b) us (as_terms (columns b)) h (variables_sorted g vs (columns b) (columns_declared g vs b ok.right)))
      s (left_fits s i) (ok.left_apart s (in_contains i)) s.next b.flag y (left_fits s i).next ok.right.flag (λ v k. in_right v (variables_back b.process.params (flag_of b.flag) v k)) j

  lone_right_fits : (s y : Summand) → In s b.process.summands → In y (lone own_last b a s) → IsSortedSummand g vs all y
  lone_right_fits s y i j =
      alone_fits g vs own_last b ok.right (as_terms (columns a)) all in_right (variables_over (columns a) (variables all) in_left)
      (λ xs us h k. over_append xs (as_terms (columns a)) us k h)
      (λ us h. columns_sorted g vs (columns a) (columns b) (as_terms (columns a)) us (variables_sorted g vs (columns a) (columns_declared g vs a ok.left)) h)
      s (right_fits s i) (ok.right_apart s (in_contains i)) s.next a.flag y (right_fits s i).next ok.left.flag (λ v k. in_left v (variables_back a.process.params (flag_of a.flag) v k)) j

  pair_scope : (s t : Summand) → List ℕ
  pair_scope s t = variables (s.sums ++ t.sums) ++ variables all

  pub pair_left : (s t : Summand) → Within (variables s.sums ++ variables a.process.params) (variables (s.sums ++ t.sums) ++ variables all)
  pair_left s t v i =
      within_both (variables s.sums) (variables a.process.params) (variables (s.sums ++ t.sums) ++ variables all)
      (λ w j. within_front (variables (s.sums ++ t.sums)) (variables all) w (variables_front s.sums t.sums w j))
      (λ w j. within_back (variables (s.sums ++ t.sums)) (variables all) w (in_left w (variables_front a.process.params (flag_of a.flag) w j))) v i

  pub pair_right : (s t : Summand) → Within (variables t.sums ++ variables b.process.params) (variables (s.sums ++ t.sums) ++ variables all)
  pair_right s t v i =
      within_both (variables t.sums) (variables b.process.params) (variables (s.sums ++ t.sums) ++ variables all)
      (λ w j. within_front (variables (s.sums ++ t.sums)) (variables all) w (variables_back s.sums t.sums w j))
      (λ w j. within_back (variables (s.sums ++ t.sums)) (variables all) w (in_right w (variables_front b.process.params (flag_of b.flag) w j))) v i

  -- the parts of a pair, by sides
  pub pair_flags : (xs : List ℕ) → Within (variables all) xs → AreConditions g vs xs (running_part a.flag ++ running_part b.flag)
  pair_flags xs f =
      conditions_append g vs xs (running_part a.flag) (running_part b.flag)
      (flag_conditions g vs xs a.flag (ok.left.flag, λ v i. f v (in_left v (variables_back a.process.params (flag_of a.flag) v i))))
      (flag_conditions g vs xs b.flag (ok.right.flag, λ v i. f v (in_right v (variables_back b.process.params (flag_of b.flag) v i))))

  pair_fits : (s t : Summand) → In s a.process.summands → In t b.process.summands → IsSortedSummand g vs all (pair a b s t)
  pair_fits s t i j =
      let f = left_fits s i in
      let h = right_fits t j in
      let xs = variables (s.sums ++ t.sums) ++ variables all in
      let cols : Within (variables all) xs = λ v k. within_back (variables (s.sums ++ t.sums)) (variables all) v k in
      record {
        declared = declared_both vs s.sums t.sums f.declared h.declared;
        sorts_of_data = data_sorts_both g s.sums t.sums f.sorts_of_data h.sorts_of_data;
        condition = conjoined_condition g vs xs ((running_part a.flag ++ running_part b.flag) ++ (parts s.condition ++ parts t.condition))
            (conditions_append g vs xs (running_part a.flag ++ running_part b.flag) (parts s.condition ++ parts t.condition) (pair_flags xs cols)
            (conditions_append g vs xs (parts s.condition) (parts t.condition)
            (parts_conditions g vs xs s.condition (condition_more g vs (variables s.sums ++ variables a.process.params) xs (pair_left s t) s.condition f.condition))
            (parts_conditions g vs xs t.condition (condition_more g vs (variables t.sums ++ variables b.process.params) xs (pair_right s t) t.condition h.condition))));
        label = label_over_append (label_over_more (variables s.sums ++ variables a.process.params) xs (pair_left s t) f.label) (label_over_more (variables t.sums ++ variables b.process.params) xs (pair_right s t) h.label);
        label_sorted = label_sorted_append f.label_sorted h.label_sorted;
        next = together_fits g vs a b ok.left ok.right (variables s.sums ++ variables a.process.params) (variables t.sums ++ variables b.process.params) xs s.next t.next (λ v k. cols v (in_left v k)) (λ v k. cols v (in_right v k)) (pair_left s t) (pair_right s t) f.next h.next;
        apart = subst (λ z. Apart z (variables all)) (sym (variables_append s.sums t.sums)) (λ v k l. ⊎_elim (λ m. ok.left_apart s (in_contains i) v m l) (λ m. ok.right_apart t (in_contains j) v m l) (Contains-append_cases (variables s.sums) (variables t.sums) v k));
        distinct = subst (λ z. AreDistinct z) (sym (variables_append s.sums t.sums)) (distinct_append (variables s.sums) (variables t.sums) f.distinct h.distinct (ok.sums s t (in_contains i) (in_contains j)));
      }

  product_fits : (y : Summand) → In y (product a b).summands → IsSortedSummand g vs all y
  product_fits y i = ⊎_elim
      (λ j. let k = in_each (lone own_first a b) a.process.summands j in lone_left_fits k.0 y k.1 k.2)
      (λ i. ⊎_elim
      (λ j. let k = in_each (lone own_last b a) b.process.summands j in lone_right_fits k.0 y k.1 k.2)
      (λ j. let k = in_each (λ x. map (pair a b x) b.process.summands) a.process.summands j in
      let l = in_map (pair a b k.0) b.process.summands k.2 in
      subst (λ z. IsSortedSummand g vs all z) (sym l.2) (pair_fits k.0 l.0 k.1 l.1))
      (in_append (flat_map (lone own_last b a) b.process.summands) (flat_map (λ x. map (pair a b x) b.process.summands) a.process.summands) i))
      (in_append (flat_map (lone own_first a b) a.process.summands) (flat_map (lone own_last b a) b.process.summands ++ flat_map (λ x. map (pair a b x) b.process.summands) a.process.summands) i)

  pub linear_product : IsLinear (product a b)
  linear_product = record { distinct = ok.distinct; summands = λ y i. summand_is (product_fits y (contains_in (product a b).summands i)) }

  pub all_declared : AreDeclared vs all
  all_declared = declared_both vs (columns a) (columns b) (columns_declared g vs a ok.left) (columns_declared g vs b ok.right)

  pub sorted_product : IsWellSorted g vs (product a b)
  sorted_product = record { params = all_declared; param_sorts = data_sorts_both g (columns a) (columns b) (columns_have_sorts g vs a ok.left) (columns_have_sorts g vs b ok.right); summands = λ y i. summand_sorted (product_fits y (contains_in (product a b).summands i)) }
