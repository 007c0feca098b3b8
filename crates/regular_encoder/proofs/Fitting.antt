-- The encoding is a linear process, and well sorted.
use Rattle.std.proofs.Common.{◌≡◌, ◌+◌, ℕ, suc, Bool, true, false, List, [], ◌∷◌, ◌++◌, map, length, refl, sym, ap, ap₂, ◌∙◌, subst, arith, ⊎_elim, Some, cond}
use Rattle.std.specs.Prelude.{Contains, slice_get, pos, ◌≤ℤ◌}
use Rattle.std.specs.List.{AllByRecursion}
use Rattle.std.proofs.lemmas.Bool.Decides.{eqb_tells}
use Rattle.std.proofs.lemmas.Int.{ints}
use Rattle.std.proofs.lemmas.List.Elements.{Contains-append_cases, Contains-append_left, Contains-append_right}
use Rattle.std.proofs.lemmas.Option.{slice_get_within}
use Rattle.data_theory.specs.Terms.{Sort, boolean, positive, Term, put}
use Rattle.data_theory.specs.Declarations.{Data, HasNumeral, Declares, HasSort, HaveSorts}
use Rattle.data_theory.specs.Environments.{term_in, bound, terms_of, IsOver, AreOver}
use Rattle.data_theory.proofs.EnvironmentLemmas.{contains_first as number_first, contains_later as number_later, putting_in_keeps_sorts}
use Rattle.process_terms.specs.Processes.{Bound}
use Rattle.bisim_laws.specs.LinearProcesses.{variables, sorts, IsSummand, NextIsOver, no_next, next_over, SummandIsSorted, NextIsSorted, no_next_to_sort, next_sorted, AreDeclared}
use Rattle.bisim_laws.specs.BaseStates.{GreibachCall, Columns, control_of}
use Rattle.bisim_laws.proofs.Firing.{contains_first, contains_later, variable_among}
use Rattle.lps_core.specs.Moving.{SameSorts, no_more, one_more, renaming_to}
use Rattle.greibach.specs.Forms.{FormSummand, FormEquation, Form, CallIsOver, IsForm, IsFormSummand, FormIsSorted}
use Rattle.lps_core.proofs.Chains.{joined_sorted, joined_over}
use Rattle.lps_core.proofs.Environments.{unrenamed_stay}
use Rattle.lps_core.proofs.OverVariables.{ArePutOver, put_over, puts_over, label_over, renamed_over}
use Rattle.lps_core.proofs.SortedTerms.{HaveTheirSorts, puts_sorted, label_sorted, renamed_sorted, one_sort}
use Rattle.std.proofs.lemmas.List.{length-map}
use Rattle.regular_encoder.specs.Encoding.{control_params, control_parts, place_of, to_columns, next_columns, encoded_next, encoded_summand, encoded_params, IsPlace, IsLayout, EncodedIsLinear, EncodedIsSorted}
use Rattle.regular_encoder.proofs.Encoded.{is_among, place_long, place_among, columns_among}

-- ---- over variables
control_among : (b : Bool) (v : ℕ) (xs : List Bound) → b ≡ true → Contains (variables (control_params b v ++ xs)) v
control_among true v xs e = variable_among (record { var = v; sort = positive } ∷ xs) (record { var = v; sort = positive }) (contains_first (record { var = v; sort = positive }) xs)
control_among false v xs e = cc

control_over : (b : Bool) (v i : ℕ) (ys : List ℕ) → (b ≡ true → Contains ys v) → (cs : List Term) → AllByRecursion (IsOver ys) cs → AllByRecursion (IsOver ys) (control_parts b v i ++ cs)
control_over false v i ys w cs h = h
control_over true v i ys w cs h = ((w refl, (tt, tt)), h)

bound_over : (ys xs : List ℕ) (us : List Term) (x : ℕ) → AreOver ys (terms_of us) → Contains ys x → IsOver ys (term_in (bound xs us) x)
bound_over ys [] us x h i = i
bound_over ys (y ∷ xs) [] x h i = i
bound_over ys (y ∷ xs) (u ∷ us) x h i = ⊎_elim
    (λ k. subst (λ b. IsOver ys (cond b u (term_in (bound xs us) x))) (sym k.0) h.0)
    (λ k. subst (λ b. IsOver ys (cond b u (term_in (bound xs us) x))) (sym k.0) (bound_over ys xs us x h.1 i))
    (eqb_tells y x)

mapped_over : (ys : List ℕ) (f : ℕ → Term) (xs : List ℕ) → ((x : ℕ) → Contains xs x → IsOver ys (f x)) → AreOver ys (terms_of (map f xs))
mapped_over ys f [] h = tt
mapped_over ys f (x ∷ xs) h = (h x (number_first x xs), mapped_over ys f xs (λ z i. h z (number_later x z xs i)))

number_over : (b : Bool) (i : ℕ) (ys : List ℕ) (ts : List Term) → AreOver ys (terms_of ts) → AreOver ys (terms_of (control_of b i ++ ts))
number_over false i ys ts h = h
number_over true i ys ts h = (tt, h)

number_long : (b : Bool) (v i : ℕ) (xs : List Bound) (ts : List Term) → length ts ≡ length xs → length (control_of b i ++ ts) ≡ length (control_params b v ++ xs)
number_long false v i xs ts h = h
number_long true v i xs ts h = ap suc h

module _ (c : Columns) (v : ℕ) (form : Form) (is : IsForm form) (layout : IsLayout c v form) where
  module _ (i : ℕ) (q : FormEquation) (s : FormSummand) (at : slice_get form i ≡ Some q) (among : Contains q.summands s) where
    abbrev before_columns : List ℕ
    before_columns = variables s.sums ++ variables q.params

    abbrev with_columns : List ℕ
    with_columns = variables s.sums ++ variables (encoded_params c v)

    summand_is : IsFormSummand form q.params s
    summand_is = (is i q at).summands s among

    moves_over : ArePutOver before_columns with_columns (term_in (to_columns c i q))
    moves_over x k =
        let p = layout.places i q at in ⊎_elim
        (λ a. subst (λ z. IsOver with_columns z) (sym (unrenamed_stay (variables q.params) (place_of c i) x (place_long c q (place_of c i) p) (λ b. summand_is.apart x a b))) (Contains-append_left (variables s.sums) (variables (encoded_params c v)) x a))
        (λ a. renamed_over (variables q.params) (place_of c i) with_columns (place_long c q (place_of c i) p)
        (λ u b. Contains-append_right (variables s.sums) (variables (encoded_params c v)) u (columns_among c v u (place_among c q (place_of c i) p u b))) x a)
        (Contains-append_cases (variables s.sums) (variables q.params) x k)

    pub parts_over : AllByRecursion (IsOver with_columns) (control_parts c.control v i ++ put (term_in (to_columns c i q)) s.condition ∷ [])
    parts_over = control_over c.control v i with_columns (λ e. Contains-append_right (variables s.sums) (variables (encoded_params c v)) v (control_among c.control v c.columns e))
        (put (term_in (to_columns c i q)) s.condition ∷ [])
        (put_over before_columns with_columns (term_in (to_columns c i q)) moves_over s.condition summand_is.condition, tt)

    encoded_next_over : (cs : List GreibachCall) → ((a : GreibachCall) → Contains cs a → CallIsOver form before_columns a) → NextIsOver with_columns (encoded_params c v) (encoded_next c (to_columns c i q) cs)
    encoded_next_over [] h = no_next
    encoded_next_over (a ∷ cs) h =
        let us = map (put (term_in (to_columns c i q))) a.args in
        let over = puts_over before_columns with_columns (term_in (to_columns c i q)) moves_over a.args (h a (contains_first a cs)).args in
        next_over
        (number_over c.control a.equation with_columns (next_columns c (to_columns c i q) a)
        (mapped_over with_columns (term_in (bound (place_of c a.equation) us)) (variables c.columns)
        (λ x k. bound_over with_columns (place_of c a.equation) us x over (Contains-append_right (variables s.sums) (variables (encoded_params c v)) x (columns_among c v x k)))))
        (number_long c.control v a.equation c.columns (next_columns c (to_columns c i q) a) (length-map (variables c.columns) (term_in (bound (place_of c a.equation) us)) ∙ length-map c.columns (λ (x : Bound). x.var)))

    encoded_is_summand : IsSummand (encoded_params c v) (encoded_summand c v i q s)
    encoded_is_summand = record {
      condition = joined_over with_columns (control_parts c.control v i ++ put (term_in (to_columns c i q)) s.condition ∷ []) parts_over;
      label = label_over before_columns with_columns (to_columns c i q) moves_over s.label summand_is.label;
      next = encoded_next_over s.next summand_is.next;
      apart = layout.apart i q s at among;
      distinct = summand_is.distinct;
    }

pub encoded_linear : EncodedIsLinear
encoded_linear c v form is layout = record {
  distinct = layout.distinct;
  summands = λ y h.
      let r = is_among c v form y h in
      subst (λ z. IsSummand (encoded_params c v) z) (sym r.is) (encoded_is_summand c v form is layout r.place r.equation r.summand r.at r.among);
}

-- ---- sorts
pub number_above : (i : ℕ) → pos 1 ≤ℤ pos (i + 1)
number_above i = omega (arith, ints)

-- the number of an equation is a numeral
abbrev pub IsNumbered : ℕ → Type 0
IsNumbered i = HasNumeral positive (pos (i + 1))

pub numbered : (c : Columns) (v : ℕ) (form : Form) → IsLayout c v form → (i : ℕ) (q : FormEquation) → slice_get form i ≡ Some q → IsNumbered i
numbered c v form layout i q at =
    let few = layout.few in
    let l = slice_get_within form i q at in
    (number_above i, omega (arith, few, l))

control_sorted : (g : Data) (vs : List Sort) (b : Bool) (v i : ℕ) → IsNumbered i → (xs : List Bound) → AreDeclared vs (control_params b v ++ xs) → (cs : List Term) → AllByRecursion (λ c. HasSort g vs c boolean) cs → AllByRecursion (λ c. HasSort g vs c boolean) (control_parts b v i ++ cs)
control_sorted g vs false v i n xs d cs h = h
control_sorted g vs true v i n xs d cs h =
    ((tt, (d (record { var = v; sort = positive }) (contains_first (record { var = v; sort = positive }) xs), ((refl, n), tt)), refl, refl), h)

number_sorted : (g : Data) (vs : List Sort) (b : Bool) (v i : ℕ) → IsNumbered i → (xs : List Bound) (ts : List Term) → HaveSorts g vs (terms_of ts) (sorts xs) → HaveSorts g vs (terms_of (control_of b i ++ ts)) (sorts (control_params b v ++ xs))
number_sorted g vs false v i n xs ts h = h
number_sorted g vs true v i n xs ts h = ((refl, n), h)

pub same_sorts : {xs ys : List Bound} → SameSorts xs ys → sorts xs ≡ sorts ys
same_sorts no_more = refl
same_sorts (one_more q k) = ap₂ (λ s ss. s ∷ ss) q (same_sorts k)

pub bound_has_sort : (g : Data) (vs : List Sort) (xs : List Bound) (us : List Term) → AreDeclared vs xs → HaveSorts g vs (terms_of us) (sorts xs) → (v : ℕ) (s : Sort) → Declares vs v s → HasSort g vs (term_in (bound (variables xs) us) v) s
bound_has_sort g vs [] us d h v s k = k
bound_has_sort g vs (x ∷ xs) [] d h v s k = k
bound_has_sort g vs (x ∷ xs) (u ∷ us) d h v s k = ⊎_elim
    (λ w. subst (λ b. HasSort g vs (cond b u (term_in (bound (variables xs) us) v)) s) (sym w.0)
    (subst (λ z. HasSort g vs u z) (one_sort vs v x.sort s (subst (λ z. Declares vs z x.sort) w.1 (d x (contains_first x xs))) k) h.0))
    (λ w. subst (λ b. HasSort g vs (cond b u (term_in (bound (variables xs) us) v)) s) (sym w.0) (bound_has_sort g vs xs us (λ y i. d y (contains_later x y xs i)) h.1 v s k))
    (eqb_tells x.var v)

mapped_sorted : (g : Data) (vs : List Sort) (f : ℕ → Term) (xs : List Bound) → ((x : Bound) → Contains xs x → HasSort g vs (f x.var) x.sort) → HaveSorts g vs (terms_of (map f (variables xs))) (sorts xs)
mapped_sorted g vs f [] h = tt
mapped_sorted g vs f (x ∷ xs) h = (h x (contains_first x xs), mapped_sorted g vs f xs (λ y i. h y (contains_later x y xs i)))

module _ (g : Data) (vs : List Sort) (c : Columns) (v : ℕ) (form : Form) (is : IsForm form) (sorted : FormIsSorted g vs form) (layout : IsLayout c v form) (declared : AreDeclared vs (encoded_params c v)) where
  columns_declared : AreDeclared vs c.columns
  columns_declared x i = declared x (Contains-append_right (control_params c.control v) c.columns x i)

  bounds_declared : (q : FormEquation) (place : List ℕ) (p : IsPlace c q place) → AreDeclared vs p.bounds
  bounds_declared q place p x i = columns_declared x (p.among x i)

  module _ (i : ℕ) (q : FormEquation) (s : FormSummand) (at : slice_get form i ≡ Some q) (among : Contains q.summands s) where
    pub moves_sorted : HaveTheirSorts g vs vs (term_in (to_columns c i q))
    moves_sorted =
        let p = layout.places i q at in
        subst (λ z. HaveTheirSorts g vs vs (term_in (renaming_to (variables q.params) z))) (sym p.is) (renamed_sorted g vs p.same (sorted i q at).params (bounds_declared q (place_of c i) p))

    pub parts_sorted : AllByRecursion (λ c. HasSort g vs c boolean) (control_parts c.control v i ++ put (term_in (to_columns c i q)) s.condition ∷ [])
    parts_sorted = control_sorted g vs c.control v i (numbered c v form layout i q at) c.columns declared (put (term_in (to_columns c i q)) s.condition ∷ [])
        (putting_in_keeps_sorts g vs vs (term_in (to_columns c i q)) moves_sorted s.condition boolean ((sorted i q at).summands s among).condition, tt)

    next_has_sorts : (cs : List GreibachCall) → ((a : GreibachCall) → Contains cs a → CallIsOver form (variables s.sums ++ variables q.params) a)
        → ((a : GreibachCall) (q' : FormEquation) → Contains cs a → slice_get form a.equation ≡ Some q' → HaveSorts g vs (terms_of a.args) (sorts q'.params))
        → NextIsSorted g vs (sorts (encoded_params c v)) (encoded_next c (to_columns c i q) cs)
    next_has_sorts [] h k = no_next_to_sort
    next_has_sorts (a ∷ cs) h k =
        let o = h a (contains_first a cs) in
        let p = layout.places a.equation o.equation o.stands in
        let us = map (put (term_in (to_columns c i q))) a.args in
        let us_sorted : HaveSorts g vs (terms_of us) (sorts p.bounds) =
        subst (λ z. HaveSorts g vs (terms_of us) z) (same_sorts p.same) (puts_sorted g vs vs (term_in (to_columns c i q)) moves_sorted a.args (sorts o.equation.params) (k a o.equation (contains_first a cs) o.stands)) in
        next_sorted (number_sorted g vs c.control v a.equation (numbered c v form layout a.equation o.equation o.stands) c.columns (next_columns c (to_columns c i q) a)
        (mapped_sorted g vs (term_in (bound (place_of c a.equation) us)) c.columns
        (λ x j. subst (λ z. HasSort g vs (term_in (bound z us) x.var) x.sort) (sym p.is) (bound_has_sort g vs p.bounds us (bounds_declared o.equation (place_of c a.equation) p) us_sorted x.var x.sort (columns_declared x j)))))

    encoded_summand_sorted : SummandIsSorted g vs (encoded_params c v) (encoded_summand c v i q s)
    encoded_summand_sorted =
        let f = (sorted i q at).summands s among in
        record {
          sums = f.sums;
          sum_sorts = f.sum_sorts;
          condition = joined_sorted g vs (control_parts c.control v i ++ put (term_in (to_columns c i q)) s.condition ∷ []) parts_sorted;
          label = label_sorted g vs vs (to_columns c i q) moves_sorted s.label f.label;
          next = next_has_sorts s.next ((is i q at).summands s among).next f.next;
        }

pub encoded_sorted : EncodedIsSorted
encoded_sorted g vs c v form is sorted layout declared sorts_of_data = record {
  params = declared;
  param_sorts = sorts_of_data;
  summands = λ y h.
      let r = is_among c v form y h in
      subst (λ z. SummandIsSorted g vs (encoded_params c v) z) (sym r.is) (encoded_summand_sorted g vs c v form is sorted layout declared r.place r.equation r.summand r.at r.among);
}
