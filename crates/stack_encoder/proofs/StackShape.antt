-- The encoding is a linear process, and well sorted.
use Rattle.std.proofs.Common.{◌≡◌, ◌<◌, ℕ, suc, List, [], ◌∷◌, ◌++◌, map, length, refl, sym, ap, ◌∙◌, subst, arith, ⊎_elim, Some}
use Rattle.std.specs.Prelude.{Contains, slice_get}
use Rattle.std.specs.List.{AllByRecursion}
use Rattle.std.proofs.lemmas.Option.{slice_get-get_or, slice_get_within}
use Rattle.std.proofs.lemmas.List.Elements.{Contains-append_cases, Contains-append_left, Contains-append_right}
use Rattle.data_theory.specs.Terms.{Sort, boolean, positive, Term, Terms, variable, numeral, unknown, application, none, more, put}
use Rattle.data_theory.specs.Declarations.{Data, IsSort, Declares, argument_sorts, HasSort, HaveSorts}
use Rattle.data_theory.specs.Environments.{Environment, term_in, bound, terms_of, IsOver, AreOver}
use Rattle.data_theory.proofs.EnvironmentLemmas.{contains_nothing, contains_first as number_first, putting_in_keeps_sorts, closed_terms_fit, bound_are_the_parameters, unbound_stay}
use Rattle.process_terms.specs.Processes.{Bound}
use Rattle.bisim_laws.specs.LinearProcesses.{variables, sorts, reading, IsSummand, NextIsOver, no_next, next_over, SummandIsSorted, NextIsSorted, no_next_to_sort, next_sorted}
use Rattle.bisim_laws.specs.BaseStates.{GreibachCall, Columns, columns_of}
use Rattle.bisim_laws.proofs.Firing.{contains_first, contains_later, contains_cases, contains_none}
use Rattle.greibach.specs.Forms.{FormSummand, FormEquation, Form, CallIsOver, IsForm, IsFormSummand, FormIsSorted}
use Rattle.lps_core.proofs.Chains.{joined_sorted, joined_over}
use Rattle.std.proofs.lemmas.List.{length-map}
use Rattle.lps_core.proofs.OverVariables.{ArePutOver, put_over, puts_over, label_over}
use Rattle.lps_core.proofs.SortedTerms.{HaveTheirSorts, puts_sorted, label_sorted}
use Rattle.stack_encoder.specs.StackEncoding.{StackSymbols, stack_sort, FieldsStand, is_pushed, rest_of, fields_of, pushed_on, to_fields, put_call, Way, way_down, way_out, way_up, ways, stack_parts, stack_summand, stack_params, IsStackLayout, StackFits, StackIsLinear, StackIsSorted}
use Rattle.stack_encoder.proofs.Rows.{Beside, beside_maps, bound_beside, columns_beside, beside_over, over_beside, sorted_long, columns_sorted, place_sorted}
use Rattle.regular_encoder.proofs.Encoded.{place_long, place_among}
use Rattle.data_theory.proofs.WellSorted.{sort_within}
use Rattle.regular_encoder.proofs.Fitting.{IsNumbered, number_above, bound_has_sort}
use Rattle.stack_encoder.proofs.StackTerms.{one_sorted, push_sorted}
use Rattle.stack_encoder.proofs.StackSummands.{one_way, two_ways, is_among}
use Rattle.regular_encoder.specs.Encoding.{place_of, IsPlace}

-- ---- closed terms are over any variables
mutual
  closed_over : (g : Data) (ys : List ℕ) (t : Term) (s : Sort) → HasSort g [] t s → IsOver ys t
  closed_over g ys (variable v) s h = absurd h
  closed_over g ys (numeral a z) s h = tt
  closed_over g ys (unknown d j) s h = tt
  closed_over g ys (application f ts) s h = all_closed_over g ys ts (argument_sorts g f) h.1

  all_closed_over : (g : Data) (ys : List ℕ) (ts : Terms) (ss : List Sort) → HaveSorts g [] ts ss → AreOver ys ts
  all_closed_over g ys none ss h = tt
  all_closed_over g ys (more t ts) [] h = absurd h
  all_closed_over g ys (more t ts) (s ∷ ss) h = (closed_over g ys t s h.0, all_closed_over g ys ts ss h.1)

all_closed_fit : (g : Data) (vs : List Sort) (ts : List Term) (ss : List Sort) → HaveSorts g [] (terms_of ts) ss → HaveSorts g vs (terms_of ts) ss
all_closed_fit g vs [] [] h = tt
all_closed_fit g vs [] (s ∷ ss) h = absurd h
all_closed_fit g vs (t ∷ ts) [] h = absurd h
all_closed_fit g vs (t ∷ ts) (s ∷ ss) h = (closed_terms_fit g vs t s h.0, all_closed_fit g vs ts ss h.1)

-- ---- fields
pub fields_long : (g : Data) (k : StackSymbols) (i : ℕ) (xs : List Bound) (ps : List ℕ) (t : Term) → FieldsStand g k i xs ps → length (fields_of ps t) ≡ length xs
fields_long g k i [] [] t h = refl
fields_long g k i [] (p ∷ ps) t h = absurd h
fields_long g k i (x ∷ xs) [] t h = absurd h
fields_long g k i (x ∷ xs) (p ∷ ps) t h = ap suc (fields_long g k (suc i) xs ps t h.1)

fields_sorted : (g : Data) (k : StackSymbols) (vs : List Sort) (i : ℕ) (xs : List Bound) (ps : List ℕ) (t : Term) → FieldsStand g k i xs ps → HasSort g vs t (stack_sort k) → HaveSorts g vs (terms_of (fields_of ps t)) (sorts xs)
fields_sorted g k vs i [] [] t h s = tt
fields_sorted g k vs i [] (p ∷ ps) t h s = absurd h
fields_sorted g k vs i (x ∷ xs) [] t h s = absurd h
fields_sorted g k vs i (x ∷ xs) (p ∷ ps) t h s = (one_sorted g k vs p x.sort _ t h.0 (λ q. cc) s, fields_sorted g k vs (suc i) xs ps t h.1 s)

fields_over : (ys ps : List ℕ) (t : Term) → IsOver ys t → Beside (λ x y. IsOver ys x) (fields_of ps t) (fields_of ps t)
fields_over ys [] t h = tt
fields_over ys (p ∷ ps) t h = ((h, tt), fields_over ys ps t h)

join_over : (ys : List ℕ) (cs : List Term) (u : Term) → AreOver ys (terms_of cs) → IsOver ys u → AreOver ys (terms_of (cs ++ u ∷ []))
join_over ys [] u h i = (i, tt)
join_over ys (c ∷ cs) u h i = (h.0, join_over ys cs u h.1 i)

-- the place of an equation stands in the list of places
pub place_at : (c : Columns) (v : ℕ) (form : Form) (i : ℕ) (q : FormEquation) → IsStackLayout c v form → slice_get form i ≡ Some q → slice_get c.places i ≡ Some (place_of c i)
place_at c v form i q layout at = slice_get-get_or c.places i [] (subst (λ n. i < n) (sym layout.long) (slice_get_within form i q at))

pub numbered_in : (c : Columns) (v : ℕ) (form : Form) (i : ℕ) (q : FormEquation) → IsStackLayout c v form → slice_get form i ≡ Some q → IsNumbered i
numbered_in c v form i q layout at =
    let few = layout.few in
    let l = slice_get_within form i q at in
    (number_above i, omega (arith, few, l))

module _ (g : Data) (k : StackSymbols) (c : Columns) (v : ℕ) (form : Form) (is : IsForm form) (fits : StackFits g k c v form) where
  pub defaults_long : length c.defaults ≡ length c.columns
  defaults_long = sorted_long g [] c.defaults c.columns fits.defaults

  pub defaults_match : length c.defaults ≡ length (variables c.columns)
  defaults_match = defaults_long ∙ sym (length-map c.columns (λ (x : Bound). x.var))

  pub fields_match : (t : Term) → length (fields_of k.fields t) ≡ length (variables c.columns)
  fields_match t = fields_long g k 1 c.columns k.fields t fits.stack.fields ∙ sym (length-map c.columns (λ (x : Bound). x.var))

  -- the frames of calls over variables
  frames_over : (ys : List ℕ) (cs : List GreibachCall) (u : Term) → ((a : GreibachCall) → Contains cs a → AreOver ys (terms_of a.args)) → IsOver ys u → IsOver ys (pushed_on k.names c cs u)
  frames_over ys [] u h i = i
  frames_over ys (a ∷ cs) u h i = (
    tt,
    join_over ys (columns_of c (slice_get c.places a.equation) a.args) (pushed_on k.names c cs u)
        (beside_over ys _ _ (columns_beside (λ x y. IsOver ys x) c (slice_get c.places a.equation) a.args a.args defaults_match
        (over_beside ys c.defaults (all_closed_over g ys (terms_of c.defaults) (sorts c.columns) fits.defaults)) (over_beside ys a.args (h a (contains_first a cs)))))
        (frames_over ys cs u (λ b j. h b (contains_later a b cs j)) i),
  )

  module _ (i : ℕ) (q : FormEquation) (s : FormSummand) (at : slice_get form i ≡ Some q) (among : Contains q.summands s) where
    abbrev before : List ℕ
    before = variables s.sums ++ variables q.params

    abbrev after : List ℕ
    after = variables s.sums ++ variables (stack_params k v)

    abbrev r : Environment
    r = to_fields k c v i q

    summand_is : IsFormSummand form q.params s
    summand_is = (is i q at).summands s among

    place_is : IsPlace c q (place_of c i)
    place_is = fits.layout.places i q at

    v_after : Contains after v
    v_after = Contains-append_right (variables s.sums) (v ∷ []) v (number_first v [])

    abbrev read_fields : List Term
    read_fields = reading (bound (variables c.columns) (fields_of k.fields (variable v))) (place_of c i)

    pub read_long : length read_fields ≡ length (variables q.params)
    read_long = length-map (place_of c i) (term_in (bound (variables c.columns) (fields_of k.fields (variable v)))) ∙ place_long c q (place_of c i) place_is

    -- sums aren't moved
    pub sums_stay : (x : ℕ) → Contains (variables s.sums) x → term_in r x ≡ variable x
    sums_stay x j = unbound_stay r x (λ b. summand_is.apart x j (subst (λ z. Contains z x) (bound_are_the_parameters (variables q.params) read_fields read_long) b))

    moves_over : ArePutOver before after (term_in r)
    moves_over x j = ⊎_elim
        (λ a. subst (λ z. IsOver after z) (sym (sums_stay x a)) (Contains-append_left (variables s.sums) (v ∷ []) x a))
        (λ a. bound_beside (λ t u. IsOver after t) (variables q.params) read_fields read_fields x
        (beside_maps (λ t u. IsOver after t) (term_in (bound (variables c.columns) (fields_of k.fields (variable v)))) (term_in (bound (variables c.columns) (fields_of k.fields (variable v)))) (place_of c i)
        (λ y b. bound_beside (λ t u. IsOver after t) (variables c.columns) (fields_of k.fields (variable v)) (fields_of k.fields (variable v)) y (fields_over after k.fields (variable v) v_after) (fields_match (variable v)) (place_among c q (place_of c i) place_is y b)))
        read_long a)
        (Contains-append_cases (variables s.sums) (variables q.params) x j)

    calls_over : (cs : List GreibachCall) → ((a : GreibachCall) → Contains cs a → CallIsOver form before a) → (a : GreibachCall) → Contains (map (put_call r) cs) a → AreOver after (terms_of a.args)
    calls_over [] h a j = absurd (contains_none a j)
    calls_over (b ∷ cs) h a j = ⊎_elim
        (λ e. subst (λ (z : GreibachCall). AreOver after (terms_of z.args)) e (puts_over before after (term_in r) moves_over b.args (h b (contains_first b cs)).args))
        (λ m. calls_over cs (λ d l. h d (contains_later b d cs l)) a m)
        (contains_cases (put_call r b) a (map (put_call r) cs) j)

    rest_over : IsOver after (rest_of k (variable v))
    rest_over = (v_after, tt)

    pub further_over : (cs : List GreibachCall) (w : Way) → Contains (ways k c v r cs) w → AllByRecursion (IsOver after) w.further
    further_over [] w o = two_ways (λ z. AllByRecursion (IsOver after) z.further) (way_down k v) (way_out k v) w ((rest_over, tt), tt) (((rest_over, tt), tt), tt) o
    further_over (a ∷ cs) w o = one_way (λ z. AllByRecursion (IsOver after) z.further) (way_up k c v r (a ∷ cs)) w tt o

    next_is_over : (cs : List GreibachCall) → ((a : GreibachCall) → Contains cs a → CallIsOver form before a) → (w : Way) → Contains (ways k c v r cs) w → NextIsOver after (stack_params k v) w.next
    next_is_over [] h w o = two_ways (λ z. NextIsOver after (stack_params k v) z.next) (way_down k v) (way_out k v) w (next_over (rest_over, tt) refl) no_next o
    next_is_over (a ∷ cs) h w o = one_way (λ z. NextIsOver after (stack_params k v) z.next) (way_up k c v r (a ∷ cs)) w
        (next_over (frames_over after (map (put_call r) (a ∷ cs)) (rest_of k (variable v)) (calls_over (a ∷ cs) h) rest_over, tt) refl) o

    pub parts_over : (w : Way) → Contains (ways k c v r s.next) w → AllByRecursion (IsOver after) (stack_parts k v i (put (term_in r) s.condition) w.further)
    parts_over w o = ((v_after, tt), (((v_after, tt), (tt, tt)), (put_over before after (term_in r) moves_over s.condition summand_is.condition, further_over s.next w o)))

    summand_is_linear : (w : Way) → Contains (ways k c v r s.next) w → IsSummand (stack_params k v) (stack_summand k c v i q s w)
    summand_is_linear w o = record {
      condition = joined_over after (stack_parts k v i (put (term_in r) s.condition) w.further) (parts_over w o);
      label = label_over before after r moves_over s.label summand_is.label;
      next = next_is_over s.next summand_is.next w o;
      apart = λ x j m. fits.layout.apart i q s at among (subst (λ z. Contains (variables s.sums) z) (sym (only v x m)) j);
      distinct = summand_is.distinct;
    }
      where
        only : (v x : ℕ) → Contains (v ∷ []) x → v ≡ x
        only v x m = ⊎_elim (λ e. e) (λ n. absurd (contains_none x n)) (contains_cases v x [] m)

pub stacked_linear : StackIsLinear
stacked_linear g k c v form is fits = record {
  distinct = ((λ n. contains_nothing v n), tt);
  summands = λ y h.
      let o = is_among k c v form y h in
      subst (λ z. IsSummand (stack_params k v) z) (sym o.1.is) (summand_is_linear g k c v form is fits o.0 o.1.equation o.1.summand o.1.at o.1.among o.1.way o.1.one_of);
}

-- ---- sorts
module _ (g : Data) (vs : List Sort) (k : StackSymbols) (c : Columns) (v : ℕ) (form : Form) (is : IsForm form) (sorted : FormIsSorted g vs form) (fits : StackFits g k c v form) (declared : Declares vs v (stack_sort k)) where
  rest_sorted : HasSort g vs (rest_of k (variable v)) (stack_sort k)
  rest_sorted = one_sorted g k vs k.rest (stack_sort k) _ (variable v) fits.stack.rest (λ q. cc) declared

  -- calls whose arguments have the sorts of their equations
  abbrev pub CallsSorted : (us : List Sort) → List GreibachCall → Type 0
  CallsSorted us [] = Unit {0}
  CallsSorted us (a ∷ cs) = ((q : FormEquation) × ((slice_get form a.equation ≡ Some q) × HaveSorts g us (terms_of a.args) (sorts q.params))) × CallsSorted us cs

  pub frames_sorted : (us : List Sort) (cs : List GreibachCall) (u : Term) → CallsSorted us cs → HasSort g us u (stack_sort k) → HasSort g us (pushed_on k.names c cs u) (stack_sort k)
  frames_sorted us [] u h i = i
  frames_sorted us (a ∷ cs) u h i =
      push_sorted g k c.columns fits.stack us a.equation (numbered_in c v form a.equation h.0.0 fits.layout h.0.1.0) (columns_of c (slice_get c.places a.equation) a.args) (pushed_on k.names c cs u)
      (subst (λ p. HaveSorts g us (terms_of (columns_of c p a.args)) (sorts c.columns)) (sym (place_at c v form a.equation h.0.0 fits.layout h.0.1.0))
      (columns_sorted g us c h.0.0 (place_of c a.equation) a.args fits.layout.distinct (fits.layout.places a.equation h.0.0 h.0.1.0) (all_closed_fit g us c.defaults (sorts c.columns) fits.defaults) h.0.1.1))
      (frames_sorted us cs u h.1 i)

  module _ (i : ℕ) (q : FormEquation) (s : FormSummand) (at : slice_get form i ≡ Some q) (among : Contains q.summands s) where
    pub moves_sorted : HaveTheirSorts g vs vs (term_in (to_fields k c v i q))
    moves_sorted = bound_has_sort g vs q.params _ (sorted i q at).params
        (place_sorted g vs c q (place_of c i) (fields_of k.fields (variable v)) fits.layout.distinct (fits.layout.places i q at) (fields_sorted g k vs 1 c.columns k.fields (variable v) fits.stack.fields declared))

    abbrev e : Environment
    e = to_fields k c v i q

    calls_sorted : (cs : List GreibachCall) → ((a : GreibachCall) → Contains cs a → CallIsOver form (variables s.sums ++ variables q.params) a)
        → ((a : GreibachCall) (p : FormEquation) → Contains cs a → slice_get form a.equation ≡ Some p → HaveSorts g vs (terms_of a.args) (sorts p.params)) → CallsSorted vs (map (put_call e) cs)
    calls_sorted [] h w = tt
    calls_sorted (a ∷ cs) h w =
        let o = h a (contains_first a cs) in (
          (o.equation, (o.stands, puts_sorted g vs vs (term_in e) moves_sorted a.args (sorts o.equation.params) (w a o.equation (contains_first a cs) o.stands))),
          calls_sorted cs (λ b j. h b (contains_later a b cs j)) (λ b p j. w b p (contains_later a b cs j)),
        )

    has_rest : HasSort g vs (is_pushed k (rest_of k (variable v))) boolean
    has_rest = one_sorted g k vs k.is_push boolean _ (rest_of k (variable v)) fits.stack.is_push (λ q. cc) rest_sorted

    further_sorted : (cs : List GreibachCall) (w : Way) → Contains (ways k c v e cs) w → AllByRecursion (λ t. HasSort g vs t boolean) w.further
    further_sorted [] w o = two_ways (λ z. AllByRecursion (λ t. HasSort g vs t boolean) z.further) (way_down k v) (way_out k v) w (has_rest, tt) ((tt, (has_rest, tt), refl, refl), tt) o
    further_sorted (a ∷ cs) w o = one_way (λ z. AllByRecursion (λ t. HasSort g vs t boolean) z.further) (way_up k c v e (a ∷ cs)) w tt o

    pub parts_sorted : (w : Way) → Contains (ways k c v e s.next) w → AllByRecursion (λ t. HasSort g vs t boolean) (stack_parts k v i (put (term_in e) s.condition) w.further)
    parts_sorted w o = (
      one_sorted g k vs k.is_push boolean _ (variable v) fits.stack.is_push (λ q. cc) declared,
      (
        (tt, (one_sorted g k vs k.pc positive _ (variable v) fits.stack.pc (λ q. cc) declared, ((refl, numbered_in c v form i q fits.layout at), tt)), refl, refl),
        (putting_in_keeps_sorts g vs vs (term_in e) moves_sorted s.condition boolean ((sorted i q at).summands s among).condition, further_sorted s.next w o),
      ),
    )

    next_is_sorted : (cs : List GreibachCall) → CallsSorted vs (map (put_call e) cs) → (w : Way) → Contains (ways k c v e cs) w → NextIsSorted g vs (sorts (stack_params k v)) w.next
    next_is_sorted [] h w o = two_ways (λ z. NextIsSorted g vs (sorts (stack_params k v)) z.next) (way_down k v) (way_out k v) w (next_sorted (rest_sorted, tt)) no_next_to_sort o
    next_is_sorted (a ∷ cs) h w o = one_way (λ z. NextIsSorted g vs (sorts (stack_params k v)) z.next) (way_up k c v e (a ∷ cs)) w
        (next_sorted (frames_sorted vs (map (put_call e) (a ∷ cs)) (rest_of k (variable v)) h rest_sorted, tt)) o

    summand_is_sorted : (w : Way) → Contains (ways k c v e s.next) w → SummandIsSorted g vs (stack_params k v) (stack_summand k c v i q s w)
    summand_is_sorted w o =
        let f = (sorted i q at).summands s among in
        record {
          sums = f.sums;
          sum_sorts = f.sum_sorts;
          condition = joined_sorted g vs (stack_parts k v i (put (term_in e) s.condition) w.further) (parts_sorted w o);
          label = label_sorted g vs vs e moves_sorted s.label f.label;
          next = next_is_sorted s.next (calls_sorted s.next ((is i q at).summands s among).next f.next) w o;
        }

pub stacked_sorted : StackIsSorted
stacked_sorted g vs k c v form is sorted fits declared = record {
  params = λ x j. ⊎_elim (λ q. subst (λ (z : Bound). Declares vs z.var z.sort) q declared) (λ n. absurd (contains_none x n)) (contains_cases _ x [] j);
  param_sorts = λ x j. ⊎_elim (λ q. subst (λ (z : Bound). IsSort g z.sort) q (sort_within g k.names.sort fits.stack.is_struct)) (λ n. absurd (contains_none x n)) (contains_cases _ x [] j);
  summands = λ y h.
      let o = is_among k c v form y h in
      subst (λ z. SummandIsSorted g vs (stack_params k v) z) (sym o.1.is) (summand_is_sorted g vs k c v form is sorted fits declared o.0 o.1.equation o.1.summand o.1.at o.1.among o.1.way o.1.one_of);
}
