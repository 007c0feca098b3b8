-- The encoding and the form answer each other.
use Rattle.std.proofs.Common.{◌≡◌, ◌<◌, ℕ, List, [], ◌∷◌, ◌++◌, map, length, get_or, refl, sym, ap, ◌∙◌, subst, ⊎_elim, Option, Some, None}
use Rattle.std.specs.Prelude.{Contains, slice_get}
use Rattle.std.specs.List.{AllByRecursion}
use Rattle.std.proofs.lemmas.Option.{slice_get-get_or, slice_get_within, get_or_from_slice_get}
use Rattle.std.proofs.lemmas.List.Elements.{Contains-append_cases}
use Rattle.data_theory.specs.Terms.{Sort, boolean, Term, variable, put}
use Rattle.data_theory.specs.Declarations.{Data, Declares, HasSort, HaveSorts}
use Rattle.data_theory.specs.Equations.{ !ᵗ◌}
use Rattle.data_theory.specs.Provable.{reflexive, symmetric, transitive}
use Rattle.data_theory.specs.Environments.{Environment, term_in, bound, terms_of, IsOver, AreOver, Agree}
use Rattle.data_theory.proofs.BooleanLemmas.{negation_true}
use Rattle.data_theory.proofs.EnvironmentLemmas.{contains_nothing, contains_cases as number_cases, front_is_read, bound_are_the_parameters}
use Rattle.process_terms.specs.Theories.{Theory, Equal, IsTrue, IsFalse, IsConsistent, IsOfSort, AreOfSorts, AllTrue, none_left, true_and_more}
use Rattle.process_terms.specs.Labels.{Label, put_label, AgreeInOrder}
use Rattle.process_terms.specs.Processes.{Bound, Table, Process, call, seq_of, close}
use Rattle.process_terms.specs.Steps.{Outcome, Step}
use Rattle.process_terms.proofs.AgreeingLabels.{agree_sym}
use Rattle.bisim_laws.specs.Compositions.{LeftOver, nothing_left_over, pieces_left_over}
use Rattle.bisim_laws.specs.Bisimulations.{Lands, both_end, both_go_on, Answer, Flipped, UpTo, up_to}
use Rattle.bisim_laws.specs.LinearProcesses.{Linear, variables, sorts, state_of, IsLinear, IsWellSorted, AreBound, reading, put_next, outcome_of, Does, Fires}
use Rattle.bisim_laws.specs.BaseStates.{Chain, one_piece, more_pieces, GreibachCall, IsCall, is_call, Columns, columns_of, pushed, HasItsArguments, StackState, stack_state}
use Rattle.bisim_laws.specs.Links.{Stack}
use Rattle.bisim_laws.proofs.Firing.{contains_first, contains_later, reading_same, reading_agrees, bound_reads, fired, fire}
use Rattle.bisim_laws.proofs.SortedFiring.{firings_keep}
use Rattle.bisim_laws.proofs.AlikeProcesses.{alike_refl}
use Rattle.bisim_laws.proofs.ComposedLinks.{up_to_enough}
use Rattle.bisim_laws.proofs.PieceByPiece.{FirstStep, first_step, Lifts, lifts, some_piece}
use Rattle.lps_core.specs.Conditions.{AreConditionsOnce}
use Rattle.bisim_laws.specs.LinearProcesses.{beside_reading}
use Rattle.greibach.specs.Forms.{FormSummand, FormEquation, Form, call_body, form_table, CallIsOver, IsForm, IsFormSummand, FormIsSorted, after_calls, FormFires}
use Rattle.lps_core.proofs.Chains.{joined_true}
use Rattle.bisim_laws.proofs.SideBySide.{in_front_agree, reads_behind, bound_along}
use Rattle.lps_core.proofs.Environments.{readings_to}
use Rattle.std.proofs.lemmas.List.{length-map}
use Rattle.lps_core.proofs.SortedTerms.{HaveTerms, closed_instance, bound_have_terms, read_bound, both_have_terms}
use Rattle.greibach.proofs.FormFiring.{form_fired, form_fire}
use Rattle.stack_encoder.specs.StackEncoding.{StackSymbols, stack_sort, is_pushed, rest_of, fields_of, to_fields, put_call, Way, way_down, way_out, way_up, ways, stack_parts, stack_summand, stack_params, stacked, StackFits, StackIsBisimilar}
use Rattle.stack_encoder.proofs.Rows.{Beside, beside_maps, bound_beside, columns_long, place_sorted}
use Rattle.regular_encoder.proofs.Encoded.{place_long, place_among}
use Rattle.stack_encoder.proofs.StackTerms.{one_sorted, push_parts, empty_rejected, push_accepted, pc_holds, pc_tells, fields_equal, rest_equal}
use Rattle.stack_encoder.proofs.StackSummands.{one_way, two_ways, AmongAt, is_among, stands_among}
use Rattle.stack_encoder.proofs.StackShape.{place_at, numbered_in, defaults_long, defaults_match, fields_match, read_long, sums_stay, parts_over, parts_sorted, CallsSorted, frames_sorted, stacked_linear, stacked_sorted}
use Rattle.stack_encoder.proofs.Through.{EqualThrough, term_through, label_through, frames_equal, on_top}
use Rattle.regular_encoder.specs.Encoding.{place_of, IsPlace}

-- ---- calls
called : {d : Table} {p : Process} {a : GreibachCall} → IsCall d p a → p ≡ call d a.equation a.args
called is_call = refl

calls_chain : (d : Table) (e : Environment) (a : GreibachCall) (cs : List GreibachCall) → Chain (IsCall d) (close d e (seq_of (map call_body (a ∷ cs)))) (map (put_call e) (a ∷ cs))
calls_chain d e a [] = one_piece is_call
calls_chain d e a (b ∷ cs) = more_pieces (put_call e a ∷ []) (map (put_call e) (b ∷ cs)) (one_piece is_call) (calls_chain d e b cs)

-- what is left after a form's step goes along its calls
left_after : (th : Theory) (d : Table) (e : Environment) (cs : List GreibachCall) → LeftOver th (IsCall d) (after_calls d e cs) (map (put_call e) cs)
left_after th d e [] = nothing_left_over
left_after th d e (a ∷ cs) = pieces_left_over (alike_refl th _) (calls_chain d e a cs)

-- what is left on the stack
data StackLeft (th : Theory) (k : StackSymbols) (c : Columns) : Option (List Term) → List GreibachCall → Type 0 where
  stack_over : StackLeft th k c None []
  frames_left : {a : GreibachCall} {calls : List GreibachCall} {t : Term} → AllByRecursion (HasItsArguments c) (a ∷ calls) → IsOfSort th (stack_sort k) (pushed k.names c (a ∷ calls)) → IsOfSort th (stack_sort k) t
      → Equal th t (pushed k.names c (a ∷ calls)) → StackLeft th k c (Some (t ∷ [])) (a ∷ calls)

only_one : {th : Theory} {t : Term} → AllTrue th (t ∷ []) → IsTrue th t
only_one (true_and_more h k) = h

true_head : {th : Theory} {t : Term} {ts : List Term} → AllTrue th (t ∷ ts) → IsTrue th t × AllTrue th ts
true_head (true_and_more h k) = (h, k)

all_closed : (g : Data) (vs : List Sort) (xs : List ℕ) (e : ℕ → Term) → HaveTerms g vs xs e → (cs : List Term) → AllByRecursion (IsOver xs) cs → AllByRecursion (λ c. HasSort g vs c boolean) cs → AreConditionsOnce g e cs
all_closed g vs xs e f [] h k = tt
all_closed g vs xs e f (c ∷ cs) h k = (closed_instance g vs xs e f c boolean h.0 k.0, all_closed g vs xs e f cs h.1 k.1)

closed_args : (g : Data) (vs : List Sort) (xs : List ℕ) (e : ℕ → Term) → HaveTerms g vs xs e → (ts : List Term) (ss : List Sort) → AreOver xs (terms_of ts) → HaveSorts g vs (terms_of ts) ss → HaveSorts g [] (terms_of (map (put e) ts)) ss
closed_args g vs xs e f [] [] h k = tt
closed_args g vs xs e f [] (s ∷ ss) h k = absurd k
closed_args g vs xs e f (t ∷ ts) [] h k = absurd k
closed_args g vs xs e f (t ∷ ts) (s ∷ ss) h k = (closed_instance g vs xs e f t s h.0 k.0, closed_args g vs xs e f ts ss h.1 k.1)

head_same : {t u : Term} {ts us : List Term} → t ∷ ts ≡ u ∷ us → t ≡ u
head_same e = cc

apart_from : (ys : List ℕ) (v x : ℕ) → (Contains ys v → ⊥) → Contains ys x → Contains (v ∷ []) x → ⊥
apart_from ys v x n i j = ⊎_elim (λ e. n (subst (λ z. Contains ys z) (sym e) i)) (λ m. contains_nothing x m) (number_cases v x [] j)

all_joined : {A : Type 0} (P : A → Type 0) (xs ys : List A) → AllByRecursion P xs → AllByRecursion P ys → AllByRecursion P (xs ++ ys)
all_joined P [] ys h k = k
all_joined P (x ∷ xs) ys h k = (h.0, all_joined P xs ys h.1 k)

put_fields : (th : Theory) (d : Environment) (v : ℕ) (ps : List ℕ) (cs : List Term) → Beside (λ x y. Equal th x y) (fields_of ps (term_in d v)) cs → Beside (λ x y. Equal th (put (term_in d) x) y) (fields_of ps (variable v)) cs
put_fields th d v [] [] h = tt
put_fields th d v [] (c ∷ cs) h = absurd h
put_fields th d v (p ∷ ps) [] h = absurd h
put_fields th d v (p ∷ ps) (c ∷ cs) h = (h.0, put_fields th d v ps cs h.1)

-- the arguments are read back at their places
args_of : (c : Columns) (q : FormEquation) (place : List ℕ) (ts : List Term) → IsPlace c q place → length ts ≡ length place → reading (bound (variables c.columns) (columns_of c (Some place) ts)) place ≡ ts
args_of c q place ts p long =
    let e = bound place ts ++ bound (variables c.columns) c.defaults in
    readings_to (term_in e) (variables c.columns) place (place_among c q place p)
    ∙ reading_same place e (bound place ts) (λ u i. front_is_read (bound place ts) (bound (variables c.columns) c.defaults) u (subst (λ z. Contains z u) (sym (bound_are_the_parameters place ts long)) i))
    ∙ bound_reads place ts long p.distinct

-- the linear process does the label, and leaves these calls
record StackAnswer (th : Theory) (k : StackSymbols) (c : Columns) (l : Linear) (t : Term) (m : Label) (ys : List GreibachCall) : Type 0 where
  label : Label
  next : Option (List Term)
  fires : Fires th l (t ∷ []) label next
  agree : AgreeInOrder th m label
  left : StackLeft th k c next ys

-- the form does it
record FormAnswer (th : Theory) (k : StackSymbols) (c : Columns) (form : Form) (q : FormEquation) (ts : List Term) (others : List GreibachCall) (m : Label) (next : Option (List Term)) : Type 0 where
  label : Label
  environment : Environment
  calls : List GreibachCall
  fires : FormFires th form q ts label (after_calls (form_table form) environment calls)
  agree : AgreeInOrder th m label
  left : StackLeft th k c next (map (put_call environment) calls ++ others)

module _ (th : Theory) (vs : List Sort) (k : StackSymbols) (c : Columns) (v : ℕ) (form : Form) (con : IsConsistent th) (is : IsForm form) (sorted : FormIsSorted th.declared vs form) (fits : StackFits th.declared k c v form) (declared : Declares vs v (stack_sort k)) where
  abbrev L : Linear
  L = stacked k c v form

  abbrev R : Process → Process → Type 0
  R = StackState th (form_table form) k.names c L

  linear : IsLinear L
  linear = stacked_linear th.declared k c v form is fits

  well : IsWellSorted th.declared vs L
  well = stacked_sorted th.declared vs k c v form is sorted fits declared

  not_both : {t : Term} → IsTrue th t → IsFalse th t → ⊥
  not_both h n = con (transitive (symmetric h) n)

  conditions_at : (d : Environment) → IsOfSort th (stack_sort k) (term_in d v) → (n : ℕ) (q : FormEquation) (s : FormSummand) (w : Way) → Contains (ways k c v (to_fields k c v n q) s.next) w → AreBound th s.sums d
      → (at : slice_get form n ≡ Some q) (among : Contains q.summands s) → AreConditionsOnce th.declared (term_in d) (stack_parts k v n (put (term_in (to_fields k c v n q)) s.condition) w.further)
  conditions_at d stack n q s w o b at among =
      all_closed th.declared vs (variables s.sums ++ variables (stack_params k v)) (term_in d)
      (both_have_terms th.declared vs (variables s.sums) (variables (stack_params k v)) (term_in d)
      (bound_have_terms th vs s.sums d ((sorted n q at).summands s among).sums b)
      (bound_have_terms th vs (stack_params k v) d well.params (read_bound th (stack_params k v) d (stack, tt))))
      (stack_parts k v n (put (term_in (to_fields k c v n q)) s.condition) w.further)
      (parts_over th.declared k c v form is fits n q s at among w o)
      (parts_sorted th.declared vs k c v form is sorted fits declared n q s at among w o)

  -- ---- what the rest of the stack says
  rest_of_frames : (os : List GreibachCall) (b : GreibachCall) (u : Term) → IsOfSort th (stack_sort k) (pushed k.names c (b ∷ os)) → Equal th u (pushed k.names c (b ∷ os)) → IsTrue th (is_pushed k u)
  rest_of_frames os b u s e = push_accepted th fits.is_data k c.columns fits.stack b.equation (columns_of c (slice_get c.places b.equation) b.args) (pushed k.names c os) u s e

  go_down : (os : List GreibachCall) (u : Term) → AllByRecursion (HasItsArguments c) os → IsOfSort th (stack_sort k) (pushed k.names c os) → IsOfSort th (stack_sort k) u → Equal th u (pushed k.names c os) → IsTrue th (is_pushed k u) → StackLeft th k c (Some (u ∷ [])) os
  go_down [] u h s w e t = absurd (not_both t (empty_rejected th fits.is_data k c.columns fits.stack u e))
  go_down (b ∷ os) u h s w e t = frames_left h s w e

  go_out : (os : List GreibachCall) (u : Term) → IsOfSort th (stack_sort k) (pushed k.names c os) → IsOfSort th (stack_sort k) u → Equal th u (pushed k.names c os) → IsTrue th (!ᵗ (is_pushed k u)) → StackLeft th k c None os
  go_out [] u s w e t = stack_over
  go_out (b ∷ os) u s w e t =
      absurd (not_both (rest_of_frames os b u s e) ((negation_true th.declared th.equations (is_pushed k u) (one_sorted th.declared k [] k.is_push boolean _ u fits.stack.is_push (λ q. cc) w)).0 t))

  -- ---- a call on the stack, with the stack that an environment has
  module _ (a : GreibachCall) (others : List GreibachCall) (q : FormEquation) (at : slice_get form a.equation ≡ Some q) (has : AllByRecursion (HasItsArguments c) (a ∷ others)) (whole : IsOfSort th (stack_sort k) (pushed k.names c (a ∷ others))) where
    abbrev i : ℕ
    i = a.equation

    abbrev cols : List Term
    cols = columns_of c (slice_get c.places i) a.args

    abbrev below : Term
    below = pushed k.names c others

    cols_long : length cols ≡ length c.columns
    cols_long = columns_long c (slice_get c.places i) a.args (defaults_long th.declared k c v form is fits)

    place_is : IsPlace c q (place_of c i)
    place_is = fits.layout.places i q at

    args_long : length a.args ≡ length (place_of c i)
    args_long = has.0.long ∙ ap length (sym (get_or_from_slice_get c.places i has.0.place [] has.0.at))

    args_read : reading (bound (variables c.columns) cols) (place_of c i) ≡ a.args
    args_read =
        ap (λ p. reading (bound (variables c.columns) (columns_of c p a.args)) (place_of c i)) (place_at c v form i q fits.layout at)
        ∙ args_of c q (place_of c i) a.args place_is args_long

    params_long : length a.args ≡ length (variables q.params)
    params_long = args_long ∙ place_long c q (place_of c i) place_is

    frame_parts : AreOfSorts th (sorts c.columns) cols × IsOfSort th (stack_sort k) below
    frame_parts = push_parts th.declared k c.columns fits.stack [] i cols below whole

    args_sorted : AreOfSorts th (sorts q.params) a.args
    args_sorted = subst (λ ts. AreOfSorts th (sorts q.params) ts) args_read (place_sorted th.declared [] c q (place_of c i) cols fits.layout.distinct place_is frame_parts.0)

    module _ (d : Environment) (stack : IsOfSort th (stack_sort k) (term_in d v)) (equal : Equal th (term_in d v) (pushed k.names c (a ∷ others))) where
      abbrev on_rest : Term
      on_rest = rest_of k (term_in d v)

      rest_sorted : IsOfSort th (stack_sort k) on_rest
      rest_sorted = one_sorted th.declared k [] k.rest (stack_sort k) _ (term_in d v) fits.stack.rest (λ q. cc) stack

      rest_is : Equal th on_rest below
      rest_is = rest_equal th fits.is_data k c.columns fits.stack i cols below (term_in d v) whole equal cols_long

      -- the fields are provably the arguments
      fields_are : Beside (λ x y. Equal th (put (term_in d) x) y) (reading (bound (variables c.columns) (fields_of k.fields (variable v))) (place_of c i)) a.args
      fields_are =
          subst (λ ts. Beside (λ x y. Equal th (put (term_in d) x) y) (reading (bound (variables c.columns) (fields_of k.fields (variable v))) (place_of c i)) ts) args_read
          (beside_maps (λ x y. Equal th (put (term_in d) x) y) (term_in (bound (variables c.columns) (fields_of k.fields (variable v)))) (term_in (bound (variables c.columns) cols)) (place_of c i)
          (λ y b. bound_beside (λ x y. Equal th (put (term_in d) x) y) (variables c.columns) (fields_of k.fields (variable v)) cols y
          (put_fields th d v k.fields cols (fields_equal th fits.is_data k c.columns fits.stack i cols below (term_in d v) whole equal cols_long))
          (fields_match th.declared k c v form is fits (variable v)) (place_among c q (place_of c i) place_is y b)))

      module _ (s : FormSummand) (among : Contains q.summands s) where
        abbrev r : Environment
        r = to_fields k c v i q

        abbrev xs : List ℕ
        xs = variables s.sums ++ variables q.params

        summand_is : IsFormSummand form q.params s
        summand_is = (is i q at).summands s among

        through : (e : Environment) → reading e (variables q.params) ≡ a.args → Agree (variables s.sums) (term_in d) (term_in e) → EqualThrough th xs r d e
        through e w g x j = ⊎_elim
            (λ m. subst (λ z. Equal th (put (term_in d) z) (term_in e x)) (sym (sums_stay th.declared k c v form is fits i q s at among x m)) (subst (λ z. Equal th z (term_in e x)) (sym (g x m)) reflexive))
            (λ m. subst (λ z. Equal th (put (term_in d) (term_in r x)) z) (reading_agrees (variables q.params) (bound (variables q.params) a.args) e (bound_reads (variables q.params) a.args params_long (is i q at).distinct ∙ sym w) x m)
            (bound_beside (λ x y. Equal th (put (term_in d) x) y) (variables q.params) _ a.args x fields_are (read_long th.declared k c v form is fits i q s at among) m))
            (Contains-append_cases (variables s.sums) (variables q.params) x j)

        -- the terms of the calls that are pushed
        terms_at : (e : Environment) → reading e (variables q.params) ≡ a.args → AreBound th s.sums e → HaveTerms th.declared vs xs (term_in e)
        terms_at e w b =
            both_have_terms th.declared vs (variables s.sums) (variables q.params) (term_in e)
            (bound_have_terms th vs s.sums e ((sorted i q at).summands s among).sums b)
            (bound_have_terms th vs q.params e (sorted i q at).params (read_bound th q.params e (subst (λ us. AreOfSorts th (sorts q.params) us) (sym w) args_sorted)))

        new_sorted : (e : Environment) → HaveTerms th.declared vs xs (term_in e) → (cs : List GreibachCall) → ((b : GreibachCall) → Contains cs b → CallIsOver form xs b)
            → ((b : GreibachCall) (p : FormEquation) → Contains cs b → slice_get form b.equation ≡ Some p → HaveSorts th.declared vs (terms_of b.args) (sorts p.params))
            → CallsSorted th.declared vs k c v form is sorted fits declared [] (map (put_call e) cs)
        new_sorted e f [] h w = tt
        new_sorted e f (b ∷ cs) h w =
            let o = h b (contains_first b cs) in (
              (o.equation, (o.stands, closed_args th.declared vs xs (term_in e) f b.args (sorts o.equation.params) o.args (w b o.equation (contains_first b cs) o.stands))),
              new_sorted e f cs (λ z j. h z (contains_later b z cs j)) (λ z p j. w z p (contains_later b z cs j)),
            )

        new_have : (e : Environment) (cs : List GreibachCall) → ((b : GreibachCall) → Contains cs b → CallIsOver form xs b) → AllByRecursion (HasItsArguments c) (map (put_call e) cs)
        new_have e [] h = tt
        new_have e (b ∷ cs) h =
            let o = h b (contains_first b cs) in (
              record {
                place = place_of c b.equation;
                at = place_at c v form b.equation o.equation fits.layout o.stands;
                long = length-map b.args (put (term_in e)) ∙ o.long ∙ sym (length-map o.equation.params (λ (x : Bound). x.var)) ∙ sym (place_long c o.equation (place_of c b.equation) (fits.layout.places b.equation o.equation o.stands));
              },
              new_have e cs (λ z j. h z (contains_later b z cs j)),
            )

        -- where a way leads
        leads : (e : Environment) → EqualThrough th xs r d e → HaveTerms th.declared vs xs (term_in e) → (cs : List GreibachCall) → ((b : GreibachCall) → Contains cs b → CallIsOver form xs b)
            → ((b : GreibachCall) (p : FormEquation) → Contains cs b → slice_get form b.equation ≡ Some p → HaveSorts th.declared vs (terms_of b.args) (sorts p.params))
            → (w : Way) → Contains (ways k c v r cs) w → AllTrue th (map (put (term_in d)) w.further) → ((us : List Term) → Some us ≡ put_next d w.next → AreOfSorts th (sorts (stack_params k v)) us)
            → StackLeft th k c (put_next d w.next) (map (put_call e) cs ++ others)
        leads e g f [] h p w o = two_ways
            (λ z. AllTrue th (map (put (term_in d)) z.further) → ((us : List Term) → Some us ≡ put_next d z.next → AreOfSorts th (sorts (stack_params k v)) us) → StackLeft th k c (put_next d z.next) others)
            (way_down k v) (way_out k v) w
            (λ t n. go_down others on_rest has.1 frame_parts.1 rest_sorted rest_is (only_one t))
            (λ t n. go_out others on_rest frame_parts.1 rest_sorted rest_is (only_one t))
            o
        leads e g f (b ∷ cs) h p w o = one_way
            (λ z. AllTrue th (map (put (term_in d)) z.further) → ((us : List Term) → Some us ≡ put_next d z.next → AreOfSorts th (sorts (stack_params k v)) us) → StackLeft th k c (put_next d z.next) (map (put_call e) (b ∷ cs) ++ others))
            (way_up k c v r (b ∷ cs)) w
            (λ t n. frames_left
            (all_joined (HasItsArguments c) (map (put_call e) (b ∷ cs)) others (new_have e (b ∷ cs) h) has.1)
            (subst (λ z. IsOfSort th (stack_sort k) z) (on_top k c (map (put_call e) (b ∷ cs)) others)
            (frames_sorted th.declared vs k c v form is sorted fits declared [] (map (put_call e) (b ∷ cs)) below (new_sorted e f (b ∷ cs) h p) frame_parts.1))
            (n _ refl).0
            (frames_equal th k c (defaults_match th.declared k c v form is fits) fits.defaults xs r d e g (b ∷ cs) (λ z j. (h z j).args) (rest_of k (variable v)) others rest_is))
            o

        -- some way is open
        open_below : (os : List GreibachCall) → IsOfSort th (stack_sort k) (pushed k.names c os) → Equal th on_rest (pushed k.names c os) → (w : Way) × (Contains (ways k c v r []) w × AllTrue th (map (put (term_in d)) w.further))
        open_below [] n u = (
          way_out k v,
          (
            contains_later (way_down k v) (way_out k v) (way_out k v ∷ []) (contains_first (way_out k v) []),
            true_and_more ((negation_true th.declared th.equations (is_pushed k on_rest) (one_sorted th.declared k [] k.is_push boolean _ on_rest fits.stack.is_push (λ q. cc) rest_sorted)).1 (empty_rejected th fits.is_data k c.columns fits.stack on_rest u)) none_left,
          ),
        )
        open_below (b ∷ os) n u = (way_down k v, (contains_first (way_down k v) (way_out k v ∷ []), true_and_more (rest_of_frames os b on_rest n u) none_left))

        open_way : (cs : List GreibachCall) → (w : Way) × (Contains (ways k c v r cs) w × AllTrue th (map (put (term_in d)) w.further))
        open_way [] = open_below others frame_parts.1 rest_is
        open_way (b ∷ cs) = (way_up k c v r (b ∷ cs), (contains_first (way_up k c v r (b ∷ cs)) [], none_left))

    -- ---- the form's firing, and the stack's
    forth_at : (t : Term) → IsOfSort th (stack_sort k) t → Equal th t (pushed k.names c (a ∷ others)) → {m : Label} {z : Outcome} (f : FormFires th form q a.args m z)
        → StackAnswer th k c L t m (map (put_call f.environment) f.summand.next ++ others)
    forth_at t st eq {m} f =
        let s = f.summand in
        let e = f.environment in
        let is_s = (is i q at).summands s f.among in
        let d = beside_reading e (variables s.sums) (bound (v ∷ []) (t ∷ [])) in
        let h : reading d (v ∷ []) ≡ t ∷ [] = reads_behind e (variables s.sums) (v ∷ []) (t ∷ []) (λ x j n. apart_from (variables s.sums) v x (fits.layout.apart i q s at f.among) j n) ((λ n. contains_nothing v n), tt) refl in
        let dv : term_in d v ≡ t = head_same h in
        let stack : IsOfSort th (stack_sort k) (term_in d v) = subst (λ z. IsOfSort th (stack_sort k) z) (sym dv) st in
        let equal : Equal th (term_in d v) (pushed k.names c (a ∷ others)) = subst (λ z. Equal th z (pushed k.names c (a ∷ others))) (sym dv) eq in
        let g : Agree (variables s.sums) (term_in d) (term_in e) = in_front_agree e (bound (v ∷ []) (t ∷ [])) (variables s.sums) is_s.distinct in
        let xs = variables s.sums ++ variables q.params in
        let y = to_fields k c v i q in
        let thr : EqualThrough th xs y d e = through d stack equal s f.among e f.reads g in
        let b : AreBound th s.sums d = bound_along th s.sums d e g f.bound in
        let o = open_way d stack equal s f.among s.next in
        let x = stack_summand k c v i q s o.0 in
        let cs = stack_parts k v i (put (term_in y) s.condition) o.0.further in
        let fires : Fires th L (t ∷ []) (put_label d x.label) (put_next d x.next) = record {
          summand = x;
          among = stands_among k c v form i q s o.0 at f.among o.1.0;
          environment = d;
          reads = h;
          bound = b;
          does = record {
            holds = (joined_true th (term_in d) cs (conditions_at d stack i q s o.0 o.1.0 b at f.among)).0
                (true_and_more (push_accepted th fits.is_data k c.columns fits.stack i cols below (term_in d v) whole equal)
                (true_and_more (pc_holds th fits.is_data k c.columns fits.stack i cols below (term_in d v) whole equal)
                (true_and_more (transitive (term_through th xs y d e thr s.condition is_s.condition) f.holds) o.1.1)));
            label = refl;
            onward = refl;
          };
        } in
        record {
          label = put_label d x.label;
          next = put_next d x.next;
          fires = fires;
          agree = subst (λ z. AgreeInOrder th z (put_label d x.label)) (sym f.label) (agree_sym (label_through th xs y d e thr s.label is_s.label));
          left = leads d stack equal s f.among e thr (terms_at d stack equal s f.among e f.reads f.bound) s.next is_s.next ((sorted i q at).summands s f.among).next o.0 o.1.0 o.1.1
              (λ us w. firings_keep th vs L (t ∷ []) us (put_label d x.label) linear well (st, tt) (subst (λ z. Fires th L (t ∷ []) (put_label d x.label) z) (sym w) fires));
        }

    back_at : (t : Term) → IsOfSort th (stack_sort k) t → Equal th t (pushed k.names c (a ∷ others)) → {m : Label} {next : Option (List Term)} (f : Fires th L (t ∷ []) m next)
        → (s : FormSummand) → Contains q.summands s → (w : Way) → Contains (ways k c v (to_fields k c v i q) s.next) w → f.summand ≡ stack_summand k c v i q s w
        → FormAnswer th k c form q a.args others m next
    back_at t st eq {m} {next} f s among w o same =
        let is_s = (is i q at).summands s among in
        let d = f.environment in
        let dv : term_in d v ≡ t = head_same f.reads in
        let stack : IsOfSort th (stack_sort k) (term_in d v) = subst (λ z. IsOfSort th (stack_sort k) z) (sym dv) st in
        let equal : Equal th (term_in d v) (pushed k.names c (a ∷ others)) = subst (λ z. Equal th z (pushed k.names c (a ∷ others))) (sym dv) eq in
        let x = stack_summand k c v i q s w in
        let does : Does th x d m next = subst (λ z. Does th z d m next) same f.does in
        let b : AreBound th s.sums d = subst (λ z. AreBound th z.sums d) same f.bound in
        let e = beside_reading d (variables s.sums) (bound (variables q.params) a.args) in
        let reads : reading e (variables q.params) ≡ a.args = reads_behind d (variables s.sums) (variables q.params) a.args is_s.apart (is i q at).distinct params_long in
        let g : Agree (variables s.sums) (term_in e) (term_in d) = in_front_agree d (bound (variables q.params) a.args) (variables s.sums) is_s.distinct in
        let be : AreBound th s.sums e = bound_along th s.sums e d g b in
        let xs = variables s.sums ++ variables q.params in
        let y = to_fields k c v i q in
        let thr : EqualThrough th xs y d e = through d stack equal s among e reads (λ z j. sym (g z j)) in
        let cs = stack_parts k v i (put (term_in y) s.condition) w.further in
        let own = (true_head (true_head (true_head ((joined_true th (term_in d) cs (conditions_at d stack i q s w o b at among)).1 does.holds)).1).1) in
        record {
          label = put_label e s.label;
          environment = e;
          calls = s.next;
          fires = record {
            summand = s;
            among = among;
            environment = e;
            reads = reads;
            bound = be;
            holds = transitive (symmetric (term_through th xs y d e thr s.condition is_s.condition)) own.0;
            label = refl;
            outcome = refl;
          };
          agree = subst (λ z. AgreeInOrder th z (put_label e s.label)) (sym does.label) (label_through th xs y d e thr s.label is_s.label);
          left = subst (λ z. StackLeft th k c z (map (put_call e) s.next ++ others)) (sym does.onward)
              (leads d stack equal s among e thr (terms_at d stack equal s among e reads be) s.next is_s.next ((sorted i q at).summands s among).next w o own.1
              (λ us u. firings_keep th vs L (t ∷ []) us m linear well (st, tt) (subst (λ z. Fires th L (t ∷ []) m z) (does.onward ∙ sym u) f)));
        }

  -- a summand that fires is one of the top call's equation
  same_equation : (a : GreibachCall) (others : List GreibachCall) → IsOfSort th (stack_sort k) (pushed k.names c (a ∷ others)) → (t : Term) → IsOfSort th (stack_sort k) t → Equal th t (pushed k.names c (a ∷ others))
      → {m : Label} {next : Option (List Term)} (f : Fires th L (t ∷ []) m next) (n : ℕ) → AmongAt k c v form n f.summand → a.equation ≡ n
  same_equation a others whole t st eq {m} {next} f n o =
      let d = f.environment in
      let dv : term_in d v ≡ t = head_same f.reads in
      let stack : IsOfSort th (stack_sort k) (term_in d v) = subst (λ z. IsOfSort th (stack_sort k) z) (sym dv) st in
      let x = stack_summand k c v n o.equation o.summand o.way in
      let does : Does th x d m next = subst (λ z. Does th z d m next) o.is f.does in
      let b : AreBound th o.summand.sums d = subst (λ z. AreBound th z.sums d) o.is f.bound in
      let cs = stack_parts k v n (put (term_in (to_fields k c v n o.equation)) o.summand.condition) o.way.further in
      let all = true_head (true_head ((joined_true th (term_in d) cs (conditions_at d stack n o.equation o.summand o.way o.one_of b o.at o.among)).1 does.holds)).1 in
      pc_tells th fits.is_data k c.columns fits.stack a.equation (columns_of c (slice_get c.places a.equation) a.args) (pushed k.names c others) (term_in d v) whole
      (subst (λ z. Equal th z (pushed k.names c (a ∷ others))) (sym dv) eq) con n (numbered_in c v form n o.equation fits.layout o.at) all.0

  -- ---- states
  equation_of : (a : GreibachCall) → HasItsArguments c a → (q : FormEquation) × (slice_get form a.equation ≡ Some q)
  equation_of a h = (get_or form a.equation nothing, slice_get-get_or form a.equation nothing (subst (λ n. a.equation < n) fits.layout.long (slice_get_within c.places a.equation h.place h.at)))
    where
      nothing : FormEquation
      nothing = record { params = []; summands = [] }

  lands_on : {z : Outcome} {next : Option (List Term)} {ys : List GreibachCall} → LeftOver th (IsCall (form_table form)) z ys → StackLeft th k c next ys → Lands (UpTo th R) z (outcome_of L next)
  lands_on nothing_left_over stack_over = both_end
  lands_on (pieces_left_over h ch) stack_over = absurd (some_piece ch refl)
  lands_on (pieces_left_over h ch) (frames_left has whole st eq) = both_go_on (up_to h (stack_state ch has whole st eq) (alike_refl th _))

  lands_turned : {S : Process → Process → Type 0} {r s : Outcome} → Lands S r s → Lands (Flipped S) s r
  lands_turned both_end = both_end
  lands_turned (both_go_on h) = both_go_on h

  forth_from : (calls : List GreibachCall) (t : Term) → AllByRecursion (HasItsArguments c) calls → IsOfSort th (stack_sort k) (pushed k.names c calls) → IsOfSort th (stack_sort k) t → Equal th t (pushed k.names c calls)
      → (m : Label) (z : Outcome) → FirstStep th (IsCall (form_table form)) calls m z → Answer th (UpTo th R) (state_of L (t ∷ [])) m z
  forth_from calls t has whole st eq m z f =
      let a = f.first in
      let has' = subst (λ l. AllByRecursion (HasItsArguments c) l) f.is has in
      let w = equation_of a has'.0 in
      let fires = form_fired th form a.equation w.0 a.args m f.to w.1 (is a.equation w.0 w.1) (subst (λ p. Step th p m f.to) (called f.stands) f.step) in
      let ans = forth_at a f.others w.0 w.1 has' (subst (λ l. IsOfSort th (stack_sort k) (pushed k.names c l)) f.is whole) t st (subst (λ l. Equal th t (pushed k.names c l)) f.is eq) fires in
      let left = f.then_left (map (put_call fires.environment) fires.summand.next)
      (subst (λ o. LeftOver th (IsCall (form_table form)) o (map (put_call fires.environment) fires.summand.next)) (sym fires.outcome) (left_after th (form_table form) fires.environment fires.summand.next)) in
      record { label = ans.label; outcome = outcome_of L ans.next; step = fire th L (t ∷ []) ans.label ans.next linear ans.fires; agree = ans.agree; lands = lands_on left ans.left }

  back_from : (p : Process) (calls : List GreibachCall) (t : Term) → AllByRecursion (HasItsArguments c) calls → IsOfSort th (stack_sort k) (pushed k.names c calls) → IsOfSort th (stack_sort k) t → Equal th t (pushed k.names c calls)
      → (m : Label) (next : Option (List Term)) → Fires th L (t ∷ []) m next → Lifts th (IsCall (form_table form)) p calls → Answer th (Flipped (UpTo th R)) p m (outcome_of L next)
  back_from p calls t has whole st eq m next f l =
      let a = l.first in
      let has' = subst (λ z. AllByRecursion (HasItsArguments c) z) l.is has in
      let whole' = subst (λ z. IsOfSort th (stack_sort k) (pushed k.names c z)) l.is whole in
      let eq' = subst (λ z. Equal th t (pushed k.names c z)) l.is eq in
      let any = is_among k c v form f.summand f.among in
      let o = subst (λ n. AmongAt k c v form n f.summand) (sym (same_equation a l.others whole' t st eq' f any.0 any.1)) any.1 in
      let ans = back_at a l.others o.equation o.at has' whole' t st eq' f o.summand o.among o.way o.one_of o.is in
      let r = after_calls (form_table form) ans.environment ans.calls in
      let step = form_fire th form a.equation o.equation a.args ans.label r o.at (is a.equation o.equation o.at) ans.fires in
      let up = l.lift ans.label r (map (put_call ans.environment) ans.calls) (subst (λ z. Step th z ans.label r) (sym (called l.stands)) step) (left_after th (form_table form) ans.environment ans.calls) in
      record { label = ans.label; outcome = up.outcome; step = up.step; agree = ans.agree; lands = lands_turned (lands_on up.left ans.left) }

  forth : (p q : Process) (m : Label) (r : Outcome) → R p q → Step th p m r → Answer th (UpTo th R) q m r
  forth p q m r (stack_state {calls = calls} {t = t} ch has whole st eq) step = forth_from calls t has whole st eq m r (first_step th ch step)

  back : (p q : Process) (m : Label) (r : Outcome) → R q p → Step th p m r → Answer th (Flipped (UpTo th R)) q m r
  back p q m r (stack_state {calls = calls} {t = t} ch has whole st eq) step =
      let f = fired th L (t ∷ []) m r linear step in
      subst (λ z. Answer th (Flipped (UpTo th R)) q m z) (sym f.1.1) (back_from q calls t has whole st eq m f.0 f.1.0 (lifts th ch))

pub stacked_bisimilar : StackIsBisimilar
stacked_bisimilar th vs k c v form con is sorted fits declared =
    up_to_enough th (Stack (form_table form) k.names c (stacked k c v form)) tt
    (record { forth = forth th vs k c v form con is sorted fits declared; back = back th vs k c v form con is sorted fits declared })
