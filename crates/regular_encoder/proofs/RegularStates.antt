-- The encoding and the form answer each other.
use Rattle.std.proofs.Common.{◌≡◌, ◌+◌, ◌<◌, ◌≤◌, ℕ, suc, Bool, true, false, List, [], ◌∷◌, ◌++◌, map, length, get_or, refl, sym, ap, ◌∙◌, subst, arith, Option, Some}
use Rattle.std.specs.Prelude.{Contains, slice_get, pos}
use Rattle.std.specs.List.{AllByRecursion}
use Rattle.std.proofs.lemmas.Option.{slice_get-get_or, slice_get_within, get_or_from_slice_get}
use Rattle.data_theory.specs.Terms.{Sort, boolean, positive, Term, put}
use Rattle.data_theory.specs.Declarations.{Data, HasSort}
use Rattle.data_theory.specs.Equations.{equals}
use Rattle.data_theory.specs.Provable.{reflexive, reflected}
use Rattle.data_theory.specs.Environments.{Environment, term_in, bound, IsOver, Agree, AreDistinct}
use Rattle.data_theory.proofs.EqualityLemmas.{equals_of_equal}
use Rattle.data_theory.proofs.ConsistencyLemmas.{equal_numerals_are_the_same}
use Rattle.process_terms.specs.Theories.{Theory, IsTrue, IsConsistent, AreOfSorts, AllTrue, none_left, true_and_more}
use Rattle.process_terms.specs.Labels.{Label}
use Rattle.process_terms.specs.Processes.{Bound, Process, call}
use Rattle.process_terms.specs.Steps.{Outcome, Step}
use Rattle.process_terms.proofs.AgreeingLabels.{agree_refl}
use Rattle.bisim_laws.specs.Bisimulations.{Lands, both_end, both_go_on, Answer, Flipped, UpTo, up_to}
use Rattle.bisim_laws.specs.LinearProcesses.{Linear, variables, sorts, state_of, IsLinear, IsWellSorted, AreDeclared, HaveDataSorts, reading, put_next, outcome_of, Does, AreBound, Fires}
use Rattle.bisim_laws.specs.BaseStates.{GreibachCall, Columns, number_of, control_of, RegularState, regular_state}
use Rattle.bisim_laws.specs.Links.{Regular}
use Rattle.bisim_laws.proofs.Firing.{contains_first, reading_same, reading_agrees, bound_reads, reading_long, fired, fire}
use Rattle.bisim_laws.proofs.SortedFiring.{firings_keep}
use Rattle.bisim_laws.proofs.AlikeProcesses.{alike_refl}
use Rattle.bisim_laws.proofs.ComposedLinks.{up_to_enough}
use Rattle.lps_core.specs.Conditions.{AreConditionsOnce}
use Rattle.lps_core.specs.Moving.{Through, beside_reading}
use Rattle.greibach.specs.Forms.{FormSummand, FormEquation, Form, form_table, CallIsOver, IsForm, IsTail, FormIsSorted, after_calls, FormFires}
use Rattle.lps_core.proofs.Chains.{joined_true}
use Rattle.lps_core.proofs.Environments.{in_front_agree, reads_behind, bound_along, put_through, puts_through, label_through, through_behind, readings_to}
use Rattle.lps_core.proofs.SortedTerms.{HaveTerms, closed_instance, bound_have_terms, read_bound, both_have_terms}
use Rattle.std.proofs.lemmas.List.{length-map}
use Rattle.greibach.proofs.FormFiring.{form_fired, form_fire}
use Rattle.regular_encoder.specs.Encoding.{control_params, control_parts, place_of, to_columns, next_columns, encoded_next, encoded_summand, encoded_params, encoded, IsLayout, EncodedIsBisimilar}
use Rattle.regular_encoder.proofs.Encoded.{Among, is_among, stands_among, place_long, place_among}
use Rattle.regular_encoder.proofs.Fitting.{parts_over, parts_sorted, encoded_linear, encoded_sorted, IsNumbered, numbered}

pub map_map : {A B C : Type 0} (f : B → C) (g : A → B) (xs : List A) → map f (map g xs) ≡ map (λ x. f (g x)) xs
map_map f g [] = refl
map_map f g (x ∷ xs) = ap (λ l. f (g x) ∷ l) (map_map f g xs)

some_same : {A : Type 0} {x y : A} → Some x ≡ Some y → x ≡ y
some_same e = cc

head_same : {t u : Term} {ts us : List Term} → t ∷ ts ≡ u ∷ us → t ≡ u
head_same e = cc

tail_same : {t u : Term} {ts us : List Term} → t ∷ ts ≡ u ∷ us → ts ≡ us
tail_same e = cc

-- ---- the control number
-- what is read behind it
pub columns_read : (d : Environment) (b : Bool) (v i : ℕ) (xs : List Bound) (ts : List Term) → reading d (variables (control_params b v ++ xs)) ≡ control_of b i ++ ts → reading d (variables xs) ≡ ts
columns_read d false v i xs ts h = h
columns_read d true v i xs ts h = tail_same h

control_holds : (th : Theory) (d : Environment) (b : Bool) (v i : ℕ) → IsNumbered i → (xs : List Bound) (ts : List Term) → reading d (variables (control_params b v ++ xs)) ≡ control_of b i ++ ts → (cs : List Term) → AllTrue th (map (put (term_in d)) cs) → AllTrue th (map (put (term_in d)) (control_parts b v i ++ cs))
control_holds th d false v i n xs ts h cs k = k
control_holds th d true v i n xs ts h cs k = true_and_more
    (subst (λ t. IsTrue th (equals positive t (number_of i))) (sym (head_same h)) (equals_of_equal th.declared th.equations positive (number_of i) (number_of i) tt (refl, n) reflexive)) k

-- a condition of another equation doesn't hold
control_tells : (th : Theory) → IsConsistent th → (d : Environment) (b : Bool) (v i j : ℕ) → IsNumbered i → IsNumbered j → (xs : List Bound) (ts : List Term) → reading d (variables (control_params b v ++ xs)) ≡ control_of b i ++ ts → (cs : List Term) → AllTrue th (map (put (term_in d)) (control_parts b v j ++ cs))
    → (b ≡ true → i ≡ j) × AllTrue th (map (put (term_in d)) cs)
control_tells th con d false v i j n m xs ts h cs k = (λ e. absurd (tests_differ e), k)
  where
    tests_differ : false ≡ true → ⊥
    tests_differ e = cc
control_tells th con d true v i j n m xs ts h cs (true_and_more t k) = (
  λ e. same_number (equal_numerals_are_the_same th.declared th.equations con positive (pos (i + 1)) (pos (j + 1)) (refl, n) (refl, m) (reflected (subst (λ z. IsTrue th (equals positive z (number_of j))) (head_same h) t))),
  k,
)
  where
    same_number : {i j : ℕ} → pos (i + 1) ≡ pos (j + 1) → i ≡ j
    same_number {i} {j} e = let k : i + 1 ≡ j + 1 = cc in omega (arith, k)

number_stays : (d : Environment) (b : Bool) (i : ℕ) (ts : List Term) → map (put (term_in d)) (control_of b i ++ ts) ≡ control_of b i ++ map (put (term_in d)) ts
number_stays d false i ts = refl
number_stays d true i ts = refl

behind_number : (th : Theory) (b : Bool) (v i : ℕ) (xs : List Bound) (ts : List Term) → AreOfSorts th (sorts (control_params b v ++ xs)) (control_of b i ++ ts) → AreOfSorts th (sorts xs) ts
behind_number th false v i xs ts h = h
behind_number th true v i xs ts h = h.1

pub number_in_front : (th : Theory) (b : Bool) (v i : ℕ) → IsNumbered i → (xs : List Bound) (ts : List Term) → AreOfSorts th (sorts xs) ts → AreOfSorts th (sorts (control_params b v ++ xs)) (control_of b i ++ ts)
number_in_front th false v i n xs ts h = h
number_in_front th true v i n xs ts h = ((refl, n), h)

pub sorts_long : (th : Theory) (xs : List Bound) (ts : List Term) → AreOfSorts th (sorts xs) ts → length ts ≡ length (variables xs)
sorts_long th [] [] h = refl
sorts_long th [] (t ∷ ts) h = absurd h
sorts_long th (x ∷ xs) [] h = absurd h
sorts_long th (x ∷ xs) (t ∷ ts) h = ap suc (sorts_long th xs ts h.1)

-- ---- lists of conditions
only_one : {th : Theory} {t : Term} → AllTrue th (t ∷ []) → IsTrue th t
only_one (true_and_more h k) = h

all_closed : (g : Data) (vs : List Sort) (xs : List ℕ) (e : ℕ → Term) → HaveTerms g vs xs e → (cs : List Term) → AllByRecursion (IsOver xs) cs → AllByRecursion (λ c. HasSort g vs c boolean) cs → AreConditionsOnce g e cs
all_closed g vs xs e f [] h k = tt
all_closed g vs xs e f (c ∷ cs) h k = (closed_instance g vs xs e f c boolean h.0 k.0, all_closed g vs xs e f cs h.1 k.1)

pub columns_distinct : (b : Bool) (v : ℕ) (xs : List Bound) → AreDistinct (variables (control_params b v ++ xs)) → AreDistinct (variables xs)
columns_distinct false v xs h = h
columns_distinct true v xs h = h.1

one_is_zero : (n i : ℕ) → n ≡ 1 → i < n → i ≡ 0
one_is_zero n i e l = omega (arith, e)

module _ (th : Theory) (vs : List Sort) (c : Columns) (v : ℕ) (form : Form) (con : IsConsistent th) (is : IsForm form) (tail : IsTail form) (sorted : FormIsSorted th.declared vs form) (layout : IsLayout c v form) (declared : AreDeclared vs (encoded_params c v)) (sorts_of_data : HaveDataSorts th.declared (encoded_params c v)) where
  abbrev L : Linear
  L = encoded c v form

  abbrev R : Process → Process → Type 0
  R = RegularState th (form_table form) c L

  linear : IsLinear L
  linear = encoded_linear c v form is layout

  well : IsWellSorted th.declared vs L
  well = encoded_sorted th.declared vs c v form is sorted layout declared sorts_of_data

  abbrev columns : List ℕ
  columns = variables c.columns

  -- what is read at the place of an equation
  at_place : (d : Environment) (i : ℕ) (q : FormEquation) (ts : List Term) → slice_get form i ≡ Some q → length ts ≡ length columns → reading d columns ≡ ts → reading d (place_of c i) ≡ reading (bound columns ts) (place_of c i)
  at_place d i q ts at long h =
      let own : reading (bound columns ts) columns ≡ ts = bound_reads columns ts long (columns_distinct c.control v c.columns layout.distinct) in
      reading_same (place_of c i) d (bound columns ts) (λ x k. reading_agrees columns d (bound columns ts) (h ∙ sym own) x (place_among c q (place_of c i) (layout.places i q at) x k))

  -- where the calls of a summand lead
  state_after : (i : ℕ) (q : FormEquation) (a : GreibachCall) (xs : List ℕ) (d e : Environment) → CallIsOver form xs a → Through xs (to_columns c i q) d e
      → AreOfSorts th (sorts L.params) (map (put (term_in d)) (control_of c.control a.equation ++ next_columns c (to_columns c i q) a))
      → R (call (form_table form) a.equation (map (put (term_in e)) a.args)) (state_of L (map (put (term_in d)) (control_of c.control a.equation ++ next_columns c (to_columns c i q) a)))
  state_after i q a xs d e o g s =
      let r = to_columns c i q in
      let j = a.equation in
      let us = map (put (term_in r)) a.args in
      let f : ℕ → Term = λ x. put (term_in d) (term_in (bound (place_of c j) us) x) in
      let new = map f columns in
      let p = layout.places j o.equation o.stands in
      let whole : map (put (term_in d)) (control_of c.control j ++ next_columns c r a) ≡ control_of c.control j ++ new =
      number_stays d c.control j (next_columns c r a) ∙ ap (λ ts. control_of c.control j ++ ts) (map_map (put (term_in d)) (term_in (bound (place_of c j) us)) columns) in
      let long : length us ≡ length (place_of c j) = length-map a.args (put (term_in r)) ∙ o.long ∙ sym (length-map o.equation.params (λ (x : Bound). x.var)) ∙ sym (place_long c o.equation (place_of c j) p) in
      let args : reading (bound columns new) (place_of c j) ≡ map (put (term_in e)) a.args =
      readings_to f columns (place_of c j) (place_among c o.equation (place_of c j) p)
      ∙ sym (map_map (put (term_in d)) (term_in (bound (place_of c j) us)) (place_of c j))
      ∙ ap (map (put (term_in d))) (bound_reads (place_of c j) us long p.distinct)
      ∙ puts_through xs r d e g a.args o.args in
      let within : j < length c.places = subst (λ n. j < n) (sym layout.long) (slice_get_within form j o.equation o.stands) in
      subst (λ ts. R (call (form_table form) j (map (put (term_in e)) a.args)) (state_of L ts)) (sym whole)
      (subst (λ ts. R (call (form_table form) j ts) (state_of L (control_of c.control j ++ new))) args
      (regular_state new (slice_get-get_or c.places j [] within) (behind_number th c.control v j c.columns new (subst (λ ts. AreOfSorts th (sorts L.params) ts) whole s))))

  lands_after : (i : ℕ) (q : FormEquation) (cs : List GreibachCall) (xs : List ℕ) (d e : Environment) → length cs ≤ 1 → ((a : GreibachCall) → Contains cs a → CallIsOver form xs a) → Through xs (to_columns c i q) d e
      → ((us : List Term) → Some us ≡ put_next d (encoded_next c (to_columns c i q) cs) → AreOfSorts th (sorts L.params) us)
      → Lands (UpTo th R) (after_calls (form_table form) e cs) (outcome_of L (put_next d (encoded_next c (to_columns c i q) cs)))
  lands_after i q [] xs d e l o g s = both_end
  lands_after i q (a ∷ []) xs d e l o g s =
      both_go_on (up_to (alike_refl th _) (state_after i q a xs d e (o a (contains_first a [])) g (s _ refl)) (alike_refl th _))
  lands_after i q (a ∷ b ∷ cs) xs d e l o g s = absurd (omega (arith, l))

  lands_turned : {S : Process → Process → Type 0} {r s : Outcome} → Lands S r s → Lands (Flipped S) s r
  lands_turned both_end = both_end
  lands_turned (both_go_on h) = both_go_on h

  -- ---- one equation, and the terms of the columns
  module _ (i : ℕ) (q : FormEquation) (at : slice_get form i ≡ Some q) (ts : List Term) (of_sorts : AreOfSorts th (sorts c.columns) ts) where
    abbrev args : List Term
    args = reading (bound columns ts) (place_of c i)

    abbrev state : List Term
    state = control_of c.control i ++ ts

    state_sorted : AreOfSorts th (sorts L.params) state
    state_sorted = number_in_front th c.control v i (numbered c v form layout i q at) c.columns ts of_sorts

    conditions : (s : FormSummand) → Contains q.summands s → (d : Environment) → AreBound th s.sums d → reading d (variables L.params) ≡ state
        → AreConditionsOnce th.declared (term_in d) (control_parts c.control v i ++ put (term_in (to_columns c i q)) s.condition ∷ [])
    conditions s k d b h =
        all_closed th.declared vs (variables s.sums ++ variables L.params) (term_in d)
        (both_have_terms th.declared vs (variables s.sums) (variables L.params) (term_in d)
        (bound_have_terms th vs s.sums d ((sorted i q at).summands s k).sums b)
        (bound_have_terms th vs L.params d declared (read_bound th L.params d (subst (λ us. AreOfSorts th (sorts L.params) us) (sym h) state_sorted))))
        (control_parts c.control v i ++ put (term_in (to_columns c i q)) s.condition ∷ [])
        (parts_over c v form is layout i q s at k)
        (parts_sorted th.declared vs c v form is sorted layout declared i q s at k)

    moves : (s : FormSummand) → Contains q.summands s → (d e : Environment) → reading d (variables L.params) ≡ state → reading e (variables q.params) ≡ args → Agree (variables s.sums) (term_in d) (term_in e)
        → Through (variables s.sums ++ variables q.params) (to_columns c i q) d e
    moves s k d e h w a =
        through_behind (variables s.sums) (variables q.params) (place_of c i) d e ((is i q at).summands s k).apart (place_long c q (place_of c i) (layout.places i q at)) a
        (at_place d i q ts at (sorts_long th c.columns ts of_sorts) (columns_read d c.control v i c.columns ts h) ∙ sym w)

    forth_at : {m : Label} {r : Outcome} → FormFires th form q args m r → Answer th (UpTo th R) (state_of L state) m r
    forth_at {m} {r} k =
        let s = k.summand in
        let f = (is i q at).summands s k.among in
        let e = k.environment in
        let d = beside_reading e (variables s.sums) (bound (variables L.params) state) in
        let y = encoded_summand c v i q s in
        let cs = control_parts c.control v i ++ put (term_in (to_columns c i q)) s.condition ∷ [] in
        let h : reading d (variables L.params) ≡ state = reads_behind e (variables s.sums) (variables L.params) state (layout.apart i q s at k.among) layout.distinct (sorts_long th L.params state state_sorted) in
        let a : Agree (variables s.sums) (term_in d) (term_in e) = in_front_agree e (bound (variables L.params) state) (variables s.sums) f.distinct in
        let g = moves s k.among d e h k.reads a in
        let b : AreBound th s.sums d = bound_along th s.sums e d (record { same = λ u j. sym (a u j) }) k.bound in
        let xs = variables s.sums ++ variables q.params in
        let fires : Fires th L state m (put_next d y.next) = record {
          summand = y;
          among = stands_among c v form i q s at k.among;
          environment = d;
          reads = h;
          bound = b;
          does = record {
            holds = (joined_true th (term_in d) cs (conditions s k.among d b h)).0
                (control_holds th d c.control v i (numbered c v form layout i q at) c.columns ts h (put (term_in (to_columns c i q)) s.condition ∷ [])
                (true_and_more (subst (λ t. IsTrue th t) (sym (put_through xs (to_columns c i q) d e g s.condition f.condition)) k.holds) none_left));
            label = k.label ∙ sym (label_through xs (to_columns c i q) d e g s.label f.label);
            onward = refl;
          };
        } in
        record {
          label = m;
          outcome = outcome_of L (put_next d y.next);
          step = fire th L state m (put_next d y.next) linear fires;
          agree = agree_refl th m;
          lands = subst (λ z. Lands (UpTo th R) z (outcome_of L (put_next d y.next))) (sym k.outcome)
              (lands_after i q s.next xs d e (tail i q s at k.among) f.next g (λ us w. firings_keep th vs L state us m linear well state_sorted (subst (λ z. Fires th L state m z) (sym w) fires)));
        }

    back_at : {m : Label} {next : Option (List Term)} (k : Fires th L state m next) (s : FormSummand) → Contains q.summands s → k.summand ≡ encoded_summand c v i q s → Answer th (Flipped (UpTo th R)) (call (form_table form) i args) m (outcome_of L next)
    back_at {m} {next} k s among same =
        let f = (is i q at).summands s among in
        let d = k.environment in
        let y = encoded_summand c v i q s in
        let does : Does th y d m next = subst (λ z. Does th z d m next) same k.does in
        let b : AreBound th s.sums d = subst (λ z. AreBound th z.sums d) same k.bound in
        let e = beside_reading d (variables s.sums) (bound (variables q.params) args) in
        let cs = control_parts c.control v i ++ put (term_in (to_columns c i q)) s.condition ∷ [] in
        let long : length args ≡ length (variables q.params) = reading_long (bound columns ts) (place_of c i) ∙ place_long c q (place_of c i) (layout.places i q at) in
        let w : reading e (variables q.params) ≡ args = reads_behind d (variables s.sums) (variables q.params) args f.apart (is i q at).distinct long in
        let a : Agree (variables s.sums) (term_in e) (term_in d) = in_front_agree d (bound (variables q.params) args) (variables s.sums) f.distinct in
        let g = moves s among d e k.reads w (λ x j. sym (a x j)) in
        let xs = variables s.sums ++ variables q.params in
        let true_parts = control_tells th con d c.control v i i (numbered c v form layout i q at) (numbered c v form layout i q at) c.columns ts k.reads (put (term_in (to_columns c i q)) s.condition ∷ []) ((joined_true th (term_in d) cs (conditions s among d b k.reads)).1 does.holds) in
        record {
          label = m;
          outcome = after_calls (form_table form) e s.next;
          step = form_fire th form i q args m (after_calls (form_table form) e s.next) at (is i q at) (record {
            summand = s;
            among = among;
            environment = e;
            reads = w;
            bound = bound_along th s.sums d e (record { same = λ u j. sym (a u j) }) b;
            holds = subst (λ t. IsTrue th t) (put_through xs (to_columns c i q) d e g s.condition f.condition) (only_one true_parts.1);
            label = does.label ∙ label_through xs (to_columns c i q) d e g s.label f.label;
            outcome = refl;
          });
          agree = agree_refl th m;
          lands = subst (λ z. Lands (Flipped (UpTo th R)) (outcome_of L z) (after_calls (form_table form) e s.next)) (sym does.onward)
              (lands_turned (lands_after i q s.next xs d e (tail i q s at among) f.next g (λ us u. firings_keep th vs L state us m linear well state_sorted (subst (λ z. Fires th L state m z) (does.onward ∙ sym u) k))));
        }

    -- a summand that fires is one of this equation
    same_equation : {m : Label} {next : Option (List Term)} (k : Fires th L state m next) (r : Among c v form k.summand) → r.place ≡ i
    same_equation {m} {next} k r = by_control c.control refl
      where
        by_control : (b : Bool) → c.control ≡ b → r.place ≡ i
        by_control false e =
            let one = layout.single e in
            one_is_zero (length form) r.place one (slice_get_within form r.place r.equation r.at) ∙ sym (one_is_zero (length form) i one (slice_get_within form i q at))
        by_control true e =
            let d = k.environment in
            let s = r.summand in
            let cs = control_parts c.control v r.place ++ put (term_in (to_columns c r.place r.equation)) s.condition ∷ [] in
            let y = encoded_summand c v r.place r.equation s in
            let does : Does th y d m next = subst (λ z. Does th z d m next) r.is k.does in
            let b : AreBound th s.sums d = subst (λ z. AreBound th z.sums d) r.is k.bound in
            let params = read_bound th L.params d (subst (λ us. AreOfSorts th (sorts L.params) us) (sym k.reads) state_sorted) in
            let closed = all_closed th.declared vs (variables s.sums ++ variables L.params) (term_in d)
            (both_have_terms th.declared vs (variables s.sums) (variables L.params) (term_in d)
            (bound_have_terms th vs s.sums d ((sorted r.place r.equation r.at).summands s r.among).sums b)
            (bound_have_terms th vs L.params d declared params))
            cs
            (parts_over c v form is layout r.place r.equation s r.at r.among)
            (parts_sorted th.declared vs c v form is sorted layout declared r.place r.equation s r.at r.among) in
            sym ((control_tells th con d c.control v i r.place (numbered c v form layout i q at) (numbered c v form layout r.place r.equation r.at) c.columns ts k.reads (put (term_in (to_columns c r.place r.equation)) s.condition ∷ []) ((joined_true th (term_in d) cs closed).1 does.holds)).0 e)

    back_from : {m : Label} {next : Option (List Term)} → Fires th L state m next → Answer th (Flipped (UpTo th R)) (call (form_table form) i args) m (outcome_of L next)
    back_from k =
        let r = is_among c v form k.summand k.among in
        let n = same_equation k r in
        let w : r.equation ≡ q = some_same (sym r.at ∙ ap (slice_get form) n ∙ at) in
        back_at k r.summand (subst (λ z. Contains z.summands r.summand) w r.among) (r.is ∙ ap (λ z. encoded_summand c v z r.equation r.summand) n ∙ ap (λ z. encoded_summand c v i z r.summand) w)

  -- the equation of a state
  equation_at : (i : ℕ) (place : List ℕ) → slice_get c.places i ≡ Some place → (q : FormEquation) × (slice_get form i ≡ Some q)
  equation_at i place e = (get_or form i nothing, slice_get-get_or form i nothing (subst (λ n. i < n) layout.long (slice_get_within c.places i place e)))
    where
      nothing : FormEquation
      nothing = record { params = []; summands = [] }

  place_is : (i : ℕ) (place : List ℕ) → slice_get c.places i ≡ Some place → place_of c i ≡ place
  place_is i place e = get_or_from_slice_get c.places i place [] e

  forth : (p q : Process) (m : Label) (r : Outcome) → R p q → Step th p m r → Answer th (UpTo th R) q m r
  forth p q m r (regular_state {i = i} {place = place} ts e s) k =
      let w = equation_at i place e in
      forth_at i w.0 w.1 ts s (form_fired th form i w.0 (reading (bound columns ts) (place_of c i)) m r w.1 (is i w.0 w.1) (subst (λ z. Step th (call (form_table form) i (reading (bound columns ts) z)) m r) (sym (place_is i place e)) k))

  back : (p q : Process) (m : Label) (r : Outcome) → R q p → Step th p m r → Answer th (Flipped (UpTo th R)) q m r
  back p q m r (regular_state {i = i} {place = place} ts e s) k =
      let w = equation_at i place e in
      let d = fired th L (control_of c.control i ++ ts) m r linear k in
      subst (λ z. Answer th (Flipped (UpTo th R)) (call (form_table form) i (reading (bound columns ts) z)) m r) (place_is i place e)
      (subst (λ z. Answer th (Flipped (UpTo th R)) (call (form_table form) i (reading (bound columns ts) (place_of c i))) m z) (sym d.1.1) (back_from i w.0 w.1 ts s d.1.0))

pub encoded_bisimilar : EncodedIsBisimilar
encoded_bisimilar th vs c v form con is tail sorted layout declared sorts_of_data =
    up_to_enough th (Regular (form_table form) c (encoded c v form)) tt
    (record { forth = forth th vs c v form con is tail sorted layout declared sorts_of_data; back = back th vs c v form con is tail sorted layout declared sorts_of_data })
