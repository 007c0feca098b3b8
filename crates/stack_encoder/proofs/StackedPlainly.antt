-- The stack encoding of a form that is plainly conditioned is plainly conditioned.
use Rattle.std.proofs.Common.{◌≡◌, ◌++◌, ℕ, List, [], ◌∷◌, map, refl, sym, subst, ⊎_elim, Some}
use Rattle.std.specs.Prelude.{Contains, slice_get}
use Rattle.std.specs.List.{AllByRecursion}
use Rattle.std.proofs.lemmas.List.Elements.{Contains-append_cases, Contains-append_left}
use Rattle.data_theory.specs.Terms.{positive, named, Term, variable, put}
use Rattle.data_theory.specs.Declarations.{Declares}
use Rattle.data_theory.specs.Environments.{Environment, term_in, bound}
use Rattle.data_theory.specs.Equations.{equals, !ᵗ◌}
use Rattle.process_terms.specs.Processes.{Bound}
use Rattle.bisim_laws.specs.LinearProcesses.{Summand, variables}
use Rattle.bisim_laws.specs.BaseStates.{GreibachCall, Columns, number_of, columns_of}
use Rattle.bisim_laws.proofs.Firing.{contains_first, contains_later, contains_cases, contains_none, variable_among}
use Rattle.lps_core.specs.MadeTerms.{StackSort, Origin, IsStack, IsMade, a_variable, a_number, no_frame, a_frame, frames_below, a_column, AreMade, none_made, more_made, a_frame_on_top, a_frame_below, no_frame_below, a_number_on_top, the_whole, plain_part, HasPlainParts, SummandIsPlain}
use Rattle.lps_core.proofs.SortedTerms.{HaveTheirSorts}
use Rattle.greibach.specs.Forms.{FormSummand, FormEquation, Form, IsForm, FormIsSorted}
use Rattle.greibach.specs.PlainTerms.{FormSummandIsPlain}
use Rattle.greibach.proofs.PlainParts.{parts_are_plain, joined_plain}
use Rattle.regular_encoder.specs.Encoding.{place_of}
use Rattle.regular_encoder.proofs.Encoded.{place_among}
use Rattle.regular_encoder.proofs.FirstTerms.{some_is, no_some}
use Rattle.regular_encoder.proofs.PlainTerms.{all_moved, label_moved, parts_moved}
use Rattle.stack_encoder.specs.AddedStacks.{stack_under}
use Rattle.stack_encoder.specs.StackEncoding.{StackSymbols, stack_sort, is_pushed, rest_of, pc_of, fields_of, pushed_on, to_fields, put_call, Way, way_down, way_out, way_up, ways, stack_summand, stack_params, stacked, first_stack, StackFits}
use Rattle.stack_encoder.proofs.Rows.{Beside, beside_maps, bound_beside, columns_beside}
use Rattle.stack_encoder.proofs.StackShape.{fields_match, defaults_match, read_long, sums_stay, moves_sorted}
use Rattle.stack_encoder.proofs.StackSummands.{one_way, two_ways, is_among}

-- ---- lists of made terms, side by side with themselves
made_beside : (o : Origin) (ps xs : List Bound) (ts us : List Term) → Beside (λ t u. IsMade o ps xs t) ts us → AreMade o ps xs ts
made_beside o ps xs [] us h = none_made
made_beside o ps xs (t ∷ ts) [] h = absurd h
made_beside o ps xs (t ∷ ts) (u ∷ us) h = more_made h.0 (made_beside o ps xs ts us h.1)

beside_made : (o : Origin) (ps xs : List Bound) (ts : List Term) → AreMade o ps xs ts → Beside (λ t u. IsMade o ps xs t) ts ts
beside_made o ps xs _ none_made = tt
beside_made o ps xs _ (more_made {ts = ts} m ms) = (m, beside_made o ps xs ts ms)

pub made_then : (o : Origin) (ps xs : List Bound) (ts : List Term) (u : Term) → AreMade o ps xs ts → IsMade o ps xs u → AreMade o ps xs (ts ++ u ∷ [])
made_then o ps xs _ u none_made m = more_made m none_made
made_then o ps xs _ u (more_made {ts = ts} n ns) m = more_made n (made_then o ps xs ts u ns m)

module _ (o : Origin) (k : StackSymbols) (c : Columns) (v : ℕ) (form : Form) (is : IsForm form) (sorted : FormIsSorted o.declared o.variable_sorts form) (fits : StackFits o.declared k c v form) (declared : Declares o.variable_sorts v (stack_sort k))
    (closed : (t : Term) → o.WasAnswered t → (e : Environment) → put (term_in e) t ≡ t) (among_stacks : Contains o.stacks (stack_under k)) (only : (s : StackSort) → Contains o.stacks s → s ≡ stack_under k)
    (old : (i : ℕ) (q : FormEquation) (x : Bound) → slice_get form i ≡ Some q → Contains q.params x → x.sort ≡ stack_sort k → ⊥) (defaults : (ps xs : List Bound) → AreMade o ps xs c.defaults) where
  abbrev K : StackSort
  K = stack_under k

  abbrev Q : Bound
  Q = record { var = v; sort = stack_sort k }

  abbrev qs : List Bound
  qs = stack_params k v

  the_stack : IsStack o qs K Q
  the_stack = record { sort = among_stacks; parameter = contains_first Q []; is = refl }

  -- frames of calls with made arguments
  frames_made : (ps xs : List Bound) (cs : List GreibachCall) (u : Term) → ((a : GreibachCall) → Contains cs a → AreMade o ps xs a.args) → IsMade o ps xs u → IsMade o ps xs (pushed_on k.names c cs u)
  frames_made ps xs [] u h m = m
  frames_made ps xs (a ∷ cs) u h m =
      a_frame among_stacks
      (more_made a_number
      (made_then o ps xs (columns_of c (slice_get c.places a.equation) a.args) (pushed_on k.names c cs u)
      (made_beside o ps xs _ _
      (columns_beside (λ x y. IsMade o ps xs x) c (slice_get c.places a.equation) a.args a.args (defaults_match o.declared k c v form is fits) (beside_made o ps xs c.defaults (defaults ps xs)) (beside_made o ps xs a.args (h a (contains_first a cs)))))
      (frames_made ps xs cs u (λ b j. h b (contains_later a b cs j)) m)))

  pub first_is_made : (init : List Term) → AreMade o [] [] init → AreMade o [] [] (first_stack k c init ∷ [])
  first_is_made init m =
      more_made
      (a_frame among_stacks
      (more_made a_number
      (made_then o [] [] (columns_of c (slice_get c.places 0) init) _
      (made_beside o [] [] _ _
      (columns_beside (λ x y. IsMade o [] [] x) c (slice_get c.places 0) init init (defaults_match o.declared k c v form is fits) (beside_made o [] [] c.defaults (defaults [] [])) (beside_made o [] [] init m)))
      (no_frame among_stacks))))
      none_made

  module _ (i : ℕ) (q : FormEquation) (s : FormSummand) (at : slice_get form i ≡ Some q) (among : Contains q.summands s) (plain : FormSummandIsPlain o q.params s) where
    abbrev ys : List Bound
    ys = s.sums ++ qs

    abbrev r : Environment
    r = to_fields k c v i q

    -- the fields of the stack are made, and what is read of them
    fields_made : (ps : List ℕ) → ((p : ℕ) → Contains ps p → Contains k.fields p) → Beside (λ t u. IsMade o qs ys t) (fields_of ps (variable v)) (fields_of ps (variable v))
    fields_made [] w = tt
    fields_made (p ∷ ps) w = (a_column the_stack (w p (contains_first p ps)), fields_made ps (λ z j. w z (contains_later p z ps j)))

    abbrev fields : Environment
    fields = bound (variables c.columns) (fields_of k.fields (variable v))

    read_made : Beside (λ t u. IsMade o qs ys t) (map (term_in fields) (place_of c i)) (map (term_in fields) (place_of c i))
    read_made = beside_maps (λ t u. IsMade o qs ys t) (term_in fields) (term_in fields) (place_of c i)
        (λ y b. bound_beside (λ t u. IsMade o qs ys t) (variables c.columns) (fields_of k.fields (variable v)) (fields_of k.fields (variable v)) y (fields_made k.fields (λ p j. j)) (fields_match o.declared k c v form is fits (variable v)) (place_among c q (place_of c i) (fits.layout.places i q at) y b))

    moved : (x : Bound) → Contains (s.sums ++ q.params) x → IsMade o qs ys (term_in r x.var)
    moved x j = ⊎_elim
        (λ a. subst (λ z. IsMade o qs ys z) (sym (sums_stay o.declared k c v form is fits i q s at among x.var (variable_among s.sums x a))) (a_variable (Contains-append_left s.sums qs x a)))
        (λ a. bound_beside (λ t u. IsMade o qs ys t) (variables q.params) (map (term_in fields) (place_of c i)) (map (term_in fields) (place_of c i)) x.var read_made (read_long o.declared k c v form is fits i q s at among) (variable_among q.params x a))
        (Contains-append_cases s.sums q.params x j)

    sorts_kept : HaveTheirSorts o.declared o.variable_sorts o.variable_sorts (term_in r)
    sorts_kept = moves_sorted o.declared o.variable_sorts k c v form is sorted fits declared i q s at among

    -- none of the equation's parameters is a stack
    stacked_none : (m : StackSort) (x : Bound) → IsStack o q.params m x → (u : Bound) × (IsStack o qs m u × (term_in r x.var ≡ variable u.var))
    stacked_none m x w = absurd (old i q x at w.parameter (subst (λ (z : StackSort). x.sort ≡ named z.sort) (only m w.sort) w.is))

    closed_kept : (t : Term) → o.WasAnswered t → put (term_in r) t ≡ t
    closed_kept t w = closed t w r

    own_parts : HasPlainParts o [] qs ys (put (term_in r) s.condition)
    own_parts = parts_moved o q.params (s.sums ++ q.params) qs ys r closed_kept moved sorts_kept stacked_none [] [] (λ x a. absurd (contains_none x a.by_a_pass)) s.condition plain.condition

    calls_made : (cs : List GreibachCall) → ((a : GreibachCall) → Contains cs a → AreMade o q.params (s.sums ++ q.params) a.args) → (a : GreibachCall) → Contains (map (put_call r) cs) a → AreMade o qs ys a.args
    calls_made [] h a j = absurd (contains_none a j)
    calls_made (b ∷ cs) h a j = ⊎_elim
        (λ e. subst (λ (z : GreibachCall). AreMade o qs ys z.args) e (all_moved o q.params (s.sums ++ q.params) qs ys r closed_kept moved sorts_kept stacked_none b.args (h b (contains_first b cs))))
        (λ m. calls_made cs (λ d l. h d (contains_later b d cs l)) a m)
        (contains_cases (put_call r b) a (map (put_call r) cs) j)

    rest_made : IsMade o qs ys (rest_of k (variable v))
    rest_made = frames_below the_stack

    -- ---- ways
    record WayIsPlain (w : Way) : Type 0 where
      further : AllByRecursion (HasPlainParts o [] qs ys) w.further
      next : (ts : List Term) → w.next ≡ Some ts → AreMade o qs ys ts

    one_made : (t : Term) → IsMade o qs ys t → (ts : List Term) → Some (t ∷ []) ≡ Some ts → AreMade o qs ys ts
    one_made t m ts e = subst (λ z. AreMade o qs ys z) (some_is e) (more_made m none_made)

    down_is_plain : WayIsPlain (way_down k v)
    down_is_plain = record {
      further = (parts_are_plain o [] qs ys (is_pushed k (rest_of k (variable v))) (plain_part (a_frame_below the_stack) the_whole), tt);
      next = one_made (rest_of k (variable v)) rest_made;
    }

    out_is_plain : WayIsPlain (way_out k v)
    out_is_plain = record {
      further = (parts_are_plain o [] qs ys (!ᵗ (is_pushed k (rest_of k (variable v)))) (plain_part (no_frame_below the_stack) the_whole), tt);
      next = λ ts e. absurd (no_some e);
    }

    up_is_plain : (cs : List GreibachCall) → ((a : GreibachCall) → Contains cs a → AreMade o q.params (s.sums ++ q.params) a.args) → WayIsPlain (way_up k c v r cs)
    up_is_plain cs h = record {
      further = tt;
      next = one_made (pushed_on k.names c (map (put_call r) cs) (rest_of k (variable v))) (frames_made qs ys (map (put_call r) cs) (rest_of k (variable v)) (calls_made cs h) rest_made);
    }

    way_is_plain : (cs : List GreibachCall) → ((a : GreibachCall) → Contains cs a → AreMade o q.params (s.sums ++ q.params) a.args) → (w : Way) → Contains (ways k c v r cs) w → WayIsPlain w
    way_is_plain [] h w j = two_ways WayIsPlain (way_down k v) (way_out k v) w down_is_plain out_is_plain j
    way_is_plain (a ∷ cs) h w j = one_way WayIsPlain (way_up k c v r (a ∷ cs)) w (up_is_plain (a ∷ cs) h) j

    summand_is_plain : (w : Way) → Contains (ways k c v r s.next) w → SummandIsPlain o [] qs (stack_summand k c v i q s w)
    summand_is_plain w j =
        let p = way_is_plain s.next plain.next w j in
        record {
          sums = plain.sums;
          condition = joined_plain o [] qs ys (is_pushed k (variable v) ∷ equals positive (pc_of k (variable v)) (number_of i) ∷ put (term_in r) s.condition ∷ w.further) (
            parts_are_plain o [] qs ys (is_pushed k (variable v)) (plain_part (a_frame_on_top the_stack) the_whole),
            (parts_are_plain o [] qs ys (equals positive (pc_of k (variable v)) (number_of i)) (plain_part (a_number_on_top the_stack) the_whole), (own_parts, p.further)),
          );
          label = label_moved o q.params (s.sums ++ q.params) qs ys r closed_kept moved sorts_kept stacked_none s.label plain.label;
          next = p.next;
        }

  pub summands_are_plain : ((i : ℕ) (q : FormEquation) (s : FormSummand) → slice_get form i ≡ Some q → Contains q.summands s → FormSummandIsPlain o q.params s) → (y : Summand) → Contains (stacked k c v form).summands y → SummandIsPlain o [] qs y
  summands_are_plain plain y h =
      let f = is_among k c v form y h in
      subst (λ z. SummandIsPlain o [] qs z) (sym f.1.is) (summand_is_plain f.0 f.1.equation f.1.summand f.1.at f.1.among (plain f.0 f.1.equation f.1.summand f.1.at f.1.among) f.1.way f.1.one_of)
