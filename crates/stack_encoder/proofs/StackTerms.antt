-- What is provable of a stack.
use Rattle.std.proofs.Common.{◌≡◌, ◌≢◌, ◌+◌, ◌<◌, ℕ, suc, List, [], ◌∷◌, ◌++◌, length, refl, sym, ap, ◌∙◌, subst, arith}
use Rattle.std.specs.Prelude.{pos}
use Rattle.data_theory.specs.Terms.{Sort, positive, equality, function, Term, Terms, application, none, more}
use Rattle.data_theory.specs.Declarations.{Data, DeclaredFunction, Role, projection, mapping, function_at, HasSort, HaveSorts, IsData}
use Rattle.data_theory.specs.Equations.{one, equals, term_at}
use Rattle.data_theory.specs.Provable.{Equation, ProvablyEqual, reflexive, symmetric, transitive, congruent, reflected, no_places, place}
use Rattle.data_theory.specs.Environments.{terms_of}
use Rattle.data_theory.proofs.ConsistencyLemmas.{equal_numerals_are_the_same, projections_compute, recognisers_accept, recognisers_reject}
use Rattle.data_theory.proofs.EqualityLemmas.{equals_of_equal}
use Rattle.data_theory.proofs.WellSorted.{function_within}
use Rattle.process_terms.specs.Theories.{Theory, Equal, IsTrue, IsFalse, IsConsistent, IsOfSort}
use Rattle.process_terms.specs.Processes.{Bound}
use Rattle.bisim_laws.specs.LinearProcesses.{sorts}
use Rattle.bisim_laws.specs.BaseStates.{number_of}
use Rattle.stack_encoder.specs.StackEncoding.{StackSymbols, stack_sort, on_stack, FieldsStand, IsStack, is_pushed, pc_of, rest_of, fields_of}
use Rattle.regular_encoder.proofs.Fitting.{IsNumbered}
use Rattle.stack_encoder.proofs.Rows.{Beside}

-- a frame on top of a stack
abbrev pub push_on : StackSymbols → ℕ → List Term → Term → Term
push_on k i cs u = application (function k.names.push) (terms_of (number_of i ∷ (cs ++ u ∷ [])))

role_of : (g : Data) (p : ℕ) (f : DeclaredFunction) → function_at g p ≡ f → (function_at g p).role ≡ f.role
role_of g p f e = ap (λ (z : DeclaredFunction). z.role) e

pub within_by : (g : Data) (p : ℕ) (f : DeclaredFunction) → function_at g p ≡ f → f.role ≢ mapping → p < length g.functions
within_by g p f e n = function_within g p f.role (role_of g p f e) n

-- ---- sorts
pub one_sorted : (g : Data) (k : StackSymbols) (vs : List Sort) (p : ℕ) (s : Sort) (r : Role) (t : Term) → function_at g p ≡ on_stack k s r → r ≢ mapping → HasSort g vs t (stack_sort k) → HasSort g vs (one (function p) t) s
one_sorted g k vs p s r t e n h =
    (within_by g p (on_stack k s r) e n, subst (λ (f : DeclaredFunction). HaveSorts g vs (more t none) f.arguments) (sym e) (h, tt), ap (λ (f : DeclaredFunction). f.result) e, refl)

join_sorted : (g : Data) (vs ss : List Sort) (cs : List Term) (u : Term) (s : Sort) → HaveSorts g vs (terms_of cs) ss → HasSort g vs u s → HaveSorts g vs (terms_of (cs ++ u ∷ [])) (ss ++ s ∷ [])
join_sorted g vs [] [] u s h k = (k, tt)
join_sorted g vs (r ∷ ss) [] u s h k = absurd h
join_sorted g vs [] (c ∷ cs) u s h k = absurd h
join_sorted g vs (r ∷ ss) (c ∷ cs) u s h k = (h.0, join_sorted g vs ss cs u s h.1 k)

no_sorts : (g : Data) (vs : List Sort) (cs : List Term) (u : Term) → HaveSorts g vs (terms_of (cs ++ u ∷ [])) [] → ⊥
no_sorts g vs [] u h = h
no_sorts g vs (c ∷ cs) u h = h

no_terms_left : (g : Data) (vs ss : List Sort) (s : Sort) → HaveSorts g vs none (ss ++ s ∷ []) → ⊥
no_terms_left g vs [] s h = h
no_terms_left g vs (r ∷ ss) s h = h

split_sorted : (g : Data) (vs ss : List Sort) (cs : List Term) (u : Term) (s : Sort) → HaveSorts g vs (terms_of (cs ++ u ∷ [])) (ss ++ s ∷ []) → HaveSorts g vs (terms_of cs) ss × HasSort g vs u s
split_sorted g vs [] [] u s h = (tt, h.0)
split_sorted g vs [] (c ∷ cs) u s h = absurd (no_sorts g vs cs u h.1)
split_sorted g vs (r ∷ ss) [] u s h = absurd (no_terms_left g vs ss s h.1)
split_sorted g vs (r ∷ ss) (c ∷ cs) u s h = let k = split_sorted g vs ss cs u s h.1 in ((h.0, k.0), k.1)

module _ (g : Data) (k : StackSymbols) (xs : List Bound) (is : IsStack g k xs) where
  pub push_sorted : (vs : List Sort) (i : ℕ) → IsNumbered i → (cs : List Term) (u : Term) → HaveSorts g vs (terms_of cs) (sorts xs) → HasSort g vs u (stack_sort k) → HasSort g vs (push_on k i cs u) (stack_sort k)
  push_sorted vs i n cs u h w = (
    within_by g k.names.push _ is.push (λ q. cc),
    subst (λ (f : DeclaredFunction). HaveSorts g vs (terms_of (number_of i ∷ (cs ++ u ∷ []))) f.arguments) (sym is.push) ((refl, n), join_sorted g vs (sorts xs) cs u (stack_sort k) h w),
    ap (λ (f : DeclaredFunction). f.result) is.push,
    refl,
  )

  pub push_parts : (vs : List Sort) (i : ℕ) (cs : List Term) (u : Term) → HasSort g vs (push_on k i cs u) (stack_sort k) → HaveSorts g vs (terms_of cs) (sorts xs) × HasSort g vs u (stack_sort k)
  push_parts vs i cs u h =
      let all : HaveSorts g vs (terms_of (number_of i ∷ (cs ++ u ∷ []))) (positive ∷ (sorts xs ++ stack_sort k ∷ [])) = subst (λ (f : DeclaredFunction). HaveSorts g vs (terms_of (number_of i ∷ (cs ++ u ∷ []))) f.arguments) is.push h.1 in
      split_sorted g vs (sorts xs) cs u (stack_sort k) all.1

  -- the number of a frame is a numeral
  pub push_numbered : (vs : List Sort) (i : ℕ) (cs : List Term) (u : Term) → HasSort g vs (push_on k i cs u) (stack_sort k) → IsNumbered i
  push_numbered vs i cs u h =
      let all : HaveSorts g vs (terms_of (number_of i ∷ (cs ++ u ∷ []))) (positive ∷ (sorts xs ++ stack_sort k ∷ [])) = subst (λ (f : DeclaredFunction). HaveSorts g vs (terms_of (number_of i ∷ (cs ++ u ∷ []))) f.arguments) is.push h.1 in
      all.0.1

  pub empty_sorted : (vs : List Sort) → HasSort g vs (application (function k.names.empty) none) (stack_sort k)
  empty_sorted vs = (
    within_by g k.names.empty _ is.empty (λ q. cc),
    subst (λ (f : DeclaredFunction). HaveSorts g vs none f.arguments) (sym is.empty) tt,
    ap (λ (f : DeclaredFunction). f.result) is.empty,
    refl,
  )

-- ---- the last field, and the others
at_end : (cs : List Term) (u : Term) → term_at (terms_of (cs ++ u ∷ [])) (length cs) ≡ u
at_end [] u = refl
at_end (c ∷ cs) u = at_end cs u

fields_equal_from : (g : Data) (own : List Equation) → IsData g → (k : StackSymbols) (t : Term) (frame : Terms) → HasSort g [] (application (function k.names.push) frame) (stack_sort k) → ProvablyEqual g own t (application (function k.names.push) frame)
    → (i : ℕ) (xs : List Bound) (ps : List ℕ) (cs : List Term) (u : Term) → FieldsStand g k i xs ps → length cs ≡ length xs → ((j : ℕ) → term_at frame (j + i) ≡ term_at (terms_of (cs ++ u ∷ [])) j)
    → Beside (λ x y. ProvablyEqual g own x y) (fields_of ps t) cs
fields_equal_from g own ok k t frame s e i [] [] [] u f l h = tt
fields_equal_from g own ok k t frame s e i [] [] (c ∷ cs) u f l h = absurd (omega (arith, l))
fields_equal_from g own ok k t frame s e i [] (p ∷ ps) cs u f l h = absurd f
fields_equal_from g own ok k t frame s e i (x ∷ xs) [] cs u f l h = absurd f
fields_equal_from g own ok k t frame s e i (x ∷ xs) (p ∷ ps) [] u f l h = absurd (omega (arith, l))
fields_equal_from g own ok k t frame s e i (x ∷ xs) (p ∷ ps) (c ∷ cs) u f l h = (
  subst (λ z. ProvablyEqual g own (one (function p) t) z) (ap (term_at frame) (let n : i ≡ 0 + i = omega arith in n) ∙ h 0) (projections_compute g own ok k.names.sort p k.names.push i t frame (role_of g p (on_stack k x.sort (projection k.names.push i)) f.0) s e),
  fields_equal_from g own ok k t frame s e (suc i) xs ps cs u f.1 (omega (arith, l)) (λ j. ap (term_at frame) (let n : j + suc i ≡ suc j + i = omega arith in n) ∙ h (suc j)),
)

-- ---- a term that is provably equal to a frame on a stack
module _ (th : Theory) (ok : IsData th.declared) (k : StackSymbols) (xs : List Bound) (is : IsStack th.declared k xs) where
  abbrev empty_stack : Term
  empty_stack = application (function k.names.empty) none

  pub empty_rejected : (t : Term) → Equal th t empty_stack → IsFalse th (is_pushed k t)
  empty_rejected t e =
      recognisers_reject th.declared th.equations ok k.names.sort k.is_push k.names.empty k.names.push t none (role_of th.declared k.is_push _ is.is_push) (role_of th.declared k.names.empty _ is.empty) is.differ
      (ap (λ (f : DeclaredFunction). f.result) is.push) (empty_sorted th.declared k xs is []) e

  module _ (i : ℕ) (cs : List Term) (u t : Term) (sorted : IsOfSort th (stack_sort k) (push_on k i cs u)) (e : Equal th t (push_on k i cs u)) where
    abbrev frame : Terms
    frame = terms_of (number_of i ∷ (cs ++ u ∷ []))

    pub push_accepted : IsTrue th (is_pushed k t)
    push_accepted = recognisers_accept th.declared th.equations ok k.names.sort k.is_push k.names.push t frame (role_of th.declared k.is_push _ is.is_push) sorted e

    pub pc_is : Equal th (pc_of k t) (number_of i)
    pc_is = projections_compute th.declared th.equations ok k.names.sort k.pc k.names.push 0 t frame (role_of th.declared k.pc _ is.pc) sorted e

    -- `pc(t) == i`, and of no other equation
    pub pc_holds : IsTrue th (equals positive (pc_of k t) (number_of i))
    pc_holds = transitive (congruent (equality positive) (place pc_is (place reflexive no_places))) (equals_of_equal th.declared th.equations positive (number_of i) (number_of i) tt (refl, push_numbered th.declared k xs is [] i cs u sorted) reflexive)

    pub pc_tells : IsConsistent th → (j : ℕ) → IsNumbered j → IsTrue th (equals positive (pc_of k t) (number_of j)) → i ≡ j
    pc_tells con j n h =
        same_number (equal_numerals_are_the_same th.declared th.equations con positive (pos (i + 1)) (pos (j + 1)) (refl, push_numbered th.declared k xs is [] i cs u sorted) (refl, n) (transitive (symmetric pc_is) (reflected h)))
      where
        same_number : {i j : ℕ} → pos (i + 1) ≡ pos (j + 1) → i ≡ j
        same_number {i} {j} q = let w : i + 1 ≡ j + 1 = cc in omega (arith, w)

    pub fields_equal : length cs ≡ length xs → Beside (λ x y. Equal th x y) (fields_of k.fields t) cs
    fields_equal l = fields_equal_from th.declared th.equations ok k t frame sorted e 1 xs k.fields cs u is.fields l (λ j. ap (term_at frame) (let n : j + 1 ≡ suc j = omega arith in n))

    pub rest_equal : length cs ≡ length xs → Equal th (rest_of k t) u
    rest_equal l =
        subst (λ z. Equal th (rest_of k t) z) (ap (λ n. term_at (terms_of (cs ++ u ∷ [])) n) (sym l) ∙ at_end cs u)
        (projections_compute th.declared th.equations ok k.names.sort k.rest k.names.push (suc (length xs)) t frame (role_of th.declared k.rest _ is.rest) sorted e)
