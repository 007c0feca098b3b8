-- What each line of the table costs: its right side goes on with fewer uses than its root may have, and shows no more.
use Rattle.std.proofs.Common.{ℕ, zero, suc, ◌+◌, ◌*◌, ◌≤◌, ◌<◌, List, [], ◌∷◌, Bool, true, false, arith}
use Rattle.std.specs.Prelude.{Option, Some, None}
use Rattle.std.proofs.Math.Nat.{mul-le-mul_left, mul-le-mul_right}
use Rattle.data_theory.specs.Terms.{Sort, positive, natural, integer, list, less, subtract, successor, to_natural, Symbol, truth, falsity, negation, conjunction, disjunction, implication, equality, conditional, comparison, arithmetic, upcast, empty, cons, snoc, concatenation, size, element_at, rhead, rtail, membership, function, Term, Terms, application, none, more}
use Rattle.data_theory.specs.Declarations.{Data, function_at}
use Rattle.data_theory.specs.Arithmetic.{compares, equal_numbers}
use Rattle.data_theory.specs.Equations.{BuiltIn, one, two, trueᵗ, falseᵗ, !ᵗ◌, equals, consᵗ, truth_of, all_equal, term_at, not_true, not_false, not_not, true_and, and_true, false_and, and_false, and_same, true_or, or_true, false_or, or_false, or_same, true_implies, false_implies, implies, equal_itself, not_equal, if_true, if_false, if_same, equal_true, true_equal, equal_false, false_equal, operation_of_one, operation_of_two, minus_of, compared, equal_numerals, empty_equal_cons, cons_equal_empty, cons_equal_cons, empty_concat, concat_empty, cons_concat, empty_snoc, cons_snoc, size_empty, size_cons, head_cons, tail_cons, rhead_one, rhead_more, rtail_one, rtail_more, at_zero, at_later, in_empty, in_cons, different_constructors, same_constructor, projected, recognised, not_recognised}
use Rattle.data_theory.specs.Rewriting.{place_of, LooksFirst, if_looks, and_looks, or_looks, implies_looks}
use Rattle.data_theory.proofs.Potentials.{IsDone, done_numeral, AreDone, also_done, parts_done, first_done, second_done, skeleton, skeletons, Grows, root_uses, Costs, is_done, applied, AllCost, no_costs, also_costs, AreDoneWithin, none_within, also_within, within_cost, more_costs, shows_something}

-- ---- costs of the terms that right sides are made of
module _ (g : Data) where
  pub constant_costs : (f : Symbol) (s n : ℕ) → 1 ≤ s → Grows f [] s → root_uses f [] ≤ n → Costs g (application f none) s n
  constant_costs f s n l grows u = applied {n = 0} no_costs l grows (omega arith) (omega (arith, u))

  pub true_costs : (s n : ℕ) → 1 ≤ s → Costs g trueᵗ s n
  true_costs s n l = constant_costs truth s n l tt (omega arith)

  pub false_costs : (s n : ℕ) → 1 ≤ s → Costs g falseᵗ s n
  false_costs s n l = constant_costs falsity s n l tt (omega arith)

  pub truth_costs : (b : Bool) (s n : ℕ) → 1 ≤ s → Costs g (truth_of b) s n
  truth_costs true s n l = true_costs s n l
  truth_costs false s n l = false_costs s n l

  pub one_costs : (f : Symbol) {x : Term} {a n : ℕ} (s m : ℕ) → Costs g x a n → 1 ≤ s → Grows f (a ∷ []) s → n + root_uses f (a ∷ []) ≤ m → Costs g (one f x) s m
  one_costs f {n = n} s m c l grows u = applied {n = n} (also_costs {m = 0} c no_costs (omega arith)) l grows (omega arith) u

  pub two_cost : (f : Symbol) {x y : Term} {a b n m : ℕ} (s k : ℕ) → Costs g x a n → Costs g y b m → 1 ≤ s → Grows f (a ∷ b ∷ []) s → n + m + root_uses f (a ∷ b ∷ []) ≤ k → Costs g (two f x y) s k
  two_cost f {n = n} {m = m} s k c d l grows u = applied {n = n + m} (also_costs {m = m} c (also_costs {m = 0} d no_costs (omega arith)) (omega arith)) l grows (omega arith) u

  -- a done term, as it stands
  pub done_costs : {t : Term} → IsDone g t → Costs g t (skeleton t) 0
  done_costs d = is_done d (omega arith)

  -- the equality of done terms
  pub equal_costs : (e : Sort) (x y : Term) (s n : ℕ) → IsDone g x → IsDone g y → suc (skeleton x + skeleton y) ≤ s → skeleton x + skeleton y ≤ n → Costs g (equals e x y) s n
  equal_costs e x y s n dx dy o p = two_cost (equality e) s n (done_costs dx) (done_costs dy) (omega (arith, o)) (omega (arith, o)) (omega (arith, p))

  pub all_equal_costs : (ss : List Sort) (xs ys : Terms) (s n : ℕ) → AreDone g xs → AreDone g ys → suc (skeletons xs + skeletons ys) ≤ s → skeletons xs + skeletons ys ≤ n → Costs g (all_equal ss xs ys) s n
  all_equal_costs (e ∷ []) (more x none) (more y none) s n dx dy o p = equal_costs e x y s n (first_done dx) (first_done dy) (omega (arith, o)) (omega (arith, p))
  all_equal_costs (e ∷ es) (more x xs) (more y ys) s n (also_done dx dxs) (also_done dy dys) o p =
      two_cost conjunction s n
      (equal_costs e x y s (skeleton x + skeleton y) dx dy (omega (arith, o)) (omega arith))
      (all_equal_costs es xs ys s (skeletons xs + skeletons ys) dxs dys (omega (arith, o)) (omega arith))
      (omega (arith, o)) (omega arith, (omega arith, tt)) (omega (arith, p))
  all_equal_costs _ xs ys s n dx dy o p = true_costs s n (omega (arith, o))

  pub term_at_costs : (ts : Terms) (i s : ℕ) → AreDone g ts → 1 ≤ s → skeletons ts ≤ s → Costs g (term_at ts i) s 0
  term_at_costs none i s d l o = true_costs s 0 l
  term_at_costs (more t ts) zero s d l o = is_done (first_done d) (omega (arith, o))
  term_at_costs (more t ts) (suc i) s (also_done d ds) l o = term_at_costs ts i s ds l (omega (arith, o))

-- ---- the right side of a line: what it and the condition cost together is less than m
pub record Right (g : Data) (c r : Term) (s m : ℕ) : Type 0 where
  pub condition : ℕ
  pub condition_costs : Costs g c 1 condition
  pub right : ℕ
  pub right_costs : Costs g r s right
  pub fits : condition + right < m

abbrev pub RightIf : Data → Option ℕ → Term → Term → ℕ → ℕ → Type 0
RightIf g None c r s m = Unit {0}
RightIf g (Some k) c r s m = Right g c r s m

-- the arguments of a root are done, but for those of a function that looks first
abbrev pub Ready : Data → Term → List ℕ → ℕ → Type 0
Ready g (application conjunction ts) bs k = AllCost g ts bs k
Ready g (application disjunction ts) bs k = AllCost g ts bs k
Ready g (application implication ts) bs k = AllCost g ts bs k
Ready g (application (conditional e) ts) bs k = AllCost g ts bs k
Ready g (application f ts) bs k = AreDoneWithin g ts bs
Ready g t bs k = ⊥

abbrev pub GrowsAt : Term → List ℕ → ℕ → Type 0
GrowsAt (application f ts) bs s = Grows f bs s
GrowsAt t bs s = ⊥

abbrev pub uses_at : Term → List ℕ → ℕ
uses_at (application f ts) bs = root_uses f bs
uses_at t bs = 0

pub ready_by_all : {g : Data} (f : Symbol) (us : Terms) (bs : List ℕ) → AreDoneWithin g us bs → Ready g (application f us) bs 0
ready_by_all conjunction us bs w = within_cost w
ready_by_all disjunction us bs w = within_cost w
ready_by_all implication us bs w = within_cost w
ready_by_all (conditional e) us bs w = within_cost w
ready_by_all f us bs w = w

pub ready_by_the_first : {g : Data} {f : Symbol} (ts : Terms) (bs : List ℕ) (k : ℕ) → LooksFirst f → AllCost g ts bs k → Ready g (application f ts) bs k
ready_by_the_first ts bs k if_looks c = c
ready_by_the_first ts bs k and_looks c = c
ready_by_the_first ts bs k or_looks c = c
ready_by_the_first ts bs k implies_looks c = c

negation_waits : LooksFirst negation → ⊥
negation_waits h = elim h [ ]

cons_waits : {s : Sort} → LooksFirst (cons s) → ⊥
cons_waits h = elim h [ ]

function_waits : {k : ℕ} → LooksFirst (function k) → ⊥
function_waits h = elim h [ ]

of_not : {g : Data} {x : Term} → IsDone g (!ᵗ x) → IsDone g x
of_not d = first_done (parts_done negation_waits d)

front : {g : Data} {s : Sort} {x l : Term} → IsDone g (consᵗ s x l) → IsDone g x
front d = first_done (parts_done cons_waits d)

rest : {g : Data} {s : Sort} {x l : Term} → IsDone g (consᵗ s x l) → IsDone g l
rest d = second_done (parts_done cons_waits d)

members : (x y l a b : ℕ) → x ≤ a → suc (suc (y + suc (l + 0))) ≤ b → x + y + suc x * suc l + 1 < suc a * suc b
members x y l a b o p =
    let first : suc x * suc b ≤ suc a * suc b = mul-le-mul_right (suc b) (omega (arith, o)) in
    let second : suc x * suc (suc (suc (y + suc (l + 0)))) ≤ suc x * suc b = mul-le-mul_left (suc x) (omega (arith, p)) in
    omega (arith, first, second)

module _ (g : Data) where
  shown_by : {t : Term} {s n : ℕ} → Costs g t s n → 1 ≤ s
  shown_by (is_done {t = t} d o) = let some = shows_something t in omega (arith, o, some)
  shown_by (applied c l grows o u) = omega (arith, l, o)

  plainly : {r : Term} {s n m : ℕ} → Costs g r s n → n < m → Right g trueᵗ r s m
  plainly {n = n} c o = record { condition = 0; condition_costs = true_costs g 1 0 (omega arith); right = n; right_costs = c; fits = omega (arith, o) }

  pub line_costs : {c l r : Term} (b : BuiltIn g c l r) (bs : List ℕ) (s k : ℕ) → 1 ≤ s → Ready g l bs k → GrowsAt l bs s → RightIf g (place_of b) c r s (k + uses_at l bs)
  line_costs not_true bs s k l w grows = plainly (false_costs g s 0 l) (omega arith)
  line_costs not_false bs s k l w grows = plainly (true_costs g s 0 l) (omega arith)
  line_costs not_not bs s k l (also_within d o none_within) grows = plainly (is_done {n = 0} (of_not d) (omega (arith, o, grows))) (omega arith)
  line_costs true_and bs s k l (also_costs c (also_costs {n = n} d no_costs o) p) grows = plainly (more_costs s n d grows.1.0 (omega arith)) (omega (arith, o, p))
  line_costs and_true bs s k l (also_costs {n = n} c d p) grows = plainly (more_costs s n c grows.0 (omega arith)) (omega (arith, p))
  line_costs false_and bs s k l w grows = plainly (false_costs g s 0 l) (omega arith)
  line_costs and_false bs s k l w grows = plainly (false_costs g s 0 l) (omega arith)
  line_costs and_same bs s k l (also_costs {n = n} c d p) grows = plainly (more_costs s n c grows.0 (omega arith)) (omega (arith, p))
  line_costs true_or bs s k l w grows = plainly (true_costs g s 0 l) (omega arith)
  line_costs or_true bs s k l w grows = plainly (true_costs g s 0 l) (omega arith)
  line_costs false_or bs s k l (also_costs c (also_costs {n = n} d no_costs o) p) grows = plainly (more_costs s n d grows.1.0 (omega arith)) (omega (arith, o, p))
  line_costs or_false bs s k l (also_costs {n = n} c d p) grows = plainly (more_costs s n c grows.0 (omega arith)) (omega (arith, p))
  line_costs or_same bs s k l (also_costs {n = n} c d p) grows = plainly (more_costs s n c grows.0 (omega arith)) (omega (arith, p))
  line_costs true_implies bs s k l (also_costs c (also_costs {n = n} d no_costs o) p) grows = plainly (more_costs s n d (omega (arith, grows)) (omega arith)) (omega (arith, o, p))
  line_costs false_implies bs s k l w grows = plainly (true_costs g s 0 l) (omega arith)
  line_costs (implies {x = x} {y = y}) bs s k l (also_costs {b = a} {n = n} c (also_costs {b = b} {n = m} d no_costs o) p) grows =
      let a_some = shown_by c in
      let b_some = shown_by d in
      plainly
      (two_cost g disjunction s (n + m + 2)
      (one_costs g negation s (n + 1) c l (omega (arith, grows)) (omega arith))
      (more_costs s m d (omega (arith, grows)) (omega arith))
      l (omega arith, (omega arith, tt)) (omega arith))
      (omega (arith, o, p, a_some, b_some))
  line_costs (equal_itself {x = x}) bs s k l (also_within d o w) grows = let some = shows_something x in plainly (true_costs g s 0 l) (omega (arith, o, some))
  line_costs (not_equal {s = e} {x = x} {y = y}) bs s k l (also_within d o (also_within d' o' none_within)) grows =
      plainly
      (one_costs g negation s (skeleton x + skeleton y + 1)
      (equal_costs g e x y (suc (skeleton x + skeleton y)) (skeleton x + skeleton y) d d' (omega arith) (omega arith))
      l (omega (arith, o, o', grows)) (omega arith))
      (omega (arith, o, o'))
  line_costs if_true bs s k l (also_costs c (also_costs {n = n} d w o) p) grows = plainly (more_costs s n d grows.1.0 (omega arith)) (omega (arith, o, p))
  line_costs if_false bs s k l (also_costs c (also_costs d (also_costs {n = n} i w q) o) p) grows = plainly (more_costs s n i grows.1.1.0 (omega arith)) (omega (arith, o, p, q))
  line_costs if_same bs s k l (also_costs c (also_costs {n = n} d w o) p) grows = plainly (more_costs s n d grows.1.0 (omega arith)) (omega (arith, o, p))
  line_costs (equal_true {x = x}) bs s k l (also_within d o (also_within d' o' none_within)) grows = plainly (is_done {n = 0} d (omega (arith, o, grows))) (omega (arith, o'))
  line_costs (true_equal {x = x}) bs s k l (also_within d o (also_within d' o' none_within)) grows = plainly (is_done {n = 0} d' (omega (arith, o', grows))) (omega (arith, o))
  line_costs (equal_false {x = x}) bs s k l (also_within d o (also_within d' o' none_within)) grows =
      let some = shows_something x in
      plainly (one_costs g negation s 1 (done_costs g d) l (omega (arith, o, o', grows)) (omega arith)) (omega (arith, o, o', some))
  line_costs (false_equal {x = x}) bs s k l (also_within d o (also_within d' o' none_within)) grows =
      let some = shows_something x in
      plainly (one_costs g negation s 1 (done_costs g d') l (omega (arith, o, o', grows)) (omega arith)) (omega (arith, o, o', some))
  line_costs (operation_of_one p f) bs s k l w grows = plainly (is_done {n = 0} done_numeral l) (omega arith)
  line_costs (operation_of_two p f) bs s k l w grows = plainly (is_done {n = 0} done_numeral l) (omega arith)
  line_costs (minus_of f) bs s k l w grows = plainly (is_done {n = 0} done_numeral l) (omega arith)
  line_costs (compared {c = c} {x = x} {y = y}) bs s k l w grows = plainly (truth_costs g (compares c x y) s 0 l) (omega arith)
  line_costs (equal_numerals {x = x} {y = y}) bs s k l (also_within d o w) grows = plainly (truth_costs g (equal_numbers x y) s 0 l) (omega (arith, o))
  line_costs empty_equal_cons bs s k l (also_within d o w) grows = plainly (false_costs g s 0 l) (omega (arith, o))
  line_costs cons_equal_empty bs s k l (also_within d o w) grows = plainly (false_costs g s 0 l) (omega (arith, o))
  line_costs (cons_equal_cons {s = e} {x = x} {l = xs} {y = y} {m = ys}) bs s k l (also_within d o (also_within d' o' none_within)) grows =
      plainly
      (two_cost g conjunction s (skeleton x + skeleton y + (skeleton xs + skeleton ys) + 1)
      (equal_costs g e x y s (skeleton x + skeleton y) (front d) (front d') (omega (arith, o, o', grows)) (omega arith))
      (equal_costs g (list e) xs ys s (skeleton xs + skeleton ys) (rest d) (rest d') (omega (arith, o, o', grows)) (omega arith))
      l (omega arith, (omega arith, tt)) (omega arith))
      (omega (arith, o, o'))
  line_costs empty_concat bs s k l (also_within d o (also_within d' o' none_within)) grows = plainly (is_done {n = 0} d' (omega (arith, o', grows))) (omega (arith, o))
  line_costs concat_empty bs s k l (also_within d o (also_within d' o' none_within)) grows = plainly (is_done {n = 0} d (omega (arith, o, grows))) (omega (arith, o'))
  line_costs (cons_concat {s = e} {x = x} {l = xs} {m = ys}) bs s k l (also_within d o (also_within d' o' none_within)) grows =
      let some = shows_something ys in
      plainly
      (two_cost g (cons e) s (skeleton xs + skeleton ys)
      (done_costs g (front d))
      (two_cost g (concatenation e) (skeleton xs + skeleton ys) (skeleton xs + skeleton ys) (done_costs g (rest d)) (done_costs g d') (omega (arith, some)) (omega arith) (omega arith))
      l (omega (arith, o, o', grows)) (omega arith))
      (omega (arith, o, o'))
  line_costs (empty_snoc {s = e} {x = x}) bs s k l (also_within d o (also_within d' o' none_within)) grows =
      plainly
      (two_cost g (cons e) s 0 (done_costs g d') (constant_costs g (empty e) 1 0 (omega arith) tt (omega arith)) l (omega (arith, o, o', grows)) (omega arith))
      (omega (arith, o))
  line_costs (cons_snoc {s = e} {x = x} {y = y} {l = ys}) bs s k l (also_within d o (also_within d' o' none_within)) grows =
      plainly
      (two_cost g (cons e) s (skeleton ys + skeleton x)
      (done_costs g (front d))
      (two_cost g (snoc e) (skeleton ys + skeleton x + 3) (skeleton ys + skeleton x) (done_costs g (rest d)) (done_costs g d') (omega arith) (omega arith) (omega arith))
      l (omega (arith, o, o', grows)) (omega arith))
      (omega (arith, o, o'))
  line_costs size_empty bs s k l (also_within d o none_within) grows = plainly (is_done {n = 0} done_numeral l) (omega (arith, o))
  line_costs (size_cons {s = e} {x = x} {l = xs}) bs s k l (also_within d o none_within) grows =
      plainly
      (one_costs g (upcast positive natural) s (skeleton xs + 1)
      (one_costs g (arithmetic successor (natural ∷ []) positive) 1 (skeleton xs + 1)
      (one_costs g (size e) 1 (skeleton xs) (done_costs g (rest d)) (omega arith) tt (omega arith))
      (omega arith) tt (omega arith))
      l tt (omega arith))
      (omega (arith, o))
  line_costs (head_cons {x = x}) bs s k l (also_within d o none_within) grows = plainly (is_done {n = 0} (front d) (omega (arith, o, grows))) (omega (arith, o))
  line_costs (tail_cons {l = xs}) bs s k l (also_within d o none_within) grows = plainly (is_done {n = 0} (rest d) (omega (arith, o, grows))) (omega (arith, o))
  line_costs (rhead_one {x = x}) bs s k l (also_within d o none_within) grows = plainly (is_done {n = 0} (front d) (omega (arith, o, grows))) (omega (arith, o))
  line_costs (rhead_more {s = e} {x = x} {y = y} {l = ys}) bs s k l (also_within d o none_within) grows =
      plainly (one_costs g (rhead e) s (skeleton (consᵗ e y ys)) (done_costs g (rest d)) l (omega (arith, o, grows)) (omega arith)) (omega (arith, o))
  line_costs (rtail_one {s = e} {x = x}) bs s k l (also_within d o none_within) grows = plainly (constant_costs g (empty e) s 0 l tt (omega arith)) (omega (arith, o))
  line_costs (rtail_more {s = e} {x = x} {y = y} {l = ys}) bs s k l (also_within d o none_within) grows =
      plainly
      (two_cost g (cons e) s (skeleton (consᵗ e y ys))
      (done_costs g (front d))
      (one_costs g (rtail e) (skeleton (consᵗ e y ys)) (skeleton (consᵗ e y ys)) (done_costs g (rest d)) (omega arith) (omega arith) (omega arith))
      l (omega (arith, o, grows)) (omega arith))
      (omega (arith, o))
  line_costs (at_zero {x = x}) bs s k l (also_within d o (also_within d' o' none_within)) grows = plainly (is_done {n = 0} (front d) (omega (arith, o, grows))) (omega (arith, o))
  line_costs (at_later {s = e} {x = x} {l = xs} {n = n}) bs s k l (also_within d o (also_within d' o' none_within)) grows =
      let some = shows_something x in
      let n_some = shows_something n in
      record {
        condition = 1;
        condition_costs = two_cost g (comparison less natural) 1 1 (is_done {s = 1} {n = 0} done_numeral (omega arith)) (done_costs g d') (omega arith) tt (omega arith);
        right = skeleton xs + 3;
        right_costs = two_cost g (element_at e) s (skeleton xs + 3)
            (done_costs g (rest d))
            (one_costs g (arithmetic to_natural (integer ∷ []) natural) 1 2
            (two_cost g (arithmetic subtract (natural ∷ natural ∷ []) integer) 1 1 (done_costs g d') (is_done {s = 1} {n = 0} done_numeral (omega arith)) (omega arith) tt (omega arith))
            (omega arith) tt (omega arith))
            l (omega (arith, o, grows)) (omega arith);
        fits = omega (arith, o, o', some, n_some);
      }
  line_costs in_empty bs s k l (also_within {b = a} d o (also_within {b = b} d' o' none_within)) grows = plainly (false_costs g s 0 l) (omega arith)
  line_costs (in_cons {s = e} {x = x} {y = y} {l = ys}) bs s k l (also_within {b = a} d o (also_within {b = b} d' o' none_within)) grows =
      let fits = members (skeleton x) (skeleton y) (skeleton ys) a b o o' in
      plainly
      (two_cost g disjunction s (skeleton x + skeleton y + suc (skeleton x) * suc (skeleton ys) + 1)
      (equal_costs g e x y s (skeleton x + skeleton y) d (front d') (omega (arith, o, o', grows)) (omega arith))
      (two_cost g (membership e) s (suc (skeleton x) * suc (skeleton ys)) (done_costs g d) (done_costs g (rest d')) l (omega (arith, o, o', grows)) (omega arith))
      l (omega arith, (omega arith, tt)) (omega arith))
      (omega (arith, fits))
  line_costs (different_constructors i p q n) bs s k l (also_within d o w) grows = plainly (false_costs g s 0 l) (omega (arith, o))
  line_costs (same_constructor {c = c} {xs = xs} {ys = ys} i p) bs s k l (also_within d o (also_within d' o' none_within)) grows =
      plainly
      (all_equal_costs g (function_at g c).arguments xs ys s (skeletons xs + skeletons ys) (parts_done function_waits d) (parts_done function_waits d') (omega (arith, o, o', grows)) (omega arith))
      (omega (arith, o, o'))
  line_costs (projected {i = i} {xs = xs} p) bs s k l (also_within d o none_within) grows = plainly (term_at_costs g xs i s (parts_done function_waits d) l (omega (arith, o, grows))) (omega arith)
  line_costs (recognised p) bs s k l w grows = plainly (true_costs g s 0 l) (omega arith)
  line_costs (not_recognised p q n) bs s k l w grows = plainly (false_costs g s 0 l) (omega arith)
  line_costs _ bs s k l w grows = tt
