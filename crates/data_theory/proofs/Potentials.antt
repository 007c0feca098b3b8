-- Bounds for the uses of a term's rewritings, where no equation is written, and for what equations can look at in what it goes to.
use Rattle.std.proofs.Common.{◌≡◌, ℕ, suc, ◌+◌, ◌*◌, ◌≤◌, ◌⊎◌, inl, inr, ⊎_elim, List, [], ◌∷◌, refl, sym, ap, subst, arith}
use Rattle.std.specs.Prelude.{ℤ}
use Rattle.data_theory.specs.Terms.{Sort, Symbol, negation, conjunction, disjunction, implication, equality, inequality, conditional, comparison, arithmetic, minus, cons, snoc, concatenation, size, element_at, head, rhead, tail, rtail, membership, function, Term, Terms, variable, numeral, unknown, application, none, more, apply}
use Rattle.data_theory.specs.Declarations.{Data}
use Rattle.data_theory.specs.Rewriting.{LooksFirst, FirstDecides, GoesTo, a_variable, a_numeral, an_unknown, by_the_first, by_all, ArgumentsGoTo, no_arguments, an_argument, RootGoesTo, tries, FromEquation}
use Rattle.data_theory.specs.Fuel.{nodes_of, nodes_of_all, enough_for}

-- ---- what is done: terms that go to themselves without a use
mutual
  pub data IsDone (g : Data) : Term → Type 0 where
    done_variable : {v : ℕ} → IsDone g (variable v)
    done_numeral : {a : Sort} {z : ℤ} → IsDone g (numeral a z)
    done_unknown : {d k : ℕ} → IsDone g (unknown d k)
    done_by_the_first : {f : Symbol} {b : Term} {ts : Terms} → IsDone g b → FirstDecides f (more b ts) → FromEquation g [] 0 (application f (more b ts)) (application f (more b ts)) 0 → IsDone g (application f (more b ts))
    done_by_all : {f : Symbol} {us : Terms} → AreDone g us → (FirstDecides f us → ⊥) → apply f us ≡ application f us → FromEquation g [] 0 (application f us) (application f us) 0 → IsDone g (application f us)

  pub data AreDone (g : Data) : Terms → Type 0 where
    none_done : AreDone g none
    also_done : {t : Term} {ts : Terms} → IsDone g t → AreDone g ts → AreDone g (more t ts)

by_all_unmerged : {g : Data} {f : Symbol} {us : Terms} → ArgumentsGoTo g [] us us 0 → (FirstDecides f us → ⊥) → apply f us ≡ application f us → FromEquation g [] 0 (application f us) (application f us) 0 → GoesTo g [] (application f us) (application f us) 0
by_all_unmerged {g} {f} {us} a h e r = by_all a h (subst (λ x. RootGoesTo g [] x (application f us) 0) (sym e) (tries r))

mutual
  pub goes_to_itself : {g : Data} {t : Term} → IsDone g t → GoesTo g [] t t 0
  goes_to_itself done_variable = a_variable
  goes_to_itself done_numeral = a_numeral
  goes_to_itself done_unknown = an_unknown
  goes_to_itself (done_by_the_first d h r) = by_the_first (goes_to_itself d) h (tries r)
  goes_to_itself {g} (done_by_all {f = f} {us = us} d h e r) = by_all_unmerged (go_to_themselves d) h e r

  pub go_to_themselves : {g : Data} {ts : Terms} → AreDone g ts → ArgumentsGoTo g [] ts ts 0
  go_to_themselves none_done = no_arguments
  go_to_themselves (also_done d ds) = an_argument (goes_to_itself d) (go_to_themselves ds)

-- the arguments of a done term are done, where its function doesn't look first
pub parts_done : {g : Data} {f : Symbol} {ts : Terms} → (LooksFirst f → ⊥) → IsDone g (application f ts) → AreDone g ts
parts_done not (done_by_the_first d h r) = absurd (not h.0)
parts_done not (done_by_all d h e r) = d

pub first_done : {g : Data} {t : Term} {ts : Terms} → AreDone g (more t ts) → IsDone g t
first_done (also_done d ds) = d

pub second_done : {g : Data} {t u : Term} {ts : Terms} → AreDone g (more t (more u ts)) → IsDone g u
second_done (also_done d ds) = first_done ds

-- ---- what equations look at: `|>`, `!` and declared functions, each with what stands directly under it
abbrev mutual
  pub skeleton : Term → ℕ
  skeleton (application negation ts) = suc (skeletons ts)
  skeleton (application (cons s) ts) = suc (skeletons ts)
  skeleton (application (function k) ts) = suc (skeletons ts)
  skeleton _ = 1

  pub skeletons : Terms → ℕ
  skeletons none = 0
  skeletons (more t ts) = suc (skeleton t + skeletons ts)

-- every symbol counted so
abbrev mutual
  pub width : Term → ℕ
  width (variable v) = 1
  width (numeral a z) = 1
  width (unknown d k) = 1
  width (application f ts) = suc (widths ts)

  pub widths : Terms → ℕ
  widths none = 0
  widths (more t ts) = suc (width t + widths ts)

abbrev pub sum_of : List ℕ → ℕ
sum_of [] = 0
sum_of (b ∷ bs) = b + sum_of bs

abbrev pub total : List ℕ → ℕ
total [] = 0
total (b ∷ bs) = suc (b + total bs)

abbrev pub product_of : List ℕ → ℕ
product_of (a ∷ b ∷ []) = suc a * suc b
product_of _ = 0

abbrev pub AreAtMost : List ℕ → ℕ → Type 0
AreAtMost [] s = Unit {0}
AreAtMost (b ∷ bs) s = (b ≤ s) × AreAtMost bs s

-- where equations can look at so much in the arguments, they can look at no more than this in what the application goes to
abbrev pub Grows : Symbol → List ℕ → ℕ → Type 0
Grows negation bs s = suc (total bs) ≤ s
Grows (cons e) bs s = suc (total bs) ≤ s
Grows (function k) bs s = suc (total bs) ≤ s
Grows (snoc e) bs s = suc (total bs) ≤ s
Grows (inequality e) bs s = suc (total bs) ≤ s
Grows implication bs s = total bs ≤ s
Grows (equality e) bs s = suc (sum_of bs) ≤ s
Grows (membership e) bs s = suc (sum_of bs) ≤ s
Grows conjunction bs s = AreAtMost bs s
Grows disjunction bs s = AreAtMost bs s
Grows (conditional e) bs s = AreAtMost bs s
Grows (concatenation e) bs s = sum_of bs ≤ s
Grows (element_at e) bs s = sum_of bs ≤ s
Grows (head e) bs s = sum_of bs ≤ s
Grows (rhead e) bs s = sum_of bs ≤ s
Grows (tail e) bs s = sum_of bs ≤ s
Grows (rtail e) bs s = sum_of bs ≤ s
Grows _ bs s = Unit {0}

-- and its root has no more uses than this, with those of what its right sides go on with
abbrev pub root_uses : Symbol → List ℕ → ℕ
root_uses negation bs = 1
root_uses conjunction bs = 1
root_uses disjunction bs = 1
root_uses (conditional e) bs = 1
root_uses implication bs = suc (total bs)
root_uses (equality e) bs = sum_of bs
root_uses (inequality e) bs = suc (total bs)
root_uses (comparison c e) bs = 1
root_uses (arithmetic op ss to) bs = 1
root_uses (minus e) bs = 1
root_uses (snoc e) bs = sum_of bs
root_uses (concatenation e) bs = sum_of bs
root_uses (size e) bs = sum_of bs
root_uses (element_at e) bs = sum_of bs
root_uses (head e) bs = sum_of bs
root_uses (rhead e) bs = sum_of bs
root_uses (tail e) bs = sum_of bs
root_uses (rtail e) bs = sum_of bs
root_uses (membership e) bs = product_of bs
root_uses (function k) bs = 1
root_uses _ bs = 0

-- ---- Costs g t s n: what t goes to shows equations at most s, and no rewriting of t has more than n uses; a done term costs nothing
mutual
  pub data Costs (g : Data) : Term → ℕ → ℕ → Type 0 where
    is_done : {t : Term} {s n : ℕ} → IsDone g t → skeleton t ≤ s → Costs g t s n
    applied : {f : Symbol} {ts : Terms} {bs : List ℕ} {s z n m : ℕ} → AllCost g ts bs n → 1 ≤ z → Grows f bs z → z ≤ s → n + root_uses f bs ≤ m → Costs g (application f ts) s m

  pub data AllCost (g : Data) : Terms → List ℕ → ℕ → Type 0 where
    no_costs : {n : ℕ} → AllCost g none [] n
    also_costs : {t : Term} {ts : Terms} {b : ℕ} {bs : List ℕ} {n m k : ℕ} → Costs g t b n → AllCost g ts bs m → n + m ≤ k → AllCost g (more t ts) (b ∷ bs) k

-- done terms, each showing at most so much
pub data AreDoneWithin (g : Data) : Terms → List ℕ → Type 0 where
  none_within : AreDoneWithin g none []
  also_within : {t : Term} {ts : Terms} {b : ℕ} {bs : List ℕ} → IsDone g t → skeleton t ≤ b → AreDoneWithin g ts bs → AreDoneWithin g (more t ts) (b ∷ bs)

pub within_are_done : {g : Data} {ts : Terms} {bs : List ℕ} → AreDoneWithin g ts bs → AreDone g ts
within_are_done none_within = none_done
within_are_done (also_within d o r) = also_done d (within_are_done r)

pub within_cost : {g : Data} {ts : Terms} {bs : List ℕ} → AreDoneWithin g ts bs → AllCost g ts bs 0
within_cost none_within = no_costs
within_cost (also_within d o r) = also_costs {n = 0} {m = 0} (is_done d o) (within_cost r) (omega arith)

pub more_costs : {g : Data} {t : Term} {s n : ℕ} (s' n' : ℕ) → Costs g t s n → s ≤ s' → n ≤ n' → Costs g t s' n'
more_costs s' n' (is_done d o) p q = is_done d (omega (arith, o, p))
more_costs s' n' (applied {f = f} {bs = bs} {n = n} c l grows o u) p q = applied c l grows (omega (arith, o, p)) (omega (arith, u, q))

-- ---- every term shows something
pub shows_something : (t : Term) → 1 ≤ skeleton t
shows_something (variable v) = omega arith
shows_something (numeral a z) = omega arith
shows_something (unknown d k) = omega arith
shows_something (application negation ts) = omega arith
shows_something (application (cons s) ts) = omega arith
shows_something (application (function k) ts) = omega arith
shows_something (application f ts) = omega arith

shown_in_all : {g : Data} {us : Terms} {bs : List ℕ} → AreDoneWithin g us bs → skeletons us ≤ total bs
shown_in_all none_within = omega arith
shown_in_all (also_within d o r) = let p = shown_in_all r in omega (arith, o, p)

-- what has come to its end shows no more than its application may
pub end_shows : {g : Data} (f : Symbol) (us : Terms) (bs : List ℕ) (s : ℕ) → AreDoneWithin g us bs → 1 ≤ s → Grows f bs s → skeleton (application f us) ≤ s
end_shows {g} negation us bs s w l grows = let o = shown_in_all w in omega (arith, o, grows)
end_shows {g} (cons e) us bs s w l grows = let o = shown_in_all w in omega (arith, o, grows)
end_shows {g} (function k) us bs s w l grows = let o = shown_in_all w in omega (arith, o, grows)
end_shows f us bs s w l grows = l

-- ---- what a term costs at the beginning: the square of its width
abbrev width_list : Terms → List ℕ
width_list none = []
width_list (more t ts) = width t ∷ width_list ts

abbrev squares : Terms → ℕ
squares none = 0
squares (more t ts) = width t * width t + squares ts

total_is : (ts : Terms) → total (width_list ts) ≡ widths ts
total_is none = refl
total_is (more t ts) = ap (λ n. suc (width t + n)) (total_is ts)

sum_below : (bs : List ℕ) → sum_of bs ≤ total bs
sum_below [] = omega arith
sum_below (b ∷ bs) = let o = sum_below bs in omega (arith, o)

all_below : (bs : List ℕ) (s : ℕ) → total bs ≤ s → AreAtMost bs s
all_below [] s o = tt
all_below (b ∷ bs) s o = (omega (arith, o), all_below bs s (omega (arith, o)))

two_squares : (a t q : ℕ) → q ≤ t * t → a * a + q ≤ suc (a + t) * suc (a + t)
two_squares a t q o = omega (arith, o)

squares_below : (ts : Terms) → squares ts ≤ total (width_list ts) * total (width_list ts)
squares_below none = omega arith
squares_below (more t ts) = two_squares (width t) (total (width_list ts)) (squares ts) (squares_below ts)

begins_growing : (f : Symbol) (bs : List ℕ) → Grows f bs (suc (total bs))
begins_growing negation bs = omega arith
begins_growing (cons e) bs = omega arith
begins_growing (function k) bs = omega arith
begins_growing (snoc e) bs = omega arith
begins_growing (inequality e) bs = omega arith
begins_growing implication bs = omega arith
begins_growing (equality e) bs = let o = sum_below bs in omega (arith, o)
begins_growing (membership e) bs = let o = sum_below bs in omega (arith, o)
begins_growing conjunction bs = all_below bs _ (omega arith)
begins_growing disjunction bs = all_below bs _ (omega arith)
begins_growing (conditional e) bs = all_below bs _ (omega arith)
begins_growing (concatenation e) bs = let o = sum_below bs in omega (arith, o)
begins_growing (element_at e) bs = let o = sum_below bs in omega (arith, o)
begins_growing (head e) bs = let o = sum_below bs in omega (arith, o)
begins_growing (rhead e) bs = let o = sum_below bs in omega (arith, o)
begins_growing (tail e) bs = let o = sum_below bs in omega (arith, o)
begins_growing (rtail e) bs = let o = sum_below bs in omega (arith, o)
begins_growing _ bs = tt

square_and_root : (q t r : ℕ) → q ≤ t * t → r ≤ suc t → q + r ≤ suc t * suc t
square_and_root q t r o p = omega (arith, o, p)

two_members : (a b : ℕ) → a * a + (b * b + 0) + suc a * suc b ≤ suc (suc (a + suc (b + 0))) * suc (suc (a + suc (b + 0)))
two_members a b = omega arith

-- but for `in`, a root has no more uses than the application has width
root_below : (f : Symbol) (bs : List ℕ) → (root_uses f bs ≤ suc (total bs)) ⊎ ((e : Sort) × (f ≡ membership e))
root_below (membership e) bs = inr (e, refl)
root_below (equality e) bs = let o = sum_below bs in inl (omega (arith, o))
root_below (snoc e) bs = let o = sum_below bs in inl (omega (arith, o))
root_below (concatenation e) bs = let o = sum_below bs in inl (omega (arith, o))
root_below (size e) bs = let o = sum_below bs in inl (omega (arith, o))
root_below (element_at e) bs = let o = sum_below bs in inl (omega (arith, o))
root_below (head e) bs = let o = sum_below bs in inl (omega (arith, o))
root_below (rhead e) bs = let o = sum_below bs in inl (omega (arith, o))
root_below (tail e) bs = let o = sum_below bs in inl (omega (arith, o))
root_below (rtail e) bs = let o = sum_below bs in inl (omega (arith, o))
root_below f bs = inl (omega arith)

no_product : (q t : ℕ) → q ≤ t * t → q + 0 ≤ suc t * suc t
no_product q t o = square_and_root q t 0 o (omega arith)

members_begin : (ts : Terms) → squares ts + product_of (width_list ts) ≤ suc (total (width_list ts)) * suc (total (width_list ts))
members_begin none = omega arith
members_begin (more t none) = no_product (squares (more t none)) (total (width_list (more t none))) (squares_below (more t none))
members_begin (more t (more u none)) = two_members (width t) (width u)
members_begin (more t (more u (more v ts))) = no_product (squares (more t (more u (more v ts)))) (total (width_list (more t (more u (more v ts))))) (squares_below (more t (more u (more v ts))))

begins_using : (f : Symbol) (ts : Terms) → squares ts + root_uses f (width_list ts) ≤ suc (total (width_list ts)) * suc (total (width_list ts))
begins_using f ts = ⊎_elim
    (λ o. square_and_root (squares ts) (total (width_list ts)) (root_uses f (width_list ts)) (squares_below ts) o)
    (λ m. subst (λ h. squares ts + root_uses h (width_list ts) ≤ suc (total (width_list ts)) * suc (total (width_list ts))) (sym m.1) (members_begin ts))
    (root_below f (width_list ts))

application_begins : {g : Data} (f : Symbol) (ts : Terms) → AllCost g ts (width_list ts) (squares ts) → Costs g (application f ts) (width (application f ts)) (width (application f ts) * width (application f ts))
application_begins {g} f ts c =
    subst (λ w. Costs g (application f ts) (suc w) (suc w * suc w)) (total_is ts)
    (applied c (omega arith) (begins_growing f (width_list ts)) (omega arith) (begins_using f ts))

mutual
  pub begins : {g : Data} (t : Term) → Costs g t (width t) (width t * width t)
  begins (variable v) = is_done done_variable (omega arith)
  begins (numeral a z) = is_done done_numeral (omega arith)
  begins (unknown d k) = is_done done_unknown (omega arith)
  begins (application f ts) = application_begins f ts (all_begin ts)

  pub all_begin : {g : Data} (ts : Terms) → AllCost g ts (width_list ts) (squares ts)
  all_begin none = no_costs
  all_begin (more t ts) = also_costs (begins t) (all_begin ts) (omega arith)

-- a term of n nodes has the width 2 * n - 1
mutual
  width_is : (t : Term) → suc (width t) ≡ 2 * nodes_of t
  width_is (variable v) = refl
  width_is (numeral a z) = refl
  width_is (unknown d k) = refl
  width_is (application f ts) = let e = widths_are ts in omega (arith, e)

  widths_are : (ts : Terms) → widths ts ≡ 2 * nodes_of_all ts
  widths_are none = refl
  widths_are (more t ts) = let e = width_is t in let d = widths_are ts in omega (arith, e, d)

square_is_small : (w n : ℕ) → suc w ≡ 2 * n → w * w ≤ 4 * n * n + 4
square_is_small w n e = let s : suc w * suc w ≡ (2 * n) * (2 * n) = ap (λ x. x * x) e in omega (arith, s)

pub square_is_enough : (t : Term) → width t * width t ≤ enough_for t
square_is_enough t = square_is_small (width t) (nodes_of t) (width_is t)
