-- No rewriting of a term is longer than the one that finishes.
use Rattle.std.proofs.Common.{◌≡◌, ◌≢◌, ℕ, ◌+◌, ◌≤◌, ◌<◌, List, length, refl, sym, ap, ◌∙◌, subst, arith}
use Rattle.std.specs.Prelude.{Contains}
use Rattle.std.proofs.lemmas.Option.{slice_get_within}
use Rattle.data_theory.specs.Terms.{Symbol, Term, Terms, application, more, apply}
use Rattle.data_theory.specs.Declarations.{Data}
use Rattle.data_theory.specs.Equations.{trueᵗ}
use Rattle.data_theory.specs.Provable.{Equation}
use Rattle.data_theory.specs.Rewriting.{lines, Applies, a_line, an_equation, GoesTo, by_the_first, by_all, ArgumentsGoTo, no_arguments, an_argument, RootGoesTo, tries, FromEquation, stays, passed, refused, used, ConditionGoesTo, without_condition, with_condition, Chain, not_begun, in_arguments, in_the_first, behind_the_first, at_the_root_by_the_first, at_the_root_by_all, ArgumentsChain, no_arguments_left, in_an_argument, EquationChain, not_tried, is_passed, in_the_condition, is_refused, is_used, IsCovered}
use Rattle.data_theory.specs.Fuel.{NoChainIsLonger}
use Rattle.data_theory.proofs.OrderOfLines.{place_below}
use Rattle.data_theory.proofs.GoesToOne.{applies_alike, decides_at, goes_alike, arguments_alike, condition_alike}

module _ (g : Data) (own : List Equation) (covered : (q : Equation) → Contains own q → IsCovered q) where
  -- an equation that applies has its number below the end
  number_below : {k x : ℕ} {t c r : Term} → Applies g own k t c r x → k < lines + length own
  number_below {k} (a_line b e) = let l = place_below b k e in omega (arith, l)
  number_below (an_equation {q = q} i d p k h) = let l = slice_get_within own i q p in omega (arith, l, k)

  -- behind the last equation nothing is used
  nothing_behind : {k m : ℕ} {t : Term} → lines + length own ≤ k → EquationChain g own k t m → m ≡ 0
  nothing_behind l not_tried = refl
  nothing_behind l (is_passed n c) = nothing_behind (omega (arith, l)) c
  nothing_behind l (in_the_condition a n c) = absurd (omega (arith, l, number_below a))
  nothing_behind l (is_refused a h n c) = absurd (omega (arith, l, number_below a))
  nothing_behind l (is_used a h e c) = absurd (omega (arith, l, number_below a))

  tried : {f : Symbol} {ts : Terms} {u : Term} {n : ℕ} → RootGoesTo g own (application f ts) u n → FromEquation g own 0 (application f ts) u n
  tried (tries r) = r

  begun : {c c' d : Term} {n : ℕ} → c ≢ trueᵗ → c ≡ c' → ConditionGoesTo g own c' d n → GoesTo g own c d n
  begun differs e (without_condition p) = absurd (differs (e ∙ p))
  begun {d = d} {n = n} differs e (with_condition p r) = subst (λ x. GoesTo g own x d n) (sym e) r

  mutual
    chain_short : {t u : Term} {m n : ℕ} → Chain g own t m → GoesTo g own t u n → m ≤ n
    chain_short not_begun d = omega arith
    chain_short (in_arguments l c) (by_the_first a d r) = absurd (l d.0)
    chain_short (in_arguments l c) (by_all a n r) = let o = arguments_short c a in omega (arith, o)
    chain_short (in_the_first l c) (by_the_first a d r) = let o = chain_short c a in omega (arith, o)
    chain_short (in_the_first l c) (by_all (an_argument a rest) n r) = let o = chain_short c a in omega (arith, o)
    chain_short (behind_the_first {f = f} {b = b} {ts = ts} l p undecided c) (by_the_first {b = d} a h r) = absurd (undecided (decides_at g own covered f d b ts ts (goes_alike g own covered a p).term h).1)
    chain_short (behind_the_first l p undecided c) (by_all (an_argument a rest) n r) =
        let e = (goes_alike g own covered p a).uses in
        let o = arguments_short c rest in
        omega (arith, e, o)
    chain_short {u = u} (at_the_root_by_the_first {f = f} {b = b} {ts = ts} p d c) (by_the_first {b = b'} {m = m} a h r) =
        let s = goes_alike g own covered p a in
        let r' : RootGoesTo g own (application f (more b ts)) u m = subst (λ x. RootGoesTo g own (application f (more x ts)) u m) (sym s.term) r in
        let e = s.uses in
        let o = equation_short c (tried r') in
        omega (arith, e, o)
    chain_short (at_the_root_by_the_first {f = f} {b = b} {ts = ts} p d c) (by_all (an_argument {u = b'} {us = us} a rest) n r) =
        absurd (n (decides_at g own covered f b b' us ts (goes_alike g own covered p a).term d))
    chain_short (at_the_root_by_all {f = f} (an_argument {u = b} {us = us} p ps) undecided e c) (by_the_first {b = d} {ts = ts} a h r) =
        absurd (undecided (decides_at g own covered f d b us ts (goes_alike g own covered a p).term h))
    chain_short {u = u} (at_the_root_by_all {f = f} {h = h} {us = us} {ws = ws} p undecided e c) (by_all {us = vs} {m = m} a n r) =
        let s = arguments_alike g own covered p a in
        let r' : RootGoesTo g own (application h ws) u m = subst (λ x. RootGoesTo g own x u m) (sym (ap (apply f) s.terms) ∙ e) r in
        let same = s.uses in
        let o = equation_short c (tried r') in
        omega (arith, same, o)

    arguments_short : {ts us : Terms} {m n : ℕ} → ArgumentsChain g own ts m → ArgumentsGoTo g own ts us n → m ≤ n
    arguments_short no_arguments_left no_arguments = omega arith
    arguments_short (in_an_argument c cs) (an_argument a rest) =
        let o = chain_short c a in
        let p = arguments_short cs rest in
        omega (arith, o, p)

    equation_short : {k : ℕ} {t u : Term} {m n : ℕ} → EquationChain g own k t m → FromEquation g own k t u n → m ≤ n
    equation_short not_tried r = omega arith
    equation_short (is_passed n c) (stays e) = let o = nothing_behind (omega (arith, e)) c in omega (arith, o)
    equation_short (is_passed n c) (passed l n' r) = equation_short c r
    equation_short (is_passed n c) (refused l a h d r) = absurd (n _ _ _ a)
    equation_short (is_passed n c) (used l a h d r) = absurd (n _ _ _ a)
    equation_short (in_the_condition a n c) (stays e) = let l = number_below a in absurd (omega (arith, e, l))
    equation_short (in_the_condition a n c) (passed l n' r) = absurd (n' _ _ _ a)
    equation_short (in_the_condition {n = m} a n c) (refused l b h d r) =
        let s = applies_alike g own covered a b in
        let charge = s.charge in
        let o = chain_short c (begun n s.condition h) in
        omega (arith, charge, o)
    equation_short (in_the_condition {n = m} a n c) (used l b h d r) =
        let s = applies_alike g own covered a b in
        let charge = s.charge in
        let o = chain_short c (begun n s.condition h) in
        omega (arith, charge, o)
    equation_short (is_refused a h n c) (stays e) = let l = number_below a in absurd (omega (arith, e, l))
    equation_short (is_refused a h n c) (passed l n' r) = absurd (n' _ _ _ a)
    equation_short (is_refused {c = c} a h n ec) (refused {c = c'} {d = d'} {n = m} l b i d r) =
        let s = applies_alike g own covered a b in
        let charge = s.charge in
        let same = (condition_alike g own covered h (subst (λ x. ConditionGoesTo g own x d' m) (sym s.condition) i)).uses in
        let o = equation_short ec r in
        omega (arith, charge, same, o)
    equation_short (is_refused {c = c} a h n ec) (used {c = c'} {d = d'} {n = m} l b i d r) =
        let s = applies_alike g own covered a b in
        let same = (condition_alike g own covered h (subst (λ x. ConditionGoesTo g own x d' m) (sym s.condition) i)).term in
        absurd (n (same ∙ d))
    equation_short (is_used a h e c) (stays e') = let l = number_below a in absurd (omega (arith, e', l))
    equation_short (is_used a h e c) (passed l n' r) = absurd (n' _ _ _ a)
    equation_short (is_used {c = c} a h e ec) (refused {c = c'} {d = d'} {n = m} l b i d r) =
        let s = applies_alike g own covered a b in
        let same = (condition_alike g own covered h (subst (λ x. ConditionGoesTo g own x d' m) (sym s.condition) i)).term in
        absurd (d (sym same ∙ e))
    equation_short {u = u} (is_used {c = c} a h e ec) (used {c = c'} {d = d'} {n = m} {m = k} l b i d r) =
        let s = applies_alike g own covered a b in
        let charge = s.charge in
        let same = (condition_alike g own covered h (subst (λ x. ConditionGoesTo g own x d' m) (sym s.condition) i)).uses in
        let o = chain_short ec (subst (λ x. GoesTo g own x u k) (sym s.right) r) in
        omega (arith, charge, same, o)

pub no_chain_is_longer : NoChainIsLonger
no_chain_is_longer g own covered t u n m d c = chain_short g own covered c d
