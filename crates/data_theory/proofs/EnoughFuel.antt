-- Where no equation is written, no rewriting of a term of n nodes has more than 4 * n * n + 4 uses.
use Rattle.std.proofs.Common.{◌≡◌, ℕ, suc, ◌+◌, ◌*◌, ◌≤◌, ◌<◌, ◌⊎◌, inl, inr, List, [], ◌∷◌, refl, sym, ◌∙◌, subst, arith, ⊎_elim}
use Rattle.std.specs.Prelude.{Some, ℤ, Contains}
use Rattle.data_theory.specs.Terms.{Sort, boolean, Symbol, Term, Terms, numeral, application, more, apply}
use Rattle.data_theory.specs.Declarations.{Data, IsData, argument_sorts, HasSort, HaveSorts}
use Rattle.data_theory.specs.Equations.{BuiltIn}
use Rattle.data_theory.specs.Provable.{Equation}
use Rattle.data_theory.specs.Rewriting.{place_of, Applies, a_line, an_equation, LooksFirst, if_looks, and_looks, or_looks, implies_looks, FirstDecides, GoesTo, by_the_first, by_all, ArgumentsGoTo, no_arguments, an_argument, RootGoesTo, merged, tries, FromEquation, stays, passed, refused, used, ConditionGoesTo, without_condition, with_condition, Chain, not_begun, in_arguments, in_the_first, behind_the_first, at_the_root_by_the_first, at_the_root_by_all, ArgumentsChain, no_arguments_left, in_an_argument, EquationChain, not_tried, is_passed, in_the_condition, is_refused, is_used, IsWellFormed, AreSorts}
use Rattle.data_theory.specs.Fuel.{EnoughFuelIsEnough, UsesAreFew}
use Rattle.data_theory.proofs.EnvironmentLemmas.{applications_have_sorts}
use Rattle.data_theory.proofs.GoesToOne.{goes_alike}
use Rattle.data_theory.proofs.GoesToIsEqual.{looks_first_unmerged, goes_to_keeps_the_sort}
use Rattle.data_theory.proofs.LinesOnTerms.{condition_sort, right_sort}
use Rattle.data_theory.proofs.NormalForms.{merges_or_not}
use Rattle.data_theory.proofs.ChainLengths.{no_chain_is_longer}
use Rattle.data_theory.proofs.Potentials.{IsDone, done_numeral, done_by_the_first, done_by_all, goes_to_itself, skeleton, width, Grows, root_uses, Costs, is_done, applied, AllCost, no_costs, also_costs, AreDoneWithin, none_within, also_within, within_are_done, end_shows, begins, square_is_enough}
use Rattle.data_theory.proofs.PotentialLines.{Right, RightIf, Ready, GrowsAt, uses_at, ready_by_all, ready_by_the_first, line_costs}
use Rattle.data_theory.proofs.Refusals.{nothing_written, no_equation, Refusal, refusal, IsAhead}

no_equation_is_ill : (g : Data) (q : Equation) → Contains [] q → IsWellFormed g q
no_equation_is_ill g q c = let l = c.1 in absurd (omega (arith, l))

no_numeral : {f : Symbol} {ts : Terms} {a : Sort} {z : ℤ} → application f ts ≡ numeral a z → ⊥
no_numeral e = cc

-- a root of a function that looks first shows nothing
shows_one : {f : Symbol} (ts : Terms) → LooksFirst f → skeleton (application f ts) ≡ 1
shows_one ts if_looks = refl
shows_one ts and_looks = refl
shows_one ts or_looks = refl
shows_one ts implies_looks = refl

below_or_at : (i k : ℕ) → i ≤ k → (i < k) ⊎ (i ≡ k)
below_or_at i k l = grind (arith, l)

module _ (g : Data) (ok : IsData g) (vs : List Sort) (sorts : AreSorts g vs) where
  -- ---- sorts
  record FirstSort (t : Term) (ts : Terms) (ss : List Sort) : Type 0 where
    sort : Sort
    has : HasSort g vs t sort
    others : List Sort
    have : HaveSorts g vs ts others
    with_it : (b : Term) → HasSort g vs b sort → HaveSorts g vs (more b ts) ss

  first_sort : (ss : List Sort) (t : Term) (ts : Terms) → HaveSorts g vs (more t ts) ss → FirstSort t ts ss
  first_sort [] t ts h = absurd h
  first_sort (a ∷ ss) t ts h = record { sort = a; has = h.0; others = ss; have = h.1; with_it = λ b k. (k, h.1) }

  keeps : {t u : Term} {n : ℕ} (a : Sort) → HasSort g vs t a → GoesTo g [] t u n → HasSort g vs u a
  keeps {t} {u} {n} a h r = goes_to_keeps_the_sort g [] ok (no_equation_is_ill g) vs sorts t u n a h r

  -- ---- the lines that lie ahead
  still_ahead : {i : ℕ} {t : Term} → IsAhead g i t → ((c r : Term) (x : ℕ) → Applies g [] i t c r x → ⊥) → IsAhead g (suc i) t
  still_ahead {i} {t} ahead nothing c r x a = ⊎_elim
      (λ o. o)
      (λ e. absurd (nothing c r x (subst (λ j. Applies g [] j t c r x) (sym e) a)))
      (below_or_at i 46 (ahead c r x a))

  ahead_of_refused : {i n : ℕ} {t : Term} → IsAhead g i t → Refusal g i n → IsAhead g (suc i) t
  ahead_of_refused ahead refusal c r x a = let l = ahead c r x a in let e = refusal.place in absurd (omega (arith, l, e))

  -- ---- what has come to its end
  record Ends (u : Term) (s n k : ℕ) : Type 0 where
    done : IsDone g u
    shown : skeleton u ≤ s
    uses : n ≤ k

  more_uses : {u : Term} {s n k : ℕ} (m l : ℕ) → Ends u s n k → (n ≤ k → m ≤ l) → Ends u s m l
  more_uses m l e o = record { done = e.done; shown = e.shown; uses = o e.uses }

  done_ends : {t u : Term} {s n k : ℕ} → IsDone g t → skeleton t ≤ s → GoesTo g [] t u n → Ends u s n k
  done_ends {t} {u} {s} {n} {k} d o r =
      let same = goes_alike g [] nothing_written r (goes_to_itself d) in
      let uses = same.uses in
      record { done = subst (IsDone g) (sym same.term) d; shown = subst (λ x. skeleton x ≤ s) (sym same.term) o; uses = omega (arith, uses) }

  record AllEnd (us : Terms) (ss : List Sort) (bs : List ℕ) (n k : ℕ) : Type 0 where
    within : AreDoneWithin g us bs
    have : HaveSorts g vs us ss
    uses : n ≤ k

  -- where a root stays, and where it goes on
  abbrev StaysOrEnds : ℕ → Term → Term → ℕ → ℕ → ℕ → Type 0
  StaysOrEnds i t u s n k = ((u ≡ t) × (n ≡ 0) × FromEquation g [] i t t 0) ⊎ Ends u s n k

  -- a root whose arguments are ready
  record IsRoot (t : Term) (bs : List ℕ) (s k : ℕ) : Type 0 where
    some : 1 ≤ s
    ready : Ready g t bs k
    grows : GrowsAt t bs s

  the_right : {c t r : Term} {i : ℕ} {bs : List ℕ} {s k : ℕ} (b : BuiltIn g c t r) → place_of b ≡ Some i → IsRoot t bs s k → Right g c r s (k + uses_at t bs)
  the_right {c} {t} {r} {i} {bs} {s} {k} b p root = subst (λ o. RightIf g o c r s (k + uses_at t bs)) p (line_costs g b bs s k root.some root.ready root.grows)

  all_ahead : (t : Term) → IsAhead g 0 t
  all_ahead t c r x a = omega arith

  unmerged_root : (f : Symbol) (us : Terms) (y : Symbol) (ws : Terms) → apply f us ≡ application y ws → application f us ≡ application y ws
  unmerged_root f us y ws same = ⊎_elim
      (λ e. sym e ∙ same)
      (λ number. absurd (no_numeral (sym same ∙ number.2)))
      (merges_or_not f us)

  -- a root that was reached by the first argument
  root_by_the_first : {f : Symbol} {b : Term} (ts : Terms) (w : ℕ) (bs : List ℕ) (s k : ℕ) → FirstDecides f (more b ts) → IsDone g b → skeleton b ≤ w → AllCost g ts bs k → 1 ≤ s → Grows f (w ∷ bs) s → IsRoot (application f (more b ts)) (w ∷ bs) s k
  root_by_the_first {f} {b} ts w bs s k decides d o cs l grows = record {
    some = l;
    ready = ready_by_the_first (more b ts) (w ∷ bs) k decides.0 (also_costs {n = 0} {m = k} (is_done d o) cs (omega arith));
    grows = grows;
  }

  root_by_all : (f : Symbol) (us : Terms) (bs : List ℕ) (s : ℕ) → AreDoneWithin g us bs → 1 ≤ s → Grows f bs s → IsRoot (application f us) bs s 0
  root_by_all f us bs s w l grows = record { some = l; ready = ready_by_all f us bs w; grows = grows }

  mutual
    ends : {t u : Term} {n : ℕ} → GoesTo g [] t u n → (a : Sort) → HasSort g vs t a → (s k : ℕ) → Costs g t s k → Ends u s n k
    ends r a h s k (is_done d o) = done_ends d o r
    ends (by_the_first {f = f} {t = t} {b = b} {u = u} {ts = ts} {n = n} {m = m} d decides (tries r)) a h s k (applied {z = z} {n = q} (also_costs {b = w} {bs = bs} {n = q1} {m = q2} c cs p) l grows o uses) =
        let first = first_sort (argument_sorts g f) t ts h.1 in
        let e = ends d first.sort first.has w q1 c in
        let spent = e.uses in
        let sort : HasSort g vs (application f (more b ts)) a = (h.0, first.with_it b (keeps first.sort first.has d), h.2, looks_first_unmerged f (more b ts) decides.0) in
        let one = shows_one (more b ts) decides.0 in
        ⊎_elim
        (λ x. let none = x.1 in record {
          done = subst (IsDone g) (sym x.0) (done_by_the_first e.done decides x.2);
          shown = subst (λ y. skeleton y ≤ s) (sym x.0) (omega (arith, one, l, o));
          uses = omega (arith, none, spent, p, uses);
        })
        (λ x. let more_spent = x.uses in let less = x.shown in record { done = x.done; shown = omega (arith, less, o); uses = omega (arith, more_spent, spent, p, uses) })
        (equation_ends r a sort (w ∷ bs) z q2 (root_by_the_first ts w bs z q2 decides e.done e.shown cs l grows) (all_ahead (application f (more b ts))))
    ends (by_all {f = f} {ts = ts} {us = us} {u = u} {n = n} {m = m} d undecided r) a h s k (applied {bs = bs} {z = z} {n = q} c l grows o uses) =
        let e = all_end d (argument_sorts g f) h.1 bs q c in
        let spent = e.uses in
        let sort : HasSort g vs (apply f us) a = subst (HasSort g vs (apply f us)) h.2 (applications_have_sorts g vs f us h.0 e.have) in
        ⊎_elim
        (λ unmerged. ⊎_elim
        (λ x. let none = x.1 in record {
          done = subst (IsDone g) (sym x.0) (done_by_all (within_are_done e.within) undecided unmerged.0 x.2);
          shown = subst (λ y. skeleton y ≤ s) (sym x.0) (let less = end_shows f us bs z e.within l grows in omega (arith, less, o));
          uses = omega (arith, none, spent, uses);
        })
        (λ x. let more_spent = x.uses in let less = x.shown in record { done = x.done; shown = omega (arith, less, o); uses = omega (arith, more_spent, spent, uses) })
        unmerged.1)
        (λ x. let more_spent = x.uses in let less = x.shown in record { done = x.done; shown = omega (arith, less, o); uses = omega (arith, more_spent, spent, uses) })
        (root_ends r f us (merges_or_not f us) a sort bs z (root_by_all f us bs z e.within l grows))

    all_end : {ts us : Terms} {n : ℕ} → ArgumentsGoTo g [] ts us n → (ss : List Sort) → HaveSorts g vs ts ss → (bs : List ℕ) (k : ℕ) → AllCost g ts bs k → AllEnd us ss bs n k
    all_end no_arguments ss h bs k no_costs = record { within = none_within; have = h; uses = omega arith }
    all_end (an_argument d ds) [] h bs k c = absurd h
    all_end (an_argument d ds) (a ∷ ss) h bs k (also_costs {b = b} {bs = cs} {n = n} {m = m} c rest o) =
        let e = ends d a h.0 b n c in
        let es = all_end ds ss h.1 cs m rest in
        let spent = e.uses in
        let all_spent = es.uses in
        record { within = also_within e.done e.shown es.within; have = (keeps a h.0 d, es.have); uses = omega (arith, spent, all_spent, o) }

    root_ends : {t u : Term} {n : ℕ} → RootGoesTo g [] t u n → (f : Symbol) (us : Terms) → (t ≡ application f us) ⊎ ((a : Sort) × (z : ℤ) × (t ≡ numeral a z)) → (a : Sort) → HasSort g vs t a → (bs : List ℕ) (s : ℕ) → IsRoot (application f us) bs s 0 → ((t ≡ application f us) × StaysOrEnds 0 (application f us) u s n (0 + root_uses f bs)) ⊎ Ends u s n (0 + root_uses f bs)
    root_ends merged f us e a h bs s root = inr (record { done = done_numeral; shown = root.some; uses = omega arith })
    root_ends {u = u} {n = n} (tries {f = y} {ts = ws} r) f us e a h bs s root = ⊎_elim
        (λ same. inl (same, subst (λ x. StaysOrEnds 0 x u s n (0 + uses_at x bs)) same (equation_ends r a h bs s 0 (subst (λ x. IsRoot x bs s 0) (sym same) root) (all_ahead (application y ws)))))
        (λ number. absurd (no_numeral number.2))
        e

    condition_ends : {c d : Term} {n : ℕ} → ConditionGoesTo g [] c d n → HasSort g vs c boolean → (k : ℕ) → Costs g c 1 k → n ≤ k
    condition_ends (without_condition e) h k c = omega arith
    condition_ends (with_condition differs r) h k c = (ends r boolean h 1 k c).uses

    equation_ends : {i : ℕ} {t u : Term} {n : ℕ} → FromEquation g [] i t u n → (a : Sort) → HasSort g vs t a → (bs : List ℕ) (s k : ℕ) → IsRoot t bs s k → IsAhead g i t → StaysOrEnds i t u s n (k + uses_at t bs)
    equation_ends (stays p) a h bs s k root ahead = inl (refl, refl, stays p)
    equation_ends (passed l nothing r) a h bs s k root ahead = ⊎_elim
        (λ x. inl (x.0, x.1, passed l nothing x.2))
        (λ e. inr e)
        (equation_ends r a h bs s k root (still_ahead ahead nothing))
    equation_ends {i = i} {t = t} (refused {n = n} {m = m} l (a_line b p) d differs r) a h bs s k root ahead =
        let free = refusal g vs a bs k b p d differs h root.ready ahead in
        let none = free.uses in
        ⊎_elim
        (λ x. let none_later = x.1 in
        let zero_uses : 0 + n + 0 ≡ 0 = omega (arith, none) in
        inl (x.0, omega (arith, none, none_later), subst (FromEquation g [] i t t) zero_uses (refused l (a_line b p) d differs x.2)))
        (λ e. inr (more_uses _ _ e (λ o. omega (arith, o, none))))
        (equation_ends r a h bs s k root (ahead_of_refused ahead free))
    equation_ends (refused l (an_equation j e p q w) d differs r) a h bs s k root ahead = absurd (no_equation g j p)
    equation_ends {t = t} (used {n = n} {m = m} l (a_line b p) d holds r) a h bs s k root ahead =
        let right = the_right b p root in
        let first = condition_ends d (condition_sort g vs ok sorts b a h) right.condition right.condition_costs in
        let e = ends r a (right_sort g vs ok sorts b a h) s right.right right.right_costs in
        let fits = right.fits in
        inr (more_uses _ _ e (λ o. omega (arith, o, first, fits)))
    equation_ends (used l (an_equation j e p q w) d holds r) a h bs s k root ahead = absurd (no_equation g j p)

  -- ---- unfinished rewritings
  mutual
    chain_ends : {t : Term} {m : ℕ} → Chain g [] t m → (a : Sort) → HasSort g vs t a → (s k : ℕ) → Costs g t s k → m ≤ k
    chain_ends {t = t} {m = m} c a h s k (is_done d o) = let least = no_chain_is_longer g [] nothing_written t t 0 m (goes_to_itself d) c in omega (arith, least)
    chain_ends not_begun a h s k (applied c l grows o uses) = omega arith
    chain_ends (in_arguments {f = f} looks cs) a h s k (applied {bs = bs} {n = q} c l grows o uses) =
        let all = arguments_chain_ends cs (argument_sorts g f) h.1 bs q c in
        omega (arith, all, uses)
    chain_ends (in_the_first {f = f} {t = t} {ts = ts} looks ch) a h s k (applied {n = q} (also_costs {b = w} {n = q1} c cs p) l grows o uses) =
        let first = first_sort (argument_sorts g f) t ts h.1 in
        let some = chain_ends ch first.sort first.has w q1 c in
        omega (arith, some, p, uses)
    chain_ends (behind_the_first {f = f} {t = t} {b = b} {ts = ts} looks d undecided ch) a h s k (applied {n = q} (also_costs {b = w} {bs = bs} {n = q1} {m = q2} c cs p) l grows o uses) =
        let first = first_sort (argument_sorts g f) t ts h.1 in
        let spent = (ends d first.sort first.has w q1 c).uses in
        let all = arguments_chain_ends ch first.others first.have bs q2 cs in
        omega (arith, spent, all, p, uses)
    chain_ends (at_the_root_by_the_first {f = f} {t = t} {b = b} {ts = ts} d decides ch) a h s k (applied {z = z} {n = q} (also_costs {b = w} {bs = bs} {n = q1} {m = q2} c cs p) l grows o uses) =
        let first = first_sort (argument_sorts g f) t ts h.1 in
        let e = ends d first.sort first.has w q1 c in
        let spent = e.uses in
        let sort : HasSort g vs (application f (more b ts)) a = (h.0, first.with_it b (keeps first.sort first.has d), h.2, looks_first_unmerged f (more b ts) decides.0) in
        let rest = equation_chain_ends ch a sort (w ∷ bs) z q2 (root_by_the_first ts w bs z q2 decides e.done e.shown cs l grows) (all_ahead (application f (more b ts))) in
        omega (arith, spent, rest, p, uses)
    chain_ends (at_the_root_by_all {f = f} {h = y} {us = us} {ws = ws} {m = m} d undecided same ch) a h s k (applied {bs = bs} {z = z} {n = q} c l grows o uses) =
        let e = all_end d (argument_sorts g f) h.1 bs q c in
        let spent = e.uses in
        let sort : HasSort g vs (application y ws) a = subst (λ x. HasSort g vs x a) same (subst (HasSort g vs (apply f us)) h.2 (applications_have_sorts g vs f us h.0 e.have)) in
        let unmerged = unmerged_root f us y ws same in
        let rest = equation_chain_ends ch a sort bs z 0 (subst (λ x. IsRoot x bs z 0) unmerged (root_by_all f us bs z e.within l grows)) (all_ahead (application y ws)) in
        let at_most : m ≤ 0 + root_uses f bs = subst (λ x. m ≤ 0 + uses_at x bs) (sym unmerged) rest in
        omega (arith, spent, at_most, uses)

    arguments_chain_ends : {ts : Terms} {n : ℕ} → ArgumentsChain g [] ts n → (ss : List Sort) → HaveSorts g vs ts ss → (bs : List ℕ) (k : ℕ) → AllCost g ts bs k → n ≤ k
    arguments_chain_ends no_arguments_left ss h bs k c = omega arith
    arguments_chain_ends (in_an_argument ch chs) [] h bs k c = absurd h
    arguments_chain_ends (in_an_argument ch chs) (a ∷ ss) h bs k (also_costs {b = b} {bs = cs} {n = n} {m = m} c rest o) =
        let some = chain_ends ch a h.0 b n c in
        let all = arguments_chain_ends chs ss h.1 cs m rest in
        omega (arith, some, all, o)

    equation_chain_ends : {i : ℕ} {t : Term} {m : ℕ} → EquationChain g [] i t m → (a : Sort) → HasSort g vs t a → (bs : List ℕ) (s k : ℕ) → IsRoot t bs s k → IsAhead g i t → m ≤ k + uses_at t bs
    equation_chain_ends not_tried a h bs s k root ahead = omega arith
    equation_chain_ends (is_passed nothing ch) a h bs s k root ahead = equation_chain_ends ch a h bs s k root (still_ahead ahead nothing)
    equation_chain_ends (in_the_condition (a_line b p) differs ch) a h bs s k root ahead =
        let right = the_right b p root in
        let some = chain_ends ch boolean (condition_sort g vs ok sorts b a h) 1 right.condition right.condition_costs in
        let fits = right.fits in
        omega (arith, some, fits)
    equation_chain_ends (in_the_condition (an_equation j e p q w) differs ch) a h bs s k root ahead = absurd (no_equation g j p)
    equation_chain_ends (is_refused (a_line b p) d differs ch) a h bs s k root ahead =
        let free = refusal g vs a bs k b p d differs h root.ready ahead in
        let none = free.uses in
        let rest = equation_chain_ends ch a h bs s k root (ahead_of_refused ahead free) in
        omega (arith, none, rest)
    equation_chain_ends (is_refused (an_equation j e p q w) d differs ch) a h bs s k root ahead = absurd (no_equation g j p)
    equation_chain_ends (is_used (a_line b p) d holds ch) a h bs s k root ahead =
        let right = the_right b p root in
        let first = condition_ends d (condition_sort g vs ok sorts b a h) right.condition right.condition_costs in
        let rest = chain_ends ch a (right_sort g vs ok sorts b a h) s right.right right.right_costs in
        let fits = right.fits in
        omega (arith, first, rest, fits)
    equation_chain_ends (is_used (an_equation j e p q w) d holds ch) a h bs s k root ahead = absurd (no_equation g j p)

pub enough_fuel_is_enough : EnoughFuelIsEnough
enough_fuel_is_enough g ok vs sorts t s h fuel enough chain =
    let most = chain_ends g ok vs sorts chain.2 s h (width t) (width t * width t) (begins t) in
    let square = square_is_enough t in
    let longer = chain.1 in
    omega (arith, most, square, enough, longer)

pub uses_are_few : UsesAreFew
uses_are_few g ok vs sorts t s h u n r =
    let most = (ends g ok vs sorts r s h (width t) (width t * width t) (begins t)).uses in
    let square = square_is_enough t in
    omega (arith, most, square)
