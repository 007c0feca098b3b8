-- What a machine has paid at a root, and behind a condition.
use Rattle.std.proofs.Common.{◌≡◌, ◌≢◌, ◌⊎◌, ℕ, suc, ◌+◌, ◌<◌, ◌≤◌, ◌-◌, List, ◌∷◌, refl, sym, subst, arith, length, map, ⊎_elim, inl, inr}
use Rattle.std.specs.Prelude.{Contains, Some, None}
use Rattle.data_theory.specs.declared.ids.TermId.{TermId}
use Rattle.data_theory.specs.Terms.{Term}
use Rattle.data_theory.specs.Equations.{trueᵗ}
use Rattle.data_theory.specs.Provable.{Equation}
use Rattle.data_theory.specs.Rewriting.{lines, Applies}
use Rattle.data_theory.specs.Signature.{Sig}
use Rattle.data_theory.specs.IdData.{data_meant}
use Rattle.data_theory.specs.IdTrees.{Tree}
use Rattle.data_rewriter.specs.declared.equations.Found.{Found}
use Rattle.data_rewriter.specs.declared.machine.Hand.{Hand}
use Rattle.data_rewriter.specs.declared.machine.Hand.TheVariants.{Visit, Root, Answer, Spent}
use Rattle.data_rewriter.specs.Charges.{Known, ComesTo, is_left, begins_a_condition}
use Rattle.data_rewriter.specs.Frames.{Plain, decides}
use Rattle.data_rewriter.specs.Paying.{Advances, HavePaid, Pays}
use Rattle.data_rewriter.specs.Places.{whole, from_equation}
use Rattle.data_rewriter.specs.Standing.{term_at}
use Rattle.data_rewriter.specs.States.{pending_at, UsesRight, HasCondition, IsFirst, IsFirstOrNone}
use Rattle.data_rewriter.proofs.Advancing.{lines_are_free, true_is_free, stands, then_advances, advances_as, comes, passes_all, refuses, uses, ends}
use Rattle.data_rewriter.proofs.LastLine.{only_condition}

module _ (sig : Sig) (own : List Equation) (known : Known) (ts : List Tree) (origin : Term) (stack : List Plain) (start : TermId) (before : ℕ) where
  -- a use is paid, or there is no fuel for it
  pays_for_a_use : (right : TermId) (hand : Hand) (behind here fuel fuel' : ℕ) → HavePaid (data_meant sig) own known origin (map (pending_at sig ts) stack) (term_at sig ts start) behind → ComesTo (data_meant sig) own known (whole (term_at sig ts start)) None here → Advances (data_meant sig) own known (whole (term_at sig ts start)) (whole (term_at sig ts right)) (suc here) → before ≡ behind + here + fuel → UsesRight fuel fuel' right hand → Pays sig own known ts origin stack start hand before fuel'
  pays_for_a_use right hand behind here fuel fuel' w so_far l sum used = ⊎_elim
      (λ none.
      let s : Pays sig own known ts origin stack start Spent before fuel' = record { behind = behind; here = here; pending = w; paid = so_far; fuel = let a = none.0 in let b = none.1 in omega (arith, a, b, sum) } in
      subst (λ (h : Hand). Pays sig own known ts origin stack start h before fuel') (sym none.2) s)
      (λ some.
      let s : Pays sig own known ts origin stack start (Visit right) before fuel' = record { behind = behind; here = suc here; pending = w; paid = l; fuel = let a = some.0 in omega (arith, a, sum) } in
      subst (λ (h : Hand). Pays sig own known ts origin stack start h before fuel') (sym some.1) s)
      used

  module _ (root : TermId) (from fuel : ℕ) (found : Found) (f : IsFirst sig own ts root from found) (s : Pays sig own known ts origin stack start (Root root from) before fuel) where
    -- the equations in front of it don't apply
    reaches : Advances (data_meant sig) own known (whole (term_at sig ts start)) (from_equation found.number (term_at sig ts root)) s.here
    reaches =
        let inside : found.number ≤ lines + length own = let l = f.is_inside in omega (arith, l) in
        let e : found.number ≡ from + (found.number - from) = let l = f.is_behind in omega (arith, l) in
        advances_as (data_meant sig) own known (omega arith) (then_advances (data_meant sig) own known s.paid.1 (passes_all (data_meant sig) own known (found.number - from) from found.number (term_at sig ts root) e inside f.passed_over))

    pub pays_without : found.cond ≡ None → (hand : Hand) (fuel' : ℕ) → UsesRight fuel fuel' found.right hand → Pays sig own known ts origin stack start hand before fuel'
    pays_without bare hand fuel' used =
        let is : f.condition ≡ trueᵗ = subst (HasCondition sig ts found.number f.condition f.charge) bare f.has_condition in
        let free : f.charge ≡ 0 = true_is_free f.applies_there is in
        let l = then_advances (data_meant sig) own known reaches (uses (data_meant sig) own known found.number (term_at sig ts root) f.condition (term_at sig ts found.right) f.charge f.is_inside f.applies_there (inl (is, refl))) in
        pays_for_a_use found.right hand s.behind (s.here + 0) fuel fuel' s.pending (comes (data_meant sig) own known None reaches is_left) (advances_as (data_meant sig) own known (omega (arith, free)) l) (omega (arith, s.fuel)) used

    pub pays_nothing : Pays sig own known ts origin stack start Spent before fuel
    pays_nothing = record { behind = s.behind; here = s.here + 0; pending = s.pending; paid = comes (data_meant sig) own known None reaches is_left; fuel = omega (arith, s.fuel) }

    pub pays_for_a_condition : (cond : TermId) → found.cond ≡ Some cond → (fuel' : ℕ) (stack' : List Plain) → stack' ≡ decides start root found.number found.right ∷ stack → ((found.number < lines) × (fuel ≡ fuel')) ⊎ ((lines ≤ found.number) × (fuel ≡ suc fuel')) → Pays sig own known ts origin stack' cond (Visit cond) before fuel'
    pays_for_a_condition cond has fuel' stack' pushed charged =
        let is : HasCondition sig ts found.number f.condition f.charge (Some cond) = subst (HasCondition sig ts found.number f.condition f.charge) has f.has_condition in
        let sum : fuel ≡ f.charge + fuel' = ⊎_elim (λ same. let free : f.charge ≡ 0 = lines_are_free f.applies_there same.0 in let a = same.1 in omega (arith, free, a)) (λ paid. let one : f.charge ≡ 1 = is.2 paid.0 in let a = paid.1 in omega (arith, one, a)) charged in
        let there : Applies (data_meant sig) own found.number (term_at sig ts root) (term_at sig ts cond) (term_at sig ts found.right) f.charge = subst (λ (c : Term). Applies (data_meant sig) own found.number (term_at sig ts root) c (term_at sig ts found.right) f.charge) (sym is.0) f.applies_there in
        let other : term_at sig ts cond ≢ trueᵗ = subst (λ (c : Term). c ≢ trueᵗ) (sym is.0) is.1 in
        let w : HavePaid (data_meant sig) own known origin (map (pending_at sig ts) (decides start root found.number found.right ∷ stack)) (term_at sig ts cond) (s.behind + (s.here + f.charge)) = record { before = s.behind; moved = s.here; charge = f.charge; below = s.pending; advances = reaches; is_inside = f.is_inside; applies_there = there; not_true = other; uses_are = refl } in
        let r : Pays sig own known ts origin (decides start root found.number found.right ∷ stack) cond (Visit cond) before fuel' = record { behind = s.behind + (s.here + f.charge); here = 0; pending = w; paid = stands (data_meant sig) own known (whole (term_at sig ts cond)); fuel = omega (arith, s.fuel, sum) } in
        subst (λ (st : List Plain). Pays sig own known ts origin st cond (Visit cond) before fuel') (sym pushed) r

  -- no equation from here on applies
  pub pays_where_none_applies : (root : TermId) (from fuel : ℕ) → IsFirstOrNone sig own ts root from None → Pays sig own known ts origin stack start (Root root from) before fuel → Pays sig own known ts origin stack start (Answer root) before fuel
  pays_where_none_applies root from fuel none s =
      let y = comes (data_meant sig) own known (Some (term_at sig ts root)) s.paid.1 (ends (data_meant sig) own known from (term_at sig ts root) s.paid.0 none) in
      record { behind = s.behind; here = s.here + 0; pending = s.pending; paid = y; fuel = omega (arith, s.fuel) }

-- behind a condition
module _ (sig : Sig) (own : List Equation) (known : Known) (ts : List Tree) (origin : Term) (stack : List Plain) (start : TermId) (root : TermId) (number fuel : ℕ) (right hand normal : TermId) (is : Contains known (term_at sig ts hand, term_at sig ts normal)) (behind : ℕ) (s : HavePaid (data_meant sig) own known origin (map (pending_at sig ts) (decides start root number right ∷ stack)) (term_at sig ts hand) behind) where
  pub pays_behind_false : term_at sig ts normal ≢ trueᵗ → (next : ℕ) → next ≡ suc number → Pays sig own known ts origin stack start (Root root next) (behind + fuel) fuel
  pays_behind_false other next e =
      let l = then_advances (data_meant sig) own known s.advances (refuses (data_meant sig) own known number (term_at sig ts root) (term_at sig ts hand) (term_at sig ts right) (term_at sig ts normal) s.charge s.is_inside s.applies_there (inr (s.not_true, is)) other) in
      let l' : Advances (data_meant sig) own known (whole (term_at sig ts start)) (from_equation next (term_at sig ts root)) (s.moved + s.charge) = subst (λ (k : ℕ). Advances (data_meant sig) own known (whole (term_at sig ts start)) (from_equation k (term_at sig ts root)) (s.moved + s.charge)) (sym e) l in
      record { behind = s.before; here = s.moved + s.charge; pending = s.below; paid = ((let i = s.is_inside in omega (arith, e, i)), l'); fuel = let u = s.uses_are in omega (arith, u) }

  pub pays_behind_line : term_at sig ts normal ≢ trueᵗ → number < lines → Pays sig own known ts origin stack start (Root root lines) (behind + fuel) fuel
  pays_behind_line other less =
      let s' = pays_behind_false other (suc number) refl in
      let e : lines ≡ suc number + (lines - suc number) = omega (arith, less) in
      let none = passes_all (data_meant sig) own known (lines - suc number) (suc number) lines (term_at sig ts root) e (omega arith) (λ i c r x l m b. only_condition s.applies_there less s.not_true i c r x (omega (arith, l)) m b) in
      let l = advances_as (data_meant sig) own known (omega arith) (then_advances (data_meant sig) own known s'.paid.1 none) in
      record { behind = s'.behind; here = s'.here; pending = s'.pending; paid = (omega arith, l); fuel = s'.fuel }

  pub pays_behind_true : term_at sig ts normal ≡ trueᵗ → (hand' : Hand) (fuel' : ℕ) → UsesRight fuel fuel' right hand' → Pays sig own known ts origin stack start hand' (behind + fuel) fuel'
  pays_behind_true e hand' fuel' used =
      let there : Contains known (term_at sig ts hand, trueᵗ) = subst (λ (x : Term). Contains known (term_at sig ts hand, x)) e is in
      let l = then_advances (data_meant sig) own known s.advances (uses (data_meant sig) own known number (term_at sig ts root) (term_at sig ts hand) (term_at sig ts right) s.charge s.is_inside s.applies_there (inr (s.not_true, there))) in
      let so_far = comes (data_meant sig) own known None s.advances (begins_a_condition s.is_inside s.applies_there s.not_true) in
      pays_for_a_use sig own known ts origin stack start (behind + fuel) right hand' s.before (s.moved + s.charge) fuel fuel' s.below so_far (advances_as (data_meant sig) own known (omega arith) l) (let u = s.uses_are in omega (arith, u)) used
