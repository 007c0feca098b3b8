-- The moves at a root, behind a condition and behind an argument.
use Rattle.std.proofs.Common.{◌≡◌, ◌≢◌, ◌⊎◌, ℕ, suc, ◌+◌, ◌-◌, ◌<◌, ◌≤◌, List, ◌∷◌, refl, sym, subst, arith, length, map, Some, None, ⊎_elim}
use Rattle.std.specs.Prelude.{Option, IfSome}
use Rattle.std.proofs.lemmas.List.Elements.{All-cons}
use Rattle.std.specs.List.{All}
use Rattle.data_theory.specs.declared.ids.TermId.{TermId}
use Rattle.data_theory.specs.Terms.{Term}
use Rattle.data_theory.specs.Equations.{trueᵗ}
use Rattle.data_theory.specs.Provable.{Equation}
use Rattle.data_theory.specs.Rewriting.{lines, without_condition, Chain, not_begun, EquationChain, in_the_condition}
use Rattle.data_theory.specs.Signature.{Sig}
use Rattle.data_theory.specs.IdData.{data_meant}
use Rattle.data_theory.specs.IdTrees.{Tree}
use Rattle.data_theory.specs.IdTerms.{IsTreeWithin}
use Rattle.term_pool.specs.HeadTrees.{tree_at}
use Rattle.data_rewriter.specs.declared.equations.Found.{Found}
use Rattle.data_rewriter.specs.declared.machine.Hand.{Hand}
use Rattle.data_rewriter.specs.declared.machine.Hand.TheVariants.{Visit, Root, Answer, Spent}
use Rattle.data_rewriter.specs.Places.{whole, from_equation, Leads, Waits, in_a_condition}
use Rattle.data_rewriter.specs.Frames.{Plain, decides}
use Rattle.data_rewriter.specs.States.{IsFrameWithin, IsHandWithin, IsFoundWithin, AreWithin, pending_at, Shows, UsesRight, HasCondition, IsFirst, IsFirstOrNone}
use Rattle.data_rewriter.proofs.LastLine.{only_condition}
use Rattle.data_rewriter.proofs.Leading.{then_leads, leads_as, stands_still, passes_all, uses, ends}
use Rattle.data_rewriter.proofs.Moving.{InCondition, inverted, condition_refuses, condition_uses}
use Rattle.data_rewriter.specs.Standing.{term_at}

module _ (sig : Sig) (own : List Equation) (ts : List Tree) (origin : Term) (stack : List Plain) (start : TermId) (before : ℕ) where
  -- a use, or its want of fuel
  pub uses_right : (right : TermId) (hand : Hand) (behind here k fuel fuel' : ℕ) → Waits (data_meant sig) own origin (map (pending_at sig ts) stack) (term_at sig ts start) behind → Leads (data_meant sig) own (whole (term_at sig ts start)) (whole (term_at sig ts right)) (here + suc k) → before ≤ behind + (here + k) + fuel → UsesRight fuel fuel' right hand → Shows sig own ts origin stack start hand before fuel'
  uses_right right hand behind here k fuel fuel' w l less used = ⊎_elim
      (λ none.
      let c : Chain (data_meant sig) own (term_at sig ts start) (here + suc k + 0) = l.chain 0 not_begun in
      let e : here + suc k + 0 ≡ suc (here + k) = omega arith in
      let s : Shows sig own ts origin stack start Spent before fuel' = record { behind = behind; here = here + k; waits = w; shown = subst (Chain (data_meant sig) own (term_at sig ts start)) e c; fuel = let a = none.0 in omega (arith, a, less) } in
      subst (λ (h : Hand). Shows sig own ts origin stack start h before fuel') (sym none.2) s)
      (λ some.
      let s : Shows sig own ts origin stack start (Visit right) before fuel' = record { behind = behind; here = here + suc k; waits = w; shown = l; fuel = let a = some.0 in omega (arith, a, less) } in
      subst (λ (h : Hand). Shows sig own ts origin stack start h before fuel') (sym some.1) s)
      used

  module _ (root : TermId) (from fuel : ℕ) (found : Found) (f : IsFirst sig own ts root from found) (s : Shows sig own ts origin stack start (Root root from) before fuel) where
    -- the equations in front of it don't apply
    reaches : Leads (data_meant sig) own (whole (term_at sig ts start)) (from_equation found.number (term_at sig ts root)) s.here
    reaches =
        let inside : found.number ≤ lines + length own = let l = f.is_inside in omega (arith, l) in
        let e : found.number ≡ from + (found.number - from) = let l = f.is_behind in omega (arith, l) in
        leads_as (data_meant sig) own (omega arith) (then_leads (data_meant sig) own s.shown.1 (passes_all (data_meant sig) own (found.number - from) from found.number (term_at sig ts root) e inside f.passed_over))

    pub begins_without : found.cond ≡ None → (hand : Hand) (fuel' : ℕ) → UsesRight fuel fuel' found.right hand → Shows sig own ts origin stack start hand before fuel'
    begins_without bare hand fuel' used =
        let is : f.condition ≡ trueᵗ = subst (HasCondition sig ts found.number f.condition f.charge) bare f.has_condition in
        let l = then_leads (data_meant sig) own reaches (uses (data_meant sig) own found.number (term_at sig ts root) f.condition (term_at sig ts found.right) f.condition f.charge 0 f.is_inside f.applies_there (without_condition is) is) in
        uses_right found.right hand s.behind s.here f.charge fuel fuel' s.waits (leads_as (data_meant sig) own (omega arith) l) (omega (arith, s.fuel)) used

    pub begins_spent : (cond : TermId) → found.cond ≡ Some cond → lines ≤ found.number → fuel ≡ 0 → Shows sig own ts origin stack start Spent before fuel
    begins_spent cond has written empty =
        let is : HasCondition sig ts found.number f.condition f.charge (Some cond) = subst (HasCondition sig ts found.number f.condition f.charge) has f.has_condition in
        let one : f.charge ≡ 1 = is.2 written in
        let c : EquationChain (data_meant sig) own found.number (term_at sig ts root) (f.charge + 0) = in_the_condition f.applies_there is.1 not_begun in
        let e : s.here + (f.charge + 0) ≡ suc s.here = omega (arith, one) in
        record { behind = s.behind; here = s.here; waits = s.waits; shown = subst (Chain (data_meant sig) own (term_at sig ts start)) e (reaches.chain (f.charge + 0) c); fuel = s.fuel }

    pub begins_condition : (cond : TermId) → found.cond ≡ Some cond → (fuel' : ℕ) (stack' : List Plain) → stack' ≡ decides start root found.number found.right ∷ stack → (fuel ≡ fuel') ⊎ ((lines ≤ found.number) × (fuel ≡ suc fuel')) → Shows sig own ts origin stack' cond (Visit cond) before fuel'
    begins_condition cond has fuel' stack' pushed charged =
        let is : HasCondition sig ts found.number f.condition f.charge (Some cond) = subst (HasCondition sig ts found.number f.condition f.charge) has f.has_condition in
        let less : fuel ≤ f.charge + fuel' = ⊎_elim (λ same. omega (arith, same)) (λ paid. let one : f.charge ≡ 1 = is.2 paid.0 in let a = paid.1 in omega (arith, one, a)) charged in
        let w = in_a_condition s.waits reaches f.is_inside f.applies_there is.1 in
        let w' : Waits (data_meant sig) own origin (map (pending_at sig ts) (decides start root found.number found.right ∷ stack)) (term_at sig ts cond) (s.behind + (s.here + f.charge)) = subst (λ (x : Term). Waits (data_meant sig) own origin (map (pending_at sig ts) (decides start root found.number found.right ∷ stack)) x (s.behind + (s.here + f.charge))) (sym is.0) w in
        let r : Shows sig own ts origin (decides start root found.number found.right ∷ stack) cond (Visit cond) before fuel' = record { behind = s.behind + (s.here + f.charge); here = 0; waits = w'; shown = stands_still (data_meant sig) own (whole (term_at sig ts cond)); fuel = omega (arith, s.fuel, less) } in
        subst (λ (st : List Plain). Shows sig own ts origin st cond (Visit cond) before fuel') (sym pushed) r

  -- no equation from here on applies
  pub root_stays : (root : TermId) (from fuel : ℕ) → IsFirstOrNone sig own ts root from None → Shows sig own ts origin stack start (Root root from) before fuel → Shows sig own ts origin stack start (Answer root) before fuel
  root_stays root from fuel none s =
      let y = s.shown.1.goes (term_at sig ts root) 0 (ends (data_meant sig) own from (term_at sig ts root) s.shown.0 none) in
      record { behind = s.behind; here = s.here + 0; waits = s.waits; shown = y; fuel = omega (arith, s.fuel) }

  -- behind a condition
  module _ (root : TermId) (number fuel : ℕ) (right hand normal : TermId) (s : Shows sig own ts origin (decides start root number right ∷ stack) hand (Answer normal) before fuel) where
    was : InCondition (data_meant sig) own origin (term_at sig ts start) number (term_at sig ts root) (term_at sig ts right) (map (pending_at sig ts) stack) (term_at sig ts hand) s.behind
    was = inverted (data_meant sig) own origin s.waits

    pub behind_false : term_at sig ts normal ≢ trueᵗ → (next : ℕ) → next ≡ suc number → Shows sig own ts origin stack start (Root root next) before fuel
    behind_false other next e =
        let l = condition_refuses (data_meant sig) own origin _ (term_at sig ts root) (term_at sig ts right) _ (term_at sig ts normal) number s.behind s.here _ s.shown other was in
        let l' : Leads (data_meant sig) own (whole (term_at sig ts start)) (from_equation next (term_at sig ts root)) (was.moved + (was.charge + s.here)) = subst (λ (k : ℕ). Leads (data_meant sig) own (whole (term_at sig ts start)) (from_equation k (term_at sig ts root)) (was.moved + (was.charge + s.here))) (sym e) l in
        record { behind = was.before; here = was.moved + (was.charge + s.here); waits = was.waits; shown = ((let i = was.is_inside in omega (arith, e, i)), l'); fuel = omega (arith, was.uses_are, s.fuel) }

    pub behind_line : term_at sig ts normal ≢ trueᵗ → number < lines → Shows sig own ts origin stack start (Root root lines) before fuel
    behind_line other less =
        let s' = behind_false other (suc number) refl in
        let inside : suc number ≤ lines = less in
        let e : lines ≡ suc number + (lines - suc number) = omega (arith, less) in
        let none = passes_all (data_meant sig) own (lines - suc number) (suc number) lines (term_at sig ts root) e (omega arith) (λ i c r x l m b. only_condition was.applies_there less was.not_true i c r x (omega (arith, l)) m b) in
        let l = leads_as (data_meant sig) own (omega arith) (then_leads (data_meant sig) own s'.shown.1 none) in
        record { behind = s'.behind; here = s'.here; waits = s'.waits; shown = (omega arith, l); fuel = s'.fuel }

    pub behind_true : term_at sig ts normal ≡ trueᵗ → (hand' : Hand) (fuel' : ℕ) → UsesRight fuel fuel' right hand' → Shows sig own ts origin stack start hand' before fuel'
    behind_true is hand' fuel' used =
        let l = condition_uses (data_meant sig) own origin _ (term_at sig ts root) (term_at sig ts right) _ (term_at sig ts normal) number s.behind s.here _ s.shown is was in
        uses_right right hand' was.before was.moved (was.charge + s.here) fuel fuel' was.waits l (omega (arith, was.uses_are, s.fuel)) used

-- ---- terms over the signature
pub used_within : (sig : Sig) (ts : List Tree) (stack : List Plain) (start right : TermId) (fuel fuel' : ℕ) (hand : Hand) (start' : TermId) (hand' : Hand) → start' ≡ start → UsesRight fuel fuel' right hand' → AreWithin sig ts stack start hand → IsTreeWithin sig (tree_at ts right) → AreWithin sig ts stack start' hand'
used_within sig ts stack start right fuel fuel' hand start' hand' at_start used w r = record {
  frames = w.frames;
  begin = subst (λ (a : TermId). IsTreeWithin sig (tree_at ts a)) (sym at_start) w.begin;
  held = ⊎_elim (λ none. subst (IsHandWithin sig ts) (sym none.2) tt) (λ some. subst (IsHandWithin sig ts) (sym some.1) r) used;
}

pub condition_within : (sig : Sig) (ts : List Tree) (stack : List Plain) (start root : TermId) (from : ℕ) (found : Found) (cond : TermId) → found.cond ≡ Some cond → (stack' : List Plain) → stack' ≡ decides start root found.number found.right ∷ stack → AreWithin sig ts stack start (Root root from) → IsFoundWithin sig ts found → AreWithin sig ts stack' cond (Visit cond)
condition_within sig ts stack start root from found cond is stack' pushed w f =
    let it : IsTreeWithin sig (tree_at ts cond) = subst (λ (o : Option TermId). IfSome o (λ (a : TermId). IsTreeWithin sig (tree_at ts a))) is f.1 in
    record {
      frames = subst (All (IsFrameWithin sig ts)) (sym pushed) (All-cons (IsFrameWithin sig ts) (decides start root found.number found.right) stack (w.begin, w.held, f.0) w.frames);
      begin = it;
      held = it;
    }
