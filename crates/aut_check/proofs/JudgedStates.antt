-- States one after another, and the verdict on all of them.
use Rattle.std.specs.Prelude.{◌≡◌, ◌<◌, ◌≤◌, ◌+◌, ℕ, List, map, length, Option, Some, slice_get, Vec}
use Rattle.std.specs.Global.{Global}
use Rattle.std.proofs.Common.{sym, subst, arith, ⊎_elim}
use Rattle.std.proofs.lemmas.List.{length-map}
use Rattle.std.proofs.lemmas.Option.{slice_get_within}
use Rattle.data_theory.specs.IdTrees.{Tree}
use Rattle.data_theory.specs.Provable.{Equation}
use Rattle.data_theory.specs.Signature.{Sig}
use Rattle.data_theory.specs.WholeSignatures.{IsSignature}
use Rattle.data_theory.specs.declared.ids.TermId.{TermId}
use Rattle.term_pool.specs.Pools.{Extends}
use Rattle.lps_core.specs.Fitting.{Fits}
use Rattle.lps_core.specs.PlainLinears.{PlainLinear, plain_next}
use Rattle.trace_replay.specs.declared.deciding.Answer.{Answer as CodeAnswer}
use Rattle.trace_replay.specs.declared.deciding.Answer.TheVariants as answers
use Rattle.trace_replay.specs.DecidedConditions.{answer_of}
use Rattle.aut_check.specs.declared.verdicts.StateVerdict.{StateVerdict}
use Rattle.aut_check.specs.Comparing.{setting, state_answer, TheStart}
use Rattle.aut_check.specs.PlainSystems.{PlainSystem, IsSystem}
use Rattle.trace_replay.specs.Settings.{Setting}
use Rattle.aut_check.specs.Verdicts.{bisimilar, mismatch, undecided, Judges, nothing_fails, start_differs, start_is_open, state_differs, state_is_open, StateAnswer, is_good, mismatches, is_undecided, StateIs}
use Rattle.aut_check.proofs.GoodFiles.{at_place}
use Rattle.aut_check.proofs.Orders.{less_or_same}
use Rattle.aut_check.proofs.SettledStates.{state_is_settled}

-- the states with a lesser number are good
abbrev pub AreGoodBelow : Setting → List Tree → PlainLinear → PlainSystem → ℕ → Type 0
AreGoodBelow s ts l f k = (j : ℕ) (q : Option (List TermId)) → j < k → slice_get f.states j ≡ Some q → StateIs s ts l f j q is_good

-- all that a state with this number comes out as
abbrev pub ComesAt : Setting → List Tree → PlainLinear → PlainSystem → ℕ → StateAnswer → Type 0
ComesAt s ts l f i a = (o : Option (List TermId)) → slice_get f.states i ≡ Some o → StateIs s ts l f i o a

module _ (s : Setting) (ts : List Tree) (l : PlainLinear) (f : PlainSystem) where
  pub none_below : AreGoodBelow s ts l f 0
  none_below j q h at = absurd (omega (arith, h))

  pub one_below : (k : ℕ) → AreGoodBelow s ts l f k → ComesAt s ts l f k is_good → AreGoodBelow s ts l f (k + 1)
  one_below k h c j q less at = ⊎_elim (λ m. h j q m at) (λ e. subst (λ i. StateIs s ts l f i q is_good) (sym e) (c q (subst (λ i. slice_get f.states i ≡ Some q) e at))) (less_or_same j k less)

  -- ---- the verdict
  pub start_open : (c : CodeAnswer) → c ≡ answers.Open → TheStart s ts l f (answer_of c) → Judges s ts l f (undecided f.first)
  start_open c e h = let r = subst (λ (z : CodeAnswer). TheStart s ts l f (answer_of z)) e h in start_is_open r.at r.comes

  pub start_fails : (c : CodeAnswer) → c ≡ answers.Fail → TheStart s ts l f (answer_of c) → Judges s ts l f (mismatch f.first)
  start_fails c e h = let r = subst (λ (z : CodeAnswer). TheStart s ts l f (answer_of z)) e h in start_differs r.at r.comes

  pub one_fails : (c : CodeAnswer) → c ≡ answers.Hold → TheStart s ts l f (answer_of c) → (i : ℕ) → i < length f.states → AreGoodBelow s ts l f i → ComesAt s ts l f i mismatches → Judges s ts l f (mismatch i)
  one_fails c e h i inside below comes =
      let r = subst (λ (z : CodeAnswer). TheStart s ts l f (answer_of z)) e h in
      let o = at_place f.states i inside in
      state_differs i r.at r.comes below o.1 (comes o.0 o.1)

  pub one_is_open : (c : CodeAnswer) → c ≡ answers.Hold → TheStart s ts l f (answer_of c) → (i : ℕ) → i < length f.states → AreGoodBelow s ts l f i → ComesAt s ts l f i is_undecided → Judges s ts l f (undecided i)
  one_is_open c e h i inside below comes =
      let r = subst (λ (z : CodeAnswer). TheStart s ts l f (answer_of z)) e h in
      let o = at_place f.states i inside in
      state_is_open i r.at r.comes below o.1 (comes o.0 o.1)

  pub all_are_good : (c : CodeAnswer) → c ≡ answers.Hold → TheStart s ts l f (answer_of c) → (k : ℕ) → length f.states ≤ k → AreGoodBelow s ts l f k → Judges s ts l f bisimilar
  all_are_good c e h k whole below =
      let r = subst (λ (z : CodeAnswer). TheStart s ts l f (answer_of z)) e h in
      nothing_fails r.at r.comes (λ i q at. below i q (let inside : i < length f.states = slice_get_within f.states i q at in omega (arith, inside, whole)) at)

-- ---- in code
-- the number of states
pub states_long : (states : List (Option (Vec TermId Global))) → length (map plain_next states) ≡ length states
states_long states = length-map states plain_next

module _ (g : Sig) (stands : IsSignature g) (own : List Equation) (fuel : ℕ) (ts us : List Tree) (grows : Extends ts us) (l : PlainLinear) (f : PlainSystem) (fits : Fits g ts l) (system : IsSystem g ts l.params f) where
  pub comes_settled : (i : ℕ) (v w : StateVerdict) → v ≡ w → ComesAt (setting g own fuel) us l f i (state_answer v) → ComesAt (setting g own fuel) ts l f i (state_answer w)
  comes_settled i v w e h o at = state_is_settled (setting g own fuel) stands ts us grows l f fits system i o at (state_answer w) (subst (λ (z : StateVerdict). StateIs (setting g own fuel) us l f i o (state_answer z)) e (h o at))
