-- The product with its flags does what both sides do side by side.
use Rattle.std.proofs.Common.{◌≡◌, ℕ, true, false, List, [], ◌∷◌, ◌++◌, map, refl, sym, subst, Option, Some, None}
use Rattle.data_theory.specs.Terms.{Sort, Term}
use Rattle.data_theory.specs.Equations.{trueᵗ}
use Rattle.data_theory.specs.Provable.{reflexive}
use Rattle.data_theory.specs.Environments.{Environment}
use Rattle.process_terms.specs.Theories.{Theory, IsConsistent, AreOfSorts}
use Rattle.process_terms.specs.Labels.{Label}
use Rattle.process_terms.specs.Processes.{Process, merge}
use Rattle.process_terms.specs.Steps.{Outcome, ended, goes_on, beside, Step, by_left_alone, by_right_alone, by_both}
use Rattle.process_terms.proofs.AgreeingLabels.{agree_refl}
use Rattle.bisim_laws.specs.Bisimulations.{UpTo, up_to, Lands, both_end, both_go_on, Answer, Flipped, Bisimulation, Progress}
use Rattle.bisim_laws.specs.LinearProcesses.{Linear, sorts, state_of, outcome_of, put_next, Fires}
use Rattle.bisim_laws.specs.BaseStates.{Side, flag_sorts, FlagSays, no_flag, not_ended, has_ended, SideAt, running, over, ProductState, product_state}
use Rattle.bisim_laws.specs.Links.{Product, IsGood}
use Rattle.bisim_laws.proofs.AlikeProcesses.{alike_refl}
use Rattle.bisim_laws.proofs.ComposedLinks.{up_to_bisimulation}
use Rattle.bisim_laws.proofs.Firing.{fired, fire}
use Rattle.bisim_laws.proofs.SortedFiring.{firings_keep}
use Rattle.summand_expander.specs.Product.{product, first_flag, first_columns, EndsWith, IsSide, Separate}
use Rattle.summand_expander.proofs.OneSide.{moved, out}
use Rattle.summand_expander.proofs.Whole.{linear_product}
use Rattle.summand_expander.proofs.Joint.{ended_after, Moves, moves, Joint, on_left, on_right, on_both, Comes, comes, can_left, can_right, can_both}

-- a flag that is set
set_says : (th : Theory) (g : Option ℕ) (fs : List Term) → EndsWith None g → AreOfSorts th (flag_sorts g) fs → AreOfSorts th (flag_sorts g) (map (λ f. trueᵗ) fs) × FlagSays th true (map (λ f. trueᵗ) fs)
set_says th None fs w h = elim w [ ]
set_says th (Some f) [] w h = absurd h
set_says th (Some f) (x ∷ []) w h = (((tt, tt, refl, refl), tt), has_ended reflexive)
set_says th (Some f) (x ∷ y ∷ fs) w h = absurd h.1

-- a side stands after it has moved
stands_at : (th : Theory) (a : Side) (ts fs : List Term) (o : Option (List Term)) → AreOfSorts th (sorts a.process.params) ts → AreOfSorts th (flag_sorts a.flag) fs → FlagSays th false fs → EndsWith o a.flag
    → ((us : List Term) → o ≡ Some us → AreOfSorts th (sorts a.process.params) us) → SideAt th a (outcome_of a.process o) (moved ts fs o)
stands_at th a ts fs None l k p w f = let q = set_says th a.flag fs w k in over ts (map (λ f. trueᵗ) fs) l q.0 q.1
stands_at th a ts fs (Some us) l k p w f = running us fs (f us refl) k p

ends_put : (e : Environment) (n : Option (List Term)) (f : Option ℕ) → EndsWith n f → EndsWith (put_next e n) f
ends_put e None None w = elim w [ ]
ends_put e None (Some f) w = EndsWith.flagged
ends_put e (Some ts) f w = EndsWith.need_no_flag

pub stands : {th : Theory} (vs : List Sort) (a : Side) → IsSide th.declared vs a → {r r' : Outcome} {cs cs' : List Term} {m : Label} → Moves th a r cs m r' cs' → SideAt th a r' cs'
stands {th} vs a ok (moves ts fs {m = m} o l k p f) =
    stands_at th a ts fs o l k p (subst (λ z. EndsWith z a.flag) (sym f.does.onward) (ends_put f.environment f.summand.next a.flag (ok.ends f.summand f.among)))
    (λ us q. firings_keep th vs a.process ts us m ok.linear ok.sorted l (subst (λ z. Fires th a.process ts m z) q f))

-- a step of the state, where there is one
abbrev pub StepOf : Theory → Outcome → Label → Outcome → Type 0
StepOf th ended m q = ⊥
StepOf th (goes_on p) m q = Step th p m q

beside_ended : (r : Outcome) → beside r ended ≡ r
beside_ended ended = refl
beside_ended (goes_on p) = refl

ended_beside : (r : Outcome) → beside ended r ≡ r
ended_beside ended = refl
ended_beside (goes_on p) = refl

module _ (th : Theory) (sane : IsConsistent th) (vs : List Sort) (a b : Side) (ok : Separate th.declared vs a b) where
  abbrev P : Linear
  P = product a b

  -- a joint move is a step
  one_left : {r r' : Outcome} {cs cs' : List Term} {m : Label} (s : Outcome) → Moves th a r cs m r' cs' → StepOf th (beside r s) m (beside r' s)
  one_left ended (moves ts fs {m = m} o l k p f) = subst (λ z. Step th (state_of a.process ts) m z) (sym (beside_ended (outcome_of a.process o))) (fire th a.process ts m o ok.left.linear f)
  one_left (goes_on q) (moves ts fs {m = m} o l k p f) = by_left_alone (fire th a.process ts m o ok.left.linear f)

  one_right : {s s' : Outcome} {ds ds' : List Term} {m : Label} (r : Outcome) → Moves th b s ds m s' ds' → StepOf th (beside r s) m (beside r s')
  one_right ended (moves us gs {m = m} o l k p f) = subst (λ z. Step th (state_of b.process us) m z) (sym (ended_beside (outcome_of b.process o))) (fire th b.process us m o ok.right.linear f)
  one_right (goes_on q) (moves us gs {m = m} o l k p f) = by_right_alone (fire th b.process us m o ok.right.linear f)

  pub joint_step : {r r' s s' : Outcome} {cs cs' ds ds' : List Term} {m : Label} → Joint th a b r cs s ds m r' cs' s' ds' → StepOf th (beside r s) m (beside r' s')
  joint_step (on_left {s = s} v) = one_left s v
  joint_step (on_right {r = r} v) = one_right r v
  joint_step (on_both (moves ts fs {m = m} o l k p f) (moves us gs {m = n} q l' k' p' f')) = by_both (fire th a.process ts m o ok.left.linear f) (fire th b.process us n q ok.right.linear f')

  -- and a firing of the product
  joint_fires : {r r' s s' : Outcome} {cs cs' ds ds' : List Term} {m : Label} → SideAt th a r cs → SideAt th b s ds → Joint th a b r cs s ds m r' cs' s' ds' → Fires th P (cs ++ ds) m (out (ended_after r') (ended_after s') (cs' ++ ds'))
  joint_fires h k (on_left v) = can_left th sane vs a b ok k v
  joint_fires h k (on_right v) = can_right th sane vs a b ok h v
  joint_fires h k (on_both v w) = can_both th sane vs a b ok v w

  pub joint_stands : {r r' s s' : Outcome} {cs cs' ds ds' : List Term} {m : Label} → SideAt th a r cs → SideAt th b s ds → Joint th a b r cs s ds m r' cs' s' ds' → SideAt th a r' cs' × SideAt th b s' ds'
  joint_stands h k (on_left v) = (stands vs a ok.left v, k)
  joint_stands h k (on_right v) = (h, stands vs b ok.right v)
  joint_stands h k (on_both v w) = (stands vs a ok.left v, stands vs b ok.right w)

  -- a step is a joint move
  pub data SideBySide (r : Outcome) (cs : List Term) (s : Outcome) (ds : List Term) (m : Label) : Outcome → Type 0 where
    side_by_side : {r' s' : Outcome} {cs' ds' : List Term} → Joint th a b r cs s ds m r' cs' s' ds' → SideBySide r cs s ds m (beside r' s')

  side_along : {r s q q' : Outcome} {cs ds : List Term} {m : Label} → q ≡ q' → SideBySide r cs s ds m q → SideBySide r cs s ds m q'
  side_along {r} {s} {q} {q'} {cs} {ds} {m} e h = subst (λ z. SideBySide r cs s ds m z) e h

  pub left_moves : {ts fs : List Term} {m : Label} {q : Outcome} → AreOfSorts th (sorts a.process.params) ts → AreOfSorts th (flag_sorts a.flag) fs → FlagSays th false fs → Step th (state_of a.process ts) m q
      → (cs' : List Term) × Moves th a (goes_on (state_of a.process ts)) (ts ++ fs) m q cs'
  left_moves {ts} {fs} {m} {q} l k p st =
      let f = fired th a.process ts m q ok.left.linear st in
      (moved ts fs f.0, subst (λ z. Moves th a (goes_on (state_of a.process ts)) (ts ++ fs) m z (moved ts fs f.0)) (sym f.1.1) (moves ts fs f.0 l k p f.1.0))

  pub right_moves : {us gs : List Term} {m : Label} {q : Outcome} → AreOfSorts th (sorts b.process.params) us → AreOfSorts th (flag_sorts b.flag) gs → FlagSays th false gs → Step th (state_of b.process us) m q
      → (ds' : List Term) × Moves th b (goes_on (state_of b.process us)) (us ++ gs) m q ds'
  right_moves {us} {gs} {m} {q} l k p st =
      let f = fired th b.process us m q ok.right.linear st in
      (moved us gs f.0, subst (λ z. Moves th b (goes_on (state_of b.process us)) (us ++ gs) m z (moved us gs f.0)) (sym f.1.1) (moves us gs f.0 l k p f.1.0))

  merge_step : {ts fs us gs : List Term} {m : Label} {q : Outcome} → AreOfSorts th (sorts a.process.params) ts → AreOfSorts th (flag_sorts a.flag) fs → FlagSays th false fs
      → AreOfSorts th (sorts b.process.params) us → AreOfSorts th (flag_sorts b.flag) gs → FlagSays th false gs → Step th (merge (state_of a.process ts) (state_of b.process us)) m q
      → SideBySide (goes_on (state_of a.process ts)) (ts ++ fs) (goes_on (state_of b.process us)) (us ++ gs) m q
  merge_step l k p l' k' p' (by_left_alone st) = side_by_side (on_left (left_moves l k p st).1)
  merge_step l k p l' k' p' (by_right_alone st) = side_by_side (on_right (right_moves l' k' p' st).1)
  merge_step l k p l' k' p' (by_both st st') = side_by_side (on_both (left_moves l k p st).1 (right_moves l' k' p' st').1)

  pub step_joint : {r s q : Outcome} {cs ds : List Term} {m : Label} → SideAt th a r cs → SideAt th b s ds → StepOf th (beside r s) m q → SideBySide r cs s ds m q
  step_joint (running ts fs l k p) (running us gs l' k' p') st = merge_step l k p l' k' p' st
  step_joint {q = q} (running ts fs l k p) (over us gs l' k' p') st = side_along (beside_ended q) (side_by_side (on_left (left_moves l k p st).1))
  step_joint {q = q} (over ts fs l k p) (running us gs l' k' p') st = side_along (ended_beside q) (side_by_side (on_right (right_moves l' k' p' st).1))
  step_joint (over ts fs l k p) (over us gs l' k' p') st = absurd st

  -- where both come to
  abbrev Related : Process → Process → Type 0
  Related = UpTo th (ProductState th a b P)

  lands_at : {r s : Outcome} {cs ds : List Term} → SideAt th a r cs → SideAt th b s ds → Lands Related (beside r s) (outcome_of P (out (ended_after r) (ended_after s) (cs ++ ds)))
  lands_at (running ts fs l k p) (running us gs l' k' p') = both_go_on (up_to (alike_refl th _) (product_state (running ts fs l k p) (running us gs l' k' p') refl) (alike_refl th _))
  lands_at (running ts fs l k p) (over us gs l' k' p') = both_go_on (up_to (alike_refl th _) (product_state (running ts fs l k p) (over us gs l' k' p') refl) (alike_refl th _))
  lands_at (over ts fs l k p) (running us gs l' k' p') = both_go_on (up_to (alike_refl th _) (product_state (over ts fs l k p) (running us gs l' k' p') refl) (alike_refl th _))
  lands_at (over ts fs l k p) (over us gs l' k' p') = both_end

  lands_back : {R : Process → Process → Type 0} {r s : Outcome} → Lands R r s → Lands (Flipped R) s r
  lands_back both_end = both_end
  lands_back (both_go_on h) = both_go_on h

  forth_at : {r s q : Outcome} {cs ds : List Term} {m : Label} → SideAt th a r cs → SideAt th b s ds → SideBySide r cs s ds m q → Answer th Related (state_of P (cs ++ ds)) m q
  forth_at {cs = cs} {ds = ds} {m = m} h k (side_by_side j) =
      let t = joint_stands h k j in
      record { label = m; outcome = _; step = fire th P (cs ++ ds) m _ (linear_product th.declared vs a b ok) (joint_fires h k j); agree = agree_refl th m; lands = lands_at t.0 t.1 }

  back_at : {r s : Outcome} {cs ds : List Term} {m : Label} {o : Option (List Term)} → SideAt th a r cs → SideAt th b s ds → (c : Comes th a b r cs s ds m o) → (p : Process) → beside r s ≡ goes_on p → Answer th (Flipped Related) p m (outcome_of P o)
  back_at {m = m} h k c p q =
      let t = joint_stands h k c.joint in
      record {
        label = m;
        outcome = beside c.r' c.s';
        step = subst (λ z. StepOf th z m (beside c.r' c.s')) q (joint_step c.joint);
        agree = agree_refl th m;
        lands = subst (λ z. Lands (Flipped Related) (outcome_of P z) (beside c.r' c.s')) (sym c.next) (lands_back (lands_at t.0 t.1));
      }

  forth : (p q : Process) (m : Label) (r : Outcome) → ProductState th a b P p q → Step th p m r → Answer th Related q m r
  forth p q m r (product_state h k e) st = forth_at h k (step_joint h k (subst (λ z. StepOf th z m r) (sym e) st))

  back_step : {r s : Outcome} {cs ds : List Term} {m : Label} {q : Outcome} → SideAt th a r cs → SideAt th b s ds → (p : Process) → beside r s ≡ goes_on p → (o : Option (List Term)) → Fires th P (cs ++ ds) m o → q ≡ outcome_of P o → Answer th (Flipped Related) p m q
  back_step {r} {s} {cs} {ds} {m} {q} h k p e o f w =
      subst (λ z. Answer th (Flipped Related) p m z) (sym w) (back_at h k (comes th sane vs a b ok r s cs ds h k m o f) p e)

  back : (p q : Process) (m : Label) (r : Outcome) → ProductState th a b P p q → Step th q m r → Answer th (Flipped Related) p m r
  back p q m r (product_state {ts = cs} {us = ds} h k e) st =
      let f = fired th P (cs ++ ds) m r (linear_product th.declared vs a b ok) st in
      back_step h k p e f.0 f.1.0 f.1.1

  pub product_progress : Progress th (ProductState th a b P)
  product_progress = record { forth = λ p q m r h st. forth p q m r h st; back = λ q p m r h st. back p q m r h st }

  pub product_bisimulation : Bisimulation th Related
  product_bisimulation = up_to_bisimulation product_progress

-- ---- where it starts
pub first_says : (th : Theory) (f : Option ℕ) → AreOfSorts th (flag_sorts f) (first_flag f) × FlagSays th false (first_flag f)
first_says th None = (tt, no_flag)
first_says th (Some f) = (((tt, tt, refl, refl), tt), not_ended reflexive)

pub product_good : (th : Theory) → IsConsistent th → (vs : List Sort) (a b : Side) → Separate th.declared vs a b → (ts us : List Term) → AreOfSorts th (sorts a.process.params) ts → AreOfSorts th (sorts b.process.params) us
    → IsGood th (Product a b (product a b)) (merge (state_of a.process ts) (state_of b.process us)) (state_of (product a b) (first_columns a ts ++ first_columns b us))
product_good th sane vs a b ok ts us h k =
    let f = first_says th a.flag in
    let g = first_says th b.flag in
    record {
      starts = up_to (alike_refl th _) (product_state (running ts (first_flag a.flag) h f.0 f.1) (running us (first_flag b.flag) k g.0 g.1) refl) (alike_refl th _);
      follows = product_bisimulation th sane vs a b ok;
    }
