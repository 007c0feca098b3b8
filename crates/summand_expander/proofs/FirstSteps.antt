-- The product with a first step of one kind does what the operator between both sides does.
use Rattle.std.proofs.Common.{◌≡◌, ℕ, Bool, false, List, [], ◌∷◌, ◌++◌, refl, sym, subst, ⊎_elim, Option, Some}
use Rattle.std.specs.Prelude.{Contains}
use Rattle.std.proofs.lemmas.List.Elements.{Contains-append_cases}
use Rattle.data_theory.specs.Terms.{Sort, boolean, Term}
use Rattle.data_theory.specs.Declarations.{Data, IsSort}
use Rattle.data_theory.specs.Provable.{reflexive, symmetric, transitive}
use Rattle.process_terms.specs.Theories.{Theory, IsTrue, IsFalse, IsConsistent, IsOfSort, AreOfSorts}
use Rattle.process_terms.specs.Labels.{Label, AgreeInOrder}
use Rattle.process_terms.specs.Processes.{Start, left_merge, sync, Bound, Process, starting}
use Rattle.process_terms.specs.Steps.{Outcome, goes_on, beside, Step, by_left_merge, by_sync}
use Rattle.process_terms.proofs.AgreeingLabels.{agree_refl}
use Rattle.bisim_laws.specs.Sameness.{alike_starting}
use Rattle.bisim_laws.specs.Bisimulations.{UpTo, up_to, Lands, both_end as ends_both, both_go_on as goes_both, Answer, Flipped, Progress}
use Rattle.bisim_laws.specs.LinearProcesses.{Summand, Linear, variables, sorts, state_of, outcome_of, IsLinear, IsWellSorted, Fires}
use Rattle.bisim_laws.specs.BaseStates.{Side, SideAt, running, over, ProductFromState, at_first, begun}
use Rattle.bisim_laws.specs.Links.{Same}
use Rattle.bisim_laws.proofs.AlikeProcesses.{alike_refl}
use Rattle.bisim_laws.proofs.ComposedLinks.{same_good, begun_good, up_to_bisimulation}
use Rattle.bisim_laws.proofs.Firing.{fired, fire, contains_none, contains_cases}
use Rattle.lps_core.proofs.Members.{In, in_map, in_append, append_front, append_back, in_contains, contains_in}
use Rattle.lps_core.proofs.SortedTerms.{columns_sorted, declared_both}
use Rattle.lps_core.proofs.Shapes.{IsSortedSummand, summand_is, summand_sorted, summand_fits}
use Rattle.summand_expander.specs.Product.{flag_of, columns, product, first_flag, Separate}
use Rattle.summand_expander.specs.FirstSteps.{left_summands, right_summands, both_summands, left_may, both_may, started, started_summands, product_from, IsFirstFlag, ProductFromIsLinear, ProductFromAnswers, first_of_all, ProductFromIsGood, ProductFromIsBegun}
use Rattle.summand_expander.proofs.OneSide.{out}
use Rattle.summand_expander.proofs.Whole.{linear_product, sorted_product, all_declared}
use Rattle.summand_expander.proofs.Joint.{ended_after, Moves, Joint, on_left, on_right, on_both, Comes, lefts, rights, boths, fires_more, side_sorted, lefts_come, rights_come, boths_come, of_left, of_right, of_both, left_fires, right_fires, both_fire}
use Rattle.summand_expander.proofs.Flags.{stands, StepOf, joint_step, joint_stands, SideBySide, left_moves, right_moves, step_joint, first_says}
use Rattle.summand_expander.proofs.StartedGroups.{OneMoreFalse, both_end, both_go_on, Without, With, started_fits, still_distinct, group_back, group_forth}

-- ---- it is a linear process
module _ (g : Data) (vs : List Sort) (o : Start) (a b : Side) (f : ℕ) (ok : Separate g vs a b) (new : IsFirstFlag g vs a b f) where
  abbrev P : Linear
  P = product a b

  abbrev Made : Linear
  Made = product_from o a b f

  abbrev every_column : List Bound
  every_column = columns a ++ columns b

  pub in_left : (d : Summand) → In d (left_summands a b) → In d P.summands
  in_left d i = append_front (left_summands a b) (right_summands a b ++ both_summands a b) i

  pub in_right : (d : Summand) → In d (right_summands a b) → In d P.summands
  in_right d i = append_back (left_summands a b) (append_front (right_summands a b) (both_summands a b) i)

  pub in_both : (d : Summand) → In d (both_summands a b) → In d P.summands
  in_both d i = append_back (left_summands a b) (append_back (right_summands a b) i)

  pub fits_at : (d : Summand) → In d P.summands → IsSortedSummand g vs every_column d
  fits_at d i = summand_fits g vs P (linear_product g vs a b ok) (sorted_product g vs a b ok) d i

  pub sums_apart : (d : Summand) → In d P.summands → Contains (variables d.sums) f → ⊥
  sums_apart d i = new.sums d (in_contains i)

  group_fits : (may : Bool) (ds : List Summand) → ((d : Summand) → In d ds → In d P.summands) → (y : Summand) → In y (started_summands f may ds) → IsSortedSummand g vs Made.params y
  group_fits may ds w y i =
      let r = in_map (started f may) ds i in
      subst (λ z. IsSortedSummand g vs Made.params z) (sym r.2) (started_fits g vs every_column f new.declared new.params may r.0 (fits_at r.0 (w r.0 r.1)) (sums_apart r.0 (w r.0 r.1)))

  all_fit : (y : Summand) → In y Made.summands → IsSortedSummand g vs Made.params y
  all_fit y i = ⊎_elim
      (λ j. group_fits (left_may o) (left_summands a b) in_left y j)
      (λ j. ⊎_elim
      (λ k. group_fits false (right_summands a b) in_right y k)
      (λ k. group_fits (both_may o) (both_summands a b) in_both y k)
      (in_append (started_summands f false (right_summands a b)) (started_summands f (both_may o) (both_summands a b)) j))
      (in_append (started_summands f (left_may o) (left_summands a b)) (started_summands f false (right_summands a b) ++ started_summands f (both_may o) (both_summands a b)) i)

  pub linear_from : IsLinear Made
  linear_from = record { distinct = still_distinct g vs every_column f new.declared new.params ok.distinct; summands = λ y i. summand_is (all_fit y (contains_in Made.summands i)) }

  sorts_of_columns : (x : Bound) → Contains Made.params x → IsSort g x.sort
  sorts_of_columns x i = ⊎_elim
      (λ j. (sorted_product g vs a b ok).param_sorts x j)
      (λ j. ⊎_elim (λ q. subst (λ (z : Bound). IsSort g z.sort) q tt) (λ k. absurd (contains_none x k)) (contains_cases (record { var = f; sort = boolean }) x [] j))
      (Contains-append_cases every_column (flag_of (Some f)) x i)

  pub sorted_from : IsWellSorted g vs Made
  sorted_from = record {
    params = declared_both vs every_column (flag_of (Some f)) (all_declared g vs a b ok) new.declared;
    param_sorts = sorts_of_columns;
    summands = λ y i. summand_sorted (all_fit y (contains_in Made.summands i));
  }

pub from_linear : ProductFromIsLinear
from_linear g vs o a b f ok new = (linear_from g vs o a b f ok new, sorted_from g vs o a b f ok new)

-- ---- its firings
module _ (th : Theory) (sane : IsConsistent th) (vs : List Sort) (o : Start) (a b : Side) (f : ℕ) (ok : Separate th.declared vs a b) (new : IsFirstFlag th.declared vs a b f) where
  abbrev K : Linear
  K = product_from o a b f

  abbrev all : List Bound
  all = columns a ++ columns b

  abbrev group : Bool → List Summand → Linear
  group may ds = record { params = all ++ flag_of (Some f); summands = started_summands f may ds }

  -- of one kind
  data OfKind (ts : List Term) (m : Label) (next : Option (List Term)) : Type 0 where
    a_left : Fires th (group (left_may o) (left_summands a b)) ts m next → OfKind ts m next
    a_right : Fires th (group false (right_summands a b)) ts m next → OfKind ts m next
    a_both : Fires th (group (both_may o) (both_summands a b)) ts m next → OfKind ts m next

  of_kind : {ts : List Term} {m : Label} {next : Option (List Term)} → Fires th K ts m next → OfKind ts m next
  of_kind {ts} {m} {next} k = ⊎_elim
      (λ i. a_left (one (started_summands f (left_may o) (left_summands a b)) i))
      (λ i. ⊎_elim
      (λ j. a_right (one (started_summands f false (right_summands a b)) j))
      (λ j. a_both (one (started_summands f (both_may o) (both_summands a b)) j))
      (in_append (started_summands f false (right_summands a b)) (started_summands f (both_may o) (both_summands a b)) i))
      (in_append (started_summands f (left_may o) (left_summands a b)) (started_summands f false (right_summands a b) ++ started_summands f (both_may o) (both_summands a b)) (contains_in K.summands k.among))
    where
      one : (ss : List Summand) → In k.summand ss → Fires th (record { params = K.params; summands = ss }) ts m next
      one ss i = record { summand = k.summand; among = in_contains i; environment = k.environment; reads = k.reads; bound = k.bound; does = k.does }

  from_left : {ts : List Term} {m : Label} {next : Option (List Term)} → Fires th (group (left_may o) (left_summands a b)) ts m next → Fires th K ts m next
  from_left k = fires_more K.summands (λ y i. append_front (started_summands f (left_may o) (left_summands a b)) (started_summands f false (right_summands a b) ++ started_summands f (both_may o) (both_summands a b)) i) k

  from_right : {ts : List Term} {m : Label} {next : Option (List Term)} → Fires th (group false (right_summands a b)) ts m next → Fires th K ts m next
  from_right k = fires_more K.summands (λ y i. append_back (started_summands f (left_may o) (left_summands a b)) (append_front (started_summands f false (right_summands a b)) (started_summands f (both_may o) (both_summands a b)) i)) k

  from_both : {ts : List Term} {m : Label} {next : Option (List Term)} → Fires th (group (both_may o) (both_summands a b)) ts m next → Fires th K ts m next
  from_both k = fires_more K.summands (λ y i. append_back (started_summands f (left_may o) (left_summands a b)) (append_back (started_summands f false (right_summands a b)) i)) k

  -- where both come to
  abbrev Related : Process → Process → Type 0
  Related = UpTo th (ProductFromState th o a b K)

  here_at : {r s : Outcome} {cs ds : List Term} {t : Term} {p : Process} → SideAt th a r cs → SideAt th b s ds → IsOfSort th boolean t → IsFalse th t → beside r s ≡ goes_on p → Lands Related (goes_on p) (goes_on (state_of K ((cs ++ ds) ++ (t ∷ []))))
  here_at h k i j e = goes_both (up_to (alike_refl th _) (begun h k i j e) (alike_refl th _))

  lands_at : {r s : Outcome} {cs ds : List Term} {next : Option (List Term)} → SideAt th a r cs → SideAt th b s ds → OneMoreFalse th (out (ended_after r) (ended_after s) (cs ++ ds)) next → Lands Related (beside r s) (outcome_of K next)
  lands_at (running ts fs l k p) (running us gs l' k' p') (both_go_on i j) = here_at (running ts fs l k p) (running us gs l' k' p') i j refl
  lands_at (running ts fs l k p) (over us gs l' k' p') (both_go_on i j) = here_at (running ts fs l k p) (over us gs l' k' p') i j refl
  lands_at (over ts fs l k p) (running us gs l' k' p') (both_go_on i j) = here_at (over ts fs l k p) (running us gs l' k' p') i j refl
  lands_at (over ts fs l k p) (over us gs l' k' p') both_end = ends_both

  lands_back : {R : Process → Process → Type 0} {r s : Outcome} → Lands R r s → Lands (Flipped R) s r
  lands_back ends_both = ends_both
  lands_back (goes_both h) = goes_both h

  -- the columns of both sides, and the last one
  module _ (r s : Outcome) (cs ds : List Term) (t : Term) (left : SideAt th a r cs) (right : SideAt th b s ds) (flag_sorted : IsOfSort th boolean t) where
    abbrev now : List Term
    now = (cs ++ ds) ++ (t ∷ [])

    both_sorted : AreOfSorts th (sorts all) (cs ++ ds)
    both_sorted = columns_sorted th.declared [] (columns a) (columns b) cs ds (side_sorted left) (side_sorted right)

    back_in : (xs : List Summand) → ((d : Summand) → In d xs → In d (product a b).summands) → (may : Bool) {m : Label} {next : Option (List Term)} → Fires th (group may xs) now m next
        → Without th may t (record { params = all; summands = xs }) (cs ++ ds) m next
    back_in xs w may {m} {next} k =
        group_back th vs all f new.declared (all_declared th.declared vs a b ok) new.params ok.distinct xs
        (λ d i. fits_at th.declared vs o a b f ok new d (w d i)) (λ d i. sums_apart th.declared vs o a b f ok new d (w d i)) (cs ++ ds) t both_sorted flag_sorted may m next k

    forth_in : (xs : List Summand) → ((d : Summand) → In d xs → In d (product a b).summands) → (may : Bool) → (may ≡ false → IsFalse th t) → {m : Label} {next : Option (List Term)}
        → Fires th (record { params = all; summands = xs }) (cs ++ ds) m next → With th (group may xs) now m next
    forth_in xs w may told {m} {next} k =
        group_forth th vs all f new.declared (all_declared th.declared vs a b ok) new.params ok.distinct xs
        (λ d i. fits_at th.declared vs o a b f ok new d (w d i)) (λ d i. sums_apart th.declared vs o a b f ok new d (w d i)) (cs ++ ds) t both_sorted flag_sorted may told m next k

    -- its firings are those of the kinds
    left_without : {m : Label} {next : Option (List Term)} → Fires th (group (left_may o) (left_summands a b)) now m next → Without th (left_may o) t (lefts a b) (cs ++ ds) m next
    left_without k = back_in (left_summands a b) (in_left th.declared vs o a b f ok new) (left_may o) k

    right_without : {m : Label} {next : Option (List Term)} → Fires th (group false (right_summands a b)) now m next → Without th false t (rights a b) (cs ++ ds) m next
    right_without k = back_in (right_summands a b) (in_right th.declared vs o a b f ok new) false k

    both_without : {m : Label} {next : Option (List Term)} → Fires th (group (both_may o) (both_summands a b)) now m next → Without th (both_may o) t (boths a b) (cs ++ ds) m next
    both_without k = back_in (both_summands a b) (in_both th.declared vs o a b f ok new) (both_may o) k

    left_with : {m : Label} {next : Option (List Term)} → (left_may o ≡ false → IsFalse th t) → Fires th (lefts a b) (cs ++ ds) m next → With th K now m next
    left_with c k = let w = forth_in (left_summands a b) (in_left th.declared vs o a b f ok new) (left_may o) c k in record { onward = w.onward; fires = from_left w.fires; more = w.more }

    right_with : {m : Label} {next : Option (List Term)} → IsFalse th t → Fires th (rights a b) (cs ++ ds) m next → With th K now m next
    right_with c k = let w = forth_in (right_summands a b) (in_right th.declared vs o a b f ok new) false (λ q. c) k in record { onward = w.onward; fires = from_right w.fires; more = w.more }

    both_with : {m : Label} {next : Option (List Term)} → (both_may o ≡ false → IsFalse th t) → Fires th (boths a b) (cs ++ ds) m next → With th K now m next
    both_with c k = let w = forth_in (both_summands a b) (in_both th.declared vs o a b f ok new) (both_may o) c k in record { onward = w.onward; fires = from_both w.fires; more = w.more }

    -- ---- a step after the first one
    joint_with : {r' s' : Outcome} {cs' ds' : List Term} {m : Label} → IsFalse th t → Joint th a b r cs s ds m r' cs' s' ds' → With th K now m (out (ended_after r') (ended_after s') (cs' ++ ds'))
    joint_with c (on_left v) = left_with (λ q. c) (left_fires th sane vs a b ok right v)
    joint_with c (on_right v) = right_with c (right_fires th sane vs a b ok left v)
    joint_with c (on_both v w) = both_with (λ q. c) (both_fire th sane vs a b ok v w)

    -- a firing comes from a joint move, with the last column false afterwards
    record ComesWith (m : Label) (next : Option (List Term)) : Type 0 where
      plain : Option (List Term)
      comes : Comes th a b r cs s ds m plain
      more : OneMoreFalse th plain next

    kind_comes : {m : Label} {next : Option (List Term)} → OfKind now m next → ComesWith m next
    kind_comes {m} (a_left k) = let w = left_without k in record { plain = w.next; comes = of_left th sane vs a b ok r s cs ds left right (lefts_come th sane vs a b ok r s cs ds left right m w.next w.fires); more = w.more }
    kind_comes {m} (a_right k) = let w = right_without k in record { plain = w.next; comes = of_right th sane vs a b ok r s cs ds left right (rights_come th sane vs a b ok r s cs ds left right m w.next w.fires); more = w.more }
    kind_comes {m} (a_both k) = let w = both_without k in record { plain = w.next; comes = of_both th sane vs a b ok r s cs ds left right (boths_come th sane vs a b ok r s cs ds left right m w.next w.fires); more = w.more }

    later_forth : {m : Label} {q : Outcome} → IsFalse th t → SideBySide th sane vs a b ok r cs s ds m q → Answer th Related (state_of K now) m q
    later_forth {m = m} c (SideBySide.side_by_side j) =
        let at = joint_stands th sane vs a b ok left right j in
        let w = joint_with c j in
        record { label = m; outcome = _; step = fire th K now m w.onward (linear_from th.declared vs o a b f ok new) w.fires; agree = agree_refl th m; lands = lands_at at.0 at.1 w.more }

    later_back_at : {m : Label} {next : Option (List Term)} → ComesWith m next → (p : Process) → beside r s ≡ goes_on p → Answer th (Flipped Related) p m (outcome_of K next)
    later_back_at {m = m} {next = next} w p e =
        let c = w.comes in
        let at = joint_stands th sane vs a b ok left right c.joint in
        record {
          label = m;
          outcome = beside c.r' c.s';
          step = subst (λ z. StepOf th z m (beside c.r' c.s')) e (joint_step th sane vs a b ok c.joint);
          agree = agree_refl th m;
          lands = lands_back (lands_at at.0 at.1 (subst (λ z. OneMoreFalse th z next) c.next w.more));
        }

    later_back : {m : Label} {q : Outcome} (p : Process) → beside r s ≡ goes_on p → Step th (state_of K now) m q → Answer th (Flipped Related) p m q
    later_back {m} {q} p e st =
        let k = fired th K now m q (linear_from th.declared vs o a b f ok new) st in
        subst (λ z. Answer th (Flipped Related) p m z) (sym k.1.1) (later_back_at (kind_comes (of_kind k.1.0)) p e)

-- ---- the first step
-- a step of the operator between both, by what it comes from
data FirstStep (th : Theory) (o : Start) (p q : Process) (m : Label) : Outcome → Type 0 where
  left_first : {r : Outcome} → o ≡ left_merge → Step th p m r → FirstStep th o p q m (beside r (goes_on q))
  both_first : {m' n' : Label} {r s : Outcome} → o ≡ sync → m ≡ m' ++ n' → Step th p m' r → Step th q n' s → FirstStep th o p q m (beside r s)

first_step : {th : Theory} {o : Start} {p q : Process} {m : Label} {r : Outcome} → Step th (starting o p q) m r → FirstStep th o p q m r
first_step (by_left_merge s) = left_first refl s
first_step (by_sync s s') = both_first refl refl s s'

step_first : {th : Theory} {o : Start} {p q : Process} {m : Label} {r : Outcome} → FirstStep th o p q m r → Step th (starting o p q) m r
step_first {th} {o} {p} {q} {m} (left_first {r = r} e s) = subst (λ z. Step th (starting z p q) m (beside r (goes_on q))) (sym e) (by_left_merge s)
step_first {th} {o} {p} {q} {m} (both_first {r = r} {s = s'} e d s t) =
    subst (λ z. Step th (starting z p q) m (beside r s')) (sym e) (subst (λ l. Step th (starting sync p q) l (beside r s')) (sym d) (by_sync s t))

left_may_be : {o : Start} → o ≡ left_merge → left_may o ≡ false → ⊥
left_may_be {o = left_merge} e q = cc
left_may_be {o = sync} e q = cc

both_may_be : {o : Start} → o ≡ sync → both_may o ≡ false → ⊥
both_may_be {o = left_merge} e q = cc
both_may_be {o = sync} e q = cc

is_left_merge : (o : Start) → (left_may o ≡ false → ⊥) → o ≡ left_merge
is_left_merge left_merge h = refl
is_left_merge sync h = absurd (h refl)

is_sync : (o : Start) → (both_may o ≡ false → ⊥) → o ≡ sync
is_sync left_merge h = absurd (h refl)
is_sync sync h = refl

-- one side's move is a step of its process
move_step : {th : Theory} (a : Side) → IsLinear a.process → {p : Process} {r : Outcome} {cs cs' : List Term} {m : Label} → Moves th a (goes_on p) cs m r cs' → Step th p m r
move_step {th} a is (Moves.moves ts fs {m = m} o l k p f) = fire th a.process ts m o is f

module _ (th : Theory) (sane : IsConsistent th) (vs : List Sort) (o : Start) (a b : Side) (f : ℕ) (ok : Separate th.declared vs a b) (new : IsFirstFlag th.declared vs a b f) where
  abbrev L : Linear
  L = product_from o a b f

  abbrev Paired : Process → Process → Type 0
  Paired = UpTo th (ProductFromState th o a b L)

  step_left : {p : Process} {r : Outcome} {cs : List Term} {m : Label} → SideAt th a (goes_on p) cs → Step th p m r → (cs' : List Term) × Moves th a (goes_on p) cs m r cs'
  step_left (running ts fs l k c) st = left_moves th sane vs a b ok l k c st

  step_right : {p : Process} {r : Outcome} {ds : List Term} {m : Label} → SideAt th b (goes_on p) ds → Step th p m r → (ds' : List Term) × Moves th b (goes_on p) ds m r ds'
  step_right (running ts fs l k c) st = right_moves th sane vs a b ok l k c st

  module _ (p q : Process) (cs ds : List Term) (t : Term) (left : SideAt th a (goes_on p) cs) (right : SideAt th b (goes_on q) ds) (flag_sorted : IsOfSort th boolean t) (to_come : IsTrue th t) where
    abbrev first_state : List Term
    first_state = (cs ++ ds) ++ (t ∷ [])

    not_begun : IsFalse th t → ⊥
    not_begun h = sane (transitive (symmetric to_come) h)

    first_forth : {m : Label} {r : Outcome} → FirstStep th o p q m r → Answer th Paired (state_of L first_state) m r
    first_forth {m = m} (left_first e st) =
        let v = step_left left st in
        let w = left_with th sane vs o a b f ok new (goes_on p) (goes_on q) cs ds t left right flag_sorted (λ z. absurd (left_may_be e z)) (left_fires th sane vs a b ok right v.1) in
        record { label = m; outcome = _; step = fire th L first_state m w.onward (linear_from th.declared vs o a b f ok new) w.fires; agree = agree_refl th m; lands = lands_at th sane vs o a b f ok new (stands vs a ok.left v.1) right w.more }
    first_forth {m = m} (both_first {m' = m'} {n' = n'} {r = r} {s = s} e d st st') =
        let v = step_left left st in
        let v' = step_right right st' in
        let w = both_with th sane vs o a b f ok new (goes_on p) (goes_on q) cs ds t left right flag_sorted (λ z. absurd (both_may_be e z)) (both_fire th sane vs a b ok v.1 v'.1) in
        record { label = m' ++ n'; outcome = _; step = fire th L first_state (m' ++ n') w.onward (linear_from th.declared vs o a b f ok new) w.fires; agree = subst (λ l. AgreeInOrder th l (m' ++ n')) (sym d) (agree_refl th (m' ++ n')); lands = lands_at th sane vs o a b f ok new (stands vs a ok.left v.1) (stands vs b ok.right v'.1) w.more }

    first_back_at : {m : Label} {next : Option (List Term)} → OfKind th sane vs o a b f ok new first_state m next → Answer th (Flipped Paired) (starting o p q) m (outcome_of L next)
    first_back_at {m = m} {next = next} (OfKind.a_left k) =
        let w = left_without th sane vs o a b f ok new (goes_on p) (goes_on q) cs ds t left right flag_sorted k in
        let e = is_left_merge o (λ z. not_begun (w.begun z)) in
        let c = lefts_come th sane vs a b ok (goes_on p) (goes_on q) cs ds left right m w.next w.fires in
        record {
          label = m;
          outcome = beside c.r' (goes_on q);
          step = step_first (left_first e (move_step a ok.left.linear c.move));
          agree = agree_refl th m;
          lands = lands_back th sane vs o a b f ok new (lands_at th sane vs o a b f ok new (stands vs a ok.left c.move) right (subst (λ z. OneMoreFalse th z next) c.next w.more));
        }
    first_back_at {m = m} {next = next} (OfKind.a_right k) =
        let w = right_without th sane vs o a b f ok new (goes_on p) (goes_on q) cs ds t left right flag_sorted k in
        absurd (not_begun (w.begun refl))
    first_back_at {m = m} {next = next} (OfKind.a_both k) =
        let w = both_without th sane vs o a b f ok new (goes_on p) (goes_on q) cs ds t left right flag_sorted k in
        let e = is_sync o (λ z. not_begun (w.begun z)) in
        let c = boths_come th sane vs a b ok (goes_on p) (goes_on q) cs ds left right m w.next w.fires in
        record {
          label = m;
          outcome = beside c.r' c.s';
          step = step_first (both_first e c.label (move_step a ok.left.linear c.left) (move_step b ok.right.linear c.right));
          agree = agree_refl th m;
          lands = lands_back th sane vs o a b f ok new (lands_at th sane vs o a b f ok new (stands vs a ok.left c.left) (stands vs b ok.right c.right) (subst (λ z. OneMoreFalse th z next) c.next w.more));
        }

    first_back : {m : Label} {r : Outcome} → Step th (state_of L first_state) m r → Answer th (Flipped Paired) (starting o p q) m r
    first_back {m} {r} st =
        let k = fired th L first_state m r (linear_from th.declared vs o a b f ok new) st in
        subst (λ z. Answer th (Flipped Paired) (starting o p q) m z) (sym k.1.1) (first_back_at (of_kind th sane vs o a b f ok new k.1.0))

  -- ---- both together
  from_forth : (p q : Process) (m : Label) (r : Outcome) → ProductFromState th o a b L p q → Step th p m r → Answer th Paired q m r
  from_forth p q m r (at_first {p = x} {q = y} {ts = cs} {us = ds} {f = t} h k i j) st = first_forth x y cs ds t h k i j (first_step st)
  from_forth p q m r (begun {r = x} {s = y} {ts = cs} {us = ds} {f = t} h k i j e) st =
      later_forth th sane vs o a b f ok new x y cs ds t h k i j (step_joint th sane vs a b ok h k (subst (λ z. StepOf th z m r) (sym e) st))

  from_back : (p q : Process) (m : Label) (r : Outcome) → ProductFromState th o a b L p q → Step th q m r → Answer th (Flipped Paired) p m r
  from_back p q m r (at_first {p = x} {q = y} {ts = cs} {us = ds} {f = t} h k i j) st = first_back x y cs ds t h k i j st
  from_back p q m r (begun {r = x} {s = y} {ts = cs} {us = ds} {f = t} h k i j e) st = later_back th sane vs o a b f ok new x y cs ds t h k i p e st

  pub from_progress : Progress th (ProductFromState th o a b L)
  from_progress = record { forth = λ p q m r h st. from_forth p q m r h st; back = λ q p m r h st. from_back p q m r h st }

pub from_answers : ProductFromAnswers
from_answers th sane vs o a b f ok new = from_progress th sane vs o a b f ok new

pub from_good : ProductFromIsGood
from_good th sane vs o a b f ok new ts us h k x y p q =
    let c = first_says th a.flag in
    let d = first_says th b.flag in
    record {
      starts = up_to (alike_starting p q) (at_first (running ts (first_flag a.flag) h c.0 c.1) (running us (first_flag b.flag) k d.0 d.1) (tt, tt, refl, refl) reflexive) (alike_refl th _);
      follows = up_to_bisimulation (from_progress th sane vs o a b f ok new);
    }

pub from_begun : ProductFromIsBegun
from_begun th sane vs o a b f ok new ts us h k x y p q =
    let w : Process = state_of a.process ts in
    let z : Process = state_of b.process us in
    begun_good th o a b (product_from o a b f) Same Same x w y z (state_of (product_from o a b f) (first_of_all a b ts us)) (same_good th x w p) (same_good th y z q)
    (from_good th sane vs o a b f ok new ts us h k w z (alike_refl th w) (alike_refl th z))
