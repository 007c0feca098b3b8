-- Trials, and the search that they are.
use Rattle.std.specs.Prelude.{◌≡◌, ◌<◌, ◌≤◌, ◌+◌, ◌⊎◌, ℕ, zero, suc, Bool, true, false, List, [], ◌∷◌, ◌++◌, length, set, cond, slice_index_or}
use Rattle.std.proofs.Common.{refl, sym, subst, ap, ◌∙◌, arith, inl, inr, ⊎_elim, length-append, get_or-set_same, get_or-set_other}
use Rattle.std.specs.List.{Contains, SwappedAt}
use Rattle.std.proofs.lemmas.List.Elements.{Contains-append_left, Contains-push_cases, Contains-push}
use Rattle.std.proofs.lemmas.List.Sums.{sum_by-set}
use Rattle.std.proofs.Math.ListN.{length-set}
use Rattle.bisim_laws.proofs.Firing.{contains_none}
use Rattle.aut_check.specs.Matchings.{column_of, mark_at, AddsTrials, HasMatching, IsBegun, IsMarkedBelow, IsMoved, IsTrial, PlainTrial}
use Rattle.aut_check.proofs.Orders.{same_or_not, exchanged_order, less_or_same, no_matching_left}

-- a moved row is one of the rows
pub moved_below : (moved : List Bool) (v : ℕ) → IsMoved moved v → v < length moved
moved_below [] v h = absurd (let never : ⊥ = cc in never)
moved_below (b ∷ bs) zero h = omega arith
moved_below (b ∷ bs) (suc v) h = let r = moved_below bs v h in omega (arith, r)

-- a row that is moved, and the others
pub moved_now : (moved : List Bool) (v : ℕ) → v < length moved → IsMoved (set moved v true) v
moved_now moved v l = get_or-set_same moved v true false l

pub moved_before : (moved : List Bool) (v other : ℕ) → v < length moved → IsMoved moved other → IsMoved (set moved v true) other
moved_before moved v other l h = ⊎_elim (λ e. subst (IsMoved (set moved v true)) (sym e) (moved_now moved v l)) (λ n. get_or-set_other moved v other true false n ∙ h) (same_or_not other v)

pub moved_since : (moved : List Bool) (v other : ℕ) → IsMoved (set moved v true) other → IsMoved moved other ⊎ (other ≡ v)
moved_since moved v other h = ⊎_elim (λ e. inr e) (λ n. inl (sym (get_or-set_other moved v other true false n) ∙ h)) (same_or_not other v)

abbrev unmoved_at : Bool → ℕ
unmoved_at b = cond b 0 1

module _ (marks : List (List Bool)) (row : ℕ) (first : List ℕ) where
  -- ---- one trial
  pub first_trial : IsBegun marks row first → (moved : List Bool) → IsMoved moved row → IsTrial marks row first moved (record { order = first; loose = row })
  first_trial begun moved root = record {
    order = begun.order;
    loose = root;
    marked = λ other l n. begun.marked other (less other row l n);
    hole = refl;
    kept = λ other _. refl;
  }
    where
      less : (n m : ℕ) → n ≤ m → (n ≡ m → ⊥) → n < m
      less n m l h = grind (arith, l, h)

  pub trial_on : (moved moved' : List Bool) (t : PlainTrial) → ((other : ℕ) → IsMoved moved other → IsMoved moved' other) → IsTrial marks row first moved t → IsTrial marks row first moved' t
  trial_on moved moved' t grows h = record { order = h.order; loose = grows t.loose h.loose; marked = h.marked; hole = h.hole; kept = λ other n. h.kept other (λ m. n (grows other m)) }

  -- the loose row gets the column of one that wasn't moved
  pub next_trial : (moved moved' : List Bool) (t : PlainTrial) (place : ℕ) (made : List ℕ) → IsTrial marks row first moved t → length moved ≡ length marks → place < length marks → (IsMoved moved place → ⊥) → mark_at marks t.loose (column_of first place) ≡ true
      → SwappedAt t.order made t.loose place → length made ≡ length t.order → ((other : ℕ) → IsMoved moved other → IsMoved moved' other) → IsMoved moved' place → IsTrial marks row first moved' (record { order = made; loose = place })
  next_trial moved moved' t place made h size inside unmoved mark swapped long grows now = record {
    order = exchanged_order (length marks) t.order made t.loose place h.order loose_inside inside long swapped;
    loose = now;
    marked = λ other l n. ⊎_elim
        (λ e. subst (λ (r : ℕ). mark_at marks r (column_of made r) ≡ true) (sym e) (ap (mark_at marks t.loose) (swapped.0 0 ∙ h.kept place unmoved) ∙ mark))
        (λ o. ap (mark_at marks other) (swapped.2 other 0 o n) ∙ h.marked other l o)
        (same_or_not other t.loose);
    hole = swapped.1 0 ∙ h.hole;
    kept = λ other n. swapped.2 other 0 (λ e. n (subst (IsMoved moved') (sym e) (grows t.loose h.loose))) (λ e. n (subst (IsMoved moved') (sym e) now)) ∙ h.kept other (λ m. n (grows other m));
  }
    where
      loose_inside : t.loose < length marks
      loose_inside = subst (λ (n : ℕ). t.loose < n) size (moved_below moved t.loose h.loose)

  -- the loose row gets a free column
  pub filled_there : (moved : List Bool) (t : PlainTrial) (made : List ℕ) → IsTrial marks row first moved t → made ≡ t.order → mark_at marks t.loose (column_of first row) ≡ true → IsMarkedBelow marks (row + 1) made
  filled_there moved t made h same mark other l = ap (λ (xs : List ℕ). mark_at marks other (column_of xs other)) same ∙ ⊎_elim
      (λ e. subst (λ (r : ℕ). mark_at marks r (column_of t.order r) ≡ true) (sym e) (ap (mark_at marks t.loose) h.hole ∙ mark))
      (λ o. h.marked other (omega (arith, l)) o)
      (same_or_not other t.loose)

  pub filled_behind : (moved : List Bool) (t : PlainTrial) (place : ℕ) (made : List ℕ) → IsTrial marks row first moved t → (IsMoved moved place → ⊥) → row < place → mark_at marks t.loose (column_of first place) ≡ true → SwappedAt t.order made t.loose place
      → IsMarkedBelow marks (row + 1) made
  filled_behind moved t place made h unmoved behind mark swapped other l = ⊎_elim
      (λ e. subst (λ (r : ℕ). mark_at marks r (column_of made r) ≡ true) (sym e) (ap (mark_at marks t.loose) (swapped.0 0 ∙ h.kept place unmoved) ∙ mark))
      (λ o. ap (mark_at marks other) (swapped.2 other 0 o (λ e. omega (arith, l, behind, e))) ∙ h.marked other (omega (arith, l)) o)
      (same_or_not other t.loose)

  -- ---- more trials
  module _ (loose : ℕ) where
    pub adds_none : (moved : List Bool) (waiting : List PlainTrial) → AddsTrials marks row first loose 0 moved moved waiting waiting
    adds_none moved waiting = record {
      size = refl;
      kept = λ other h. h;
      only = λ other h. inl h;
      reached = λ other l m. absurd (omega (arith, l));
      waits = λ other h. inl h;
      stay = λ t h. h;
      new = λ t h. inl h;
      left = refl;
    }

    module _ (place : ℕ) (moved moved' : List Bool) (waiting waiting' : List PlainTrial) (so_far : AddsTrials marks row first loose place moved moved' waiting waiting') where
      pub adds_old : IsMoved moved' place → AddsTrials marks row first loose (place + 1) moved moved' waiting waiting'
      adds_old old = record {
        size = so_far.size;
        kept = so_far.kept;
        only = so_far.only;
        reached = λ other l m. ⊎_elim (λ b. so_far.reached other b m) (λ e. subst (IsMoved moved') (sym e) old) (less_or_same other place l);
        waits = so_far.waits;
        stay = so_far.stay;
        new = so_far.new;
        left = so_far.left;
      }

      pub adds_unmarked : (mark_at marks loose (column_of first place) ≡ true → ⊥) → AddsTrials marks row first loose (place + 1) moved moved' waiting waiting'
      adds_unmarked unmarked = record {
        size = so_far.size;
        kept = so_far.kept;
        only = so_far.only;
        reached = λ other l m. ⊎_elim (λ b. so_far.reached other b m) (λ e. absurd (unmarked (subst (λ (r : ℕ). mark_at marks loose (column_of first r) ≡ true) e m))) (less_or_same other place l);
        waits = so_far.waits;
        stay = so_far.stay;
        new = so_far.new;
        left = so_far.left;
      }

      pub adds_new : (made : PlainTrial) → place < row → place < length moved' → slice_index_or moved' place false ≡ false → made.loose ≡ place → IsTrial marks row first (set moved' place true) made
          → AddsTrials marks row first loose (place + 1) moved (set moved' place true) waiting (waiting' ++ made ∷ [])
      adds_new made before inside unmoved is trial = record {
        size = length-set moved' place true ∙ so_far.size;
        kept = λ other h. moved_before moved' place other inside (so_far.kept other h);
        only = λ other h. ⊎_elim (λ m. so_far.only other m) (λ e. inr (subst (λ (r : ℕ). r < row) (sym e) before)) (moved_since moved' place other h);
        reached = λ other l m. ⊎_elim (λ b. moved_before moved' place other inside (so_far.reached other b m)) (λ e. subst (IsMoved (set moved' place true)) (sym e) (moved_now moved' place inside)) (less_or_same other place l);
        waits = λ other h. ⊎_elim
            (λ m. ⊎_elim (λ o. inl o) (λ r. inr (r.0, (Contains-append_left waiting' (made ∷ []) r.0 r.1.0, r.1.1))) (so_far.waits other m))
            (λ e. inr (made, (Contains-push waiting' made, is ∙ sym e)))
            (moved_since moved' place other h);
        stay = λ x h. Contains-append_left waiting' (made ∷ []) x (so_far.stay x h);
        new = λ x h. ⊎_elim
            (λ o. ⊎_elim (λ w. inl w) (λ k. inr (trial_on moved' (set moved' place true) x (λ other. moved_before moved' place other inside) k)) (so_far.new x o))
            (λ e. inr (subst (IsTrial marks row first (set moved' place true)) e trial))
            (Contains-push_cases waiting' made x h);
        left =
            let counts = sum_by-set unmoved_at moved' place true false inside in
            let old : unmoved_at (slice_index_or moved' place false) ≡ 1 = ap unmoved_at unmoved in
            let size = length-append waiting' (made ∷ []) in
            let before = so_far.left in
            omega arith;
      }

  -- ---- the search
  -- each column that is marked in the row is the first one of a moved row in front of this one
  abbrev pub IsClosed : List Bool → ℕ → Type 0
  IsClosed moved v = (q : ℕ) → q < length marks → mark_at marks v (column_of first q) ≡ true → IsMoved moved q × (q < row)

  pub record IsSearch (moved : List Bool) (waiting : List PlainTrial) : Type 0 where
    pub size : length moved ≡ length marks
    pub root : IsMoved moved row
    pub upto : (v : ℕ) → IsMoved moved v → v ≤ row
    pub trials : (t : PlainTrial) → Contains waiting t → IsTrial marks row first moved t
    pub settled : (v : ℕ) → IsMoved moved v → ((t : PlainTrial) × (Contains waiting t × (t.loose ≡ v))) ⊎ IsClosed moved v

  pub search_begun : IsBegun marks row first → (none : List Bool) → length none ≡ length marks → ((v : ℕ) → IsMoved none v → ⊥) → (t : PlainTrial) → t ≡ record { order = first; loose = row } → IsSearch (set none row true) (t ∷ [])
  search_begun begun none size unmoved t is = record {
    size = length-set none row true ∙ size;
    root = root;
    upto = λ v h. ⊎_elim (λ m. absurd (unmoved v m)) (λ e. omega (arith, e)) (moved_since none row v h);
    trials = λ x h. subst (IsTrial marks row first (set none row true)) (sym is ∙ sym (only t x h)) (first_trial begun (set none row true) root);
    settled = λ v h. ⊎_elim (λ m. absurd (unmoved v m)) (λ e. inl (t, (Contains-push [] t, ap (λ (x : PlainTrial). x.loose) is ∙ sym e))) (moved_since none row v h);
  }
    where
      root : IsMoved (set none row true) row
      root = moved_now none row (subst (λ (n : ℕ). row < n) (sym size) begun.below)

      only : (y x : PlainTrial) → Contains (y ∷ []) x → x ≡ y
      only y x h = ⊎_elim (λ m. absurd (contains_none x m)) (λ e. sym e) (Contains-push_cases [] y x h)

  -- one trial less, and those that it adds
  pub search_on : (moved moved' : List Bool) (all waiting waiting' : List PlainTrial) (t : PlainTrial) → all ≡ waiting ++ t ∷ [] → IsSearch moved all → ((place : ℕ) → row ≤ place → place < length marks → mark_at marks t.loose (column_of first place) ≡ false)
      → AddsTrials marks row first t.loose row moved moved' waiting waiting' → IsSearch moved' waiting'
  search_on moved moved' all waiting waiting' t is h none adds = record {
    size = adds.size ∙ h.size;
    root = adds.kept row h.root;
    upto = λ v m. ⊎_elim (λ o. h.upto v o) (λ b. omega (arith, b)) (adds.only v m);
    trials = λ x m. ⊎_elim (λ o. trial_on moved moved' x adds.kept (h.trials x (among x o))) (λ k. k) (adds.new x m);
    settled = λ v m. ⊎_elim (λ o. before v o) (λ r. inl r) (adds.waits v m);
  }
    where
      among : (x : PlainTrial) → Contains waiting x → Contains all x
      among x m = subst (λ (xs : List PlainTrial). Contains xs x) (sym is) (Contains-append_left waiting (t ∷ []) x m)

      later : (v : ℕ) → IsClosed moved v → IsClosed moved' v
      later v k q l m = let r = k q l m in (adds.kept q r.0, r.1)

      this : IsClosed moved' t.loose
      this q l m = ⊎_elim
          (λ b. (adds.reached q b m, b))
          (λ o. absurd (let never : mark_at marks t.loose (column_of first q) ≡ false = none q o l in different (mark_at marks t.loose (column_of first q)) m never))
          (below_or_not q row)
        where
          different : (b : Bool) → b ≡ true → b ≡ false → ⊥
          different b e f = cc

          below_or_not : (i j : ℕ) → (i < j) ⊎ (j ≤ i)
          below_or_not i j = grind arith

      waited : (v : ℕ) → (x : PlainTrial) → x.loose ≡ v → Contains waiting x ⊎ (t ≡ x) → ((y : PlainTrial) × (Contains waiting' y × (y.loose ≡ v))) ⊎ IsClosed moved' v
      waited v x e (inl o) = inl (x, (adds.stay x o, e))
      waited v x e (inr s) = inr (subst (IsClosed moved') (ap (λ (y : PlainTrial). y.loose) s ∙ e) this)

      before : (v : ℕ) → IsMoved moved v → ((y : PlainTrial) × (Contains waiting' y × (y.loose ≡ v))) ⊎ IsClosed moved' v
      before v o = ⊎_elim
          (λ r. waited v r.0 r.1.1 (Contains-push_cases waiting t r.0 (subst (λ (xs : List PlainTrial). Contains xs r.0) is r.1.0)))
          (λ k. inr (later v k))
          (h.settled v o)

  pub search_ended : IsBegun marks row first → (moved : List Bool) (waiting : List PlainTrial) → waiting ≡ [] → IsSearch moved waiting → HasMatching marks → ⊥
  search_ended begun moved waiting is h k = no_matching_left marks row first begun moved h.root h.upto closed k.0 k.1
    where
      closed : (v q : ℕ) → IsMoved moved v → q < length marks → mark_at marks v (column_of first q) ≡ true → IsMoved moved q × (q < row)
      closed v q m l marked = ⊎_elim
          (λ r. absurd (contains_none r.0 (subst (λ (xs : List PlainTrial). Contains xs r.0) is r.1.0)))
          (λ c. c q l marked)
          (h.settled v m)
