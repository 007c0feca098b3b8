-- Trials in code.
use Rattle.std.specs.Prelude.{◌≡◌, ◌<◌, ◌≤◌, ◌+◌, ℕ, Bool, true, false, List, [], ◌∷◌, ◌++◌, length, map, replicate, set, slice_index_or}
use Rattle.std.proofs.Common.{refl, sym, subst, ap, ◌∙◌, arith, ⊎_elim}
use Rattle.std.specs.List.{Contains, SwappedAt}
use Rattle.std.proofs.lemmas.List.Elements.{Contains-push}
use Rattle.std.specs.Global.{Vec}
use Rattle.std.proofs.lemmas.List.{get_or_default, get_or-replicate, map-append}
use Rattle.std.proofs.Math.ListN.{length-replicate}
use Rattle.aut_check.specs.declared.matchings.Trial.{Trial}
use Rattle.aut_check.specs.Matchings.{column_of, mark_at, plain_trial, rows, AddsTrials, HasMatching, IsBegun, IsMarkedBelow, IsMoved, IsOrder, IsTrial, PlainTrial}
use Rattle.aut_check.proofs.MarkedTables.{rows_long}
use Rattle.aut_check.proofs.Orders.{exchanged_order, same_or_not}
use Rattle.aut_check.proofs.Trials.{adds_new, filled_behind, filled_there, moved_before, moved_below, moved_now, next_trial, search_begun, search_ended, search_on, trial_on, IsSearch}

pub turn_new : (marks : List (Vec Bool)) (row : ℕ) (first : List ℕ) (t : Trial) (place : ℕ) (moved moved' : List Bool) (waiting waiting' later : List Trial) (x : Trial) (order : List ℕ) (read mark : Bool) → IsBegun (rows marks) row first → length moved ≡ length marks
    → IsTrial (rows marks) row first moved (plain_trial t) → AddsTrials (rows marks) row first t.loose place moved moved' (map plain_trial waiting) (map plain_trial waiting') → place < row → read ≡ slice_index_or moved' place read → read ≡ false
    → mark ≡ mark_at (rows marks) t.loose (column_of first place) → mark ≡ true → order ≡ t.order.items → SwappedAt order x.order.items t.loose place → length x.order.items ≡ length order → x.loose ≡ place → later ≡ waiting' ++ x ∷ []
    → AddsTrials (rows marks) row first t.loose (place + 1) moved (set moved' place true) (map plain_trial waiting) (map plain_trial later)
turn_new marks row first t place moved moved' waiting waiting' later x order read mark begun size trial so_far before read_is unread mark_is marked order_is swapped long at pushed =
    subst (λ (ts : List PlainTrial). AddsTrials (rows marks) row first t.loose (place + 1) moved (set moved' place true) (map plain_trial waiting) ts) (sym (ap (map plain_trial) pushed ∙ map-append plain_trial waiting' (x ∷ [])))
    (adds_new (rows marks) row first t.loose place moved moved' (map plain_trial waiting) (map plain_trial waiting') so_far (plain_trial x) before inside unmoved at made)
  where
    sizes : length moved' ≡ length (rows marks)
    sizes = so_far.size ∙ size ∙ sym (rows_long marks)

    inside : place < length moved'
    inside = let b = begun.below in let s = sizes in omega (arith, b, s, before)

    unmoved : slice_index_or moved' place false ≡ false
    unmoved = get_or_default moved' place false read inside ∙ sym read_is ∙ unread

    not_moved : IsMoved moved' place → ⊥
    not_moved h = different (slice_index_or moved' place false) h unmoved
      where
        different : (b : Bool) → b ≡ true → b ≡ false → ⊥
        different b e f = cc

    made : IsTrial (rows marks) row first (set moved' place true) (plain_trial x)
    made = subst (λ (n : ℕ). IsTrial (rows marks) row first (set moved' place true) (record { order = x.order.items; loose = n })) (sym at)
        (next_trial (rows marks) row first moved' (set moved' place true) (plain_trial t) place x.order.items (trial_on (rows marks) row first moved moved' (plain_trial t) so_far.kept trial) sizes (let b = begun.below in omega (arith, b, before)) not_moved (sym mark_is ∙ marked)
        (subst (λ (xs : List ℕ). SwappedAt xs x.order.items t.loose place) order_is swapped) (long ∙ ap (λ (xs : List ℕ). length xs) order_is) (λ other. moved_before moved' place other inside) (moved_now moved' place inside))

-- ---- the search
pub begun_search : (marks : List (Vec Bool)) (row : ℕ) (none : List Bool) (order : List ℕ) (nothing waiting : List Trial) (x : Trial) → IsBegun (rows marks) row order → none ≡ replicate (length marks) false → nothing ≡ [] → waiting ≡ nothing ++ x ∷ [] → x.order.items ≡ order → x.loose ≡ row
    → IsSearch (rows marks) row order (set none row true) (map plain_trial waiting)
begun_search marks row none order nothing waiting x begun is empty pushed same at =
    subst (λ (ts : List Trial). IsSearch (rows marks) row order (set none row true) (map plain_trial ts)) (sym (pushed ∙ ap (λ (ts : List Trial). ts ++ x ∷ []) empty))
    (search_begun (rows marks) row order begun none (ap (λ (bs : List Bool). length bs) is ∙ length-replicate (length marks) false ∙ sym (rows_long marks)) unmoved (plain_trial x) (same_trial (plain_trial x) same at))
  where
    unmoved : (v : ℕ) → IsMoved none v → ⊥
    unmoved v h =
        let m : IsMoved (replicate (length marks) false) v = subst (λ (bs : List Bool). IsMoved bs v) is h in
        let below : v < length marks = subst (λ (l : ℕ). v < l) (length-replicate (length marks) false) (moved_below (replicate (length marks) false) v m) in
        let unmarked : slice_index_or (replicate (length marks) false) v false ≡ false = get_or-replicate (length marks) v false false below in
        cc

    same_trial : (t : PlainTrial) → t.order ≡ order → t.loose ≡ row → t ≡ record { order = order; loose = row }
    same_trial t e f = subst (λ (xs : List ℕ). t ≡ record { order = xs; loose = row }) e (subst (λ (n : ℕ). t ≡ record { order = t.order; loose = n }) f refl)

module _ (marks : List (Vec Bool)) (row : ℕ) (first : List ℕ) (moved : List Bool) (all waiting : List Trial) (t : Trial) (is : all ≡ waiting ++ t ∷ []) (h : IsSearch (rows marks) row first moved (map plain_trial all)) where
  plain_is : map plain_trial all ≡ map plain_trial waiting ++ plain_trial t ∷ []
  plain_is = ap (map plain_trial) is ∙ map-append plain_trial waiting (t ∷ [])

  pub popped_trial : IsTrial (rows marks) row first moved (plain_trial t)
  popped_trial = h.trials (plain_trial t) (subst (λ (ts : List PlainTrial). Contains ts (plain_trial t)) (sym plain_is) (Contains-push (map plain_trial waiting) (plain_trial t)))

  pub popped_long : length t.order.items ≡ length marks
  popped_long = popped_trial.order.long ∙ rows_long marks

  pub popped_inside : t.loose < length marks
  popped_inside = subst (λ (n : ℕ). t.loose < n) (h.size ∙ rows_long marks) (moved_below moved t.loose popped_trial.loose)

  pub popped_on : (moved' : List Bool) (later : List Trial) → ((place : ℕ) → row ≤ place → place < length marks → mark_at (rows marks) t.loose (column_of first place) ≡ false)
      → AddsTrials (rows marks) row first t.loose row moved moved' (map plain_trial waiting) (map plain_trial later) → IsSearch (rows marks) row first moved' (map plain_trial later)
  popped_on moved' later none adds =
      search_on (rows marks) row first moved moved' (map plain_trial all) (map plain_trial waiting) (map plain_trial later) (plain_trial t) plain_is h (λ place l m. none place l (subst (λ (n : ℕ). place < n) (rows_long marks) m)) adds

  pub popped_filled : (place : ℕ) (made : List ℕ) → row ≤ place → place < length marks → mark_at (rows marks) t.loose (column_of first place) ≡ true → (place ≡ row → made ≡ t.order.items)
      → ((place ≡ row → ⊥) → SwappedAt t.order.items made t.loose place × (length made ≡ length t.order.items)) → IsOrder (length marks) made × IsMarkedBelow (rows marks) (row + 1) made
  popped_filled place made l inside mark there elsewhere = ⊎_elim
      (λ e. (
        subst (λ (xs : List ℕ). IsOrder (length marks) xs) (sym (there e)) order,
        filled_there (rows marks) row first moved (plain_trial t) made popped_trial (there e) (subst (λ (p : ℕ). mark_at (rows marks) t.loose (column_of first p) ≡ true) e mark),
      ))
      (λ o. (
        exchanged_order (length marks) t.order.items made t.loose place order popped_inside inside (elsewhere o).1 (elsewhere o).0,
        filled_behind (rows marks) row first moved (plain_trial t) place made popped_trial (λ m. let u = h.upto place m in o (same place row l u)) (less row place l o) mark (elsewhere o).0,
      ))
      (same_or_not place row)
    where
      order : IsOrder (length marks) t.order.items
      order = subst (λ (n : ℕ). IsOrder n t.order.items) (rows_long marks) popped_trial.order

      same : (i j : ℕ) → j ≤ i → i ≤ j → i ≡ j
      same i j a b = omega (arith, a, b)

      less : (i j : ℕ) → i ≤ j → (j ≡ i → ⊥) → i < j
      less i j a b = grind (arith, a, b)

pub ended_search : (marks : List (Vec Bool)) (row : ℕ) (first : List ℕ) (moved : List Bool) (waiting : List Trial) → IsBegun (rows marks) row first → (0 < length waiting → ⊥) → IsSearch (rows marks) row first moved (map plain_trial waiting) → HasMatching (rows marks) → ⊥
ended_search marks row first moved [] begun none h = search_ended (rows marks) row first begun moved [] refl h
ended_search marks row first moved (t ∷ ts) begun none h = absurd (none (omega arith))
