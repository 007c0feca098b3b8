-- Steps of small processes.
use Rattle.std.proofs.Common.{◌≡◌, zero, suc, ℕ, ◌⊎◌, inl, inr, ⊎_elim, List, [], ◌∷◌, ◌++◌, length, refl, sym, ap, ◌∙◌, subst, arith}
use Rattle.std.specs.Prelude.{Contains, slice_index_or, ◌<◌}
use Rattle.data_theory.specs.Terms.{Sort, Term}
use Rattle.data_theory.specs.Provable.{symmetric, transitive}
use Rattle.data_theory.specs.Equations.{equals}
use Rattle.process_terms.specs.Names.{Name}
use Rattle.process_terms.specs.Theories.{Theory, IsTrue, IsFalse, IsOfSort, AllTrue, none_left, true_and_more}
use Rattle.process_terms.specs.Labels.{Action, Label, Inserted, at_front, further, Permuted, nothing_left, one_placed}
use Rattle.process_terms.specs.Communication.{Rule, Split, all_split, to_first, to_second, no_more_actions, one_more_action, IsGroup, group_equalities, conjunction_of, Grouped, all_grouped, stays, joins, NoneFurther}
use Rattle.process_terms.specs.Processes.{left_merge, sync, Process, act, seq, sum, merge, starting}
use Rattle.process_terms.specs.Steps.{Outcome, ended, goes_on, Step, by_act, by_seq, by_sum, by_left_alone, by_right_alone, by_both, by_left_merge, by_sync, by_around, silent_allowed, communicated}
use Rattle.process_terms.specs.WorkedSteps.{DeltaDoesNothing, TwoActionsSideBySide, LeftMergeBegins, LeftMergeGoesOn, SyncGoesOn, SyncGoesOnWithTheRight, SyncGoesOnWithTheLeft, SyncOfLabelsIsTheirLabel, with_argument, two_joined, EqualDataJoin, UnequalDataStay, UnknownDataDoNothing, SilenceIsAllowed, SumTakesEveryTerm, EndingGoesOn}
use Rattle.process_terms.proofs.PermutedLists.{permuted_refl}

pub delta_none : DeltaDoesNothing
delta_none th m r s = elim s [ ]

-- ---- side by side
merge_forth : (th : Theory) (a b m : Label) (r : Outcome) → Step th (merge (act a) (act b)) m r
    → ((m ≡ a) × (r ≡ goes_on (act b))) ⊎ (((m ≡ b) × (r ≡ goes_on (act a))) ⊎ ((m ≡ a ++ b) × (r ≡ ended)))
merge_forth th a b m r (by_left_alone by_act) = inl (refl, refl)
merge_forth th a b m r (by_right_alone by_act) = inr (inl (refl, refl))
merge_forth th a b m r (by_both by_act by_act) = inr (inr (refl, refl))

-- a step of this label and outcome
same_step : (th : Theory) (p : Process) (m n : Label) (r t : Outcome) → m ≡ n → r ≡ t → Step th p n t → Step th p m r
same_step th p m n r t e f s = subst (λ l. Step th p l r) (sym e) (subst (λ o. Step th p n o) (sym f) s)

pub side_by_side : TwoActionsSideBySide
side_by_side th a b m r = (
  merge_forth th a b m r,
  λ h. ⊎_elim
      (λ e. same_step th (merge (act a) (act b)) m a r (goes_on (act b)) e.0 e.1 (by_left_alone by_act))
      (λ h. ⊎_elim
      (λ e. same_step th (merge (act a) (act b)) m b r (goes_on (act a)) e.0 e.1 (by_right_alone by_act))
      (λ e. same_step th (merge (act a) (act b)) m (a ++ b) r ended e.0 e.1 (by_both by_act by_act))
      h)
      h,
)

-- ---- left merge and synchronisation
begins_forth : (th : Theory) (a b m : Label) (r : Outcome) → Step th (starting left_merge (act a) (act b)) m r → (m ≡ a) × (r ≡ goes_on (act b))
begins_forth th a b m r (by_left_merge by_act) = (refl, refl)

pub left_merge_begins : LeftMergeBegins
left_merge_begins th a b m r = (begins_forth th a b m r, λ e. same_step th (starting left_merge (act a) (act b)) m a r (goes_on (act b)) e.0 e.1 (by_left_merge by_act))

left_forth : (th : Theory) (a m : Label) (p q : Process) (r : Outcome) → Step th (starting left_merge (seq (act a) p) q) m r → (m ≡ a) × (r ≡ goes_on (merge p q))
left_forth th a m p q r (by_left_merge (by_seq by_act)) = (refl, refl)

pub left_merge_goes_on : LeftMergeGoesOn
left_merge_goes_on th a m p q r = (
  left_forth th a m p q r,
  λ e. same_step th (starting left_merge (seq (act a) p) q) m a r (goes_on (merge p q)) e.0 e.1 (by_left_merge (by_seq by_act)),
)

sync_forth : (th : Theory) (a b m : Label) (p q : Process) (r : Outcome) → Step th (starting sync (seq (act a) p) (seq (act b) q)) m r → (m ≡ a ++ b) × (r ≡ goes_on (merge p q))
sync_forth th a b m p q r (by_sync (by_seq by_act) (by_seq by_act)) = (refl, refl)

pub sync_goes_on : SyncGoesOn
sync_goes_on th a b m p q r = (
  sync_forth th a b m p q r,
  λ e. same_step th (starting sync (seq (act a) p) (seq (act b) q)) m (a ++ b) r (goes_on (merge p q)) e.0 e.1 (by_sync (by_seq by_act) (by_seq by_act)),
)

right_forth : (th : Theory) (a b m : Label) (q : Process) (r : Outcome) → Step th (starting sync (act a) (seq (act b) q)) m r → (m ≡ a ++ b) × (r ≡ goes_on q)
right_forth th a b m q r (by_sync by_act (by_seq by_act)) = (refl, refl)

pub sync_goes_on_with_the_right : SyncGoesOnWithTheRight
sync_goes_on_with_the_right th a b m q r = (
  right_forth th a b m q r,
  λ e. same_step th (starting sync (act a) (seq (act b) q)) m (a ++ b) r (goes_on q) e.0 e.1 (by_sync by_act (by_seq by_act)),
)

rest_forth : (th : Theory) (a b m : Label) (p : Process) (r : Outcome) → Step th (starting sync (seq (act a) p) (act b)) m r → (m ≡ a ++ b) × (r ≡ goes_on p)
rest_forth th a b m p r (by_sync (by_seq by_act) by_act) = (refl, refl)

pub sync_goes_on_with_the_left : SyncGoesOnWithTheLeft
sync_goes_on_with_the_left th a b m p r = (
  rest_forth th a b m p r,
  λ e. same_step th (starting sync (seq (act a) p) (act b)) m (a ++ b) r (goes_on p) e.0 e.1 (by_sync (by_seq by_act) by_act),
)

label_forth : (th : Theory) (a b m : Label) (r : Outcome) → Step th (starting sync (act a) (act b)) m r → Step th (act (a ++ b)) m r
label_forth th a b m r (by_sync by_act by_act) = by_act

label_back : (th : Theory) (a b c m : Label) (r : Outcome) → c ≡ a ++ b → Step th (act c) m r → Step th (starting sync (act a) (act b)) m r
label_back th a b c m r e by_act = subst (λ l. Step th (starting sync (act a) (act b)) l ended) (sym e) (by_sync by_act by_act)

pub sync_of_labels_is_their_label : SyncOfLabelsIsTheirLabel
sync_of_labels_is_their_label th a b m r = (label_forth th a b m r, label_back th a b (a ++ b) m r refl)

-- ---- communication of two actions
inserted_long : {A : Type 0} {x : A} {xs ys : List A} → Inserted x xs ys → length ys ≡ suc (length xs)
inserted_long at_front = refl
inserted_long (further i) = ap suc (inserted_long i)

permuted_long : {A : Type 0} {xs ys : List A} → Permuted xs ys → length ys ≡ length xs
permuted_long nothing_left = refl
permuted_long (one_placed p i) = inserted_long i ∙ ap suc (permuted_long p)

one_is_not_two : {A : Type 0} {x y z : A} → Permuted (x ∷ []) (y ∷ z ∷ []) → ⊥
one_is_not_two p = let e = permuted_long p in omega (arith, e)

only_rule : {A : Type 0} (c d : A) → Contains (c ∷ []) d → c ≡ d
only_rule c d h = by_place h.0 h.1 h.2
  where
    by_place : (k : ℕ) → k < 1 → slice_index_or (c ∷ []) k d ≡ d → c ≡ d
    by_place zero l e = e
    by_place (suc k) l e = absurd (omega arith)

the_rule : (c : Rule) → Contains (c ∷ []) c
the_rule c = (0, omega arith, refl)

-- one action alone joins with nothing
no_lone_group : (x y z : Name) (c : Rule) (a : Action) → Contains (record { left = x ∷ y ∷ []; result = z } ∷ []) c → IsGroup c a [] → ⊥
no_lone_group x y z c a i g = one_is_not_two (subst (λ d. Permuted (a.name ∷ []) d.left) (sym (only_rule (record { left = x ∷ y ∷ []; result = z }) c i)) g.named)

-- what is chosen of two actions
Chosen : Theory → Name → Name → Name → Sort → Term → Term → Label → Label → Type 0
Chosen th x y z s t u n rest =
    ((n ≡ with_argument x s t ∷ with_argument y s u ∷ []) × (rest ≡ with_argument x s t ∷ with_argument y s u ∷ []))
    ⊎ ((n ≡ with_argument z s t ∷ []) × IsTrue th (equals s t u))

joined_with : (th : Theory) (x y z : Name) (s : Sort) (t u : Term) (c : Rule) (others behind n rest : Label) → Contains (record { left = x ∷ y ∷ []; result = z } ∷ []) c
    → Split others behind (with_argument y s u ∷ []) → IsGroup c (with_argument x s t) others → AllTrue th (group_equalities (with_argument x s t) others)
    → Grouped th (record { left = x ∷ y ∷ []; result = z } ∷ []) behind n rest → Chosen th x y z s t u (record { name = c.result; sorts = s ∷ []; args = t ∷ [] } ∷ n) rest
unfolding Chosen
joined_with th x y z s t u c _ _ _ _ i (to_second all_split) g e k = absurd (no_lone_group x y z c (with_argument x s t) i g)
joined_with th x y z s t u c _ _ _ _ i (to_first all_split) g (true_and_more h none_left) all_grouped =
    inr (ap (λ d. record { name = d.result; sorts = s ∷ []; args = t ∷ [] } ∷ []) (sym (only_rule (record { left = x ∷ y ∷ []; result = z }) c i)), h)

chosen : (th : Theory) (x y z : Name) (s : Sort) (t u : Term) (n rest : Label) → Grouped th (record { left = x ∷ y ∷ []; result = z } ∷ []) (with_argument x s t ∷ with_argument y s u ∷ []) n rest → Chosen th x y z s t u n rest
unfolding Chosen
chosen th x y z s t u n rest (stays (stays all_grouped)) = inl (refl, refl)
chosen th x y z s t u n rest (stays (joins {c = c} i all_split g e k)) = absurd (no_lone_group x y z c (with_argument y s u) i g)
chosen th x y z s t u n rest (joins {c = c} {others = others} {behind = behind} {n = m} i p g e k) = joined_with th x y z s t u c others behind m rest i p g e k

-- the group of both
both_group : (x y z : Name) (s : Sort) (t u : Term) → IsGroup (record { left = x ∷ y ∷ []; result = z }) (with_argument x s t) (with_argument y s u ∷ [])
both_group x y z s t u = record { named = permuted_refl (x ∷ y ∷ []); sorted = one_more_action refl no_more_actions }

-- both are left only where the equality is provably false
left_unequal : (th : Theory) (x y z : Name) (s : Sort) (t u : Term) (rest : Label) → rest ≡ with_argument x s t ∷ with_argument y s u ∷ [] → NoneFurther th (record { left = x ∷ y ∷ []; result = z } ∷ []) rest → IsFalse th (equals s t u)
left_unequal th x y z s t u rest e f =
    f (record { left = x ∷ y ∷ []; result = z }) (with_argument x s t) (with_argument y s u ∷ []) [] (the_rule (record { left = x ∷ y ∷ []; result = z }))
    (subst (λ l. Split (with_argument x s t ∷ with_argument y s u ∷ []) [] l) (sym e) (to_first (to_first all_split))) (both_group x y z s t u)

Outcomes : Theory → Name → Name → Name → Sort → Term → Term → Label → Outcome → Type 0
Outcomes th x y z s t u m r =
    (r ≡ ended) × (((m ≡ with_argument x s t ∷ with_argument y s u ∷ []) × IsFalse th (equals s t u)) ⊎ ((m ≡ with_argument z s t ∷ []) × IsTrue th (equals s t u)))

joined_step : (th : Theory) (x y z : Name) (s : Sort) (t u : Term) (m : Label) (r : Outcome) → Step th (two_joined x y z s t u) m r → Outcomes th x y z s t u m r
unfolding Outcomes Chosen
joined_step th x y z s t u m r (by_around by_act (communicated c)) = (
  refl,
  ⊎_elim
      (λ h. inl (h.0, left_unequal th x y z s t u c.rest h.1 c.none_further))
      (λ h. inr h)
      (chosen th x y z s t u m c.rest c.grouped),
)

nothing_to_split : {A B : Type 0} {x : A} {xs ys : List A} → Split (x ∷ xs) ys [] → B
nothing_to_split p = elim p [ ]

join_step : (th : Theory) (x y z : Name) (s : Sort) (t u : Term) → IsTrue th (equals s t u) → Step th (two_joined x y z s t u) (with_argument z s t ∷ []) ended
join_step th x y z s t u h = by_around by_act (communicated (record {
  rest = [];
  grouped = joins (the_rule (record { left = x ∷ y ∷ []; result = z })) (to_first all_split) (both_group x y z s t u) (true_and_more h none_left) all_grouped;
  none_further = λ c a others behind i p g. nothing_to_split p;
}))

-- the only group of the two actions is both, from the first one on
further_false : (th : Theory) (x y z : Name) (s : Sort) (t u : Term) → IsFalse th (equals s t u) → (c : Rule) (a : Action) (others behind : Label) → Contains (record { left = x ∷ y ∷ []; result = z } ∷ []) c
    → Split (a ∷ others) behind (with_argument x s t ∷ with_argument y s u ∷ []) → IsGroup c a others → IsFalse th (conjunction_of (group_equalities a others))
further_false th x y z s t u h c a others behind i (to_first (to_first all_split)) g = h
further_false th x y z s t u h c a others behind i (to_first (to_second all_split)) g = absurd (no_lone_group x y z c a i g)
further_false th x y z s t u h c a others behind i (to_second (to_first all_split)) g = absurd (no_lone_group x y z c a i g)
further_false th x y z s t u h c a others behind i (to_second (to_second k)) g = elim k [ ]

stay_step : (th : Theory) (x y z : Name) (s : Sort) (t u : Term) → IsFalse th (equals s t u) → Step th (two_joined x y z s t u) (with_argument x s t ∷ with_argument y s u ∷ []) ended
stay_step th x y z s t u h = by_around by_act (communicated (record {
  rest = with_argument x s t ∷ with_argument y s u ∷ [];
  grouped = stays (stays all_grouped);
  none_further = further_false th x y z s t u h;
}))

pub equal_join : EqualDataJoin
unfolding Outcomes
equal_join th sane x y z s t u h m r = (
  λ k. let o = joined_step th x y z s t u m r k in (⊎_elim (λ e. absurd (sane (transitive (symmetric h) e.1))) (λ e. e.0) o.1, o.0),
  λ e. same_step th (two_joined x y z s t u) m (with_argument z s t ∷ []) r ended e.0 e.1 (join_step th x y z s t u h),
)

pub unequal_stay : UnequalDataStay
unfolding Outcomes
unequal_stay th sane x y z s t u h m r = (
  λ k. let o = joined_step th x y z s t u m r k in (⊎_elim (λ e. e.0) (λ e. absurd (sane (transitive (symmetric e.1) h))) o.1, o.0),
  λ e. same_step th (two_joined x y z s t u) m (with_argument x s t ∷ with_argument y s u ∷ []) r ended e.0 e.1 (stay_step th x y z s t u h),
)

pub unknown_nothing : UnknownDataDoNothing
unfolding Outcomes
unknown_nothing th x y z s t u f g m r k = let o = joined_step th x y z s t u m r k in ⊎_elim (λ e. g e.1) (λ e. f e.1) o.1

-- ---- other operators
pub silent_through : SilenceIsAllowed
silent_through th allowed p r s = by_around s silent_allowed

sum_forth : (th : Theory) (s : Sort) (f : Term → Process) (m : Label) (r : Outcome) → Step th (sum s f) m r → (t : Term) × (IsOfSort th s t × Step th (f t) m r)
sum_forth th s f m r (by_sum t h k) = (t, (h, k))

pub every_term : SumTakesEveryTerm
every_term th s f m r = (sum_forth th s f m r, λ h. by_sum h.0 h.1.0 h.1.1)

seq_forth : (th : Theory) (a m : Label) (p : Process) (r : Outcome) → Step th (seq (act a) p) m r → (m ≡ a) × (r ≡ goes_on p)
seq_forth th a m p r (by_seq by_act) = (refl, refl)

pub ending_on : EndingGoesOn
ending_on th a m p r = (seq_forth th a m p r, λ e. same_step th (seq (act a) p) m a r (goes_on p) e.0 e.1 (by_seq by_act))
