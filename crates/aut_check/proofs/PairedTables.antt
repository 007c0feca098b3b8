-- Tables of actions, and the pairings of two labels.
use Rattle.std.specs.Prelude.{◌≡◌, ◌≢◌, ◌<◌, ◌++◌, ◌⊎◌, ℕ, zero, suc, Bool, true, false, List, [], ◌∷◌, length, map, slice_index_or}
use Rattle.std.proofs.Common.{refl, sym, subst, ap, ◌∙◌, arith, inl, inr}
use Rattle.std.specs.List.{AllByRecursion, AllZip}
use Rattle.std.proofs.lemmas.List.{length-map}
use Rattle.std.proofs.lemmas.List.Elements.{Contains-append_left, Contains-append_right}
use Rattle.data_theory.specs.Rewriting.{yes_decided}
use Rattle.data_theory.specs.Terms.{Term}
use Rattle.process_terms.specs.Communication.{equalities}
use Rattle.process_terms.specs.Labels.{Action, Label}
use Rattle.trace_replay.specs.Decidings.{Decides, IsOpen, Answer, hold, fail, stay_open, ComeOut, all_hold, one_fails, one_is_open}
use Rattle.trace_replay.specs.Pairings.{AreAlike, Pairing, label_equalities}
use Rattle.trace_replay.specs.Settings.{Setting}
use Rattle.trace_replay.specs.Ways.{action_at, actions_at, no_action}
use Rattle.trace_replay.proofs.ConditionLemmas.{all_weaker}
use Rattle.trace_replay.proofs.PairedLabels.{all_append}
use Rattle.trace_replay.proofs.BegunWays.{alike_long, permuted_long}
use Rattle.aut_check.specs.Comparing.{ActionsCome, AreActionRows, IsActionRow, LabelsCome}
use Rattle.aut_check.specs.Matchings.{column_of, mark_at, HasMatching, IsOrder, IsSquare}
use Rattle.aut_check.specs.Tables.{both, mark_of, marked, TableComes}
use Rattle.aut_check.proofs.PermutedOrders.{order_permutes, permuted_order}
use Rattle.aut_check.proofs.TableLaws.{zip_long}

-- ---- conditions in two parts
pub come_both : (s : Setting) (cs ds : List Term) {a b : Answer} → ComeOut s cs a → ComeOut s ds b → ComeOut s (cs ++ ds) (both a b)
come_both s cs ds (all_hold h) (all_hold k) = all_hold (all_append (Decides s yes_decided) cs ds h k)
come_both s cs ds (all_hold h) (one_fails {c = c} k d) = one_fails (Contains-append_right cs ds c k) d
come_both s cs ds (all_hold h) (one_is_open {c = c} k j o) = one_is_open (all_append (λ (d : Term). Decides s yes_decided d ⊎ IsOpen s d) cs ds (all_weaker (Decides s yes_decided) (λ (d : Term). Decides s yes_decided d ⊎ IsOpen s d) (λ d k. inl k) cs h) k) (Contains-append_right cs ds c j) o
come_both s cs ds (one_fails {c = c} h d) k = one_fails (Contains-append_left cs ds c h) d
come_both s cs ds (one_is_open {c = c} h j o) (all_hold k) = one_is_open (all_append (λ (d : Term). Decides s yes_decided d ⊎ IsOpen s d) cs ds h (all_weaker (Decides s yes_decided) (λ (d : Term). Decides s yes_decided d ⊎ IsOpen s d) (λ d j. inl j) ds k)) (Contains-append_left cs ds c j) o
come_both s cs ds (one_is_open h j o) (one_fails {c = c} k d) = one_fails (Contains-append_right cs ds c k) d
come_both s cs ds (one_is_open {c = c} h j o) (one_is_open k i p) = one_is_open (all_append (λ (d : Term). Decides s yes_decided d ⊎ IsOpen s d) cs ds h k) (Contains-append_left cs ds c j) o

-- ---- the answers at the columns of an order
abbrev entries : List (List Answer) → List ℕ → List Answer
entries [] cs = []
entries (row ∷ rows) [] = []
entries (row ∷ rows) (c ∷ cs) = slice_index_or row c fail ∷ entries rows cs

abbrev together : List Answer → Answer
together [] = hold
together (a ∷ xs) = both a (together xs)

together_hold : (xs : List Answer) → together xs ≡ hold → AllByRecursion (λ (x : Answer). mark_of false x ≡ true) xs
together_hold [] e = tt
together_hold (a ∷ xs) e = by a (together xs) refl (together_hold xs) e
  where
    by : (x y : Answer) → together xs ≡ y → (together xs ≡ hold → AllByRecursion (λ (z : Answer). mark_of false z ≡ true) xs) → both x y ≡ hold → AllByRecursion (λ (z : Answer). mark_of false z ≡ true) (x ∷ xs)
    by hold hold q rest f = (refl, rest q)
    by hold fail q rest f = absurd (let never : ⊥ = cc in never)
    by hold stay_open q rest f = absurd (let never : ⊥ = cc in never)
    by fail y q rest f = absurd (let never : ⊥ = cc in never)
    by stay_open hold q rest f = absurd (let never : ⊥ = cc in never)
    by stay_open fail q rest f = absurd (let never : ⊥ = cc in never)
    by stay_open stay_open q rest f = absurd (let never : ⊥ = cc in never)

together_may : (xs : List Answer) → (together xs ≡ fail → ⊥) → AllByRecursion (λ (x : Answer). mark_of true x ≡ true) xs
together_may [] n = tt
together_may (a ∷ xs) n = by a n (together_may xs)
  where
    not_fail : (x : Answer) → (x ≡ fail → ⊥) → both x fail ≡ fail
    not_fail hold m = refl
    not_fail fail m = refl
    not_fail stay_open m = refl

    by : (x : Answer) → (both x (together xs) ≡ fail → ⊥) → ((together xs ≡ fail → ⊥) → AllByRecursion (λ (z : Answer). mark_of true z ≡ true) xs) → AllByRecursion (λ (z : Answer). mark_of true z ≡ true) (x ∷ xs)
    by hold m rest = (refl, rest m)
    by fail m rest = absurd (m refl)
    by stay_open m rest = (refl, rest (λ e. m (ap (both stay_open) e)))

hold_together : (xs : List Answer) → AllByRecursion (λ (x : Answer). mark_of false x ≡ true) xs → together xs ≡ hold
hold_together [] h = refl
hold_together (hold ∷ xs) h = hold_together xs h.1
hold_together (fail ∷ xs) h = absurd (let e = h.0 in let never : ⊥ = cc in never)
hold_together (stay_open ∷ xs) h = absurd (let e = h.0 in let never : ⊥ = cc in never)

may_together : (xs : List Answer) → AllByRecursion (λ (x : Answer). mark_of true x ≡ true) xs → together xs ≡ fail → ⊥
may_together [] h e = let never : ⊥ = cc in never
may_together (hold ∷ xs) h e = may_together xs h.1 e
may_together (fail ∷ xs) h e = let f = h.0 in let never : ⊥ = cc in never
may_together (stay_open ∷ xs) h e = by (together xs) refl (may_together xs h.1) e
  where
    by : (y : Answer) → together xs ≡ y → (together xs ≡ fail → ⊥) → both stay_open y ≡ fail → ⊥
    by hold q rest f = let never : ⊥ = cc in never
    by fail q rest f = rest q
    by stay_open q rest f = let never : ⊥ = cc in never

-- ---- by places
map_read : {A B : Type 0} (f : A → B) (xs : List A) (i : ℕ) (d : A) → slice_index_or (map f xs) i (f d) ≡ f (slice_index_or xs i d)
map_read f [] i d = refl
map_read f (x ∷ xs) zero d = refl
map_read f (x ∷ xs) (suc i) d = map_read f xs i d

mark_is : (p : Bool) (rows : List (List Answer)) (row column : ℕ) → mark_at (marked p rows) row column ≡ mark_of p (slice_index_or (slice_index_or rows row []) column fail)
mark_is p rows row column = ap (λ (bs : List Bool). slice_index_or bs column false) (map_read (map (mark_of p)) rows row []) ∙ map_read (mark_of p) (slice_index_or rows row []) column fail

entries_by_place : (P : Answer → Type 0) (rows : List (List Answer)) (cs : List ℕ) → length cs ≡ length rows → ((i : ℕ) → i < length rows → P (slice_index_or (slice_index_or rows i []) (column_of cs i) fail)) → AllByRecursion P (entries rows cs)
entries_by_place P [] cs long h = tt
entries_by_place P (row ∷ rows) [] long h = tt
entries_by_place P (row ∷ rows) (c ∷ cs) long h = (h zero (omega arith), entries_by_place P rows cs (omega (arith, long)) (λ i l. h (suc i) (omega (arith, l))))

place_of_entries : (P : Answer → Type 0) (rows : List (List Answer)) (cs : List ℕ) → length cs ≡ length rows → AllByRecursion P (entries rows cs) → (i : ℕ) → i < length rows → P (slice_index_or (slice_index_or rows i []) (column_of cs i) fail)
place_of_entries P [] cs long h i l = absurd (omega (arith, l))
place_of_entries P (row ∷ rows) [] long h i l = absurd (omega (arith, long))
place_of_entries P (row ∷ rows) (c ∷ cs) long h zero l = h.0
place_of_entries P (row ∷ rows) (c ∷ cs) long h (suc i) l = place_of_entries P rows cs (omega (arith, long)) h.1 i (omega (arith, l))

pub zip_at : {A B : Type 0} (P : A → B → Type 0) (xs : List A) (ys : List B) (i : ℕ) (d : A) (e : B) → AllZip P xs ys → i < length xs → P (slice_index_or xs i d) (slice_index_or ys i e)
zip_at P [] ys i d e h l = absurd (omega (arith, l))
zip_at P (x ∷ xs) [] i d e h l = absurd h
zip_at P (x ∷ xs) (y ∷ ys) zero d e h l = h.0
zip_at P (x ∷ xs) (y ∷ ys) (suc i) d e h l = zip_at P xs ys i d e h.1 (omega (arith, l))

-- ---- one row after another
module _ (s : Setting) (n : Label) where
  actions_come : (a b : Action) (x : Answer) → ActionsCome s a b x → a.name ≡ b.name → a.sorts ≡ b.sorts → ComeOut s (equalities a.sorts a.args b.args) x
  actions_come a b hold h e f = h.1
  actions_come a b fail h e f = h e f
  actions_come a b stay_open h e f = h.1

  actions_alike : (a b : Action) (x : Answer) → ActionsCome s a b x → mark_of true x ≡ true → (a.name ≡ b.name) × (a.sorts ≡ b.sorts)
  actions_alike a b hold h m = h.0
  actions_alike a b fail h m = absurd (let never : ⊥ = cc in never)
  actions_alike a b stay_open h m = h.0

  come_together : (m : Label) (rows : List (List Answer)) (cs : List ℕ) → AreActionRows s m n rows → length cs ≡ length m → AllByRecursion (λ (c : ℕ). c < length n) cs → AreAlike m (actions_at n cs) → ComeOut s (label_equalities m (actions_at n cs)) (together (entries rows cs))
  come_together [] [] [] h long within alike = all_hold tt
  come_together [] [] (c ∷ cs) h long within alike = absurd (omega (arith, long))
  come_together [] (row ∷ rows) cs h long within alike = absurd h
  come_together (a ∷ m) [] cs h long within alike = absurd h
  come_together (a ∷ m) (row ∷ rows) [] h long within alike = absurd (omega (arith, long))
  come_together (a ∷ m) (row ∷ rows) (c ∷ cs) h long within alike =
      come_both s (equalities a.sorts a.args (action_at n c).args) (label_equalities m (actions_at n cs)) (actions_come a (action_at n c) (slice_index_or row c fail) (zip_at (ActionsCome s a) n row c no_action fail h.0 within.0) alike.0 alike.1)
      (come_together m rows cs h.1 (omega (arith, long)) within.1 alike.2)

  alike_along : (m : Label) (rows : List (List Answer)) (cs : List ℕ) → AreActionRows s m n rows → length cs ≡ length m → AllByRecursion (λ (c : ℕ). c < length n) cs → AllByRecursion (λ (x : Answer). mark_of true x ≡ true) (entries rows cs) → AreAlike m (actions_at n cs)
  alike_along [] [] [] h long within marks = tt
  alike_along [] [] (c ∷ cs) h long within marks = absurd (omega (arith, long))
  alike_along [] (row ∷ rows) cs h long within marks = absurd h
  alike_along (a ∷ m) [] cs h long within marks = absurd h
  alike_along (a ∷ m) (row ∷ rows) [] h long within marks = absurd (omega (arith, long))
  alike_along (a ∷ m) (row ∷ rows) (c ∷ cs) h long within marks =
      let r = actions_alike a (action_at n c) (slice_index_or row c fail) (zip_at (ActionsCome s a) n row c no_action fail h.0 within.0) marks.0 in
      (r.0, r.1, alike_along m rows cs h.1 (omega (arith, long)) within.1 marks.1)

all_within : (k : ℕ) (cs : List ℕ) → ((i : ℕ) → i < length cs → column_of cs i < k) → AllByRecursion (λ (c : ℕ). c < k) cs
all_within k [] h = tt
all_within k (c ∷ cs) h = (h zero (omega arith), all_within k cs (λ i l. h (suc i) (omega (arith, l))))

hold_may : (xs : List Answer) → AllByRecursion (λ (x : Answer). mark_of false x ≡ true) xs → AllByRecursion (λ (x : Answer). mark_of true x ≡ true) xs
hold_may [] h = tt
hold_may (hold ∷ xs) h = (refl, hold_may xs h.1)
hold_may (fail ∷ xs) h = absurd (let e = h.0 in let never : ⊥ = cc in never)
hold_may (stay_open ∷ xs) h = (refl, hold_may xs h.1)

-- ---- the pairings
pub labels_differ : (s : Setting) (m n : Label) → length m ≢ length n → LabelsCome s m n fail
labels_differ s m n other p = absurd (other (alike_long m p.paired p.alike ∙ permuted_long p.same))

module _ (s : Setting) (m n : Label) (rows : List (List Answer)) (h : AreActionRows s m n rows) (same : length m ≡ length n) where
  rows_long : length rows ≡ length n
  rows_long = sym (zip_long (IsActionRow s n) m rows h) ∙ same

  pub are_square : (p : Bool) → IsSquare (marked p rows)
  are_square p row l =
      let inside : row < length rows = subst (λ (k : ℕ). row < k) (length-map rows (map (mark_of p))) l in
      let at : IsActionRow s n (action_at m row) (slice_index_or rows row []) = zip_at (IsActionRow s n) m rows row no_action [] h (subst (λ (k : ℕ). row < k) (rows_long ∙ sym same) inside) in
      ap (λ (bs : List Bool). length bs) (map_read (map (mark_of p)) rows row [])
      ∙ length-map (slice_index_or rows row []) (mark_of p)
      ∙ sym (zip_long (ActionsCome s (action_at m row)) n (slice_index_or rows row []) at)
      ∙ sym rows_long
      ∙ sym (length-map rows (map (mark_of p)))

  record IsMarkedOrder (p : Bool) : Type 0 where
    columns : List ℕ
    order : IsOrder (length n) columns
    marks : AllByRecursion (λ (x : Answer). mark_of p x ≡ true) (entries rows columns)

  marked_order : (p : Bool) → HasMatching (marked p rows) → IsMarkedOrder p
  marked_order p (cs, k) =
      let size : length (marked p rows) ≡ length n = length-map rows (map (mark_of p)) ∙ rows_long in
      let order : IsOrder (length n) cs = subst (λ (i : ℕ). IsOrder i cs) size k.order in
      record {
        columns = cs;
        order = order;
        marks = entries_by_place (λ (x : Answer). mark_of p x ≡ true) rows cs (order.long ∙ sym rows_long)
            (λ i l. sym (mark_is p rows i (column_of cs i)) ∙ k.marked i (subst (λ (j : ℕ). i < j) (rows_long ∙ sym size) l));
      }

  matched : (p : Bool) (cs : List ℕ) → IsOrder (length n) cs → AllByRecursion (λ (x : Answer). mark_of p x ≡ true) (entries rows cs) → HasMatching (marked p rows)
  matched p cs order marks =
      let size : length (marked p rows) ≡ length n = length-map rows (map (mark_of p)) ∙ rows_long in (
        cs,
        record {
          order = subst (λ (i : ℕ). IsOrder i cs) (sym size) order;
          marked = λ i l. mark_is p rows i (column_of cs i) ∙ place_of_entries (λ (x : Answer). mark_of p x ≡ true) rows cs (order.long ∙ sym rows_long) marks i (subst (λ (j : ℕ). i < j) (size ∙ sym rows_long) l);
        },
      )

  within : (cs : List ℕ) → IsOrder (length n) cs → AllByRecursion (λ (c : ℕ). c < length n) cs
  within cs order = all_within (length n) cs (λ i l. order.within i (subst (λ (j : ℕ). i < j) order.long l))

  pairing_by : (cs : List ℕ) → IsOrder (length n) cs → AllByRecursion (λ (x : Answer). mark_of true x ≡ true) (entries rows cs) → Pairing m n
  pairing_by cs order marks = record {
    paired = actions_at n cs;
    alike = alike_along s n m rows cs h (order.long ∙ sym same) (within cs order) marks;
    same = order_permutes no_action n cs order;
  }

  comes_by : (cs : List ℕ) (order : IsOrder (length n) cs) (marks : AllByRecursion (λ (x : Answer). mark_of true x ≡ true) (entries rows cs)) → ComeOut s (label_equalities m (pairing_by cs order marks).paired) (together (entries rows cs))
  unfolding pairing_by
  comes_by cs order marks = come_together s n m rows cs h (order.long ∙ sym same) (within cs order) (alike_along s n m rows cs h (order.long ∙ sym same) (within cs order) marks)

  record IsOutcome (p : Pairing m n) : Type 0 where
    columns : List ℕ
    order : IsOrder (length n) columns
    comes : ComeOut s (label_equalities m p.paired) (together (entries rows columns))

  outcome : (p : Pairing m n) → IsOutcome p
  outcome p =
      let r = permuted_order no_action p.same in
      record {
        columns = r.places;
        order = r.order;
        comes = subst (λ (q : Label). ComeOut s (label_equalities m q) (together (entries rows r.places))) (sym r.are)
            (come_together s n m rows r.places h (r.order.long ∙ sym same) (within r.places r.order) (subst (λ (q : Label). AreAlike m q) r.are p.alike));
      }

  pub labels_come : (a : Answer) → TableComes rows a → LabelsCome s m n a
  unfolding marked_order pairing_by
  labels_come hold k =
      let o = marked_order false k in
      let marks = hold_may (entries rows o.columns) o.marks in (
        (pairing_by o.columns o.order marks, subst (ComeOut s (label_equalities m (actions_at n o.columns))) (hold_together (entries rows o.columns) o.marks) (comes_by o.columns o.order marks)),
        λ p. let r = outcome p in (together (entries rows r.columns), r.comes),
      )
  labels_come stay_open k =
      let o = marked_order true k.1 in (
        (pairing_by o.columns o.order o.marks, open_one (together (entries rows o.columns)) (comes_by o.columns o.order o.marks) (λ e. k.0 (matched false o.columns o.order (together_hold (entries rows o.columns) e))) (may_together (entries rows o.columns) o.marks)),
        λ p. let r = outcome p in not_hold (together (entries rows r.columns)) r.comes (λ e. k.0 (matched false r.columns r.order (together_hold (entries rows r.columns) e))),
      )
    where
      open_one : {cs : List Term} (x : Answer) → ComeOut s cs x → (x ≡ hold → ⊥) → (x ≡ fail → ⊥) → ComeOut s cs stay_open
      open_one hold c n f = absurd (n refl)
      open_one fail c n f = absurd (f refl)
      open_one stay_open c n f = c

      not_hold : {cs : List Term} (x : Answer) → ComeOut s cs x → (x ≡ hold → ⊥) → ComeOut s cs fail ⊎ ComeOut s cs stay_open
      not_hold hold c n = absurd (n refl)
      not_hold fail c n = inl c
      not_hold stay_open c n = inr c
  labels_come fail k = λ p. let r = outcome p in by (together (entries rows r.columns)) r.comes (λ n. k (matched true r.columns r.order (together_may (entries rows r.columns) n)))
    where
      by : {cs : List Term} (x : Answer) → ComeOut s cs x → ((x ≡ fail → ⊥) → ⊥) → ComeOut s cs fail
      by hold c n = absurd (n (λ e. let never : ⊥ = cc in never))
      by fail c n = c
      by stay_open c n = absurd (n (λ e. let never : ⊥ = cc in never))
