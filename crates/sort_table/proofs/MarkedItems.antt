-- Which items meet, by their marks.
use Rattle.std.proofs.Common.{◌≡◌, ◌<◌, ◌+◌, ◌⊎◌, inl, inr, ⊎_elim, ℕ, zero, suc, Bool, true, false, cond, List, [], ◌∷◌, ◌++◌, length, refl, ap, sym, ◌∙◌, subst, arith}
use Rattle.std.specs.Prelude.{Option, Some, None, slice_get}
use Rattle.std.specs.List.{Contains, flat_map}
use Rattle.std.proofs.lemmas.Option.{none-some, same_Some, slice_get_within}
use Rattle.sort_table.specs.declared.flat_sorts.FlatSort.{FlatSort}
use Rattle.sort_table.specs.Expressions.{Name}
use Rattle.sort_table.specs.BareSorts.{SortExpression}
use Rattle.sort_table.specs.Duplicates.{Item, a_sort, a_function, an_action, a_process, a_variable}
use Rattle.sort_table.specs.Domains.{Domains}
use Rattle.sort_table.specs.Repeats.{Mark, Meets}
use Rattle.sort_table.specs.BuiltInTests.{is_built_in}
use Rattle.sort_table.specs.ItemMarks.{key, named_key, same_mark, function_marks, action_name_mark, process_name_mark, action_marks, item_marks, items_marks, marks_from}

-- ---- elements
abbrev pub In : {A : Type 0} → List A → A → Type 0
In [] x = ⊥
In (y ∷ ys) x = (y ≡ x) ⊎ In ys x

in_front : {A : Type 0} (xs ys : List A) (x : A) → In xs x → In (xs ++ ys) x
in_front [] ys x h = absurd h
in_front (y ∷ xs) ys x (inl e) = inl e
in_front (y ∷ xs) ys x (inr h) = inr (in_front xs ys x h)

in_back : {A : Type 0} (xs ys : List A) (x : A) → In ys x → In (xs ++ ys) x
in_back [] ys x h = h
in_back (y ∷ xs) ys x h = inr (in_back xs ys x h)

in_cases : {A : Type 0} (xs ys : List A) (x : A) → In (xs ++ ys) x → In xs x ⊎ In ys x
in_cases [] ys x h = inr h
in_cases (y ∷ xs) ys x (inl e) = inl (inl e)
in_cases (y ∷ xs) ys x (inr h) = ⊎_elim (λ a. inl (inr a)) (λ b. inr b) (in_cases xs ys x h)

in_each : {A B : Type 0} (f : A → List B) (xs : List A) (y : B) → In (flat_map f xs) y → (x : A) × In xs x × In (f x) y
in_each f [] y h = absurd h
in_each f (x ∷ xs) y h = ⊎_elim (λ a. (x, inl refl, a)) (λ b. let r = in_each f xs y b in (r.0, inr r.1, r.2)) (in_cases (f x) (flat_map f xs) y h)

each_in : {A B : Type 0} (f : A → List B) (xs : List A) (x : A) (y : B) → In xs x → In (f x) y → In (flat_map f xs) y
each_in f [] x y h k = absurd h
each_in f (z ∷ xs) x y (inl e) k = in_front (f z) (flat_map f xs) y (subst (λ w. In (f w) y) (sym e) k)
each_in f (z ∷ xs) x y (inr h) k = in_back (f z) (flat_map f xs) y (each_in f xs x y h k)

pub in_of_contains : {A : Type 0} (xs : List A) (x : A) → Contains xs x → In xs x
in_of_contains [] x (k, l, e) = absurd (omega (arith, l))
in_of_contains (y ∷ xs) x (zero, l, e) = inl e
in_of_contains (y ∷ xs) x (suc k, l, e) = let m : k < length xs = omega (arith, l) in inr (in_of_contains xs x (k, m, e))

pub contains_of_in : {A : Type 0} (xs : List A) (x : A) → In xs x → Contains xs x
contains_of_in [] x h = absurd h
contains_of_in (y ∷ xs) x (inl e) = (0, omega arith, e)
contains_of_in (y ∷ xs) x (inr h) = let c : Contains xs x = contains_of_in xs x h in let l : c.0 < length xs = c.1 in (suc c.0, omega (arith, l), c.2)

in_of_read : {A : Type 0} (xs : List A) (p : ℕ) (x : A) → slice_get xs p ≡ Some x → In xs x
in_of_read [] p x h = absurd (none-some x h)
in_of_read (y ∷ xs) zero x h = inl (same_Some y x h)
in_of_read (y ∷ xs) (suc p) x h = inr (in_of_read xs p x h)

read_of_in : {A : Type 0} (xs : List A) (x : A) → In xs x → (p : ℕ) × (slice_get xs p ≡ Some x)
read_of_in [] x h = absurd h
read_of_in (y ∷ xs) x (inl e) = (0, ap (λ z. Some z) e)
read_of_in (y ∷ xs) x (inr h) = let r = read_of_in xs x h in (suc r.0, r.1)

-- one element stands before the other
abbrev pub Before : {A : Type 0} → List A → A → A → Type 0
Before [] x y = ⊥
Before (z ∷ zs) x y = ((z ≡ x) × In zs y) ⊎ Before zs x y

pub before_of_reads : {A : Type 0} (xs : List A) (k l : ℕ) (x y : A) → k < l → slice_get xs k ≡ Some x → slice_get xs l ≡ Some y → Before xs x y
before_of_reads [] k l x y less h g = absurd (none-some x h)
before_of_reads (z ∷ xs) k zero x y less h g = absurd (omega (arith, less))
before_of_reads (z ∷ xs) zero (suc l) x y less h g = inl (same_Some z x h, in_of_read xs l y g)
before_of_reads (z ∷ xs) (suc k) (suc l) x y less h g = inr (before_of_reads xs k l x y (omega (arith, less)) h g)

pub reads_of_before : {A : Type 0} (xs : List A) (x y : A) → Before xs x y → (k l : ℕ) × (k < l) × (slice_get xs k ≡ Some x) × (slice_get xs l ≡ Some y)
reads_of_before [] x y h = absurd h
reads_of_before (z ∷ xs) x y (inl (e, h)) = let r = read_of_in xs y h in (0, suc r.0, omega arith, ap (λ w. Some w) e, r.1)
reads_of_before (z ∷ xs) x y (inr h) = let r = reads_of_before xs x y h in let l : r.0 < r.1 = r.2 in (suc r.0, suc r.1, omega (arith, l), r.3, r.4)

before_front : {A : Type 0} (xs ys : List A) (x y : A) → Before xs x y → Before (xs ++ ys) x y
before_front [] ys x y h = absurd h
before_front (z ∷ xs) ys x y (inl (e, h)) = inl (e, in_front xs ys y h)
before_front (z ∷ xs) ys x y (inr h) = inr (before_front xs ys x y h)

before_back : {A : Type 0} (xs ys : List A) (x y : A) → Before ys x y → Before (xs ++ ys) x y
before_back [] ys x y h = h
before_back (z ∷ xs) ys x y h = inr (before_back xs ys x y h)

before_across : {A : Type 0} (xs ys : List A) (x y : A) → In xs x → In ys y → Before (xs ++ ys) x y
before_across [] ys x y h k = absurd h
before_across (z ∷ xs) ys x y (inl e) k = inl (e, in_back xs ys y k)
before_across (z ∷ xs) ys x y (inr h) k = inr (before_across xs ys x y h k)

before_cases : {A : Type 0} (xs ys : List A) (x y : A) → Before (xs ++ ys) x y → Before xs x y ⊎ (Before ys x y ⊎ (In xs x × In ys y))
before_cases [] ys x y h = inr (inl h)
before_cases (z ∷ xs) ys x y (inl (e, h)) = ⊎_elim (λ a. inl (inl (e, a))) (λ b. inr (inr (inl e, b))) (in_cases xs ys y h)
before_cases (z ∷ xs) ys x y (inr h) = ⊎_elim (λ a. inl (inr a)) (⊎_elim (λ b. inr (inl b)) (λ (c : In xs x × In ys y). inr (inr (inr c.0, c.1)))) (before_cases xs ys x y h)

-- what stands before the other in the lists that elements give, does so in that of one, or in those of two
each_before : {A B : Type 0} (f : A → List B) (xs : List A) (a b : B) → Before (flat_map f xs) a b → ((x : A) × In xs x × Before (f x) a b) ⊎ ((x y : A) × Before xs x y × In (f x) a × In (f y) b)
each_before f [] a b h = absurd h
each_before f (x ∷ xs) a b h = ⊎_elim
    (λ within. inl (x, inl refl, within))
    (⊎_elim
    (λ later. ⊎_elim (λ one. inl (one.0, inr one.1, one.2)) (λ two. inr (two.0, two.1, inr two.2, two.3, two.4)) (each_before f xs a b later))
    (λ (across : In (f x) a × In (flat_map f xs) b). let r = in_each f xs b across.1 in inr (x, r.0, inl (refl, r.1), across.0, r.2)))
    (before_cases (f x) (flat_map f xs) a b h)

before_in_one : {A B : Type 0} (f : A → List B) (xs : List A) (x : A) (a b : B) → In xs x → Before (f x) a b → Before (flat_map f xs) a b
before_in_one f [] x a b h k = absurd h
before_in_one f (z ∷ xs) x a b (inl e) k = before_front (f z) (flat_map f xs) a b (subst (λ w. Before (f w) a b) (sym e) k)
before_in_one f (z ∷ xs) x a b (inr h) k = before_back (f z) (flat_map f xs) a b (before_in_one f xs x a b h k)

before_in_two : {A B : Type 0} (f : A → List B) (xs : List A) (x y : A) (a b : B) → Before xs x y → In (f x) a → In (f y) b → Before (flat_map f xs) a b
before_in_two f [] x y a b h g k = absurd h
before_in_two f (z ∷ xs) x y a b (inl (e, h)) g k = before_across (f z) (flat_map f xs) a b (subst (λ w. In (f w) a) (sym e) g) (each_in f xs y b h k)
before_in_two f (z ∷ xs) x y a b (inr h) g k = before_back (f z) (flat_map f xs) a b (before_in_two f xs x y a b h g k)

-- ---- tags: what keys spell
pub data Tag : Type 0 where
  sort_tag : Name → Tag
  function_tag : ℕ → Name → Tag
  action_tag : ℕ → Name → Tag
  action_name_tag : Name → Tag
  process_tag : Name → Tag
  variable_tag : ℕ → Name → Tag

abbrev key_of_tag : Tag → List ℕ
key_of_tag (sort_tag n) = named_key 0 n
key_of_tag (function_tag k f) = key 1 k f
key_of_tag (action_tag k a) = key 2 k a
key_of_tag (action_name_tag a) = named_key 3 a
key_of_tag (process_tag p) = named_key 4 p
key_of_tag (variable_tag k x) = key 5 k x

abbrev tag_of : List ℕ → Option Tag
tag_of (zero ∷ g ∷ r) = Some (sort_tag r)
tag_of (suc zero ∷ g ∷ r) = Some (function_tag g r)
tag_of (suc (suc zero) ∷ g ∷ r) = Some (action_tag g r)
tag_of (suc (suc (suc zero)) ∷ g ∷ r) = Some (action_name_tag r)
tag_of (suc (suc (suc (suc zero))) ∷ g ∷ r) = Some (process_tag r)
tag_of (suc (suc (suc (suc (suc zero)))) ∷ g ∷ r) = Some (variable_tag g r)
tag_of _ = None

tag_read : (t : Tag) → tag_of (key_of_tag t) ≡ Some t
tag_read (sort_tag n) = refl
tag_read (function_tag k f) = refl
tag_read (action_tag k a) = refl
tag_read (action_name_tag a) = refl
tag_read (process_tag p) = refl
tag_read (variable_tag k x) = refl

same_tag : (s t : Tag) → key_of_tag s ≡ key_of_tag t → s ≡ t
same_tag s t e = same_Some s t (sym (tag_read s) ∙ (ap tag_of e ∙ tag_read t))

-- ---- what items leave and meet
module _ (domain : Domains) where
  pub data LeavesTag : Item → Tag → Type 0 where
    sort_leaves : (n : Name) → LeavesTag (a_sort n) (sort_tag n)
    function_leaves : (f : Name) (es : List SortExpression) (k : ℕ) (ss : List FlatSort) → domain es ≡ Some (k, ss) → LeavesTag (a_function f es) (function_tag k f)
    action_leaves : (a : Name) (es : List SortExpression) (k : ℕ) (ss : List FlatSort) → domain es ≡ Some (k, ss) → LeavesTag (an_action a es) (action_tag k a)
    action_leaves_name : (a : Name) (es : List SortExpression) → LeavesTag (an_action a es) (action_name_tag a)
    process_leaves : (p : Name) → LeavesTag (a_process p) (process_tag p)
    variable_leaves : (k : ℕ) (x : Name) → LeavesTag (a_variable k x) (variable_tag k x)

  pub data MeetsTag : Item → Tag → Type 0 where
    sort_meets : (n : Name) → MeetsTag (a_sort n) (sort_tag n)
    function_meets : (f : Name) (es : List SortExpression) (k : ℕ) (ss : List FlatSort) → domain es ≡ Some (k, ss) → MeetsTag (a_function f es) (function_tag k f)
    action_meets : (a : Name) (es : List SortExpression) (k : ℕ) (ss : List FlatSort) → domain es ≡ Some (k, ss) → MeetsTag (an_action a es) (action_tag k a)
    action_meets_process : (a : Name) (es : List SortExpression) → MeetsTag (an_action a es) (process_tag a)
    process_meets : (p : Name) → MeetsTag (a_process p) (process_tag p)
    process_meets_action : (p : Name) → MeetsTag (a_process p) (action_name_tag p)
    variable_meets : (k : ℕ) (x : Name) → MeetsTag (a_variable k x) (variable_tag k x)

  pub record MarkTags (i : ℕ) (x : Item) (m : Mark) : Type 0 where
    pub left_tag : Tag
    pub met_tag : Tag
    pub leaves : LeavesTag x left_tag
    pub meets : MeetsTag x met_tag
    pub left : m.left ≡ key_of_tag left_tag
    pub met : m.met ≡ key_of_tag met_tag
    pub number : m.number ≡ i

  both_tags : (i : ℕ) (x : Item) (s t : Tag) (m : Mark) → LeavesTag x s → MeetsTag x t → record { left = key_of_tag s; met = key_of_tag t; number = i } ≡ m → MarkTags i x m
  both_tags i x s t m l k e = record { left_tag = s; met_tag = t; leaves = l; meets = k; left = ap (λ (n : Mark). n.left) (sym e); met = ap (λ (n : Mark). n.met) (sym e); number = ap (λ (n : Mark). n.number) (sym e) }

  in_one_or_two : (b : Bool) (n m : Mark) → In (cond b (n ∷ n ∷ []) (n ∷ [])) m → n ≡ m
  in_one_or_two true n m (inl e) = e
  in_one_or_two true n m (inr (inl e)) = e
  in_one_or_two true n m (inr (inr h)) = absurd h
  in_one_or_two false n m (inl e) = e
  in_one_or_two false n m (inr h) = absurd h

  one_or_two_in : (b : Bool) (n : Mark) → In (cond b (n ∷ n ∷ []) (n ∷ [])) n
  one_or_two_in true n = inl refl
  one_or_two_in false n = inl refl

  tags_of : (i : ℕ) (x : Item) (m : Mark) → In (item_marks domain i x) m → MarkTags i x m
  tags_of i (a_sort n) m (inl e) = both_tags i (a_sort n) (sort_tag n) (sort_tag n) m (sort_leaves n) (sort_meets n) e
  tags_of i (a_sort n) m (inr h) = absurd h
  tags_of i (a_function f es) m h = by_sorts (domain es) refl h
    where
      by_sorts : (o : Option (ℕ × List FlatSort)) → domain es ≡ o → In (function_marks i o f) m → MarkTags i (a_function f es) m
      by_sorts None q g = absurd g
      by_sorts (Some (k, ss)) q g = both_tags i (a_function f es) (function_tag k f) (function_tag k f) m (function_leaves f es k ss q) (function_meets f es k ss q) (in_one_or_two (is_built_in f ss) (same_mark i (key 1 k f)) m g)
  tags_of i (an_action a es) m h = by_sorts (domain es) refl h
    where
      by_sorts : (o : Option (ℕ × List FlatSort)) → domain es ≡ o → In (action_marks i o a) m → MarkTags i (an_action a es) m
      by_sorts None q (inl e) = both_tags i (an_action a es) (action_name_tag a) (process_tag a) m (action_leaves_name a es) (action_meets_process a es) e
      by_sorts None q (inr g) = absurd g
      by_sorts (Some (k, ss)) q (inl e) = both_tags i (an_action a es) (action_tag k a) (action_tag k a) m (action_leaves a es k ss q) (action_meets a es k ss q) e
      by_sorts (Some (k, ss)) q (inr (inl e)) = both_tags i (an_action a es) (action_name_tag a) (process_tag a) m (action_leaves_name a es) (action_meets_process a es) e
      by_sorts (Some (k, ss)) q (inr (inr g)) = absurd g
  tags_of i (a_process p) m (inl e) = both_tags i (a_process p) (process_tag p) (process_tag p) m (process_leaves p) (process_meets p) e
  tags_of i (a_process p) m (inr (inl e)) = both_tags i (a_process p) (process_tag p) (action_name_tag p) m (process_leaves p) (process_meets_action p) e
  tags_of i (a_process p) m (inr (inr h)) = absurd h
  tags_of i (a_variable k x) m (inl e) = both_tags i (a_variable k x) (variable_tag k x) (variable_tag k x) m (variable_leaves k x) (variable_meets k x) e
  tags_of i (a_variable k x) m (inr h) = absurd h

  -- a mark with this left key
  pub record LeftMark (i : ℕ) (x : Item) (t : Tag) : Type 0 where
    pub mark : Mark
    pub there : In (item_marks domain i x) mark
    pub left : mark.left ≡ key_of_tag t
    pub number : mark.number ≡ i

  pub record MetMark (i : ℕ) (x : Item) (t : Tag) : Type 0 where
    pub mark : Mark
    pub there : In (item_marks domain i x) mark
    pub met : mark.met ≡ key_of_tag t
    pub number : mark.number ≡ i

  function_in : (i : ℕ) (f : Name) (es : List SortExpression) (k : ℕ) (ss : List FlatSort) → domain es ≡ Some (k, ss) → In (item_marks domain i (a_function f es)) (same_mark i (key 1 k f))
  function_in i f es k ss q = subst (λ o. In (function_marks i o f) (same_mark i (key 1 k f))) (sym q) (one_or_two_in (is_built_in f ss) (same_mark i (key 1 k f)))

  name_in_action : (i : ℕ) (a : Name) (o : Option (ℕ × List FlatSort)) → In (action_marks i o a) (action_name_mark i a)
  name_in_action i a None = inl refl
  name_in_action i a (Some (k, ss)) = inr (inl refl)

  left_mark : (i : ℕ) (x : Item) (t : Tag) → LeavesTag x t → LeftMark i x t
  left_mark i _ _ (sort_leaves n) = record { mark = same_mark i (named_key 0 n); there = inl refl; left = refl; number = refl }
  left_mark i _ _ (function_leaves f es k ss q) = record { mark = same_mark i (key 1 k f); there = function_in i f es k ss q; left = refl; number = refl }
  left_mark i _ _ (action_leaves a es k ss q) = record { mark = same_mark i (key 2 k a); there = subst (λ o. In (action_marks i o a) (same_mark i (key 2 k a))) (sym q) (inl refl); left = refl; number = refl }
  left_mark i _ _ (action_leaves_name a es) = record { mark = action_name_mark i a; there = name_in_action i a (domain es); left = refl; number = refl }
  left_mark i _ _ (process_leaves p) = record { mark = same_mark i (named_key 4 p); there = inl refl; left = refl; number = refl }
  left_mark i _ _ (variable_leaves k x) = record { mark = same_mark i (key 5 k x); there = inl refl; left = refl; number = refl }

  met_mark : (i : ℕ) (x : Item) (t : Tag) → MeetsTag x t → MetMark i x t
  met_mark i _ _ (sort_meets n) = record { mark = same_mark i (named_key 0 n); there = inl refl; met = refl; number = refl }
  met_mark i _ _ (function_meets f es k ss q) = record { mark = same_mark i (key 1 k f); there = function_in i f es k ss q; met = refl; number = refl }
  met_mark i _ _ (action_meets a es k ss q) = record { mark = same_mark i (key 2 k a); there = subst (λ o. In (action_marks i o a) (same_mark i (key 2 k a))) (sym q) (inl refl); met = refl; number = refl }
  met_mark i _ _ (action_meets_process a es) = record { mark = action_name_mark i a; there = name_in_action i a (domain es); met = refl; number = refl }
  met_mark i _ _ (process_meets p) = record { mark = same_mark i (named_key 4 p); there = inl refl; met = refl; number = refl }
  met_mark i _ _ (process_meets_action p) = record { mark = process_name_mark i p; there = inr (inl refl); met = refl; number = refl }
  met_mark i _ _ (variable_meets k x) = record { mark = same_mark i (key 5 k x); there = inl refl; met = refl; number = refl }

  -- the first item leaves what the second one meets
  abbrev pub Share : Item → Item → Type 0
  Share x y = (t : Tag) × LeavesTag x t × MeetsTag y t

  -- the marks of two items meet
  share_of_marks : (i j : ℕ) (x y : Item) (a b : Mark) → In (item_marks domain i x) a → In (item_marks domain j y) b → a.left ≡ b.met → Share x y
  share_of_marks i j x y a b h k e =
      let s : MarkTags i x a = tags_of i x a h in
      let t : MarkTags j y b = tags_of j y b k in
      let same : s.left_tag ≡ t.met_tag = same_tag s.left_tag t.met_tag (sym s.left ∙ (e ∙ t.met)) in
      (s.left_tag, s.leaves, subst (MeetsTag y) (sym same) t.meets)

  -- ---- within one item
  abbrev pub IsBuiltInItem : Item → Type 0
  IsBuiltInItem x = (f : Name) × (es : List SortExpression) × (k : ℕ) × (ss : List FlatSort) × (x ≡ a_function f es) × (domain es ≡ Some (k, ss)) × (is_built_in f ss ≡ true)

  head : List ℕ → ℕ
  head [] = 0
  head (k ∷ r) = k

  itself : (i : ℕ) (x : Item) (a b : Mark) → Before (item_marks domain i x) a b → a.left ≡ b.met → IsBuiltInItem x
  unfolding head
  itself i (a_sort n) a b (inl (e, h)) q = absurd h
  itself i (a_sort n) a b (inr h) q = absurd h
  itself i (a_function f es) a b h q = by_sorts (domain es) refl h
    where
      by_test : (k : ℕ) (ss : List FlatSort) (t : Bool) → domain es ≡ Some (k, ss) → is_built_in f ss ≡ t → Before (cond t (same_mark i (key 1 k f) ∷ same_mark i (key 1 k f) ∷ []) (same_mark i (key 1 k f) ∷ [])) a b → IsBuiltInItem (a_function f es)
      by_test k ss true r w g = (f, es, k, ss, refl, r, w)
      by_test k ss false r w (inl (e, g)) = absurd g
      by_test k ss false r w (inr g) = absurd g

      by_sorts : (o : Option (ℕ × List FlatSort)) → domain es ≡ o → Before (function_marks i o f) a b → IsBuiltInItem (a_function f es)
      by_sorts None r g = absurd g
      by_sorts (Some (k, ss)) r g = by_test k ss (is_built_in f ss) r refl g
  itself i (an_action c es) a b h q = by_sorts (domain es) h
    where
      by_sorts : (o : Option (ℕ × List FlatSort)) → Before (action_marks i o c) a b → IsBuiltInItem (an_action c es)
      by_sorts None (inl (e, g)) = absurd g
      by_sorts None (inr g) = absurd g
      by_sorts (Some (k, ss)) (inl (e, inl g)) = let never : 2 ≡ 4 = ap (λ (m : Mark). head m.left) e ∙ (ap head q ∙ ap (λ (m : Mark). head m.met) (sym g)) in absurd (omega (arith, never))
      by_sorts (Some (k, ss)) (inl (e, inr g)) = absurd g
      by_sorts (Some (k, ss)) (inr (inl (e, g))) = absurd g
      by_sorts (Some (k, ss)) (inr (inr g)) = absurd g
  itself i (a_process p) a b (inl (e, inl g)) q = let never : 4 ≡ 3 = ap (λ (m : Mark). head m.left) e ∙ (ap head q ∙ ap (λ (m : Mark). head m.met) (sym g)) in absurd (omega (arith, never))
  itself i (a_process p) a b (inl (e, inr g)) q = absurd g
  itself i (a_process p) a b (inr (inl (e, g))) q = absurd g
  itself i (a_process p) a b (inr (inr g)) q = absurd g
  itself i (a_variable k x) a b (inl (e, h)) q = absurd h
  itself i (a_variable k x) a b (inr h) q = absurd h

  built_in_twice : (i : ℕ) (f : Name) (es : List SortExpression) (k : ℕ) (ss : List FlatSort) → domain es ≡ Some (k, ss) → is_built_in f ss ≡ true → Before (item_marks domain i (a_function f es)) (same_mark i (key 1 k f)) (same_mark i (key 1 k f))
  built_in_twice i f es k ss q t =
      subst (λ o. Before (function_marks i o f) (same_mark i (key 1 k f)) (same_mark i (key 1 k f))) (sym q)
      (subst (λ b. Before (cond b (same_mark i (key 1 k f) ∷ same_mark i (key 1 k f) ∷ []) (same_mark i (key 1 k f) ∷ [])) (same_mark i (key 1 k f)) (same_mark i (key 1 k f))) (sym t) (inl (refl, inl refl)))

  -- ---- a list of items with one number
  abbrev pub RepeatsItself : List Item → Type 0
  RepeatsItself xs = ((x y : Item) × Before xs x y × Share x y) ⊎ ((x : Item) × In xs x × IsBuiltInItem x)

  pub record MarksMeet (ms : List Mark) (i j : ℕ) : Type 0 where
    pub front : Mark
    pub back : Mark
    pub before : Before ms front back
    pub same : front.left ≡ back.met
    pub first : front.number ≡ i
    pub second : back.number ≡ j

  items_repeat : (i : ℕ) (xs : List Item) (a b : Mark) → Before (items_marks domain i xs) a b → a.left ≡ b.met → RepeatsItself xs
  items_repeat i xs a b h q = ⊎_elim
      (λ one. inr (one.0, one.1, itself i one.0 a b one.2 q))
      (λ two. inl (two.0, two.1, two.2, share_of_marks i i two.0 two.1 a b two.3 two.4 q))
      (each_before (item_marks domain i) xs a b h)

  repeat_items : (i : ℕ) (xs : List Item) → RepeatsItself xs → MarksMeet (items_marks domain i xs) i i
  repeat_items i xs (inl (x, y, h, (t, l, m))) =
      let p : LeftMark i x t = left_mark i x t l in
      let q : MetMark i y t = met_mark i y t m in
      record { front = p.mark; back = q.mark; before = before_in_two (item_marks domain i) xs x y p.mark q.mark h p.there q.there; same = p.left ∙ sym q.met; first = p.number; second = q.number }
  repeat_items i xs (inr (x, h, (f, es, k, ss, e, r, w))) =
      let m : Mark = same_mark i (key 1 k f) in
      record { front = m; back = m; before = before_in_one (item_marks domain i) xs (a_function f es) m m (subst (In xs) e h) (built_in_twice i f es k ss r w); same = refl; first = refl; second = refl }

  -- ---- lists of items, numbered on
  pub record AgainInTwo (n : ℕ) (xss : List (List Item)) (i j : ℕ) : Type 0 where
    pub a : ℕ
    pub b : ℕ
    pub xs : List Item
    pub ys : List Item
    pub x : Item
    pub y : Item
    pub less : a < b
    pub first_list : slice_get xss a ≡ Some xs
    pub second_list : slice_get xss b ≡ Some ys
    pub first_item : In xs x
    pub second_item : In ys y
    pub share : Share x y
    pub first : i ≡ n + a
    pub second : j ≡ n + b

  pub record AgainInOne (n : ℕ) (xss : List (List Item)) (i j : ℕ) : Type 0 where
    pub a : ℕ
    pub xs : List Item
    pub its_list : slice_get xss a ≡ Some xs
    pub repeats : RepeatsItself xs
    pub first : i ≡ n + a
    pub second : j ≡ n + a

  abbrev pub Again : ℕ → List (List Item) → ℕ → ℕ → Type 0
  Again n xss i j = AgainInOne n xss i j ⊎ AgainInTwo n xss i j

  pub record NumberedItem (n : ℕ) (xss : List (List Item)) (m : Mark) : Type 0 where
    pub a : ℕ
    pub xs : List Item
    pub x : Item
    pub its_list : slice_get xss a ≡ Some xs
    pub item : In xs x
    pub mark : In (item_marks domain (n + a) x) m

  mark_number : (i : ℕ) (x : Item) (m : Mark) → In (item_marks domain i x) m → m.number ≡ i
  mark_number i x m h = (tags_of i x m h).number

  at_start : (n : ℕ) → n ≡ n + 0
  at_start n = omega arith

  further_on : (n a : ℕ) → suc n + a ≡ n + suc a
  further_on n a = omega arith

  numbered : (n : ℕ) (xss : List (List Item)) (m : Mark) → In (marks_from domain n xss) m → NumberedItem n xss m
  numbered n [] m h = absurd h
  numbered n (xs ∷ xss) m h = ⊎_elim
      (λ here. let r = in_each (item_marks domain n) xs m here in
      record { a = 0; xs = xs; x = r.0; its_list = refl; item = r.1; mark = subst (λ (i : ℕ). In (item_marks domain i r.0) m) (at_start n) r.2 })
      (λ later. let r : NumberedItem (suc n) xss m = numbered (suc n) xss m later in
      record { a = suc r.a; xs = r.xs; x = r.x; its_list = r.its_list; item = r.item; mark = subst (λ (i : ℕ). In (item_marks domain i r.x) m) (further_on n r.a) r.mark })
      (in_cases (items_marks domain n xs) (marks_from domain (suc n) xss) m h)

  number_there : (n : ℕ) (xss : List (List Item)) (a : ℕ) (xs : List Item) (x : Item) (m : Mark) → slice_get xss a ≡ Some xs → In xs x → In (item_marks domain (n + a) x) m → In (marks_from domain n xss) m
  number_there n [] a xs x m q h k = absurd (none-some xs q)
  number_there n (zs ∷ xss) zero xs x m q h k =
      in_front (items_marks domain n zs) (marks_from domain (suc n) xss) m
      (each_in (item_marks domain n) zs x m (subst (λ l. In l x) (sym (same_Some zs xs q)) h) (subst (λ (i : ℕ). In (item_marks domain i x) m) (sym (at_start n)) k))
  number_there n (zs ∷ xss) (suc a) xs x m q h k =
      in_back (items_marks domain n zs) (marks_from domain (suc n) xss) m
      (number_there (suc n) xss a xs x m q h (subst (λ (i : ℕ). In (item_marks domain i x) m) (sym (further_on n a)) k))

  pub again_of_marks : (n : ℕ) (xss : List (List Item)) (a b : Mark) → Before (marks_from domain n xss) a b → a.left ≡ b.met → Again n xss a.number b.number
  again_of_marks n [] a b h q = absurd h
  again_of_marks n (xs ∷ xss) a b h q = ⊎_elim
      (λ here.
      let in_a = before_in_first (items_marks domain n xs) a b here in
      let in_b = before_in_second (items_marks domain n xs) a b here in
      let p = in_each (item_marks domain n) xs a in_a in
      let r = in_each (item_marks domain n) xs b in_b in
      inl (record { a = 0; xs = xs; its_list = refl; repeats = items_repeat n xs a b here q; first = mark_number n p.0 a p.2 ∙ at_start n; second = mark_number n r.0 b r.2 ∙ at_start n }))
      (⊎_elim
      (λ later. on (again_of_marks (suc n) xss a b later q))
      (λ (across : In (items_marks domain n xs) a × In (marks_from domain (suc n) xss) b).
      let p = in_each (item_marks domain n) xs a across.0 in
      let r : NumberedItem (suc n) xss b = numbered (suc n) xss b across.1 in
      inr (record {
        a = 0;
        b = suc r.a;
        xs = xs;
        ys = r.xs;
        x = p.0;
        y = r.x;
        less = omega arith;
        first_list = refl;
        second_list = r.its_list;
        first_item = p.1;
        second_item = r.item;
        share = share_of_marks n (suc n + r.a) p.0 r.x a b p.2 r.mark q;
        first = mark_number n p.0 a p.2 ∙ at_start n;
        second = mark_number (suc n + r.a) r.x b r.mark ∙ further_on n r.a;
      })))
      (before_cases (items_marks domain n xs) (marks_from domain (suc n) xss) a b h)
    where
      before_in_first : {A : Type 0} (ms : List A) (x y : A) → Before ms x y → In ms x
      before_in_first [] x y g = absurd g
      before_in_first (z ∷ ms) x y (inl (e, g)) = inl e
      before_in_first (z ∷ ms) x y (inr g) = inr (before_in_first ms x y g)

      before_in_second : {A : Type 0} (ms : List A) (x y : A) → Before ms x y → In ms y
      before_in_second [] x y g = absurd g
      before_in_second (z ∷ ms) x y (inl (e, g)) = inr g
      before_in_second (z ∷ ms) x y (inr g) = inr (before_in_second ms x y g)

      on : Again (suc n) xss a.number b.number → Again n (xs ∷ xss) a.number b.number
      on (inl o) = inl (record { a = suc o.a; xs = o.xs; its_list = o.its_list; repeats = o.repeats; first = o.first ∙ further_on n o.a; second = o.second ∙ further_on n o.a })
      on (inr t) = let l : t.a < t.b = t.less in inr (record {
        a = suc t.a;
        b = suc t.b;
        xs = t.xs;
        ys = t.ys;
        x = t.x;
        y = t.y;
        less = omega (arith, l);
        first_list = t.first_list;
        second_list = t.second_list;
        first_item = t.first_item;
        second_item = t.second_item;
        share = t.share;
        first = t.first ∙ further_on n t.a;
        second = t.second ∙ further_on n t.b;
      })

  -- ---- from there to marks
  one_to_marks : (n : ℕ) (xss : List (List Item)) (a : ℕ) (xs : List Item) → slice_get xss a ≡ Some xs → RepeatsItself xs → MarksMeet (marks_from domain n xss) (n + a) (n + a)
  one_to_marks n [] a xs q h = absurd (none-some xs q)
  one_to_marks n (zs ∷ xss) zero xs q h =
      let r : MarksMeet (items_marks domain n zs) n n = repeat_items n zs (subst RepeatsItself (sym (same_Some zs xs q)) h) in
      record { front = r.front; back = r.back; before = before_front (items_marks domain n zs) (marks_from domain (suc n) xss) r.front r.back r.before; same = r.same; first = r.first ∙ at_start n; second = r.second ∙ at_start n }
  one_to_marks n (zs ∷ xss) (suc a) xs q h =
      let r : MarksMeet (marks_from domain (suc n) xss) (suc n + a) (suc n + a) = one_to_marks (suc n) xss a xs q h in
      record { front = r.front; back = r.back; before = before_back (items_marks domain n zs) (marks_from domain (suc n) xss) r.front r.back r.before; same = r.same; first = r.first ∙ further_on n a; second = r.second ∙ further_on n a }

  two_to_marks : (n : ℕ) (xss : List (List Item)) (a b : ℕ) (xs ys : List Item) (x y : Item) → a < b → slice_get xss a ≡ Some xs → slice_get xss b ≡ Some ys → In xs x → In ys y → Share x y → MarksMeet (marks_from domain n xss) (n + a) (n + b)
  two_to_marks n [] a b xs ys x y l q r h k s = absurd (none-some xs q)
  two_to_marks n (zs ∷ xss) a zero xs ys x y l q r h k s = absurd (omega (arith, l))
  two_to_marks n (zs ∷ xss) zero (suc b) xs ys x y l q r h k (t, lt, mt) =
      let p : LeftMark n x t = left_mark n x t lt in
      let g : MetMark (suc n + b) y t = met_mark (suc n + b) y t mt in
      record {
        front = p.mark;
        back = g.mark;
        before = before_across (items_marks domain n zs) (marks_from domain (suc n) xss) p.mark g.mark
            (each_in (item_marks domain n) zs x p.mark (subst (λ l. In l x) (sym (same_Some zs xs q)) h) p.there)
            (number_there (suc n) xss b ys y g.mark r k g.there);
        same = p.left ∙ sym g.met;
        first = p.number ∙ at_start n;
        second = g.number ∙ further_on n b;
      }
  two_to_marks n (zs ∷ xss) (suc a) (suc b) xs ys x y l q r h k s =
      let w : MarksMeet (marks_from domain (suc n) xss) (suc n + a) (suc n + b) = two_to_marks (suc n) xss a b xs ys x y (omega (arith, l)) q r h k s in
      record { front = w.front; back = w.back; before = before_back (items_marks domain n zs) (marks_from domain (suc n) xss) w.front w.back w.before; same = w.same; first = w.first ∙ further_on n a; second = w.second ∙ further_on n b }

  pub marks_of_again : (n : ℕ) (xss : List (List Item)) (i j : ℕ) → Again n xss i j → MarksMeet (marks_from domain n xss) i j
  marks_of_again n xss i j (inl o) = let r : MarksMeet (marks_from domain n xss) (n + o.a) (n + o.a) = one_to_marks n xss o.a o.xs o.its_list o.repeats in
      record { front = r.front; back = r.back; before = r.before; same = r.same; first = r.first ∙ sym o.first; second = r.second ∙ sym o.second }
  marks_of_again n xss i j (inr t) = let r : MarksMeet (marks_from domain n xss) (n + t.a) (n + t.b) = two_to_marks n xss t.a t.b t.xs t.ys t.x t.y t.less t.first_list t.second_list t.first_item t.second_item t.share in
      record { front = r.front; back = r.back; before = r.before; same = r.same; first = r.first ∙ sym t.first; second = r.second ∙ sym t.second }

  pub again_of_meets : (xss : List (List Item)) (i j : ℕ) → Meets (marks_from domain 1 xss) (length (marks_from domain 1 xss)) i j → Again 1 xss i j
  again_of_meets xss i j (q, y, l, there, number, (p, x, less, here, left, first)) =
      subst (λ (k : ℕ). Again 1 xss k j) first (subst (λ (k : ℕ). Again 1 xss x.number k) number
      (again_of_marks 1 xss x y (before_of_reads (marks_from domain 1 xss) p q x y less here there) left))

  pub meets_of_again : (xss : List (List Item)) (i j : ℕ) → Again 1 xss i j → Meets (marks_from domain 1 xss) (length (marks_from domain 1 xss)) i j
  meets_of_again xss i j h =
      let ms : List Mark = marks_from domain 1 xss in
      let r : MarksMeet ms i j = marks_of_again 1 xss i j h in
      let at = reads_of_before ms r.front r.back r.before in
      (at.1, r.back, slice_get_within ms at.1 r.back at.4, at.4, r.second, (at.0, r.front, at.2, at.3, r.same, r.first))
