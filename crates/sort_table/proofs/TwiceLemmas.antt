-- Lists of variables with a name twice, and declarations that have one.
use Rattle.std.proofs.Common.{◌≡◌, ◌<◌, ◌≤◌, ◌+◌, ◌⊎◌, inl, inr, ⊎_elim, ℕ, zero, suc, Bool, true, false, ◌||◌, List, [], ◌∷◌, length, map, take, drop, get_or, refl, ap, sym, ◌∙◌, subst, arith}
use Rattle.std.specs.Prelude.{Option, Some, None, is_some, slice_get, bytes_eq}
use Rattle.std.specs.List.{Contains, list_any}
use Rattle.std.proofs.lemmas.Option.{none-some, same_Some, slice_get_within}
use Rattle.std.proofs.lemmas.Slice.Eq.{bytes_eq-Decides}
use Rattle.sort_table.specs.Expressions.{Name}
use Rattle.sort_table.specs.BareSorts.{SortExpression}
use Rattle.sort_table.specs.BareProcesses.{Variables}
use Rattle.sort_table.specs.BareDeclarations.{Declaration}
use Rattle.sort_table.specs.Duplicates.{StandsTwice, variable_lists}
use Rattle.sort_table.specs.Repeats.{Mark, Meets, IsLeastPair}
use Rattle.sort_table.specs.ItemMarks.{key, same_mark, marks_of_variables}
use Rattle.sort_table.specs.RepeatedVariables.{has_twice, any_twice, VariableAgain}
use Rattle.std.proofs.lemmas.List.{take-append-drop}
use Rattle.std.proofs.lemmas.List.Folds.{list_any-append}
use Rattle.sort_table.proofs.Searches.{IsListed, listed_more, listed_behind}
use Rattle.sort_table.proofs.AliasCycles.{less_or_same}

-- ---- tests of lists
or_right : (a b : Bool) → b ≡ true → a || b ≡ true
or_right true b h = refl
or_right false b h = h

or_left : (a b : Bool) → a ≡ true → a || b ≡ true
or_left true b h = refl
or_left false b h = let never : false ≡ true = h in cc

or_cases : (a b : Bool) → a || b ≡ true → (a ≡ true) ⊎ (b ≡ true)
or_cases true b h = inl refl
or_cases false b h = inr h

any_at : {A : Type 0} (p : A → Bool) (xs : List A) (i : ℕ) (x : A) → slice_get xs i ≡ Some x → p x ≡ true → list_any p xs ≡ true
any_at p [] i x h t = absurd (none-some x h)
any_at p (y ∷ xs) zero x h t = or_left (p y) (list_any p xs) (ap p (same_Some y x h) ∙ t)
any_at p (y ∷ xs) (suc i) x h t = or_right (p y) (list_any p xs) (any_at p xs i x h t)

place_of_any : {A : Type 0} (p : A → Bool) (xs : List A) → list_any p xs ≡ true → (i : ℕ) × (x : A) × (slice_get xs i ≡ Some x) × (p x ≡ true)
place_of_any p [] t = let never : false ≡ true = t in cc
place_of_any p (y ∷ xs) t = ⊎_elim (λ h. (0, y, refl, h)) (λ h. let r = place_of_any p xs h in (suc r.0, r.1, r.2, r.3)) (or_cases (p y) (list_any p xs) t)

read_contained : {A : Type 0} (xs : List A) (i : ℕ) (x : A) → slice_get xs i ≡ Some x → Contains xs x
read_contained [] i x h = absurd (none-some x h)
read_contained (y ∷ xs) zero x h = (0, omega arith, same_Some y x h)
read_contained (y ∷ xs) (suc i) x h = let c : Contains xs x = read_contained xs i x h in let l : c.0 < length xs = c.1 in (suc c.0, omega (arith, l), c.2)

contained_read : {A : Type 0} (xs : List A) (x : A) → Contains xs x → (i : ℕ) × (slice_get xs i ≡ Some x)
contained_read [] x (i, l, e) = absurd (omega (arith, l))
contained_read (y ∷ xs) x (zero, l, e) = (0, ap (λ z. Some z) e)
contained_read (y ∷ xs) x (suc i, l, e) = let m : i < length xs = omega (arith, l) in let r = contained_read xs x (i, m, e) in (suc r.0, r.1)

-- ---- a name twice
pub twice_of_stands : (vs : Variables) (i j : ℕ) (n : Name) (a b : SortExpression) → i < j → slice_get vs i ≡ Some (n, a) → slice_get vs j ≡ Some (n, b) → has_twice vs ≡ true
twice_of_stands [] i j n a b l h k = absurd (none-some (n, a) h)
twice_of_stands (v ∷ vs) i zero n a b l h k = absurd (omega (arith, l))
twice_of_stands (v ∷ vs) zero (suc j) n a b l h k =
    let name : v.0 ≡ n = ap (λ (w : Name × SortExpression). w.0) (same_Some v (n, a) h) in
    or_left (list_any (λ (w : Name × SortExpression). bytes_eq v.0 w.0) vs) (has_twice vs) (any_at (λ (w : Name × SortExpression). bytes_eq v.0 w.0) vs j (n, b) k ((bytes_eq-Decides v.0 n).1 name))
twice_of_stands (v ∷ vs) (suc i) (suc j) n a b l h k = or_right (list_any (λ (w : Name × SortExpression). bytes_eq v.0 w.0) vs) (has_twice vs) (twice_of_stands vs i j n a b (omega (arith, l)) h k)

pub stands_of_twice : (vs : Variables) → has_twice vs ≡ true → StandsTwice vs
stands_of_twice [] t = let never : false ≡ true = t in cc
stands_of_twice (v ∷ vs) t = ⊎_elim
    (λ h. let r = place_of_any (λ (w : Name × SortExpression). bytes_eq v.0 w.0) vs h in
    let name : v.0 ≡ r.1.0 = (bytes_eq-Decides v.0 r.1.0).0 r.3 in
    (0, suc r.0, v.0, v.1, r.1.1, omega arith, refl, r.2 ∙ ap (λ (n : Name). Some (n, r.1.1)) (sym name)))
    (λ h. let (i, j, n, a, b, l, p, q) = stands_of_twice vs h in let m : i < j = l in (suc i, suc j, n, a, b, omega (arith, m), p, q))
    (or_cases (list_any (λ (w : Name × SortExpression). bytes_eq v.0 w.0) vs) (has_twice vs) t)

-- ---- by marks
variable_mark : Name × SortExpression → Mark
variable_mark v = same_mark 0 (key 5 0 v.0)

marks_are : (vs : Variables) → marks_of_variables 0 0 vs ≡ map variable_mark vs
unfolding variable_mark
marks_are [] = refl
marks_are (v ∷ vs) = ap (λ ms. same_mark 0 (key 5 0 v.0) ∷ ms) (marks_are vs)

read_marked : (vs : Variables) (p : ℕ) (m : Mark) → slice_get (map variable_mark vs) p ≡ Some m → (v : Name × SortExpression) × (slice_get vs p ≡ Some v) × (variable_mark v ≡ m)
read_marked [] p m h = absurd (none-some m h)
read_marked (v ∷ vs) zero m h = (v, refl, same_Some (variable_mark v) m h)
read_marked (v ∷ vs) (suc p) m h = read_marked vs p m h

mark_read : (vs : Variables) (p : ℕ) (v : Name × SortExpression) → slice_get vs p ≡ Some v → slice_get (map variable_mark vs) p ≡ Some (variable_mark v)
mark_read [] p v h = absurd (none-some v h)
mark_read (w ∷ vs) zero v h = ap (λ u. Some (variable_mark u)) (same_Some w v h)
mark_read (w ∷ vs) (suc p) v h = mark_read vs p v h

name_in_key : List ℕ → Name
name_in_key [] = []
name_in_key (k ∷ []) = []
name_in_key (k ∷ g ∷ n) = n

same_names : (v w : Name × SortExpression) (m x : Mark) → variable_mark v ≡ m → variable_mark w ≡ x → m.left ≡ x.met → v.0 ≡ w.0
unfolding variable_mark name_in_key
same_names v w m x e f s = ap (λ (y : Mark). name_in_key y.left) e ∙ (ap name_in_key s ∙ ap (λ (y : Mark). name_in_key y.met) (sym f))

stands_of_meets : (vs : Variables) (i j : ℕ) → Meets (map variable_mark vs) (length (map variable_mark vs)) i j → StandsTwice vs
stands_of_meets vs i j (q, y, l, there, number, (p, x, less, here, left, first)) =
    let a = read_marked vs p x here in
    let b = read_marked vs q y there in
    let name : a.0.0 ≡ b.0.0 = same_names a.0 b.0 x y a.2 b.2 left in
    (p, q, b.0.0, a.0.1, b.0.1, less, a.1 ∙ ap (λ (n : Name). Some (n, a.0.1)) name, b.1)

meets_of_stands : (vs : Variables) → StandsTwice vs → Meets (map variable_mark vs) (length (map variable_mark vs)) 0 0
unfolding variable_mark
meets_of_stands vs (i, j, n, a, b, l, p, q) =
    let here = mark_read vs i (n, a) p in
    let there = mark_read vs j (n, b) q in
    (j, variable_mark (n, b), slice_get_within (map variable_mark vs) j (variable_mark (n, b)) there, there, refl, (i, variable_mark (n, a), l, here, refl, refl))

pub twice_found : (vs : Variables) (ms : List Mark) (k : ℕ) (o : Option (ℕ × ℕ)) → ms ≡ marks_of_variables 0 0 vs → k ≡ length ms → IsLeastPair (Meets ms k) o → is_some o ≡ has_twice vs
twice_found vs ms k o marks size least = by_answer o there (has_twice vs) refl
  where
    there : IsLeastPair (Meets (map variable_mark vs) (length (map variable_mark vs))) o
    there = subst (λ (ns : List Mark). IsLeastPair (Meets ns (length ns)) o) (marks ∙ marks_are vs) (subst (λ (n : ℕ). IsLeastPair (Meets ms n) o) size least)

    by_answer : (o : Option (ℕ × ℕ)) → IsLeastPair (Meets (map variable_mark vs) (length (map variable_mark vs))) o → (b : Bool) → has_twice vs ≡ b → is_some o ≡ b
    by_answer None h true e = absurd (h 0 0 (meets_of_stands vs (stands_of_twice vs e)))
    by_answer None h false e = refl
    by_answer (Some p) h true e = refl
    by_answer (Some p) h false e =
        let (i, j, n, a, b, l, q, r) = stands_of_meets vs p.0 p.1 h.0 in
        let yes : has_twice vs ≡ true = twice_of_stands vs i j n a b l q r in
        cc

-- ---- declarations
again_of_any : (ds : List Declaration) (k : ℕ) (d : Declaration) → slice_get ds k ≡ Some d → any_twice (variable_lists d) ≡ true → VariableAgain ds (suc k) (suc k)
again_of_any ds k d at t =
    let r = place_of_any has_twice (variable_lists d) t in
    (k, d, r.1, at, read_contained (variable_lists d) r.0 r.1 r.2, stands_of_twice r.1 r.3, refl, refl)

any_of_again : (d : Declaration) (vs : Variables) → Contains (variable_lists d) vs → StandsTwice vs → any_twice (variable_lists d) ≡ true
any_of_again d vs there (i, j, n, a, b, l, p, q) =
    let r = contained_read (variable_lists d) vs there in
    any_at has_twice (variable_lists d) r.0 vs r.1 (twice_of_stands vs i j n a b l p q)

abbrev pub NoneTwiceBelow : List Declaration → ℕ → Type 0
NoneTwiceBelow ds i = (k : ℕ) (d : Declaration) → k < i → slice_get ds k ≡ Some d → any_twice (variable_lists d) ≡ false

not_below : (ds : List Declaration) (i k : ℕ) (d : Declaration) (vs : Variables) → NoneTwiceBelow ds i → k < i → slice_get ds k ≡ Some d → Contains (variable_lists d) vs → StandsTwice vs → ⊥
not_below ds i k d vs none l at there twice =
    let yes : any_twice (variable_lists d) ≡ true = any_of_again d vs there twice in
    let no : any_twice (variable_lists d) ≡ false = none k d l at in
    cc

less_or_more : (a b : ℕ) → (a < b) ⊎ (b ≤ a)
less_or_more zero zero = inr (omega arith)
less_or_more zero (suc b) = inl (omega arith)
less_or_more (suc a) zero = inr (omega arith)
less_or_more (suc a) (suc b) = ⊎_elim (λ (l : a < b). inl (omega (arith, l))) (λ (m : b ≤ a). inr (omega (arith, m))) (less_or_more a b)

pub first_twice : (ds : List Declaration) (i n : ℕ) (d : Declaration) → NoneTwiceBelow ds i → slice_get ds i ≡ Some d → any_twice (variable_lists d) ≡ true → n ≡ suc i → IsLeastPair (VariableAgain ds) (Some (n, n))
first_twice ds i n d none at t e = subst (λ (m : ℕ). IsLeastPair (VariableAgain ds) (Some (m, m))) (sym e) (
  again_of_any ds i d at t,
  (λ a b (k, c, vs, there, lists, twice, first, second). below k c vs there lists twice b second),
  λ a (k, c, vs, there, lists, twice, first, second). below k c vs there lists twice a first,
)
  where
    below : (k : ℕ) (c : Declaration) (vs : Variables) → slice_get ds k ≡ Some c → Contains (variable_lists c) vs → StandsTwice vs → (b : ℕ) → b ≡ suc k → suc i ≤ b
    below k c vs there lists twice b second = ⊎_elim
        (λ (less : k < i). absurd (not_below ds i k c vs none less there lists twice))
        (λ (more : i ≤ k). omega (arith, more, second))
        (less_or_more k i)

pub never_twice : (ds : List Declaration) (i : ℕ) → length ds ≤ i → NoneTwiceBelow ds i → IsLeastPair (VariableAgain ds) None
never_twice ds i l none = λ a b (k, c, vs, there, lists, twice, first, second).
    let less : k < length ds = slice_get_within ds k c there in
    not_below ds i k c vs none (omega (arith, less, l)) there lists twice

pub none_twice_more : (ds : List Declaration) (i : ℕ) (d : Declaration) → NoneTwiceBelow ds i → slice_get ds i ≡ Some d → any_twice (variable_lists d) ≡ false → NoneTwiceBelow ds (i + 1)
none_twice_more ds i d none at f k c l there = ⊎_elim
    (λ (less : k < i). none k c less there)
    (λ (same : k ≡ i). let it : c ≡ d = same_Some c d (sym there ∙ (ap (slice_get ds) same ∙ at)) in ap (λ (e : Declaration). any_twice (variable_lists e)) it ∙ f)
    (less_or_same k i (omega (arith, l)))

-- ---- lists of variables, one after the other
module _ {A : Type 0} (h : List A → List Variables) (f : A → List Variables) (is : IsListed h f) where
  any_so_far : (xs : List A) (i : ℕ) (x : A) → i < length xs → x ≡ get_or xs i x → any_twice (h (take (i + 1) xs)) ≡ any_twice (h (take i xs)) || any_twice (f x)
  any_so_far xs i x l e = ap any_twice (listed_more h f is xs i x l e) ∙ list_any-append has_twice (h (take i xs)) (f x)

  pub none_more : (xs : List A) (i : ℕ) (x : A) → i < length xs → x ≡ get_or xs i x → any_twice (h (take i xs)) ≡ false → any_twice (f x) ≡ false → any_twice (h (take (i + 1) xs)) ≡ false
  none_more xs i x l e none one = any_so_far xs i x l e ∙ λ j. none j || one j

  pub some_there : (xs : List A) (i : ℕ) (x : A) → i < length xs → x ≡ get_or xs i x → any_twice (f x) ≡ true → any_twice (h xs) ≡ true
  some_there xs i x l e one =
      ap (λ ys. any_twice (h ys)) (sym (take-append-drop (i + 1) xs))
      ∙ (ap any_twice (listed_behind h f is (take (i + 1) xs) (drop (i + 1) xs))
      ∙ (list_any-append has_twice (h (take (i + 1) xs)) (h (drop (i + 1) xs))
      ∙ or_left (any_twice (h (take (i + 1) xs))) (any_twice (h (drop (i + 1) xs))) (any_so_far xs i x l e ∙ or_right (any_twice (h (take i xs))) (any_twice (f x)) one)))
