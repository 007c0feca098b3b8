-- Lists with the same elements in some order.
use Rattle.std.proofs.Common.{List, [], ◌∷◌, ◌++◌, subst, sym}
use Rattle.std.proofs.lemmas.List.{append-nil}
use Rattle.process_terms.specs.Labels.{Inserted, at_front, further, Permuted, nothing_left, one_placed}

pub permuted_refl : {A : Type 0} (xs : List A) → Permuted xs xs
permuted_refl [] = nothing_left
permuted_refl (x ∷ xs) = one_placed (permuted_refl xs) at_front

-- of two elements that are put in one after the other either may be the first
record Exchanged {A : Type 0} (x y : A) (xs zs : List A) : Type 0 where
  middle : List A
  first : Inserted y xs middle
  second : Inserted x middle zs

exchanged : {A : Type 0} {x y : A} {xs ys zs : List A} → Inserted x xs ys → Inserted y ys zs → Exchanged x y xs zs
exchanged {x = x} {y = y} {xs = xs} i at_front = record { middle = y ∷ xs; first = at_front; second = further i }
exchanged at_front (further {ys = zs} j) = record { middle = zs; first = j; second = at_front }
exchanged (further {y = z} i) (further j) = let k = exchanged i j in record { middle = z ∷ k.middle; first = further k.first; second = further k.second }

-- an element in place of another list's element
record Replaced {A : Type 0} (x : A) (xs zs : List A) : Type 0 where
  others : List A
  same : Permuted xs others
  placed : Inserted x others zs

replaced_behind : {A : Type 0} {x y : A} {xs us vs zs : List A} → Permuted xs us → Inserted x us vs → Inserted y vs zs → Replaced x (y ∷ xs) zs
replaced_behind p i j = let k = exchanged i j in record { others = k.middle; same = one_placed p k.first; placed = k.second }

replaced : {A : Type 0} {x : A} {xs ys zs : List A} → Inserted x xs ys → Permuted ys zs → Replaced x xs zs
replaced at_front (one_placed {ys = us} p j) = record { others = us; same = p; placed = j }
replaced (further i) (one_placed p j) = let k = replaced i p in replaced_behind k.same k.placed j

pub permuted_trans : {A : Type 0} {xs ys zs : List A} → Permuted xs ys → Permuted ys zs → Permuted xs zs
permuted_trans nothing_left q = q
permuted_trans (one_placed p i) q = let k = replaced i q in one_placed (permuted_trans p k.same) k.placed

placed_first : {A : Type 0} {x : A} {xs ys zs : List A} → Inserted x xs ys → Permuted xs zs → Permuted ys (x ∷ zs)
placed_first at_front p = one_placed p at_front
placed_first (further i) (one_placed p j) = one_placed (placed_first i p) (further j)

pub permuted_sym : {A : Type 0} {xs ys : List A} → Permuted xs ys → Permuted ys xs
permuted_sym nothing_left = nothing_left
permuted_sym (one_placed p i) = placed_first i (permuted_sym p)

inserted_before : {A : Type 0} {x : A} {xs ys : List A} (zs : List A) → Inserted x xs ys → Inserted x (xs ++ zs) (ys ++ zs)
inserted_before zs at_front = at_front
inserted_before zs (further i) = further (inserted_before zs i)

inserted_behind : {A : Type 0} {x : A} (xs ys : List A) → Inserted x (xs ++ ys) (xs ++ x ∷ ys)
inserted_behind [] ys = at_front
inserted_behind (z ∷ xs) ys = further (inserted_behind xs ys)

pub permuted_append : {A : Type 0} {xs xs' ys ys' : List A} → Permuted xs xs' → Permuted ys ys' → Permuted (xs ++ ys) (xs' ++ ys')
permuted_append nothing_left q = q
permuted_append {ys' = ys'} (one_placed p i) q = one_placed (permuted_append p q) (inserted_before ys' i)

pub permuted_either_way : {A : Type 0} (xs ys : List A) → Permuted (xs ++ ys) (ys ++ xs)
permuted_either_way [] ys = subst (λ l. Permuted ys l) (sym (append-nil ys)) (permuted_refl ys)
permuted_either_way (x ∷ xs) ys = one_placed (permuted_either_way xs ys) (inserted_behind ys xs)
