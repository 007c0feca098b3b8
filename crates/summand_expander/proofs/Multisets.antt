-- Lists of names as multisets.
use Rattle.std.proofs.Common.{◌≡◌, Bool, List, [], ◌∷◌, ◌++◌, refl, sym, ap, subst, Option, Some, None, append_assoc}
use Rattle.std.proofs.lemmas.List.{append-nil}
use Rattle.process_terms.specs.Labels.{Inserted, at_front, further, Permuted, one_placed}
use Rattle.process_terms.proofs.PermutedLists.{permuted_refl, permuted_trans, permuted_sym, permuted_append}
use Rattle.action_filters.specs.NameTests.{without_one}
use Rattle.bisim_laws.proofs.Completing.{same_order}
use Rattle.action_filters.proofs.NamesTold.{Told, Taken, absent, present, first_placed, inserted_at, taken_is}
use Rattle.summand_expander.specs.ByFirst.{or_else, without_all}

-- ---- contained
pub data Within {A : Type 0} (xs zs : List A) : Type 0 where
  with_others : (others : List A) → Permuted (xs ++ others) zs → Within xs zs

pub within_more : {A : Type 0} {xs ys zs : List A} → Within xs ys → Permuted ys zs → Within xs zs
within_more (with_others others p) q = with_others others (permuted_trans p q)

pub within_then : {A : Type 0} {xs ys zs : List A} → Within xs ys → Within ys zs → Within xs zs
within_then {xs = xs} (with_others os p) (with_others ps q) =
    with_others (os ++ ps) (permuted_trans (same_order (sym (append_assoc xs os ps))) (permuted_trans (permuted_append p (permuted_refl ps)) q))

pub within_behind : {A : Type 0} (ps : List A) {xs ys : List A} → Within xs ys → Within (ps ++ xs) (ps ++ ys)
within_behind ps {xs = xs} (with_others os p) = with_others os (permuted_trans (same_order (append_assoc ps xs os)) (permuted_append (permuted_refl ps) p))

pub nothing_within : {A : Type 0} (zs : List A) → Within [] zs
nothing_within zs = with_others zs (permuted_refl zs)

pub within_first : {A : Type 0} {x : A} {xs ys zs : List A} → Inserted x ys zs → Within xs ys → Within (x ∷ xs) zs
within_first i (with_others os p) = with_others os (one_placed p i)

-- an element of a permuted list stands in the other one
pub placed_in : {A : Type 0} {x : A} {xs ys zs : List A} → Inserted x xs ys → Permuted ys zs → (ws : List A) × (Inserted x ws zs × Permuted xs ws)
placed_in {x = x} i p =
    let k = first_placed (permuted_trans (one_placed (permuted_refl _) i) p) in
    (k.0, (k.1.1, k.1.0))

-- an element of two lists one after the other stands in one of them
pub data Stands {A : Type 0} (x : A) (ws xs ys : List A) : Type 0 where
  in_first : {us : List A} → Inserted x us xs → ws ≡ us ++ ys → Stands x ws xs ys
  in_second : {us : List A} → Inserted x us ys → ws ≡ xs ++ us → Stands x ws xs ys

stands_further : {A : Type 0} {x y : A} {ws xs ys : List A} → Stands x ws xs ys → Stands x (y ∷ ws) (y ∷ xs) ys
stands_further {y = y} (in_first i e) = in_first (further i) (ap (λ l. y ∷ l) e)
stands_further {y = y} (in_second i e) = in_second i (ap (λ l. y ∷ l) e)

pub stands : {A : Type 0} {x : A} {ws : List A} (xs ys : List A) → Inserted x ws (xs ++ ys) → Stands x ws xs ys
stands [] ys i = in_second i refl
stands (y ∷ xs) ys at_front = in_first at_front refl
stands (y ∷ xs) ys (further i) = stands_further (stands xs ys i)

inserted_before : {A : Type 0} {x : A} {xs ys : List A} (zs : List A) → Inserted x xs ys → Inserted x (xs ++ zs) (ys ++ zs)
inserted_before zs at_front = at_front
inserted_before zs (further i) = further (inserted_before zs i)

inserted_behind : {A : Type 0} {x : A} (xs ys : List A) → Inserted x (xs ++ ys) (xs ++ x ∷ ys)
inserted_behind [] ys = at_front
inserted_behind (z ∷ xs) ys = further (inserted_behind xs ys)

-- one element more on both sides, on the right alone, and on both sides less
more_right : {A : Type 0} {x : A} {xs zs : List A} → Within xs zs → Within xs (x ∷ zs)
more_right {x = x} {xs = xs} (with_others os q) = with_others (x ∷ os) (permuted_trans (permuted_sym (one_placed (permuted_refl (xs ++ os)) (inserted_behind xs os))) (one_placed q at_front))

more_both : {A : Type 0} {x : A} {xs ys zs : List A} → Inserted x xs ys → Within xs zs → Within ys (x ∷ zs)
more_both {xs = xs} i (with_others os q) = with_others os (permuted_trans (permuted_sym (one_placed (permuted_refl (xs ++ os)) (inserted_before os i))) (one_placed q at_front))

less_both : {A : Type 0} {x : A} {xs ys zs : List A} → Inserted x xs ys → Within ys (x ∷ zs) → Within xs zs
less_both i (with_others os q) = let k = first_placed (permuted_sym q) in with_others os (permuted_trans (inserted_at refl (inserted_before os i) k.1.1) (permuted_sym k.1.0))

less_right : {A : Type 0} {x : A} {xs zs : List A} → ((ys : List A) → Inserted x ys xs → ⊥) → Within xs (x ∷ zs) → Within xs zs
less_right {A} {x} {xs} {zs} f (with_others os q) = let k = first_placed (permuted_sym q) in by k.1.0 (stands xs os k.1.1)
  where
    by : {ys : List A} → Permuted zs ys → Stands x ys xs os → Within xs zs
    by p (in_first {us = us} i e) = absurd (f us i)
    by p (in_second {us = us} i e) = with_others us (permuted_sym (subst (λ z. Permuted zs z) e p))

module _ {A : Type 0} (same : A → A → Bool) (same_told : (x y : A) → Told (x ≡ y) (same x y)) where
  -- what is left without a piece, and the piece, are at least what was there
  pub piece_back : (piece ms : List A) → Within ms (piece ++ without_all same ms piece)
  piece_back [] ms = with_others [] (same_order (append-nil ms))
  piece_back (p ∷ ps) ms = by (without_one same p ms) (taken_is same same_told p ms) (λ ns. piece_back ps ns)
    where
      by : (o : Option (List A)) → Taken p ms o → ((ns : List A) → Within ns (ps ++ without_all same ns ps)) → Within ms (p ∷ (ps ++ without_all same (or_else ms o) ps))
      by None k f = more_right (f ms)
      by (Some ns) (present i) f = more_both i (f ns)

  -- what is within a piece and a rest is, without the piece, within the rest
  pub piece_off : (piece ms zs : List A) → Within ms (piece ++ zs) → Within (without_all same ms piece) zs
  piece_off [] ms zs h = h
  piece_off (p ∷ ps) ms zs h = piece_off ps (or_else ms (without_one same p ms)) zs (by (without_one same p ms) (taken_is same same_told p ms) h)
    where
      by : (o : Option (List A)) → Taken p ms o → Within ms (p ∷ (ps ++ zs)) → Within (or_else ms o) (ps ++ zs)
      by None (absent f) h = less_right f h
      by (Some ns) (present i) h = less_both i h
