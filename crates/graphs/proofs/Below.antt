-- Whether all successors are below a number.
use Rattle.std.proofs.Common.{◌≡◌, ◌<◌, Bool, true, false, ℕ, zero, suc, List, [], ◌∷◌, ◌&&◌, nat_lt, refl, arith}
use Rattle.std.proofs.lemmas.Bool.{ltb-true, lt-ltb}
use Rattle.std.specs.List.{Contains}
use Rattle.std.specs.Global.{Vec}
use Rattle.graphs.specs.Graphs.{HasEdge}
use Rattle.graphs.specs.Marking.{list_below, lead_below}
use Rattle.graphs.proofs.Marks.{none_contained}

both_true : (a b : Bool) → (a && b) ≡ true → (a ≡ true) × (b ≡ true)
both_true true b is = (refl, is)
both_true false b is = cc

are_true : (a b : Bool) → a ≡ true → b ≡ true → (a && b) ≡ true
are_true true b is also = also
are_true false b is also = cc

pub list_told : (n : ℕ) (xs : List ℕ) → list_below n xs ≡ true → (b : ℕ) → Contains xs b → b < n
list_told n [] is b wrong = absurd (none_contained b wrong)
list_told n (x ∷ xs) is b (zero, within, same) = let less = ltb-true x n (both_true (nat_lt x n) (list_below n xs) is).0 in omega arith
list_told n (x ∷ xs) is b (suc k, within, same) = list_told n xs (both_true (nat_lt x n) (list_below n xs) is).1 b (k, omega arith, same)

pub list_tells : (n : ℕ) (xs : List ℕ) → ((b : ℕ) → Contains xs b → b < n) → list_below n xs ≡ true
list_tells n [] all = refl
list_tells n (x ∷ xs) all = are_true (nat_lt x n) (list_below n xs) (lt-ltb x n (all x (0, omega arith, refl))) (list_tells n xs (λ b stands. all b (suc stands.0, omega (arith, stands.1), stands.2)))

pub leads_told : (n : ℕ) (edges : List (Vec ℕ)) → lead_below n edges ≡ true → (a b : ℕ) → HasEdge edges a b → b < n
leads_told n [] is a b edge = absurd (none_contained b edge)
leads_told n (v ∷ vs) is zero b edge = list_told n v.items (both_true (list_below n v.items) (lead_below n vs) is).0 b edge
leads_told n (v ∷ vs) is (suc a) b edge = leads_told n vs (both_true (list_below n v.items) (lead_below n vs) is).1 a b edge

pub leads_tell : (n : ℕ) (edges : List (Vec ℕ)) → ((a b : ℕ) → HasEdge edges a b → b < n) → lead_below n edges ≡ true
leads_tell n [] all = refl
leads_tell n (v ∷ vs) all = are_true (list_below n v.items) (lead_below n vs) (list_tells n v.items (all zero)) (leads_tell n vs (λ a. all (suc a)))
