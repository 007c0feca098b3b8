-- What is written one behind another, and what a loop over numbers has written and has left.
use Rattle.std.proofs.Common.{◌≡◌, ◌+◌, ◌-◌, ◌<◌, ◌++◌, ℕ, suc, List, ◌∙◌, ap, subst, arith, append_assoc}
use Rattle.std.specs.List.{flat_map, range_with_len}

-- one piece more behind what was there before
pub behind : (old a b : List ℕ) {now then : List ℕ} → now ≡ old ++ a → then ≡ now ++ b → then ≡ old ++ (a ++ b)
behind old a b e f = f ∙ ap (λ w. w ++ b) e ∙ append_assoc old a b

-- five pieces behind what was there before
pub five_behind : (old a b c d e : List ℕ) {first second third fourth fifth : List ℕ}
    → first ≡ old ++ a → second ≡ first ++ b → third ≡ second ++ c → fourth ≡ third ++ d → fifth ≡ fourth ++ e → fifth ≡ old ++ (a ++ b ++ c ++ d ++ e)
five_behind old a b c d e f g h i j =
    behind old (a ++ b ++ c ++ d) e (behind old (a ++ b ++ c) d (behind old (a ++ b) c (behind old a b f g) h) i) j

written_further : (f : ℕ → List ℕ) (k m : ℕ) (now then whole : List ℕ) → then ≡ now ++ f k
    → now ++ flat_map f (range_with_len k (suc m)) ≡ whole → then ++ flat_map f (range_with_len (k + 1) m) ≡ whole
written_further f k m now then whole written left = grind (arith, append_assoc)

-- what is written for one number more was the front of what was left
pub one_more : (f : ℕ → List ℕ) (k n : ℕ) (now then whole : List ℕ) → k < n → then ≡ now ++ f k
    → now ++ flat_map f (range_with_len k (n - k)) ≡ whole → then ++ flat_map f (range_with_len (k + 1) (n - (k + 1))) ≡ whole
one_more f k n now then whole below written left =
    let e : n - k ≡ suc (n - (k + 1)) = omega (arith, below) in
    written_further f k (n - (k + 1)) now then whole written (subst (λ m. now ++ flat_map f (range_with_len k m) ≡ whole) e left)
