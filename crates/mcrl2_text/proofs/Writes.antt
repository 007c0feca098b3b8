-- One write after another.
use Rattle.std.proofs.Common.{◌≡◌, ◌≤◌, ◌+◌, ◌-◌, ◌++◌, ℕ, List, Option, Some, None, IfSome, length, take, drop, arith, ap, ◌∙◌, append_assoc, subst}
use Rattle.std.proofs.lemmas.Grind.{common_steps}
use Rattle.std.proofs.Math.Seq.{take-add}

-- a slice from a place to the end
pub rest_of : (piece : List ℕ) (at : ℕ) → at ≤ length piece → take (length piece - at) (drop at piece) ≡ drop at piece
rest_of piece at h = grind (arith, common_steps)

-- what is taken after one more write of the rest of a piece
pub taken_more : (start old new : Option (List ℕ)) (piece : List ℕ) (at n : ℕ) → at ≤ length piece
    → IfSome start (λ before. old ≡ Some (before ++ take at piece))
    → IfSome old (λ before. new ≡ Some (before ++ take n (take (length piece - at) (drop at piece))))
    → IfSome start (λ before. new ≡ Some (before ++ take (at + n) piece))
taken_more None old new piece at n within so_far more = tt
taken_more (Some b) old new piece at n within so_far more =
    let IsNext : Option (List ℕ) → Type 0 = λ o. IfSome o (λ before. new ≡ Some (before ++ take n (take (length piece - at) (drop at piece)))) in
    let next : new ≡ Some ((b ++ take at piece) ++ take n (take (length piece - at) (drop at piece))) = subst IsNext so_far more in
    let joined : (b ++ take at piece) ++ take n (take (length piece - at) (drop at piece)) ≡ b ++ take (at + n) piece =
    rw (rest_of piece at within, take-add) (append_assoc b (take at piece) (take n (drop at piece))) in
    next ∙ ap Some joined
