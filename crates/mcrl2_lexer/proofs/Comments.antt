-- The comment at the front of a text.
use Rattle.std.proofs.Common.{◌≡◌, ◌≢◌, ℕ, zero, suc, ◌<◌, ◌≤◌, List, [], ◌∷◌, length, take, get_or, arith}
use Rattle.std.specs.Prelude.{All}
use Rattle.mcrl2_lexer.specs.Tokens.{IsComment, percent, CommentAt}

-- the first line of a text that begins with %
comment_of : (text : List ℕ) (n : ℕ) → 0 < length text → get_or text 0 0 ≡ 37 → All (λ b. b ≢ 10) (take n text)
    → (n < length text → get_or text n 0 ≡ 10) → (0 < n) × IsComment (take n text)
comment_of [] n some begins all stops = absurd (omega arith)
comment_of (first ∷ others) zero some begins all stops = absurd (omega (arith, begins, stops (omega arith)))
comment_of (first ∷ others) (suc n) some begins all stops = (omega arith, rw begins (percent (λ i d inside. all (suc i) d (omega arith))))

pub comment_at : (text : List ℕ) (n : ℕ) → 0 < length text → get_or text 0 0 ≡ 37 → n ≤ length text → All (λ b. b ≢ 10) (take n text)
    → (n < length text → get_or text n 0 ≡ 10) → CommentAt text n
comment_at text n some begins within all stops =
    let comment = comment_of text n some begins all stops in record { some = comment.0; within = within; comment = comment.1; ends = stops }
