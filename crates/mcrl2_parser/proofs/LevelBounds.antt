-- Tokens don't nest deeper than there are of them.
use Rattle.std.proofs.Common.{◌≡◌, ℕ, suc, ◌+◌, ◌≤◌, List, [], ◌∷◌, length, refl, arith}
use Rattle.std.specs.Prelude.{sum}
use Rattle.std.proofs.Math.Nat.{max-le}
use Rattle.std.proofs.lemmas.List.Sums.{sum_by-cons}
use Rattle.mcrl2_lexer.specs.declared.token.Token.{Token}
use Rattle.mcrl2_parser.specs.declared.levels.Effect.{Effect}
use Rattle.mcrl2_parser.specs.declared.levels.Effect.TheVariants.{Opens, Closes, Counts, Stops, Stays}
use Rattle.mcrl2_parser.specs.Levels.{effect_of, Count, after, total, level_from, level_of, counts}

one_more : (effect : Effect) (inner : ℕ) (outer : List ℕ) → total (after effect inner outer) ≤ suc (inner + sum outer)
one_more Opens inner outer =
    let more : sum (inner ∷ outer) ≡ inner + sum outer = sum_by-cons (λ n. n) inner outer in
    let later : total (after Opens inner outer) ≡ 1 + sum (inner ∷ outer) = refl in
    omega (arith, more, later)
one_more Closes inner [] = omega arith
one_more Closes inner (around ∷ outer) =
    let more : sum (around ∷ outer) ≡ around + sum outer = sum_by-cons (λ n. n) around outer in
    let later : total (after Closes inner (around ∷ outer)) ≡ around + sum outer = refl in
    omega (arith, more, later)
one_more Counts inner outer = omega arith
one_more Stops inner [] = omega arith
one_more Stops inner (around ∷ outer) = omega arith
one_more Stays inner outer = omega arith

level_bound : (c : Count) (tokens : List Token) → level_from c tokens ≤ total c + length tokens
level_bound c [] = omega arith
level_bound c (token ∷ tokens) =
    let next = after (effect_of token.kind) c.inner c.outer in
    let here = one_more (effect_of token.kind) c.inner c.outer in
    let behind = level_bound next tokens in
    max-le (omega (arith, here)) (omega (arith, here, behind))

pub few_fit : (tokens : List Token) → level_of tokens ≤ length tokens
few_fit tokens = let bound : level_of tokens ≤ 0 + length tokens = level_bound (counts 0 []) tokens in omega (arith, bound)
