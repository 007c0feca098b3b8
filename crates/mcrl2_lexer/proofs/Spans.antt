-- The spans of the tokens of a text, and the bytes in them.
use Rattle.std.proofs.Common.{ℕ, zero, suc, ◌≤◌, List, [], ◌∷◌, arith}
use Rattle.std.specs.Prelude.{All}
use Rattle.mcrl2_lexer.specs.declared.token.Token.{Token}
use Rattle.mcrl2_lexer.specs.Tokens.{IsToken, slice_of}
use Rattle.mcrl2_lexer.specs.Lexing.{Lexes, nothing, after_space, after_comment, after_token, SpansRise, IsInside}

spans_from_before : (before from end : ℕ) (tokens : List Token) → before ≤ from → SpansRise from tokens end → SpansRise before tokens end
spans_from_before before from end [] earlier spans = omega (arith, spans)
spans_from_before before from end (first ∷ others) earlier spans = (omega (arith, spans.0), spans.1, spans.2)

pub spans_rise : {text : List ℕ} {at to : ℕ} {tokens : List Token} → Lexes text at tokens to → SpansRise at tokens to
spans_rise nothing = omega arith
spans_rise (after_space {at = at} {to = to} {tokens = tokens} inside space rest) = spans_from_before at (suc at) to tokens (omega arith) (spans_rise rest)
spans_rise (after_comment {at = at} {next = next} {to = to} {tokens = tokens} some comment rest) = spans_from_before at next to tokens (omega arith) (spans_rise rest)
spans_rise (after_token start some longest rest) = (omega (arith, start), omega (arith, start, some), spans_rise rest)

slices_before : (text : List ℕ) (first : Token) (others : List Token) → IsToken (slice_of text first) first.kind
    → All (λ token. IsToken (slice_of text token) token.kind) others → All (λ token. IsToken (slice_of text token) token.kind) (first ∷ others)
slices_before text first others slice slices zero d inside = slice
slices_before text first others slice slices (suc i) d inside = slices i d (omega arith)

pub token_slices : {text : List ℕ} {at to : ℕ} {tokens : List Token} → Lexes text at tokens to → All (λ token. IsToken (slice_of text token) token.kind) tokens
token_slices nothing = λ i d inside. absurd (omega (arith, inside))
token_slices (after_space inside space rest) = token_slices rest
token_slices (after_comment some comment rest) = token_slices rest
token_slices {text = text} (after_token {first = first} {others = others} start some longest rest) =
    slices_before text first others (rw start longest.token) (token_slices rest)

span_within : (from end : ℕ) (tokens : List Token) → SpansRise from tokens end → from ≤ end
span_within from end [] spans = spans
span_within from end (first ∷ others) spans =
    let behind : first.end ≤ end = span_within first.end end others spans.2 in omega (arith, spans.0, spans.1, behind)

pub tokens_inside : (from end : ℕ) (tokens : List Token) → SpansRise from tokens end → All (λ token. IsInside token end) tokens
tokens_inside from end [] spans i d inside = absurd (omega (arith, inside))
tokens_inside from end (first ∷ others) spans zero d inside = record { some = spans.1; within = span_within first.end end others spans.2 }
tokens_inside from end (first ∷ others) spans (suc i) d inside = tokens_inside first.end end others spans.2 i d (omega arith)
