-- The tokens of the text up to a place.
use Rattle.std.proofs.Common.{◌≡◌, ◌≢◌, ℕ, ◌+◌, ◌-◌, ◌<◌, ◌≤◌, true, false, List, [], ◌∷◌, ◌++◌, length, drop, get_or, refl, ap, sym, ◌∙◌, subst, append_assoc, add-one, arith, length-drop}
use Rattle.std.specs.Prelude.{All}
use Rattle.std.proofs.lemmas.List.Elements.{All-push}
use Rattle.mcrl2_lexer.specs.declared.token.Token.{Token}
use Rattle.mcrl2_lexer.specs.declared.token.LexFault.{LexFault}
use Rattle.mcrl2_lexer.specs.declared.token.LexFault.TheVariants.{BadByte, NumeralTooLarge, OutOfProfile, NoMemory}
use Rattle.mcrl2_lexer.specs.Words.{is_space}
use Rattle.mcrl2_lexer.specs.Tokens.{CommentAt, IsAccepted}
use Rattle.mcrl2_lexer.specs.Lexing.{Lexes, nothing, after_space, after_comment, after_token, HasTokens, AcceptedUpTo, IsBadByte, HasFault, IsFaultAt, IsNextToken}

pub record LexedSoFar (text : List ℕ) (tokens : List Token) (at : ℕ) : Type 0 where
  pub within : at ≤ length text
  pub whole : (others : List Token) (to : ℕ) → Lexes text at others to → Lexes text 0 (tokens ++ others) to
  pub accepted : All (IsAccepted text) tokens

append_nil : (tokens : List Token) → tokens ++ [] ≡ tokens
append_nil [] = refl
append_nil (token ∷ tokens) = ap (λ (x : List Token). token ∷ x) (append_nil tokens)

lexes : (text : List ℕ) (tokens : List Token) (at : ℕ) → LexedSoFar text tokens at → Lexes text 0 tokens at
lexes text tokens at so_far = subst (λ (x : List Token). Lexes text 0 x at) (append_nil tokens) (so_far.whole [] at nothing)

pub accepted_up_to : (text : List ℕ) (tokens : List Token) (at : ℕ) → LexedSoFar text tokens at → AcceptedUpTo text at
accepted_up_to text tokens at so_far = record { tokens = tokens; lexes = lexes text tokens at so_far; accepted = so_far.accepted }

pub has_tokens : (text : List ℕ) (tokens : List Token) (at : ℕ) → LexedSoFar text tokens at → length text ≤ at → HasTokens text tokens
has_tokens text tokens at so_far ends =
    let all : at ≡ length text = omega (arith, so_far.within) in
    record { lexes = subst (λ (x : ℕ). Lexes text 0 tokens x) all (lexes text tokens at so_far); accepted = so_far.accepted }

-- the first place, and a step over white space, a comment or a token
pub at_first : (text : List ℕ) → LexedSoFar text [] 0
at_first text = record { within = omega arith; whole = λ others to rest. rest; accepted = λ i d inside. absurd (omega (arith, inside)) }

pub past_space : (text : List ℕ) (tokens : List Token) (at : ℕ) → LexedSoFar text tokens at → at < length text → is_space (get_or text at 0) ≡ true
    → LexedSoFar text tokens (at + 1)
past_space text tokens at so_far inside space =
    rw add-one (record { within = omega arith; whole = λ others to rest. so_far.whole others to (after_space inside space rest); accepted = so_far.accepted })

pub past_comment : (text : List ℕ) (tokens : List Token) (at n : ℕ) → LexedSoFar text tokens at → CommentAt (drop at text) n → LexedSoFar text tokens (at + n)
past_comment text tokens at n so_far comment =
    let some : 0 < n = comment.some in
    let size : n ≡ (at + n) - at = omega arith in
    record {
      within = omega (arith, so_far.within, comment.within, length-drop at text);
      whole = λ others to rest. so_far.whole others to (after_comment (omega arith) (subst (λ (x : ℕ). CommentAt (drop at text) x) size comment) rest);
      accepted = so_far.accepted;
    }

pub past_token : (text : List ℕ) (tokens more : List Token) (at : ℕ) (token : Token) → LexedSoFar text tokens at → IsNextToken text at token
    → more ≡ tokens ++ token ∷ [] → LexedSoFar text more token.end
past_token text tokens more at token so_far next pushed = record {
  within = omega (arith, so_far.within, next.some, next.longest.within, length-drop at text);
  whole = λ others to rest.
      subst (λ (x : List Token). Lexes text 0 x to) (sym (append_assoc tokens (token ∷ []) others) ∙ ap (λ (x : List Token). x ++ others) (sym pushed))
      (so_far.whole (token ∷ others) to (after_token next.start next.some next.longest rest));
  accepted = rw pushed (All-push (IsAccepted text) tokens token so_far.accepted next.accepted);
}

-- a fault of the token at a place is one of the text, where what stands in front of it is accepted
pub has_fault : (text : List ℕ) (tokens : List Token) (at : ℕ) (fault : LexFault) → LexedSoFar text tokens at → at < length text
    → is_space (get_or text at 0) ≡ false → get_or text at 0 ≢ 37 → IsFaultAt text at fault → HasFault text fault
has_fault text tokens at (BadByte place) so_far inside no_space no_comment is =
    subst (λ (x : ℕ). AcceptedUpTo text x × IsBadByte text x) (sym is.0)
    (accepted_up_to text tokens at so_far, record { within = inside; no_space = no_space; no_comment = no_comment; no_token = is.1 })
has_fault text tokens at (NumeralTooLarge place) so_far inside no_space no_comment is =
    rw is.0 (accepted_up_to text tokens at so_far, is.1)
has_fault text tokens at (OutOfProfile place) so_far inside no_space no_comment is =
    rw is.0 (accepted_up_to text tokens at so_far, is.1)
has_fault text tokens at NoMemory so_far inside no_space no_comment is = is
