-- Where a text has a fault, no reading goes on.
use Rattle.std.proofs.Common.{◌≡◌, ℕ, suc, ◌-◌, inl, inr, ◌^◌, true, false, ◌<◌, ◌≤◌, List, [], ◌∷◌, ◌++◌, length, drop, length-drop, refl, ap, sym, ◌∙◌, subst, arith}
use Rattle.std.specs.Prelude.{All}
use Rattle.mcrl2_lexer.specs.declared.kind.Kind.{Kind}
use Rattle.mcrl2_lexer.specs.declared.kind.Kind.TheVariants.{Numeral}
use Rattle.mcrl2_lexer.specs.declared.token.Token.{Token}
use Rattle.mcrl2_lexer.specs.declared.token.LexFault.{LexFault}
use Rattle.mcrl2_lexer.specs.declared.token.LexFault.TheVariants.{BadByte, NumeralTooLarge, OutOfProfile, NoMemory}
use Rattle.mcrl2_lexer.specs.Words.{is_left_out, decimal}
use Rattle.mcrl2_lexer.specs.Tokens.{TokenAt, IsAccepted, slice_of}
use Rattle.mcrl2_lexer.specs.Lexing.{Lexes, nothing, after_space, after_comment, after_token, HasTokens, AcceptedUpTo, IsBadByte, IsLargeNumeral, IsLeftOutToken, HasFault}
use Rattle.mcrl2_lexer.proofs.Once.{token_once, comment_percent, first_of_rest}
use Rattle.mcrl2_lexer.proofs.Single.{GoesOn, one_goes_on, nothing_more, space_no_token_here, comment_no_token}

-- what a fault says of the text at its place, without what stands in front of it
abbrev IsFaultHere : List ℕ → ℕ → LexFault → Type 0
IsFaultHere text at (BadByte place) = (place ≡ at) × IsBadByte text at
IsFaultHere text at (NumeralTooLarge place) = (place ≡ at) × IsLargeNumeral text at
IsFaultHere text at (OutOfProfile place) = (place ≡ at) × IsLeftOutToken text at
IsFaultHere text at NoMemory = ⊥

record Faulty (text : List ℕ) (fault : LexFault) : Type 0 where
  place : ℕ
  before : AcceptedUpTo text place
  here : IsFaultHere text place fault

faulty : (text : List ℕ) (fault : LexFault) → HasFault text fault → Faulty text fault
faulty text (BadByte place) is = record { place = place; before = is.0; here = (refl, is.1) }
faulty text (NumeralTooLarge place) is = record { place = place; before = is.0; here = (refl, is.1) }
faulty text (OutOfProfile place) is = record { place = place; before = is.0; here = (refl, is.1) }
faulty text NoMemory is = absurd is

-- no reading with accepted tokens leads on from a place
record IsEnd (text : List ℕ) (at : ℕ) : Type 0 where
  inside : at < length text
  ends : (tokens : List Token) (to : ℕ) → Lexes text at tokens to → All (IsAccepted text) tokens → to ≡ at

bad_byte_ends : {text : List ℕ} {at to : ℕ} {tokens : List Token} → IsBadByte text at → Lexes text at tokens to → to ≡ at
bad_byte_ends bad nothing = refl
bad_byte_ends bad (after_space inside space rest) = let no = bad.no_space in absurd cc
bad_byte_ends {text = text} {at = at} bad (after_comment {next = next} some comment rest) =
    absurd (bad.no_comment (sym (first_of_rest text at) ∙ comment_percent (drop at text) (next - at) comment))
bad_byte_ends {text = text} {at = at} bad (after_token {first = first} start some longest rest) = absurd (bad.no_token (first.end - at) first.kind longest.token)

-- the token at a place is of that kind and length, and not accepted
record IsRefused (text : List ℕ) (at : ℕ) : Type 0 where
  size : ℕ
  kind : Kind
  token : TokenAt (drop at text) size kind
  refused : (first : Token) → first.start ≡ at → first.end - at ≡ size → first.kind ≡ kind → IsAccepted text first → ⊥

refused_ends : {text : List ℕ} {at to : ℕ} {tokens : List Token} → IsRefused text at → Lexes text at tokens to → All (IsAccepted text) tokens → to ≡ at
refused_ends is nothing accepted = refl
refused_ends {text = text} {at = at} is (after_space inside space rest) accepted = absurd (space_no_token_here text at is.size is.kind space is.token)
refused_ends {text = text} {at = at} is (after_comment {next = next} some comment rest) accepted =
    absurd (comment_no_token (drop at text) (next - at) is.size is.kind comment is.token)
refused_ends is (after_token {first = first} start some longest rest) accepted =
    let once = token_once longest is.token in absurd (is.refused first start once.0 once.1 (accepted 0 first (omega arith)))

large_refused : (text : List ℕ) (at : ℕ) → IsLargeNumeral text at → IsRefused text at
large_refused text at is = record {
  size = is.size;
  kind = Numeral;
  token = is.numeral;
  refused = λ first start size kind accepted.
      let fits : decimal (slice_of text first) < 2 ^ 128 = accepted.fits kind in
      let large : 2 ^ 128 ≤ decimal (slice_of text first) = rw (start, size) is.large in
      omega (arith, fits, large);
}

left_out_refused : (text : List ℕ) (at : ℕ) → IsLeftOutToken text at → IsRefused text at
left_out_refused text at is = record {
  size = is.size;
  kind = is.kind;
  token = is.token;
  refused = λ first start size kind accepted. let kept : is_left_out is.kind ≡ false = subst (λ (x : Kind). is_left_out x ≡ false) kind accepted.kept in let out = is.left_out in cc;
}

token_inside : (text : List ℕ) (at n : ℕ) (kind : Kind) → TokenAt (drop at text) n kind → at < length text
token_inside text at n kind token = omega (arith, token.some, token.within, length-drop at text)

fault_ends : (text : List ℕ) (at : ℕ) (fault : LexFault) → IsFaultHere text at fault → IsEnd text at
fault_ends text at (BadByte place) is = record { inside = is.1.within; ends = λ tokens to lexes accepted. bad_byte_ends is.1 lexes }
fault_ends text at (NumeralTooLarge place) is =
    record { inside = token_inside text at is.1.size Numeral is.1.numeral; ends = λ tokens to. refused_ends (large_refused text at is.1) }
fault_ends text at (OutOfProfile place) is =
    record { inside = token_inside text at is.1.size is.1.kind is.1.token; ends = λ tokens to. refused_ends (left_out_refused text at is.1) }
fault_ends text at NoMemory is = absurd is

-- the last of several elements
All-behind : (text : List ℕ) (tokens others : List Token) → All (IsAccepted text) (tokens ++ others) → All (IsAccepted text) others
All-behind text [] others all = all
All-behind text (first ∷ tokens) others all = All-behind text tokens others (λ i d inside. all (suc i) d (omega arith))

goes_on_ends : (text : List ℕ) (tokens more : List Token) (at to : ℕ) → IsEnd text at → GoesOn text tokens more at to → All (IsAccepted text) more → to ≡ at
goes_on_ends text tokens more at to end goes_on accepted =
    end.ends goes_on.others to goes_on.lexes (All-behind text tokens goes_on.others (subst (λ (x : List Token). All (IsAccepted text) x) goes_on.is accepted))

pub fault_no_tokens : (text : List ℕ) (fault : LexFault) (tokens : List Token) → HasFault text fault → HasTokens text tokens → ⊥
fault_no_tokens text fault tokens has all =
    let is = faulty text fault has in
    let end = fault_ends text is.place fault is.here in
    elim (one_goes_on is.before.lexes all.lexes) [
      | inl goes_on ↦ let same = goes_on_ends text is.before.tokens tokens is.place (length text) end goes_on all.accepted in omega (arith, same, end.inside)
      | inr goes_on ↦ let none = nothing_more goes_on.lexes (omega arith) in omega (arith, none.1, end.inside)
    ]

one_place : (text : List ℕ) (one other : LexFault) (first : Faulty text one) (second : Faulty text other) → first.place ≡ second.place
one_place text one other first second =
    let end = fault_ends text first.place one first.here in
    let last = fault_ends text second.place other second.here in
    elim (one_goes_on first.before.lexes second.before.lexes) [
      | inl goes_on ↦ sym (goes_on_ends text first.before.tokens second.before.tokens first.place second.place end goes_on second.before.accepted)
      | inr goes_on ↦ goes_on_ends text second.before.tokens first.before.tokens second.place first.place last goes_on first.before.accepted
    ]

-- a bad byte is no token, and a numeral is not left out
bad_no_token : (text : List ℕ) (at n : ℕ) (kind : Kind) → IsBadByte text at → TokenAt (drop at text) n kind → ⊥
bad_no_token text at n kind bad token = bad.no_token n kind token.token

large_kept : (text : List ℕ) (at : ℕ) → IsLargeNumeral text at → IsLeftOutToken text at → ⊥
large_kept text at large out =
    let once = token_once large.numeral out.token in
    let kept : is_left_out Numeral ≡ true = subst (λ (x : Kind). is_left_out x ≡ true) (sym once.1) out.left_out in cc

here_once : (text : List ℕ) (at : ℕ) (one other : LexFault) → IsFaultHere text at one → IsFaultHere text at other → one ≡ other
here_once text at (BadByte place) (BadByte again) is same = ap BadByte (is.0 ∙ sym same.0)
here_once text at (BadByte place) (NumeralTooLarge again) is same = absurd (bad_no_token text at same.1.size Numeral is.1 same.1.numeral)
here_once text at (BadByte place) (OutOfProfile again) is same = absurd (bad_no_token text at same.1.size same.1.kind is.1 same.1.token)
here_once text at (BadByte place) NoMemory is same = absurd same
here_once text at (NumeralTooLarge place) (BadByte again) is same = absurd (bad_no_token text at is.1.size Numeral same.1 is.1.numeral)
here_once text at (NumeralTooLarge place) (NumeralTooLarge again) is same = ap NumeralTooLarge (is.0 ∙ sym same.0)
here_once text at (NumeralTooLarge place) (OutOfProfile again) is same = absurd (large_kept text at is.1 same.1)
here_once text at (NumeralTooLarge place) NoMemory is same = absurd same
here_once text at (OutOfProfile place) (BadByte again) is same = absurd (bad_no_token text at is.1.size is.1.kind same.1 is.1.token)
here_once text at (OutOfProfile place) (NumeralTooLarge again) is same = absurd (large_kept text at same.1 is.1)
here_once text at (OutOfProfile place) (OutOfProfile again) is same = ap OutOfProfile (is.0 ∙ sym same.0)
here_once text at (OutOfProfile place) NoMemory is same = absurd same
here_once text at NoMemory other is same = absurd is

pub faults_once : (text : List ℕ) (one other : LexFault) → HasFault text one → HasFault text other → one ≡ other
faults_once text one other first second =
    let is = faulty text one first in
    let same = faulty text other second in
    here_once text is.place one other is.here (subst (λ (x : ℕ). IsFaultHere text x other) (sym (one_place text one other is same)) same.here)
