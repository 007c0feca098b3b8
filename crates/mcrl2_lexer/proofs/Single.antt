-- A text has one list of tokens, or one fault.
use Rattle.std.proofs.Common.{◌≡◌, ℕ, ◌-◌, ◌⊎◌, inl, inr, true, ◌≤◌, List, [], ◌∷◌, ◌++◌, length, drop, get_or, length-drop, refl, ap, sym, ◌∙◌, subst, arith}
use Rattle.std.proofs.lemmas.List.{append-nil}
use Rattle.mcrl2_lexer.specs.declared.kind.Kind.{Kind}
use Rattle.mcrl2_lexer.specs.declared.token.Token.{Token}
use Rattle.mcrl2_lexer.specs.Words.{is_space}
use Rattle.mcrl2_lexer.specs.Tokens.{TokenAt, CommentAt}
use Rattle.mcrl2_lexer.specs.Lexing.{Lexes, nothing, after_space, after_comment, after_token}
use Rattle.mcrl2_lexer.proofs.Once.{token_once, space_no_token, percent_no_token, comment_percent, comment_once, first_of_rest}

-- what stands at a place
space_here : (text : List ℕ) (at : ℕ) → is_space (get_or text at 0) ≡ true → is_space (get_or (drop at text) 0 0) ≡ true
space_here text at space = rw first_of_rest space

space_no_comment : (text : List ℕ) (at n : ℕ) → is_space (get_or text at 0) ≡ true → CommentAt (drop at text) n → ⊥
space_no_comment text at n space comment =
    let is : get_or text at 0 ≡ 37 = sym (first_of_rest text at) ∙ comment_percent (drop at text) n comment in
    let both : is_space 37 ≡ true = subst (λ (x : ℕ). is_space x ≡ true) is space in cc

pub space_no_token_here : (text : List ℕ) (at n : ℕ) (kind : Kind) → is_space (get_or text at 0) ≡ true → TokenAt (drop at text) n kind → ⊥
space_no_token_here text at n kind space token = space_no_token (drop at text) n kind (space_here text at space) token

pub comment_no_token : (text : List ℕ) (n m : ℕ) (kind : Kind) → CommentAt text n → TokenAt text m kind → ⊥
comment_no_token text n m kind comment token = percent_no_token text m kind (comment_percent text n comment) token

-- the tokens up to one place go on with those from there to another
pub record GoesOn (text : List ℕ) (tokens more : List Token) (at to : ℕ) : Type 0 where
  pub others : List Token
  pub is : more ≡ tokens ++ others
  pub lexes : Lexes text at others to

goes_on_behind : (text : List ℕ) (first second : Token) (tokens more : List Token) (at to : ℕ) → first ≡ second → GoesOn text tokens more at to
    → GoesOn text (first ∷ tokens) (second ∷ more) at to
goes_on_behind text first second tokens more at to same goes_on =
    record { others = goes_on.others; is = rw same (ap (λ (x : List Token). second ∷ x) goes_on.is); lexes = goes_on.lexes }

same_token : (one other : Token) → one.kind ≡ other.kind → one.start ≡ other.start → one.end ≡ other.end → one ≡ other
same_token one other kinds starts ends = λ i. record { kind = kinds i; start = starts i; end = ends i }

-- of two readings of a text from one place, one goes on where the other ends
pub one_goes_on : {text : List ℕ} {at to up : ℕ} {tokens more : List Token} → Lexes text at tokens to → Lexes text at more up
    → GoesOn text tokens more to up ⊎ GoesOn text more tokens up to
one_goes_on {more = more} nothing lexes = inl (record { others = more; is = refl; lexes = lexes })
one_goes_on {tokens = tokens} lexes nothing = inr (record { others = tokens; is = refl; lexes = lexes })
one_goes_on (after_space inside space rest) (after_space again same more) = one_goes_on rest more
one_goes_on {text = text} {at = at} (after_space inside space rest) (after_comment {next = next} some comment more) =
    absurd (space_no_comment text at (next - at) space comment)
one_goes_on {text = text} {at = at} (after_space inside space rest) (after_token {first = first} start some longest more) =
    absurd (space_no_token_here text at (first.end - at) first.kind space longest)
one_goes_on {text = text} {at = at} (after_comment {next = next} some comment rest) (after_space inside space more) =
    absurd (space_no_comment text at (next - at) space comment)
one_goes_on {text = text} {at = at} {up = up} (after_comment {next = next} some comment rest) (after_comment {next = later} {tokens = tokens} again other more) =
    let size : next - at ≡ later - at = comment_once (drop at text) (next - at) (later - at) comment other in
    let same : next ≡ later = omega (arith, size, some, again) in
    one_goes_on rest (subst (λ (x : ℕ). Lexes text x tokens up) (sym same) more)
one_goes_on {text = text} {at = at} (after_comment {next = next} some comment rest) (after_token {first = first} start more longest others) =
    absurd (comment_no_token (drop at text) (next - at) (first.end - at) first.kind comment longest)
one_goes_on {text = text} {at = at} (after_token {first = first} start some longest rest) (after_space inside space more) =
    absurd (space_no_token_here text at (first.end - at) first.kind space longest)
one_goes_on {text = text} {at = at} (after_token {first = first} start some longest rest) (after_comment {next = next} again comment more) =
    absurd (comment_no_token (drop at text) (next - at) (first.end - at) first.kind comment longest)
one_goes_on {text = text} {at = at} {to = to} {up = up} (after_token {first = first} {others = tokens} start some longest rest) (after_token {first = second} {others = more} begin again other lexes) =
    let once = token_once longest other in
    let ends : first.end ≡ second.end = omega (arith, once.0, some, again) in
    let same : first ≡ second = same_token first second once.1 (start ∙ sym begin) ends in
    elim (one_goes_on rest (subst (λ (x : ℕ). Lexes text x more up) (sym ends) lexes)) [
      | inl goes_on ↦ inl (goes_on_behind text first second tokens more to up same goes_on)
      | inr goes_on ↦ inr (goes_on_behind text second first more tokens up to (sym same) goes_on)
    ]

-- behind the end of a text there is nothing more
pub nothing_more : {text : List ℕ} {at to : ℕ} {tokens : List Token} → Lexes text at tokens to → length text ≤ at → (tokens ≡ []) × (to ≡ at)
nothing_more nothing ends = (refl, refl)
nothing_more (after_space inside space rest) ends = absurd (omega (arith, inside, ends))
nothing_more {text = text} (after_comment {at = at} some comment rest) ends = absurd (omega (arith, comment.some, comment.within, length-drop at text, ends))
nothing_more {text = text} (after_token {at = at} start some longest rest) ends = absurd (omega (arith, longest.some, longest.within, length-drop at text, ends))

no_more : (text : List ℕ) (tokens more : List Token) (at to : ℕ) → GoesOn text tokens more at to → length text ≤ at → more ≡ tokens
no_more text tokens more at to goes_on ends =
    let none = nothing_more goes_on.lexes ends in goes_on.is ∙ ap (λ (x : List Token). tokens ++ x) none.0 ∙ append-nil tokens

pub tokens_once : (text : List ℕ) (tokens more : List Token) → Lexes text 0 tokens (length text) → Lexes text 0 more (length text) → tokens ≡ more
tokens_once text tokens more one other = elim (one_goes_on one other) [
  | inl goes_on ↦ sym (no_more text tokens more (length text) (length text) goes_on (omega arith))
  | inr goes_on ↦ no_more text more tokens (length text) (length text) goes_on (omega arith)
]
