-- The declarations of the tokens up to a place.
use Rattle.std.proofs.Common.{◌≡◌, ℕ, ◌+◌, ◌<◌, ◌≤◌, Bool, true, false, Option, Some, None, is_some, List, [], ◌∷◌, ◌++◌, All, if◌then◌else◌, nat_lt, length, drop, get_or, refl, ap, sym, ◌∙◌, subst, append_assoc, add-one, zero-add, arith}
use Rattle.std.proofs.Math.Seq.{drop-cons, drop-length}
use Rattle.std.proofs.lemmas.List.Elements.{All-nil, All-push, All-append}
use Rattle.std.proofs.lemmas.Grind.{common_steps}
use borrow.Author.Tests.{ltb-true}
use Rattle.mcrl2_lexer.specs.declared.token.Token.{Token}
use Rattle.mcrl2_syntax.specs.declared.declaration.SectionWord.{SectionWord}
use Rattle.mcrl2_parser.specs.declared.declaring.Declaration.{Declaration}
use Rattle.mcrl2_syntax.specs.SpelledDeclarations.{section_word}
use Rattle.mcrl2_parser.specs.Sections.{is_semicolon}
use Rattle.mcrl2_parser.specs.Declarations.{Parts, with_token, parts_of, Pieces, with_piece_token, pieces_of, listed, left_over, ended_at, section_past, start_past, of_pieces, of_part, of_sections, declarations_of, IsWithin}

-- no token is a `;`
abbrev pub HasNoEnd : List Token → Type 0
HasNoEnd [] = Unit {0}
HasNoEnd (token ∷ tokens) = (is_semicolon token.kind ≡ false) × HasNoEnd tokens

-- In a section a piece has no `;`. In front of all sections it may have any.
abbrev pub IsPiece : Option SectionWord → List Token → Type 0
IsPiece None tokens = Unit {0}
IsPiece (Some s) tokens = HasNoEnd tokens

-- the declarations of a piece that goes on with parts
abbrev pub rest_of : Option SectionWord → ℕ → List Token → Parts → List Declaration
rest_of section start piece parts =
    of_part section start (piece ++ parts.front) ++ of_sections (start + length (piece ++ parts.front)) parts.sections

-- The list has the declarations that end in front of a place. The piece between stands in that section.
pub record CutSoFar (tokens : List Token) (list : List Declaration) (section : Option SectionWord) (start at : ℕ) : Type 0 where
  pub piece : List Token
  pub free : IsPiece section piece
  pub place : start + length piece ≡ at
  pub whole : list ++ rest_of section start piece (parts_of (drop at tokens)) ≡ declarations_of tokens
  pub within : All (IsWithin (length tokens)) list

pub drop_at : (tokens : List Token) (at : ℕ) (d : Token) → at < length tokens → drop at tokens ≡ get_or tokens at d ∷ drop (at + 1) tokens
drop_at tokens at d h = rw add-one (drop-cons tokens at d h)

append_nil : {A : Type 0} → (xs : List A) → xs ++ [] ≡ xs
append_nil [] = refl
append_nil {A} (x ∷ xs) = ap (λ (ys : List A). x ∷ ys) (append_nil xs)

-- a token that begins no section stands in front of what is behind it
pub parts_plain : (token : Token) (tokens : List Token) → section_word token.kind ≡ None
    → parts_of (token ∷ tokens) ≡ record { front = token ∷ (parts_of tokens).front; sections = (parts_of tokens).sections }
parts_plain token tokens e = ap (λ (s : Option SectionWord). with_token s token (parts_of tokens)) e

pub parts_word : (token : Token) (tokens : List Token) (s : SectionWord) → section_word token.kind ≡ Some s
    → parts_of (token ∷ tokens) ≡ record { front = []; sections = record { section = s; tokens = (parts_of tokens).front } ∷ (parts_of tokens).sections }
parts_word token tokens s e = ap (λ (x : Option SectionWord). with_token x token (parts_of tokens)) e

-- a piece without a `;` is left over
pieces_left : (piece : List Token) → HasNoEnd piece → pieces_of piece ≡ record { ended = []; left = piece }
pieces_left [] h = refl
pieces_left (token ∷ piece) h =
    ap (λ (b : Bool). with_piece_token b token (pieces_of piece)) h.0 ∙ ap (with_piece_token false token) (pieces_left piece h.1)

-- a piece that a `;` ends stands in front of the pieces behind it
pieces_end : (piece : List Token) (token : Token) (tokens : List Token) → HasNoEnd piece
    → is_semicolon token.kind ≡ true
    → pieces_of (piece ++ token ∷ tokens) ≡ record { ended = piece ∷ (pieces_of tokens).ended; left = (pieces_of tokens).left }
pieces_end [] token tokens h e = ap (λ (b : Bool). with_piece_token b token (pieces_of tokens)) e
pieces_end (first ∷ piece) token tokens h e =
    ap (λ (b : Bool). with_piece_token b first (pieces_of (piece ++ token ∷ tokens))) h.0 ∙ ap (with_piece_token false first) (pieces_end piece token tokens h.1 e)

part_left : (section : Option SectionWord) (start : ℕ) (piece : List Token) → IsPiece section piece → of_part section start piece ≡ left_over section start (start + length piece)
part_left None start piece h = refl
part_left (Some s) start piece h = ap (λ (p : Pieces). of_pieces s start p.ended p.left) (pieces_left piece h)

part_end : (s : SectionWord) (start : ℕ) (piece : List Token) (token : Token) (tokens : List Token) → IsPiece (Some s) piece → is_semicolon token.kind ≡ true
    → of_part (Some s) start (piece ++ token ∷ tokens)
    ≡ record { section = Some s; start = start; end = start + length piece; is_ended = true } ∷ of_part (Some s) (start + length piece + 1) tokens
part_end s start piece token tokens h e = ap (λ (p : Pieces). of_pieces s start p.ended p.left) (pieces_end piece token tokens h e)

no_end_push : (piece : List Token) (token : Token) → HasNoEnd piece → is_semicolon token.kind ≡ false → HasNoEnd (piece ++ token ∷ [])
no_end_push [] token h p = (p, tt)
no_end_push (first ∷ piece) token h p = (h.0, no_end_push piece token h.1 p)

piece_push : (section : Option SectionWord) (piece : List Token) (token : Token) → IsPiece section piece → IsPiece section (token ∷ []) → IsPiece section (piece ++ token ∷ [])
piece_push None piece token h p = tt
piece_push (Some s) piece token h p = no_end_push piece token h p.0

pub piece_outside : (section : Option SectionWord) (token : Token) → is_some section ≡ false → IsPiece section (token ∷ [])
piece_outside None token h = tt
piece_outside (Some s) token h = absurd (cc)

pub piece_inside : (section : Option SectionWord) (token : Token) → is_semicolon token.kind ≡ false → IsPiece section (token ∷ [])
piece_inside None token h = tt
piece_inside (Some s) token h = (h, tt)

no_declarations : (n : ℕ) → All (IsWithin n) []
no_declarations n = All-nil (IsWithin n)

one_within : (n : ℕ) (declaration : Declaration) → IsWithin n declaration → All (IsWithin n) (declaration ∷ [])
one_within n declaration h = All-push (IsWithin n) [] declaration (no_declarations n) h

left_over_within : (section : Option SectionWord) (start end n : ℕ) → end ≤ n → All (IsWithin n) (left_over section start end)
left_over_within section start end n h =
    (elim (nat_lt start end) as (λ b. nat_lt start end ≡ b → All (IsWithin n) (if b then record { section = section; start = start; end = end; is_ended = false } ∷ [] else [])) [
      | true ↦ λ e. one_within n (record { section = section; start = start; end = end; is_ended = false }) (record { ordered = omega (arith, ltb-true start end e); within = h })
      | false ↦ λ e. no_declarations n
    ]) refl

pub begin : (tokens : List Token) → CutSoFar tokens [] None 0 0
begin tokens = record {
  piece = [];
  free = tt;
  place = refl;
  whole = ap (λ (n : ℕ). of_part None 0 (parts_of tokens).front ++ of_sections n (parts_of tokens).sections) (zero-add (length (parts_of tokens).front));
  within = no_declarations (length tokens);
}

past_plain : (tokens : List Token) (list : List Declaration) (section : Option SectionWord) (start at : ℕ) (token : Token)
    → CutSoFar tokens list section start at → drop at tokens ≡ token ∷ drop (at + 1) tokens
    → section_word token.kind ≡ None → IsPiece section (token ∷ []) → CutSoFar tokens list section start (at + 1)
past_plain tokens list section start at token so_far here plain free =
    let rest : List Token = drop (at + 1) tokens in
    let parts : parts_of (drop at tokens) ≡ record { front = token ∷ (parts_of rest).front; sections = (parts_of rest).sections } = ap parts_of here ∙ parts_plain token rest plain in
    let same : rest_of section start so_far.piece (parts_of (drop at tokens)) ≡ rest_of section start (so_far.piece ++ token ∷ []) (parts_of rest) =
    ap (rest_of section start so_far.piece) parts
    ∙ ap (λ (x : List Token). of_part section start x ++ of_sections (start + length x) (parts_of rest).sections) (sym (append_assoc so_far.piece (token ∷ []) (parts_of rest).front)) in
    record {
      piece = so_far.piece ++ token ∷ [];
      free = piece_push section so_far.piece token so_far.free free;
      place = grind (arith, common_steps, so_far.place);
      whole = ap (λ (x : List Declaration). list ++ x) (sym same) ∙ so_far.whole;
      within = so_far.within;
    }

past_word : (tokens : List Token) (list : List Declaration) (section : Option SectionWord) (start at : ℕ) (token : Token) (s : SectionWord)
    → CutSoFar tokens list section start at → drop at tokens ≡ token ∷ drop (at + 1) tokens → at ≤ length tokens
    → section_word token.kind ≡ Some s → CutSoFar tokens (list ++ left_over section start at) (Some s) (at + 1) (at + 1)
past_word tokens list section start at token s so_far here inside word =
    let rest : List Token = drop (at + 1) tokens in
    let parts : parts_of (drop at tokens) ≡ record { front = []; sections = record { section = s; tokens = (parts_of rest).front } ∷ (parts_of rest).sections } = ap parts_of here ∙ parts_word token rest s word in
    let same : rest_of section start so_far.piece (parts_of (drop at tokens)) ≡ left_over section start at ++ rest_of (Some s) (at + 1) [] (parts_of rest) =
    ap (rest_of section start so_far.piece) parts
    ∙ ap (λ (x : List Token). of_part section start x ++ of_sections (start + length x) (record { section = s; tokens = (parts_of rest).front } ∷ (parts_of rest).sections)) (append_nil so_far.piece)
    ∙ ap (λ (x : List Declaration). x ++ of_sections (start + length so_far.piece) (record { section = s; tokens = (parts_of rest).front } ∷ (parts_of rest).sections)) (part_left section start so_far.piece so_far.free)
    ∙ ap (λ (n : ℕ). left_over section start n ++ of_sections n (record { section = s; tokens = (parts_of rest).front } ∷ (parts_of rest).sections)) so_far.place in
    record {
      piece = [];
      free = tt;
      place = omega arith;
      whole = append_assoc list (left_over section start at) (rest_of (Some s) (at + 1) [] (parts_of rest)) ∙ ap (λ (x : List Declaration). list ++ x) (sym same) ∙ so_far.whole;
      within = All-append (IsWithin (length tokens)) list (left_over section start at) so_far.within (left_over_within section start at (length tokens) inside);
    }

past_end_of : (tokens : List Token) (list : List Declaration) (s : SectionWord) (start at : ℕ) (token : Token)
    → CutSoFar tokens list (Some s) start at → drop at tokens ≡ token ∷ drop (at + 1) tokens → at ≤ length tokens
    → section_word token.kind ≡ None → is_semicolon token.kind ≡ true
    → CutSoFar tokens (list ++ record { section = Some s; start = start; end = at; is_ended = true } ∷ []) (Some s) (at + 1) (at + 1)
past_end_of tokens list s start at token so_far here inside plain ends =
    let rest : List Token = drop (at + 1) tokens in
    let ended : Declaration = record { section = Some s; start = start; end = at; is_ended = true } in
    let parts : parts_of (drop at tokens) ≡ record { front = token ∷ (parts_of rest).front; sections = (parts_of rest).sections } = ap parts_of here ∙ parts_plain token rest plain in
    let behind : start + length (so_far.piece ++ token ∷ (parts_of rest).front) ≡ at + 1 + length (parts_of rest).front = grind (arith, common_steps, so_far.place) in
    let same : rest_of (Some s) start so_far.piece (parts_of (drop at tokens)) ≡ (ended ∷ []) ++ rest_of (Some s) (at + 1) [] (parts_of rest) =
    ap (rest_of (Some s) start so_far.piece) parts
    ∙ ap (λ (x : List Declaration). x ++ of_sections (start + length (so_far.piece ++ token ∷ (parts_of rest).front)) (parts_of rest).sections) (part_end s start so_far.piece token (parts_of rest).front so_far.free ends)
    ∙ ap (λ (n : ℕ). (record { section = Some s; start = start; end = n; is_ended = true } ∷ of_part (Some s) (n + 1) (parts_of rest).front) ++ of_sections (start + length (so_far.piece ++ token ∷ (parts_of rest).front)) (parts_of rest).sections) so_far.place
    ∙ ap (λ (n : ℕ). (ended ∷ of_part (Some s) (at + 1) (parts_of rest).front) ++ of_sections n (parts_of rest).sections) behind in
    record {
      piece = [];
      free = tt;
      place = omega arith;
      whole = append_assoc list (ended ∷ []) (rest_of (Some s) (at + 1) [] (parts_of rest)) ∙ ap (λ (x : List Declaration). list ++ x) (sym same) ∙ so_far.whole;
      within = All-append (IsWithin (length tokens)) list (ended ∷ []) so_far.within (one_within (length tokens) ended (record { ordered = omega (arith, so_far.place); within = inside }));
    }

past_end : (tokens : List Token) (list : List Declaration) (section : Option SectionWord) (start at : ℕ) (token : Token)
    → CutSoFar tokens list section start at → drop at tokens ≡ token ∷ drop (at + 1) tokens → at ≤ length tokens
    → section_word token.kind ≡ None → is_some section ≡ true → is_semicolon token.kind ≡ true
    → CutSoFar tokens (list ++ record { section = section; start = start; end = at; is_ended = true } ∷ []) section (at + 1) (at + 1)
past_end tokens list None start at token so_far here inside plain some ends = absurd (cc)
past_end tokens list (Some s) start at token so_far here inside plain some ends = past_end_of tokens list s start at token so_far here inside plain ends

pub all_cut : (tokens : List Token) (list : List Declaration) (section : Option SectionWord) (start at : ℕ)
    → CutSoFar tokens list section start at → drop at tokens ≡ [] → list ++ left_over section start at ≡ declarations_of tokens
all_cut tokens list section start at so_far none =
    let same : rest_of section start so_far.piece (parts_of (drop at tokens)) ≡ left_over section start at =
    ap (λ (x : List Token). rest_of section start so_far.piece (parts_of x)) none
    ∙ append_nil (of_part section start (so_far.piece ++ []))
    ∙ ap (of_part section start) (append_nil so_far.piece)
    ∙ part_left section start so_far.piece so_far.free
    ∙ ap (left_over section start) so_far.place in
    ap (λ (x : List Declaration). list ++ x) (sym same) ∙ so_far.whole

all_within : (tokens : List Token) (list : List Declaration) (section : Option SectionWord) (start at : ℕ)
    → CutSoFar tokens list section start at → at ≤ length tokens → All (IsWithin (length tokens)) (list ++ left_over section start at)
all_within tokens list section start at so_far inside =
    All-append (IsWithin (length tokens)) list (left_over section start at) so_far.within (left_over_within section start at (length tokens) inside)

-- the same of what is equal
moved : {tokens : List Token} {ds es : List Declaration} {s t : Option SectionWord} {n m at : ℕ} → CutSoFar tokens ds s n at → es ≡ ds → t ≡ s → m ≡ n → CutSoFar tokens es t m at
moved {tokens} {ds} {es} {s} {t} {n} {m} {at} so_far e f g =
    subst (λ (x : List Declaration). CutSoFar tokens x t m at) (sym e) (subst (λ (x : Option SectionWord). CutSoFar tokens ds x m at) (sym f) (subst (λ (x : ℕ). CutSoFar tokens ds s x at) (sym g) so_far))

-- the next token is a word of a section
pub at_word : {tokens : List Token} {ds es : List Declaration} {section next : Option SectionWord} {start m at : ℕ} (s : SectionWord) (d : Token)
    → CutSoFar tokens ds section start at → at < length tokens → Some s ≡ section_word (get_or tokens at d).kind
    → es ≡ ds ++ left_over section start at → next ≡ Some s → m ≡ at + 1 → CutSoFar tokens es next m (at + 1)
at_word {tokens} {ds} {es} {section} {next} {start} {m} {at} s d so_far inside word e f g =
    let under : at ≤ length tokens = omega arith in
    moved (past_word tokens ds section start at (get_or tokens at d) s so_far (drop_at tokens at d inside) under (sym word)) e f g

-- the next token is a `;` in a section
pub at_end : {tokens : List Token} {ds es : List Declaration} {section next : Option SectionWord} {start m at : ℕ} (d : Token)
    → CutSoFar tokens ds section start at → at < length tokens → None ≡ section_word (get_or tokens at d).kind
    → is_some section ≡ true → true ≡ is_semicolon (get_or tokens at d).kind
    → es ≡ ds ++ record { section = section; start = start; end = at; is_ended = true } ∷ [] → next ≡ section → m ≡ at + 1 → CutSoFar tokens es next m (at + 1)
at_end {tokens} {ds} {es} {section} {next} {start} {m} {at} d so_far inside plain some ends e f g =
    let under : at ≤ length tokens = omega arith in
    moved (past_end tokens ds section start at (get_or tokens at d) so_far (drop_at tokens at d inside) under (sym plain) some (sym ends)) e f g

-- the next token is neither
pub at_other : {tokens : List Token} {ds es : List Declaration} {section next : Option SectionWord} {start m at : ℕ} (d : Token)
    → CutSoFar tokens ds section start at → at < length tokens → None ≡ section_word (get_or tokens at d).kind
    → IsPiece section (get_or tokens at d ∷ []) → es ≡ ds → next ≡ section → m ≡ start → CutSoFar tokens es next m (at + 1)
at_other {tokens} {ds} {es} {section} {next} {start} {m} {at} d so_far inside plain free e f g =
    moved (past_plain tokens ds section start at (get_or tokens at d) so_far (drop_at tokens at d inside) (sym plain) free) e f g

-- past one more token, whatever it is
pub passed : {tokens : List Token} {ds es : List Declaration} (section : Option SectionWord) {next : Option SectionWord} {start m at : ℕ} (d : Token) (word : Option SectionWord) (ends : Bool)
    → CutSoFar tokens ds section start at → at < length tokens → word ≡ section_word (get_or tokens at d).kind → ends ≡ is_semicolon (get_or tokens at d).kind
    → es ≡ ds ++ ended_at word ends section start at → next ≡ section_past word section → m ≡ start_past word ends section start at → CutSoFar tokens es next m (at + 1)
passed section d (Some word) ends so_far inside e f g h i = at_word word d so_far inside e g h i
passed {tokens = tokens} {ds = ds} None {at = at} d None true so_far inside e f g h i = at_other d so_far inside e (piece_outside None (get_or tokens at d) refl) (g ∙ append_nil ds) h i
passed {tokens = tokens} {ds = ds} None {at = at} d None false so_far inside e f g h i = at_other d so_far inside e (piece_outside None (get_or tokens at d) refl) (g ∙ append_nil ds) h i
passed (Some s) d None true so_far inside e f g h i = at_end d so_far inside e refl f g h i
passed {tokens = tokens} {ds = ds} (Some s) {at = at} d None false so_far inside e f g h i = at_other d so_far inside e (piece_inside (Some s) (get_or tokens at d) (sym f)) (g ∙ append_nil ds) h i

-- a list with the declaration that was given, if any, behind its others
pub with_given : (ds : List Declaration) {es xs : List Declaration} {o : Option Declaration} {d : Declaration} → es ≡ ds ++ d ∷ [] → o ≡ Some d → listed o ≡ xs → es ≡ ds ++ xs
with_given ds e f g = e ∙ ap (λ (x : List Declaration). ds ++ x) (ap listed (sym f) ∙ g)

pub with_none : (ds : List Declaration) {es xs : List Declaration} {o : Option Declaration} → es ≡ ds → o ≡ None → listed o ≡ xs → es ≡ ds ++ xs
with_none ds e f g = e ∙ (sym (append_nil ds) ∙ ap (λ (x : List Declaration). ds ++ x) (ap listed (sym f) ∙ g))

-- behind the last token nothing is left to cut
pub cut_whole : {tokens : List Token} {ds es : List Declaration} {section : Option SectionWord} {start at : ℕ}
    → CutSoFar tokens ds section start at → length tokens ≤ at → at ≤ length tokens → es ≡ ds ++ left_over section start (length tokens) → es ≡ declarations_of tokens
cut_whole {tokens} {ds} {es} {section} {start} {at} so_far over under e =
    let last : at ≡ length tokens = omega arith in
    e ∙ all_cut tokens ds section start (length tokens) (subst (λ (n : ℕ). CutSoFar tokens ds section start n) last so_far) (drop-length tokens)

pub cut_within : {tokens : List Token} {ds es : List Declaration} {section : Option SectionWord} {start at : ℕ}
    → CutSoFar tokens ds section start at → length tokens ≤ at → at ≤ length tokens → es ≡ ds ++ left_over section start (length tokens) → All (IsWithin (length tokens)) es
cut_within {tokens} {ds} {es} {section} {start} {at} so_far over under e =
    let last : at ≡ length tokens = omega arith in
    let inside : length tokens ≤ length tokens = omega arith in
    subst (λ (xs : List Declaration). All (IsWithin (length tokens)) xs) (sym e)
    (all_within tokens ds section start (length tokens) (subst (λ (n : ℕ). CutSoFar tokens ds section start n) last so_far) inside)
