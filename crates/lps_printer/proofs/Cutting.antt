-- Pieces that stand apart lex back.
use Rattle.std.proofs.Common.{◌≡◌, ℕ, ◌+◌, ◌-◌, ◌<◌, ◌^◌, Bool, ◌&&◌, true, false, List, [], ◌∷◌, ◌++◌, length, take, drop, get_or, All, refl, sym, ap, ◌∙◌, subst, subst₂, arith, append_assoc, append-nil, length-append}
use Rattle.std.specs.List.{list_all}
use Rattle.std.proofs.Math.Seq.{drop-append_seam, take-append_seam}
use Rattle.std.proofs.lemmas.List.Elements.{All-cons, All-nil}
use Rattle.mcrl2_lexer.specs.declared.kind.Kind.{Kind}
use Rattle.mcrl2_lexer.specs.declared.token.Token.{Token}
use Rattle.mcrl2_lexer.specs.Words.{is_space, decimal}
use Rattle.mcrl2_lexer.specs.Tokens.{TokenAt, IsAccepted, slice_of}
use Rattle.mcrl2_lexer.specs.Lexing.{Lexes, nothing}
use Rattle.mcrl2_lexer.proofs.Spelled.{Lexes-token, Lexes-space}
use Rattle.lps_printer.specs.Pieces.{Piece, bytes_of, IsPiece, cannot_go_on, StandApart, Says, says_none, says_more, PiecesLex}
use Rattle.lps_printer.proofs.Fronts.{token_front, stops_from}

-- from a place on the text has tokens that say the pieces
record CutAt (text : List ℕ) (at : ℕ) (pieces : List Piece) : Type 0 where
  tokens : List Token
  lexes : Lexes text at tokens (length text)
  accepted : All (IsAccepted text) tokens
  says : Says text pieces tokens

-- behind any bytes these have such tokens
abbrev Cut : List ℕ → List Piece → Type 0
Cut bytes pieces = (front : List ℕ) → CutAt (front ++ bytes) (length front) pieces

behind : (front bytes rest : List ℕ) (pieces : List Piece) → Cut rest pieces → CutAt (front ++ (bytes ++ rest)) (length front + length bytes) pieces
behind front bytes rest pieces c =
    subst₂ (λ (text : List ℕ) (at : ℕ). CutAt text at pieces) (append_assoc front bytes rest) (length-append front bytes) (c (front ++ bytes))

cut_end : Cut [] []
cut_end front = record {
  tokens = [];
  lexes = subst (λ (to : ℕ). Lexes (front ++ []) (length front) [] to) (ap length (sym (append-nil front))) nothing;
  accepted = All-nil (IsAccepted (front ++ []));
  says = says_none;
}

cut_space : (b : ℕ) {rest : List ℕ} {pieces : List Piece} → is_space b ≡ true → Cut rest pieces → Cut (b ∷ rest) pieces
cut_space b {rest = rest} {pieces = pieces} e c front =
    let r = behind front (b ∷ []) rest pieces c in
    record {
      tokens = r.tokens;
      lexes = Lexes-space (front ++ b ∷ rest) (length front) (length (front ++ b ∷ rest)) b rest r.tokens (drop-append_seam front (b ∷ rest)) e r.lexes;
      accepted = r.accepted;
      says = r.says;
    }

both : (one other : Bool) → (one && other) ≡ true → (one ≡ true) × (other ≡ true)
both true other is = (refl, is)
both false other is = absurd cc

cut_gap : (gap : List ℕ) {rest : List ℕ} {pieces : List Piece} → list_all is_space gap ≡ true → Cut rest pieces → Cut (gap ++ rest) pieces
cut_gap [] e c = c
cut_gap (b ∷ gap) {rest = rest} {pieces = pieces} e c = let parts = both (is_space b) (list_all is_space gap) e in cut_space b {rest = gap ++ rest} {pieces = pieces} parts.0 (cut_gap gap {rest = rest} {pieces = pieces} parts.1 c)

cut_token : (p : Piece) {rest : List ℕ} {pieces : List Piece} → IsPiece p → cannot_go_on p.bytes (get_or rest 0 0) ≡ true → Cut rest pieces → Cut (p.bytes ++ rest) (p ∷ pieces)
cut_token p {rest = rest} {pieces = pieces} ok apart c front =
    let bytes : List ℕ = p.bytes in
    let k : Kind = p.kind in
    let token : TokenAt (bytes ++ rest) (length bytes) k = token_front rest ok.token (stops_from bytes (get_or rest 0 0) apart) in
    let r = behind front bytes rest pieces c in
    let size : length front + length bytes - length front ≡ length bytes = omega arith in
    let tail : drop (length front) (front ++ (bytes ++ rest)) ≡ bytes ++ rest = drop-append_seam front (bytes ++ rest) in
    let here : Token = record { kind = k; start = length front; end = length front + length bytes } in
    let slice : slice_of (front ++ (bytes ++ rest)) here ≡ bytes
    = ap (λ (n : ℕ). take n (drop (length front) (front ++ (bytes ++ rest)))) size ∙ ap (take (length bytes)) tail ∙ take-append_seam bytes rest in
    record {
      tokens = here ∷ r.tokens;
      lexes = Lexes-token (front ++ (bytes ++ rest)) (length front) (length (front ++ (bytes ++ rest))) bytes rest k r.tokens tail token r.lexes;
      accepted = All-cons (IsAccepted (front ++ (bytes ++ rest))) here r.tokens
          (record { kept = ok.kept; fits = λ e. subst (λ (bs : List ℕ). decimal bs < 2 ^ 128) (sym slice) (ok.fits e) }) r.accepted;
      says = says_more refl slice r.says;
    }

cut_pieces : (ps : List Piece) (end : List ℕ) → StandApart ps end → Cut (bytes_of ps end) ps
cut_pieces [] end apart = subst (λ (bs : List ℕ). Cut bs []) (append-nil end) (cut_gap end {rest = []} {pieces = []} apart cut_end)
cut_pieces (p ∷ ps) end apart =
    cut_gap p.gap {rest = p.bytes ++ bytes_of ps end} {pieces = p ∷ ps} apart.0.spaces (cut_token p {rest = bytes_of ps end} {pieces = ps} apart.0 apart.1 (cut_pieces ps end apart.2))

pub pieces_lex : PiecesLex
pieces_lex ps end apart =
    let c = cut_pieces ps end apart [] in
    record { tokens = c.tokens; cut = record { lexes = c.lexes; accepted = c.accepted }; says = c.says }
