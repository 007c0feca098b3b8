-- Copied declarations line by line.
use Rattle.std.proofs.Common.{◌≡◌, ◌<◌, ◌≤◌, ◌+◌, ℕ, List, [], ◌∷◌, ◌++◌, length, get_or, map, drop, codes, refl, sym, ap, ap₂, ◌∙◌, subst, arith}
use Rattle.std.proofs.lemmas.List.{drop_more}
use Rattle.std.proofs.Math.Seq.{drop-length}
use Rattle.mcrl2_lexer.specs.declared.kind.Kind.{Kind}
use Rattle.mcrl2_lexer.specs.declared.kind.Kind.TheVariants.{Semicolon}
use Rattle.mcrl2_syntax.specs.declared.declaration.Decl.{Decl}
use Rattle.mcrl2_syntax.specs.Declarations.{PlainDecl, plain_decl}
use Rattle.lps_printer.specs.declared.copied_tokens.Place.{Place}
use Rattle.lps_printer.specs.declared.copied_tokens.Place.TheVariants.{First, Further, Behind}
use Rattle.lps_printer.specs.Pieces.{Piece, bytes_of}
use Rattle.lps_printer.specs.CopiedTokens.{Copied, copied, copied_behind, gap_between}
use Rattle.lps_printer.specs.CopiedPlaces.{copied_at, AddsTokens}
use Rattle.lps_printer.specs.CopiedSections.{further_line, copied_declaration, copied_declarations}
use Rattle.lps_printer.specs.DataLayout.{piece, space}
use Rattle.lps_printer.specs.TextSections.{print_declarations}
use Rattle.lps_printer.specs.TreeTokens.{declaration_tokens}
use Rattle.lps_printer.specs.Adding.{Adds}
use Rattle.lps_printer.proofs.AddingPieces.{adds_none, adds_both}

-- declarations, the first one at this place
abbrev pub copied_from : Place → List PlainDecl → List (List Piece)
copied_from place [] = []
copied_from place (d ∷ ds) = copied_at place (declaration_tokens d []) ∷ copied_from Further ds

behind_is : (k : Kind) (ts : List Copied) → copied_at (Behind k) ts ≡ copied_behind k ts
behind_is k [] = refl
behind_is k (t ∷ ts) = ap (λ (ps : List Piece). piece (gap_between k t.kind) t.kind t.bytes ∷ ps) (behind_is t.kind ts)

first_is : (ts : List Copied) → copied_at First ts ≡ copied space ts
first_is [] = refl
first_is (t ∷ ts) = ap (λ (ps : List Piece). piece space t.kind t.bytes ∷ ps) (behind_is t.kind ts)

further_is : (ts : List Copied) → copied_at Further ts ≡ copied further_line ts
further_is [] = refl
further_is (t ∷ ts) = ap (λ (ps : List Piece). piece further_line t.kind t.bytes ∷ ps) (behind_is t.kind ts)

further_lines : (ds : List PlainDecl) → copied_from Further ds ≡ map (copied_declaration further_line) ds
further_lines [] = refl
further_lines (d ∷ ds) = ap₂ (λ (ps : List Piece) (pss : List (List Piece)). ps ∷ pss) (further_is (declaration_tokens d [])) (further_lines ds)

pub all_lines : (ds : List PlainDecl) → copied_from First ds ≡ copied_declarations ds
all_lines [] = refl
all_lines (d ∷ ds) = ap₂ (λ (ps : List Piece) (pss : List (List Piece)). ps ∷ pss) (first_is (declaration_tokens d [])) (further_lines ds)

-- ---- a declaration with its semicolon
pub bytes_both : (ps qs : List Piece) (end : List ℕ) → bytes_of (ps ++ qs) end ≡ bytes_of ps (bytes_of qs end)
bytes_both [] qs end = refl
bytes_both (p ∷ ps) qs end = ap (λ (x : List ℕ). p.gap ++ (p.bytes ++ x)) (bytes_both ps qs end)

abbrev pub semicolon : List Piece → List Piece
semicolon rest = piece [] Semicolon (codes ";") ∷ rest

pub declaration_added : {a b c : List ℕ} {p q : Place} (tokens : List Copied → List Copied) → AddsTokens a p b q tokens → Adds b c semicolon → Adds a c (λ rest. copied_at p (tokens []) ++ semicolon rest)
declaration_added {a = a} {p = p} tokens h k = record { bytes = λ rest end. ap (λ x. a ++ x) (bytes_both (copied_at p (tokens [])) (semicolon rest) end) ∙ h.bytes [] (bytes_of (semicolon rest) end) ∙ k.bytes rest end }

-- ---- declarations
lines_of : {a b : List ℕ} {ps qs : List (List Piece)} → ps ≡ qs → Adds a b (λ rest. print_declarations ps rest) → Adds a b (λ rest. print_declarations qs rest)
lines_of {a = a} {b = b} e h = subst (λ pss. Adds a b (λ rest. print_declarations pss rest)) e h

pub lines_begin : (ds : List Decl) {a b : List ℕ} → Adds a b (λ rest. print_declarations (copied_from First (map plain_decl ds)) rest) → Adds a b (λ rest. print_declarations (copied_declarations (map plain_decl ds)) rest)
lines_begin ds h = lines_of (all_lines (map plain_decl ds)) h

pub lines_step : (place : Place) (ds : List Decl) (i : ℕ) (d : Decl) → i < length ds → d ≡ get_or ds i d → {a b c : List ℕ} → Adds a b (λ rest. copied_at place (declaration_tokens (plain_decl d) []) ++ semicolon rest)
    → Adds b c (λ rest. print_declarations (copied_from Further (map plain_decl (drop (i + 1) ds))) rest) → Adds a c (λ rest. print_declarations (copied_from place (map plain_decl (drop i ds))) rest)
lines_step place ds i d below is {a = a} {c = c} h k =
    let both : Adds a c (λ rest. print_declarations (copied_from place (map plain_decl (d ∷ drop (i + 1) ds))) rest) = adds_both h k in
    lines_of (ap (λ xs. copied_from place (map plain_decl xs)) (ap (λ x. x ∷ drop (i + 1) ds) is ∙ sym (drop_more ds i d below))) both

pub lines_end : (place : Place) (ds : List Decl) (i : ℕ) → length ds ≤ i → i ≤ length ds → (a : List ℕ) → Adds a a (λ rest. print_declarations (copied_from place (map plain_decl (drop i ds))) rest)
lines_end place ds i above below a = let end : i ≡ length ds = omega arith in lines_of (ap (λ xs. copied_from place (map plain_decl xs)) (sym (ap (λ k. drop k ds) end ∙ drop-length ds))) (adds_none a)
