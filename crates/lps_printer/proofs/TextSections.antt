-- The bytes of sections spell a specification with just these sections.
use Rattle.std.proofs.Common.{◌≡◌, ◌≢◌, ℕ, true, List, [], ◌∷◌, ◌++◌, get_or, map, codes, refl, ap, ap₂, ◌∙◌, subst}
use Rattle.std.specs.Prelude.{Some}
use Rattle.mcrl2_lexer.specs.declared.kind.Kind.TheVariants as kind_
use Rattle.mcrl2_lexer.specs.declared.token.Token.{Token}
use Rattle.mcrl2_lexer.specs.Tokens.{IsToken, sign}
use Rattle.mcrl2_syntax.specs.declared.declaration.SectionWord.{SectionWord}
use Rattle.mcrl2_syntax.specs.declared.declaration.SectionWord.TheVariants as words
use Rattle.mcrl2_syntax.specs.Declarations.{PlainDecl, PlainSection}
use Rattle.mcrl2_syntax.specs.SpelledDeclarations as spelled
use Rattle.mcrl2_syntax.specs.SpelledDeclarations.{section_word, SpellsDecls, no_decls, more_decls, no_sections, more_sections}
use Rattle.sort_table.specs.BareDeclarations.{Declaration, bare_declaration, Section, bare_section}
use Rattle.lps_printer.specs.Pieces.{Piece, bytes_of, IsPiece, StandApart, cannot_go_on, Says, says_more, says_none, is_quiet}
use Rattle.lps_printer.specs.DataLayout.{piece}
use Rattle.lps_printer.specs.TextSections.{section_kind, section_text, PrintedSection, print_declarations, print_sections, sections_text, DeclareAll, no_declarations, one_declaration, AreSections, no_sections_left, one_section, SectionTextsSpellBack}
use Rattle.mcrl2_lexer.proofs.Fronts.{nothing_no_token}
use Rattle.lps_printer.proofs.Fronts.{quiet}
use Rattle.lps_printer.proofs.Cutting.{pieces_lex}
use Rattle.lps_printer.proofs.Apart.{first, Ends, IsGap, plain_piece, word_token, in_front}
use Rattle.lps_printer.proofs.Appending.{cut_off}

-- ---- they stand apart
same_first : (gap bytes xs ys : List ℕ) → bytes ≢ [] → get_or (gap ++ (bytes ++ xs)) 0 0 ≡ get_or (gap ++ (bytes ++ ys)) 0 0
same_first [] [] xs ys h = absurd (h refl)
same_first [] (b ∷ bytes) xs ys h = refl
same_first (g ∷ gap) bytes xs ys h = refl

has_bytes : {p : Piece} → IsPiece p → p.bytes ≢ []
has_bytes {p = p} h e = nothing_no_token (subst (λ (bytes : List ℕ). IsToken bytes p.kind) e h.token)

-- what stands behind begins with a byte that goes on with no token
apart_behind : (ps : List Piece) (end : List ℕ) (rest : List Piece) (last : List ℕ) → StandApart ps end → Ends rest last → StandApart (ps ++ rest) last
apart_behind [] end rest last h k = k.apart
apart_behind (p ∷ []) end rest last h k = (h.0, quiet (first rest last) h.0.token k.quiet_, k.apart)
apart_behind (p ∷ q ∷ ps) end rest last h k =
    (h.0, subst (λ (b : ℕ). cannot_go_on p.bytes b ≡ true) (same_first q.gap q.bytes (bytes_of ps end) (bytes_of (ps ++ rest) last) (has_bytes h.2.0)) h.1, apart_behind (q ∷ ps) end rest last h.2 k)

quiet_behind : (ps : List Piece) (end : List ℕ) (rest : List Piece) (last : List ℕ) → StandApart ps end → is_quiet (first ps end) ≡ true → Ends rest last → is_quiet (first (ps ++ rest) last) ≡ true
quiet_behind [] end rest last h q k = k.quiet_
quiet_behind (p ∷ ps) end rest last h q k = subst (λ (b : ℕ). is_quiet b ≡ true) (same_first p.gap p.bytes (bytes_of ps end) (bytes_of (ps ++ rest) last) (has_bytes h.0)) q

semicolon_ends : (rest : List Piece) (end : List ℕ) → Ends rest end → Ends (piece [] kind_.Semicolon (codes ";") ∷ rest) end
semicolon_ends rest end h = record { apart = in_front (plain_piece refl (sign refl) refl (λ e. cc)) h; quiet_ = refl }

declarations_end : (word : SectionWord) (pss : List (List Piece)) (ds : List Declaration) → DeclareAll word pss ds → (rest : List Piece) → Ends rest (10 ∷ []) → Ends (print_declarations pss rest) (10 ∷ [])
declarations_end word pss ds no_declarations rest h = h
declarations_end word pss ds (one_declaration {ps = ps} {pss = others} {ds = es} one more) rest h =
    let behind = semicolon_ends (print_declarations others rest) (10 ∷ []) (declarations_end word others es more rest h) in
    record {
      apart = apart_behind ps (10 ∷ []) (piece [] kind_.Semicolon (codes ";") ∷ print_declarations others rest) (10 ∷ []) one.apart behind;
      quiet_ = quiet_behind ps (10 ∷ []) (piece [] kind_.Semicolon (codes ";") ∷ print_declarations others rest) (10 ∷ []) one.apart one.spaced behind;
    }

section_piece : (word : SectionWord) (gap : List ℕ) → IsGap gap → IsPiece (piece gap (section_kind word) (section_text word))
section_piece words.Sort gap g = plain_piece g (word_token (codes "sort") refl) refl (λ e. cc)
section_piece words.Cons gap g = plain_piece g (word_token (codes "cons") refl) refl (λ e. cc)
section_piece words.Map gap g = plain_piece g (word_token (codes "map") refl) refl (λ e. cc)
section_piece words.Var gap g = plain_piece g (word_token (codes "var") refl) refl (λ e. cc)
section_piece words.Eqn gap g = plain_piece g (word_token (codes "eqn") refl) refl (λ e. cc)
section_piece words.Act gap g = plain_piece g (word_token (codes "act") refl) refl (λ e. cc)
section_piece words.Proc gap g = plain_piece g (word_token (codes "proc") refl) refl (λ e. cc)
section_piece words.Init gap g = plain_piece g (word_token (codes "init") refl) refl (λ e. cc)

at_end : Ends [] (10 ∷ [])
at_end = record { apart = refl; quiet_ = refl }

mutual
  sections_apart : (gap : List ℕ) → IsGap gap → (ss : List PrintedSection) (bs : List Section) → AreSections ss bs → StandApart (print_sections gap ss) (10 ∷ [])
  sections_apart gap g ss bs no_sections_left = refl
  sections_apart gap g ss bs (one_section {s = s} {b = b} {ss = others} {bs = cs} e one more) =
      in_front (section_piece s.word gap g) (declarations_end s.word s.declarations b.declarations one (print_sections (10 ∷ []) others) (sections_end others cs more))

  sections_end : (ss : List PrintedSection) (bs : List Section) → AreSections ss bs → Ends (print_sections (10 ∷ []) ss) (10 ∷ [])
  sections_end ss bs no_sections_left = at_end
  sections_end ss bs (one_section {s = s} {b = b} {ss = others} {bs = cs} e one more) = record {
    apart = in_front (section_piece s.word (10 ∷ []) refl) (declarations_end s.word s.declarations b.declarations one (print_sections (10 ∷ []) others) (sections_end others cs more));
    quiet_ = refl;
  }

-- ---- they spell the sections
record DeclsRead (text : List ℕ) (word : SectionWord) (ds : List Declaration) (rest : List Piece) (ts : List Token) : Type 0 where
  trees : List PlainDecl
  after : List Token
  spells : SpellsDecls text word trees ts after
  says : Says text rest after
  is : map bare_declaration trees ≡ ds

read_declarations : (text : List ℕ) (word : SectionWord) (pss : List (List Piece)) (ds : List Declaration) → DeclareAll word pss ds → (rest : List Piece) (ts : List Token) → Says text (print_declarations pss rest) ts → DeclsRead text word ds rest ts
read_declarations text word pss ds no_declarations rest ts says = record { trees = []; after = ts; spells = no_decls; says = says; is = refl }
read_declarations text word pss ds (one_declaration {ps = ps} {pss = others} {ds = es} one more) rest ts says =
    let c = cut_off text ps (print_declarations others rest) [] ts one.inside says in
    let d = one.reads text c.front c.says in
    let r = read_declarations text word others es more rest c.after c.others in
    record { trees = d.tree ∷ r.trees; after = r.after; spells = more_decls c.cut d.spells r.spells; says = r.says; is = ap₂ (λ (x : Declaration) (xs : List Declaration). x ∷ xs) d.is r.is }

section_of_kind : (word : SectionWord) → section_word (section_kind word) ≡ Some word
section_of_kind words.Sort = refl
section_of_kind words.Cons = refl
section_of_kind words.Map = refl
section_of_kind words.Var = refl
section_of_kind words.Eqn = refl
section_of_kind words.Act = refl
section_of_kind words.Proc = refl
section_of_kind words.Init = refl

record SectionsRead (text : List ℕ) (bs : List Section) (ts : List Token) : Type 0 where
  trees : List PlainSection
  spells : spelled.SpellsSections text trees ts
  is : map bare_section trees ≡ bs

abbrev section_with : SectionWord → List Declaration → Section
section_with w ds = record { word = w; declarations = ds }

a_section : (w v : SectionWord) (ds es : List Declaration) → w ≡ v → ds ≡ es → section_with w ds ≡ section_with v es
a_section w v ds es h k = ap₂ section_with h k

read_sections : (text : List ℕ) (gap : List ℕ) (ss : List PrintedSection) (bs : List Section) → AreSections ss bs → (ts : List Token) → Says text (print_sections gap ss) ts → SectionsRead text bs ts
read_sections text gap ss bs no_sections_left ts says_none = record { trees = []; spells = no_sections; is = refl }
read_sections text gap ss bs (one_section {s = s} {b = b} {ss = others} {bs = cs} e one more) ts (says_more {ts = us} k slice says) =
    let d = read_declarations text s.word s.declarations b.declarations one (print_sections (10 ∷ []) others) us says in
    let r = read_sections text (10 ∷ []) others cs more d.after d.says in
    record {
      trees = _ ∷ r.trees;
      spells = more_sections (ap section_word k ∙ section_of_kind s.word) d.spells r.spells;
      is = ap₂ (λ (x : Section) (xs : List Section). x ∷ xs) (a_section s.word b.word (map bare_declaration d.trees) b.declarations e d.is) r.is;
    }

pub section_texts_spell_back : SectionTextsSpellBack
section_texts_spell_back ss bs h =
    let l = pieces_lex (print_sections [] ss) (10 ∷ []) (sections_apart [] refl ss bs h) in
    let r = read_sections (sections_text ss) [] ss bs h l.tokens l.says in
    record { tokens = l.tokens; cut = l.cut; spec = record { sections = r.trees }; spells = record { all_sections = r.spells }; is = r.is }
