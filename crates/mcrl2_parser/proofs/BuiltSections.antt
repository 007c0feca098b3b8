-- What is built of tokens and trees from the left: a word begins a section, and at a `;` the next tree goes into the last one.
use Rattle.std.proofs.Common.{◌≡◌, ℕ, Bool, true, false, Option, None, Some, List, [], ◌∷◌, ◌++◌, All, zero, suc, map, slice_index_or, slice_set, ◌+◌, length, arith, refl, sym, ap, ◌∙◌, subst, append_assoc, append-nil}
use Rattle.std.proofs.lemmas.List.{map-append}
use Rattle.std.proofs.lemmas.List.Elements.{All-head, All-tail}
use Rattle.mcrl2_lexer.specs.declared.token.Token.{Token}
use Rattle.mcrl2_syntax.specs.declared.word.Span.{Span}
use Rattle.mcrl2_syntax.specs.declared.declaration.Decl.{Decl}
use Rattle.mcrl2_syntax.specs.declared.declaration.Section.{Section}
use Rattle.mcrl2_syntax.specs.declared.declaration.SectionWord.{SectionWord}
use Rattle.mcrl2_syntax.specs.Declarations.{PlainDecl, PlainSection, PlainSpec, plain_decl, section_of}
use Rattle.mcrl2_syntax.specs.SpelledDeclarations.{section_word, IsInside, SpellsDecls, no_decls, more_decls, SpellsSections, no_sections, more_sections, SpellsSpec}
use Rattle.mcrl2_parser.specs.Sections.{is_semicolon, declarations_in, lengthened, with_last, having}
use Rattle.mcrl2_parser.proofs.SpelledByDeclarations.{outside_semicolon}

-- ---- what tokens make of declarations: a word begins a section, and at a `;` the next declaration goes into the last one

-- the sections so far, and the declarations that are left
pub record Built : Type 0 where
  pub sections : List PlainSection
  pub left : List PlainDecl

-- the next declaration goes into the last section
abbrev pub with_next : List PlainSection → List PlainDecl → Built
with_next sections [] = record { sections = sections; left = [] }
with_next sections (tree ∷ left) = record { sections = with_last tree sections; left = left }

-- behind one more token, which begins that section, if any, or is a `;`
abbrev pub past : Option SectionWord → Bool → Token → Built → Built
past (Some word) ends token built = record { sections = built.sections ++ having token word [] ∷ []; left = built.left }
past None true token built = with_next built.sections built.left
past None false token built = built

-- behind all tokens
abbrev pub past_all : List Token → Built → Built
past_all [] built = built
past_all (token ∷ tokens) built = past_all tokens (past (section_word token.kind) (is_semicolon token.kind) token built)

past_inside : (front rest : List Token) (built : Built) → All IsInside front → past_all (front ++ rest) built ≡ past_all rest built
past_inside [] rest built h = refl
past_inside (t ∷ front) rest built h =
    let here = All-head IsInside t front h in
    ap (λ (b : Built). past_all (front ++ rest) b) (ap (λ (o : Option SectionWord). past o (is_semicolon t.kind) t built) here.no_section
    ∙ ap (λ (b : Bool). past None b t built) (outside_semicolon t.kind here.no_semicolon))
    ∙ past_inside front rest built (All-tail IsInside t front h)

last_of_more : (tree : PlainDecl) (front : List PlainSection) (section : PlainSection) → with_last tree (front ++ section ∷ []) ≡ front ++ lengthened section tree ∷ []
last_of_more tree [] section = refl
last_of_more tree (x ∷ []) section = refl
last_of_more tree (x ∷ y ∷ front) section = ap (λ (z : List PlainSection). x ∷ z) (last_of_more tree (y ∷ front) section)

-- a `;` in a section
past_end : (t s : Token) (word : SectionWord) (rest : List Token) (front : List PlainSection) (had : List PlainDecl) (tree : PlainDecl) (left : List PlainDecl) → section_word s.kind ≡ None
    → is_semicolon s.kind ≡ true
    → past_all (s ∷ rest) (record { sections = front ++ having t word had ∷ []; left = tree ∷ left }) ≡ past_all rest (record { sections = front ++ having t word (had ++ tree ∷ []) ∷ []; left = left })
past_end t s word rest front had tree left e f =
    let was : Built = record { sections = front ++ having t word had ∷ []; left = tree ∷ left } in
    ap (λ (b : Built). past_all rest b) (ap (λ (o : Option SectionWord). past o (is_semicolon s.kind) s was) e ∙ ap (λ (b : Bool). past None b s was) f
    ∙ ap (λ (x : List PlainSection). record { sections = x; left = left }) (last_of_more tree front (having t word had)))

-- the declarations of a section go into it
past_decls : {text : List ℕ} (t : Token) {word : SectionWord} {trees : List PlainDecl} {ts rest : List Token} (front : List PlainSection) (had left : List PlainDecl) → SpellsDecls text word trees ts rest
    → past_all ts (record { sections = front ++ having t word had ∷ []; left = trees ++ left }) ≡ past_all rest (record { sections = front ++ having t word (had ++ trees) ∷ []; left = left })
past_decls t {word = word} {rest = rest} front had left no_decls =
    ap (λ (x : List PlainDecl). past_all rest (record { sections = front ++ having t word x ∷ []; left = left })) (sym (append-nil had))
past_decls t {word = word} {rest = rest} front had left (more_decls {d = d} {ds = ds} {front = piece} {us = us} cut a more) =
    let was : Built = record { sections = front ++ having t word had ∷ []; left = d ∷ ds ++ left } in
    ap (λ (x : List Token). past_all x was) cut.is
    ∙ past_inside piece (cut.sign ∷ us) was cut.inside
    ∙ past_end t cut.sign word us front had d (ds ++ left) (ap section_word cut.semicolon) (ap is_semicolon cut.semicolon)
    ∙ past_decls t front (had ++ d ∷ []) left more
    ∙ ap (λ (x : List PlainDecl). past_all rest (record { sections = front ++ having t word x ∷ []; left = left })) (append_assoc had (d ∷ []) ds)

past_word : (t : Token) (word : SectionWord) (rest : List Token) (front : List PlainSection) (left : List PlainDecl) → section_word t.kind ≡ Some word
    → past_all (t ∷ rest) (record { sections = front; left = left }) ≡ past_all rest (record { sections = front ++ having t word [] ∷ []; left = left })
past_word t word rest front left e = ap (λ (o : Option SectionWord). past_all rest (past o (is_semicolon t.kind) t (record { sections = front; left = left }))) e

past_sections : {text : List ℕ} {sections : List PlainSection} {ts : List Token} (front : List PlainSection) → SpellsSections text sections ts
    → past_all ts (record { sections = front; left = declarations_in sections }) ≡ record { sections = front ++ sections; left = [] }
past_sections front no_sections = ap (λ (x : List PlainSection). record { sections = x; left = [] }) (sym (append-nil front))
past_sections front (more_sections {t = t} {word = word} {ds = ds} {sections = sections} {ts = ts} {r = r} h a more) =
    past_word t word ts front (ds ++ declarations_in sections) h
    ∙ past_decls t front [] (declarations_in sections) a
    ∙ past_sections (front ++ having t word ds ∷ []) more
    ∙ ap (λ (x : List PlainSection). record { sections = x; left = [] }) (append_assoc front (having t word ds ∷ []) sections)

-- Whatever the tokens spell, if these are its first declarations, then the rest of the tokens and the other declarations end its sections.
pub record IsFilled (tokens : List Token) (trees : List PlainDecl) (rest : List Token) (sections : List PlainSection) : Type 0 where
  pub ends : (text : List ℕ) (spec : PlainSpec) (others : List PlainDecl) → SpellsSpec text spec tokens → trees ++ others ≡ declarations_in spec.sections
      → past_all rest (record { sections = sections; left = others }) ≡ record { sections = spec.sections; left = [] }

pub nothing_filled : (tokens : List Token) → IsFilled tokens [] tokens []
nothing_filled tokens = record {
  ends = λ text spec others spelled e. ap (λ (x : List PlainDecl). past_all tokens (record { sections = []; left = x })) e ∙ past_sections [] spelled.all_sections;
}

-- a section's word begins one
pub filled_word : {tokens rest : List Token} {trees : List PlainDecl} {sections made : List PlainSection} (t : Token) (word : SectionWord) → section_word t.kind ≡ Some word
    → made ≡ sections ++ having t word [] ∷ [] → IsFilled tokens trees (t ∷ rest) sections → IsFilled tokens trees rest made
filled_word {tokens = tokens} {rest = rest} {trees = trees} {sections = sections} t word e is filled =
    subst (IsFilled tokens trees rest) (sym is)
    (record { ends = λ text spec others spelled whole. sym (past_word t word rest sections others e) ∙ filled.ends text spec others spelled whole })

-- at a `;` the next declaration goes into the last one
pub filled_end : {tokens rest : List Token} {trees : List PlainDecl} {sections made : List PlainSection} (t : Token) (tree : PlainDecl) → section_word t.kind ≡ None → is_semicolon t.kind ≡ true
    → made ≡ with_last tree sections → IsFilled tokens trees (t ∷ rest) sections → IsFilled tokens (trees ++ tree ∷ []) rest made
filled_end {tokens = tokens} {rest = rest} {trees = trees} {sections = sections} t tree e f is filled =
    let left : List PlainDecl → Built = λ others. record { sections = sections; left = tree ∷ others } in
    let put : (others : List PlainDecl) → past_all (t ∷ rest) (left others) ≡ past_all rest (record { sections = with_last tree sections; left = others }) = λ others.
    ap (λ (o : Option SectionWord). past_all rest (past o (is_semicolon t.kind) t (left others))) e ∙ ap (λ (b : Bool). past_all rest (past None b t (left others))) f in
    subst (IsFilled tokens (trees ++ tree ∷ []) rest) (sym is)
    (record { ends = λ text spec others spelled whole. sym (put others) ∙ filled.ends text spec (tree ∷ others) spelled (sym (append_assoc trees (tree ∷ []) others) ∙ whole) })

-- another token does nothing
pub filled_other : {tokens rest : List Token} {trees : List PlainDecl} {sections : List PlainSection} (t : Token) → section_word t.kind ≡ None → is_semicolon t.kind ≡ false
    → IsFilled tokens trees (t ∷ rest) sections → IsFilled tokens trees rest sections
filled_other {rest = rest} {sections = sections} t e f filled =
    let left : List PlainDecl → Built = λ others. record { sections = sections; left = others } in
    let same : (others : List PlainDecl) → past_all (t ∷ rest) (left others) ≡ past_all rest (left others) = λ others.
    ap (λ (o : Option SectionWord). past_all rest (past o (is_semicolon t.kind) t (left others))) e ∙ ap (λ (b : Bool). past_all rest (past None b t (left others))) f in
    record { ends = λ text spec others spelled whole. sym (same others) ∙ filled.ends text spec others spelled whole }

-- when all declarations are in their sections, these are what the tokens spell
pub all_filled : {tokens : List Token} {trees : List PlainDecl} {sections : List PlainSection} → IsFilled tokens trees [] sections
    → (text : List ℕ) (spec : PlainSpec) → SpellsSpec text spec tokens → trees ≡ declarations_in spec.sections → record { sections = sections } ≡ spec
all_filled {trees = trees} filled text spec spelled e =
    ap (λ (b : Built). record { sections = b.sections }) (filled.ends text spec [] spelled (append-nil trees ∙ e))

-- a section that has the declarations of another one and one more
one_longer : (section made : Section) (tree : Decl) → made.span ≡ section.span → made.word ≡ section.word → made.declarations.items ≡ section.declarations.items ++ tree ∷ []
    → section_of made ≡ lengthened (section_of section) (plain_decl tree)
one_longer section made tree e f g =
    let trees : map plain_decl made.declarations.items ≡ map plain_decl section.declarations.items ++ plain_decl tree ∷ [] = ap (map plain_decl) g ∙ map-append plain_decl section.declarations.items (tree ∷ []) in
    ap (λ (x : Span). record { span = x; word = made.word; declarations = map plain_decl made.declarations.items }) e
    ∙ ap (λ (x : SectionWord). record { span = section.span; word = x; declarations = map plain_decl made.declarations.items }) f
    ∙ ap (λ (x : List PlainDecl). record { span = section.span; word = section.word; declarations = x }) trees

-- a section with one more declaration takes the place of the last one
pub put_last : (sections : List Section) (at : ℕ) (tree : Decl) (last made : Section) → at + 1 ≡ length sections → last ≡ slice_index_or sections at last
    → made.span ≡ last.span → made.word ≡ last.word → made.declarations.items ≡ last.declarations.items ++ tree ∷ []
    → map section_of (slice_set sections at made) ≡ with_last (plain_decl tree) (map section_of sections)
put_last [] at tree last made n i e f g = absurd (omega (arith, n))
put_last (x ∷ []) zero tree last made n i e f g =
    ap (λ (s : PlainSection). s ∷ []) (one_longer last made tree e f g ∙ ap (λ (s : Section). lengthened (section_of s) (plain_decl tree)) i)
put_last (x ∷ []) (suc at) tree last made n i e f g = absurd (omega (arith, n))
put_last (x ∷ y ∷ sections) zero tree last made n i e f g = absurd (omega (arith, n))
put_last (x ∷ y ∷ sections) (suc at) tree last made n i e f g =
    ap (λ (s : List PlainSection). section_of x ∷ s) (put_last (y ∷ sections) at tree last made (omega (arith, n)) i e f g)
