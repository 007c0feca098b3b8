-- Tokens whose declarations are all spelled spell a specification, and its declarations are their trees.
use Rattle.std.proofs.Common.{◌≡◌, ℕ, suc, ◌+◌, Bool, true, false, Option, None, Some, List, [], ◌∷◌, ◌++◌, ◌-◌, All, if◌then◌else◌, nat_lt, length, take, drop, slice_range, refl, ap, sym, ◌∙◌, subst, append_assoc, arith}
use Rattle.std.proofs.lemmas.Bool.{lt-ltb, le-ltb}
use Rattle.std.proofs.lemmas.Grind.{common_steps}
use Rattle.std.proofs.lemmas.List.Elements.{All-nil, All-cons, All-head, All-tail}
use Rattle.mcrl2_lexer.specs.declared.kind.Kind.{Kind}
use Rattle.mcrl2_lexer.specs.declared.kind.Kind.TheVariants as kind_
use Rattle.mcrl2_lexer.specs.declared.token.Token.{Token}
use Rattle.mcrl2_syntax.specs.declared.declaration.SectionWord.{SectionWord}
use Rattle.mcrl2_syntax.specs.Words.{span_of}
use Rattle.mcrl2_syntax.specs.Declarations.{PlainDecl, PlainSection, PlainSpec}
use Rattle.mcrl2_syntax.specs.SpelledDeclarations.{SpellsDecl, section_word, IsInside, SpellsDecls, no_decls, more_decls, SpellsSections, no_sections, more_sections, SpellsSpec}
use Rattle.mcrl2_parser.specs.declared.declaring.Declaration.{Declaration}
use Rattle.mcrl2_parser.specs.Sections.{is_semicolon, declarations_in}
use Rattle.mcrl2_parser.specs.Declarations.{SectionTokens, Parts, parts_of, with_first, with_piece_token, pieces_of, left_over, of_pieces, of_part, of_sections, declarations_of}
use Rattle.mcrl2_parser.specs.Faults.{IsSpelled, IsWhole, AreSpelled, none_spelled, more_spelled}
use Rattle.mcrl2_parser.proofs.CutSoFar.{HasNoEnd, parts_plain, parts_word}

semicolon_kind : (k : Kind) → is_semicolon k ≡ true → k ≡ kind_.Semicolon
semicolon_kind kind_.Identifier e = absurd cc
semicolon_kind kind_.Numeral e = absurd cc
semicolon_kind kind_.Sort e = absurd cc
semicolon_kind kind_.Cons e = absurd cc
semicolon_kind kind_.Map e = absurd cc
semicolon_kind kind_.Var e = absurd cc
semicolon_kind kind_.Eqn e = absurd cc
semicolon_kind kind_.Act e = absurd cc
semicolon_kind kind_.Proc e = absurd cc
semicolon_kind kind_.Init e = absurd cc
semicolon_kind kind_.Struct e = absurd cc
semicolon_kind kind_.BoolWord e = absurd cc
semicolon_kind kind_.PosWord e = absurd cc
semicolon_kind kind_.NatWord e = absurd cc
semicolon_kind kind_.IntWord e = absurd cc
semicolon_kind kind_.ListWord e = absurd cc
semicolon_kind kind_.TrueWord e = absurd cc
semicolon_kind kind_.FalseWord e = absurd cc
semicolon_kind kind_.Div e = absurd cc
semicolon_kind kind_.Mod e = absurd cc
semicolon_kind kind_.In e = absurd cc
semicolon_kind kind_.Delta e = absurd cc
semicolon_kind kind_.Tau e = absurd cc
semicolon_kind kind_.Sum e = absurd cc
semicolon_kind kind_.Allow e = absurd cc
semicolon_kind kind_.Block e = absurd cc
semicolon_kind kind_.Hide e = absurd cc
semicolon_kind kind_.Rename e = absurd cc
semicolon_kind kind_.Comm e = absurd cc
semicolon_kind kind_.LeftParen e = absurd cc
semicolon_kind kind_.RightParen e = absurd cc
semicolon_kind kind_.LeftBracket e = absurd cc
semicolon_kind kind_.RightBracket e = absurd cc
semicolon_kind kind_.LeftBrace e = absurd cc
semicolon_kind kind_.RightBrace e = absurd cc
semicolon_kind kind_.Comma e = absurd cc
semicolon_kind kind_.Semicolon e = refl
semicolon_kind kind_.Colon e = absurd cc
semicolon_kind kind_.Equals e = absurd cc
semicolon_kind kind_.Question e = absurd cc
semicolon_kind kind_.Hash e = absurd cc
semicolon_kind kind_.Exclamation e = absurd cc
semicolon_kind kind_.Dot e = absurd cc
semicolon_kind kind_.Plus e = absurd cc
semicolon_kind kind_.Minus e = absurd cc
semicolon_kind kind_.Star e = absurd cc
semicolon_kind kind_.Bar e = absurd cc
semicolon_kind kind_.BarBar e = absurd cc
semicolon_kind kind_.AndAnd e = absurd cc
semicolon_kind kind_.Implies e = absurd cc
semicolon_kind kind_.EqualsEquals e = absurd cc
semicolon_kind kind_.NotEquals e = absurd cc
semicolon_kind kind_.Less e = absurd cc
semicolon_kind kind_.LessEquals e = absurd cc
semicolon_kind kind_.Greater e = absurd cc
semicolon_kind kind_.GreaterEquals e = absurd cc
semicolon_kind kind_.Prepend e = absurd cc
semicolon_kind kind_.Append e = absurd cc
semicolon_kind kind_.Concat e = absurd cc
semicolon_kind kind_.Arrow e = absurd cc
semicolon_kind kind_.Else e = absurd cc
semicolon_kind kind_.Dist e = absurd cc
semicolon_kind kind_.Glob e = absurd cc
semicolon_kind kind_.RealWord e = absurd cc
semicolon_kind kind_.SetWord e = absurd cc
semicolon_kind kind_.BagWord e = absurd cc
semicolon_kind kind_.FSetWord e = absurd cc
semicolon_kind kind_.FBagWord e = absurd cc
semicolon_kind kind_.Lambda e = absurd cc
semicolon_kind kind_.Forall e = absurd cc
semicolon_kind kind_.Exists e = absurd cc
semicolon_kind kind_.Whr e = absurd cc
semicolon_kind kind_.End e = absurd cc
semicolon_kind kind_.At e = absurd cc
semicolon_kind kind_.Before e = absurd cc
semicolon_kind kind_.Slash e = absurd cc
semicolon_kind kind_.LeftMerge e = absurd cc

-- No token begins a section.
abbrev HasNoWord : List Token → Type 0
HasNoWord [] = Unit {0}
HasNoWord (t ∷ ts) = (section_word t.kind ≡ None) × HasNoWord ts

-- The tokens are pieces, each with its semicolon, and what is left behind the last one.
data ArePieces : List Token → List (List Token) → List Token → Type 0 where
  a_left : {left : List Token} → HasNoEnd left → ArePieces left [] left
  a_piece : {piece ts us : List Token} {pieces : List (List Token)} {left : List Token} (t : Token) → HasNoEnd piece → t.kind ≡ kind_.Semicolon → ArePieces us pieces left
      → ts ≡ piece ++ t ∷ us → ArePieces ts (piece ∷ pieces) left

begins_piece : {t : Token} {ts : List Token} {pieces : List (List Token)} {left : List Token} → is_semicolon t.kind ≡ false → ArePieces ts pieces left
    → ArePieces (t ∷ ts) (with_first t pieces left).ended (with_first t pieces left).left
begins_piece e (a_left h) = a_left (e, h)
begins_piece {t = t} e (a_piece v h k a is) = a_piece v (e, h) k a (ap (λ (x : List Token). t ∷ x) is)

are_pieces : (ts : List Token) → ArePieces ts (pieces_of ts).ended (pieces_of ts).left
are_pieces [] = a_left tt
are_pieces (t ∷ ts) =
    (elim (is_semicolon t.kind) as (λ b. is_semicolon t.kind ≡ b → ArePieces (t ∷ ts) (with_piece_token b t (pieces_of ts)).ended (with_piece_token b t (pieces_of ts)).left) [
      | true ↦ λ e. a_piece t tt (semicolon_kind t.kind e) (are_pieces ts) refl
      | false ↦ λ e. begins_piece e (are_pieces ts)
    ]) refl

-- The tokens are sections, each with its word.
data AreSections : List Token → List SectionTokens → Type 0 where
  no_more : AreSections [] []
  a_section : {t : Token} {word : SectionWord} {ts us : List Token} {parts : List SectionTokens} → section_word t.kind ≡ Some word → HasNoWord ts → AreSections us parts
      → AreSections (t ∷ ts ++ us) (record { section = word; tokens = ts } ∷ parts)

-- the tokens up to the first word of a section, and the sections
record Parted (ts front : List Token) (sections : List SectionTokens) : Type 0 where
  pub rest : List Token
  pub is : ts ≡ front ++ rest
  pub free : HasNoWord front
  pub sections_at : AreSections rest sections

parted_plain : {t : Token} {ts : List Token} → section_word t.kind ≡ None → Parted ts (parts_of ts).front (parts_of ts).sections → Parted (t ∷ ts) (t ∷ (parts_of ts).front) (parts_of ts).sections
parted_plain {t = t} e p = record { rest = p.rest; is = ap (λ (x : List Token). t ∷ x) p.is; free = (e, p.free); sections_at = p.sections_at }

parted_word : {t : Token} {ts : List Token} (word : SectionWord) → section_word t.kind ≡ Some word → Parted ts (parts_of ts).front (parts_of ts).sections
    → Parted (t ∷ ts) [] (record { section = word; tokens = (parts_of ts).front } ∷ (parts_of ts).sections)
parted_word {t = t} {ts = ts} word e p = record {
  rest = t ∷ ts;
  is = refl;
  free = tt;
  sections_at = subst (λ (x : List Token). AreSections (t ∷ x) (record { section = word; tokens = (parts_of ts).front } ∷ (parts_of ts).sections)) (sym p.is) (a_section e p.free p.sections_at);
}

parted : (ts : List Token) → Parted ts (parts_of ts).front (parts_of ts).sections
parted [] = record { rest = []; is = refl; free = tt; sections_at = no_more }
parted (t ∷ ts) =
    (elim (section_word t.kind) as (λ o. section_word t.kind ≡ o → Parted (t ∷ ts) (parts_of (t ∷ ts)).front (parts_of (t ∷ ts)).sections) [
      | None ↦ λ e. subst (λ (p : Parts). Parted (t ∷ ts) p.front p.sections) (sym (parts_plain t ts e)) (parted_plain e (parted ts))
      | Some word ↦ λ e. subst (λ (p : Parts). Parted (t ∷ ts) p.front p.sections) (sym (parts_word t ts word e)) (parted_word word e (parted ts))
    ]) refl

no_semicolon : (k : Kind) → is_semicolon k ≡ false → k ≡ kind_.Semicolon → ⊥
no_semicolon k e f = let g = ap is_semicolon f in cc

pub outside_semicolon : (k : Kind) → (k ≡ kind_.Semicolon → ⊥) → is_semicolon k ≡ false
outside_semicolon k h =
    (elim (is_semicolon k) as (λ b. is_semicolon k ≡ b → b ≡ false) [
      | true ↦ λ e. absurd (h (semicolon_kind k e))
      | false ↦ λ e. refl
    ]) refl

inside : (ts : List Token) → HasNoEnd ts → HasNoWord ts → All IsInside ts
inside [] h n = All-nil IsInside
inside (t ∷ ts) h n = All-cons IsInside t ts (record { no_semicolon = no_semicolon t.kind h.0; no_section = n.0 }) (inside ts h.1 n.1)

front_free : (piece ts : List Token) → HasNoWord (piece ++ ts) → HasNoWord piece
front_free [] ts n = tt
front_free (t ∷ piece) ts n = (n.0, front_free piece ts n.1)

rest_free : (piece : List Token) (t : Token) (ts : List Token) → HasNoWord (piece ++ t ∷ ts) → HasNoWord ts
rest_free [] t ts n = n.1
rest_free (u ∷ piece) t ts n = rest_free piece t ts n.1

drop_front : (before after : List Token) → drop (length before) (before ++ after) ≡ after
drop_front [] after = refl
drop_front (t ∷ before) after = drop_front before after

take_front : (piece after : List Token) → take (length piece) (piece ++ after) ≡ piece
take_front [] after = refl
take_front (t ∷ piece) after = ap (λ (x : List Token). t ∷ x) (take_front piece after)

-- the tokens of a piece are those at its place
tokens_at : (all before piece after : List Token) (at : ℕ) → all ≡ before ++ (piece ++ after) → length before ≡ at → slice_range all at (at + length piece) ≡ piece
tokens_at all before piece after at e h =
    let size : at + length piece - at ≡ length piece = omega arith in
    ap (λ (n : ℕ). take n (drop at all)) size ∙ ap (take (length piece)) (ap (drop at) e ∙ ap (λ (n : ℕ). drop n (before ++ (piece ++ after))) (sym h) ∙ drop_front before (piece ++ after)) ∙ take_front piece after

-- the trees of the declarations in front, and of those behind
record Halves (text : List ℕ) (all : List Token) (xs ys : List Declaration) (trees : List PlainDecl) : Type 0 where
  pub first : List PlainDecl
  pub behind : List PlainDecl
  pub is : trees ≡ first ++ behind
  pub first_spelled : AreSpelled text all xs first
  pub behind_spelled : AreSpelled text all ys behind

halves : {text : List ℕ} {all : List Token} (xs ys : List Declaration) {trees : List PlainDecl} → AreSpelled text all (xs ++ ys) trees → Halves text all xs ys trees
halves [] ys {trees = trees} h = record { first = []; behind = trees; is = refl; first_spelled = none_spelled; behind_spelled = h }
halves (x ∷ xs) ys (more_spelled {tree = tree} a h) =
    let rest = halves xs ys h in
    record { first = tree ∷ rest.first; behind = rest.behind; is = ap (λ (z : List PlainDecl). tree ∷ z) rest.is; first_spelled = more_spelled a rest.first_spelled; behind_spelled = rest.behind_spelled }

no_tree : {text : List ℕ} {all : List Token} {trees : List PlainDecl} → AreSpelled text all [] trees → trees ≡ []
no_tree none_spelled = refl

-- what is left over isn't spelled
never_left : {text : List ℕ} {all : List Token} {over : Declaration} {trees : List PlainDecl} → over.is_ended ≡ false → AreSpelled text all (over ∷ []) trees → ⊥
never_left e (more_spelled a h) = let ended = sym e ∙ a.ended in cc

more_is_more : (n m : ℕ) → nat_lt n (n + suc m) ≡ true
more_is_more n m = lt-ltb n (n + suc m) (omega arith)

nothing_more : (n : ℕ) → nat_lt n (n + 0) ≡ false
nothing_more n = le-ltb n (n + 0) (omega arith)

-- nothing is left over where all declarations are spelled
none_left : (text : List ℕ) (all left : List Token) (section : Option SectionWord) (at : ℕ) {trees : List PlainDecl} → AreSpelled text all (left_over section at (at + length left)) trees
    → (left ≡ []) × (trees ≡ [])
none_left text all [] section at {trees = trees} h =
    let over : Declaration = record { section = section; start = at; end = at + 0; is_ended = false } in
    (refl, no_tree (subst (λ (b : Bool). AreSpelled text all (if b then over ∷ [] else []) trees) (nothing_more at) h))
none_left text all (t ∷ left) section at {trees = trees} h =
    let over : Declaration = record { section = section; start = at; end = at + suc (length left); is_ended = false } in
    absurd (never_left {over = over} refl (subst (λ (b : Bool). AreSpelled text all (if b then over ∷ [] else []) trees) (more_is_more at (length left)) h))

same_word : {a b : SectionWord} → Some a ≡ Some b → a ≡ b
same_word e = cc

its_decl : {text : List ℕ} {all piece : List Token} {s : SectionWord} {at : ℕ} {tree : PlainDecl}
    → IsSpelled text all (record { section = Some s; start = at; end = at + length piece; is_ended = true }) tree → slice_range all at (at + length piece) ≡ piece → SpellsDecl text s tree piece
its_decl {text = text} {piece = piece} {tree = tree} w e =
    subst (λ (x : SectionWord). SpellsDecl text x tree piece) (sym (same_word w.in_section)) (subst (λ (x : List Token). SpellsDecl text w.word tree x) e w.spells)

regroup : (before piece : List Token) (t : Token) (ts rest : List Token) → before ++ ((piece ++ t ∷ ts) ++ rest) ≡ (before ++ (piece ++ t ∷ [])) ++ (ts ++ rest)
regroup [] [] t ts rest = refl
regroup [] (u ∷ piece) t ts rest = ap (λ (x : List Token). u ∷ x) (regroup [] piece t ts rest)
regroup (b ∷ before) piece t ts rest = ap (λ (x : List Token). b ∷ x) (regroup before piece t ts rest)

place_behind : (before piece : List Token) (t : Token) (at : ℕ) → length before ≡ at → length (before ++ (piece ++ t ∷ [])) ≡ at + length piece + 1
place_behind before piece t at h = grind (arith, common_steps, h)

no_decls_left : {text : List ℕ} {s : SectionWord} (rest : List Token) {left : List Token} {trees : List PlainDecl} → left ≡ [] → trees ≡ [] → SpellsDecls text s trees (left ++ rest) rest
no_decls_left {text = text} {s = s} rest {left = left} e f =
    subst (λ (x : List PlainDecl). SpellsDecls text s x (left ++ rest) rest) (sym f) (subst (λ (x : List Token). SpellsDecls text s [] (x ++ rest) rest) (sym e) no_decls)

-- the pieces of a section, which begins at a place, spell the trees of its declarations
pieces_spelled : (text : List ℕ) (all : List Token) (s : SectionWord) {ts : List Token} {pieces : List (List Token)} {left : List Token} {trees : List PlainDecl} (before rest : List Token) (at : ℕ)
    → ArePieces ts pieces left → HasNoWord ts → all ≡ before ++ (ts ++ rest) → length before ≡ at → AreSpelled text all (of_pieces s at pieces left) trees → SpellsDecls text s trees (ts ++ rest) rest
pieces_spelled text all s before rest at (a_left {left = left} h) n e p w = let none = none_left text all left (Some s) at w in no_decls_left rest none.0 none.1
pieces_spelled text all s before rest at (a_piece {piece = piece} {us = ts} {pieces = pieces} {left = left} t h k a is) n e p (more_spelled {tree = tree} {trees = trees} first w) =
    let free : HasNoWord (piece ++ t ∷ ts) = subst HasNoWord is n in
    let stands : all ≡ before ++ ((piece ++ t ∷ ts) ++ rest) = e ∙ ap (λ (x : List Token). before ++ (x ++ rest)) is in
    let more : SpellsDecls text s trees (ts ++ rest) rest =
    pieces_spelled text all s (before ++ (piece ++ t ∷ [])) rest (at + length piece + 1) a (rest_free piece t ts free) (stands ∙ regroup before piece t ts rest) (place_behind before piece t at p) w in
    let there : slice_range all at (at + length piece) ≡ piece =
    tokens_at all before piece (t ∷ ts ++ rest) at (stands ∙ ap (λ (x : List Token). before ++ x) (append_assoc piece (t ∷ ts) rest)) p in
    subst (λ (x : List Token). SpellsDecls text s (tree ∷ trees) (x ++ rest) rest) (sym is)
    (more_decls (record { sign = t; is = append_assoc piece (t ∷ ts) rest; semicolon = k; inside = inside piece h (front_free piece (t ∷ ts) free) }) (its_decl first there) more)

-- sections that the tokens spell, with these trees as their declarations
pub record SpelledAs (text : List ℕ) (tokens : List Token) (trees : List PlainDecl) : Type 0 where
  pub sections : List PlainSection
  pub spelled : SpellsSections text sections tokens
  pub trees_are : trees ≡ declarations_in sections

-- the sections, the first of which begins at a place, spell sections
sections_spelled : (text : List ℕ) (all : List Token) {us : List Token} {parts : List SectionTokens} {trees : List PlainDecl} (before : List Token) (at : ℕ) → AreSections us parts → all ≡ before ++ us
    → length before ≡ at → AreSpelled text all (of_sections at parts) trees → SpelledAs text us trees
sections_spelled text all before at no_more e p w = record { sections = []; spelled = no_sections; trees_are = no_tree w }
sections_spelled text all before at (a_section {t = t} {word = word} {ts = ts} {us = us} {parts = parts} h n a) e p w =
    let two = halves (of_part (Some word) (at + 1) ts) (of_sections (at + 1 + length ts) parts) w in
    let first : SpellsDecls text word two.first (ts ++ us) us =
    pieces_spelled text all word (before ++ t ∷ []) us (at + 1) (are_pieces ts) n (e ∙ sym (append_assoc before (t ∷ []) (ts ++ us))) (grind (arith, common_steps, p)) two.first_spelled in
    let more : SpelledAs text us two.behind =
    sections_spelled text all (before ++ t ∷ ts) (at + 1 + length ts) a (e ∙ sym (append_assoc before (t ∷ ts) us)) (grind (arith, common_steps, p)) two.behind_spelled in
    record {
      sections = record { span = span_of t t; word = word; declarations = two.first } ∷ more.sections;
      spelled = more_sections h first more.spelled;
      trees_are = two.is ∙ ap (λ (x : List PlainDecl). two.first ++ x) more.trees_are;
    }

pub spelled_as : (text : List ℕ) (tokens : List Token) (trees : List PlainDecl) → AreSpelled text tokens (declarations_of tokens) trees → SpelledAs text tokens trees
spelled_as text tokens trees w =
    let front : List Token = (parts_of tokens).front in
    let sections : List SectionTokens = (parts_of tokens).sections in
    let two = halves (of_part None 0 front) (of_sections (length front) sections) w in
    let none = none_left text tokens front None 0 two.first_spelled in
    let p : Parted tokens front sections = parted tokens in
    let same : tokens ≡ p.rest = p.is ∙ ap (λ (x : List Token). x ++ p.rest) none.0 in
    let found : SpelledAs text p.rest two.behind = sections_spelled text tokens [] (length front) p.sections_at same (sym (ap length none.0)) two.behind_spelled in
    record {
      sections = found.sections;
      spelled = subst (λ (x : List Token). SpellsSections text found.sections x) (sym same) found.spelled;
      trees_are = two.is ∙ ap (λ (x : List PlainDecl). x ++ two.behind) none.1 ∙ found.trees_are;
    }

-- whole declarations have trees
trees_of_whole : (text : List ℕ) (all : List Token) (xs : List Declaration) → All (IsWhole text all) xs → (trees : List PlainDecl) × AreSpelled text all xs trees
trees_of_whole text all [] w = ([], none_spelled)
trees_of_whole text all (x ∷ xs) w =
    let first = All-head (IsWhole text all) x xs w in
    let more = trees_of_whole text all xs (All-tail (IsWhole text all) x xs w) in
    (first.tree ∷ more.0, more_spelled first.spelled more.1)

pub spelled : (text : List ℕ) (tokens : List Token) → All (IsWhole text tokens) (declarations_of tokens) → (spec : PlainSpec) × SpellsSpec text spec tokens
spelled text tokens w =
    let trees = trees_of_whole text tokens (declarations_of tokens) w in
    let found = spelled_as text tokens trees.0 trees.1 in
    (record { sections = found.sections }, record { all_sections = found.spelled })

-- one more declaration, and its tree
pub pushed : {text : List ℕ} {all : List Token} {xs : List Declaration} {trees : List PlainDecl} {x : Declaration} {tree : PlainDecl} → AreSpelled text all xs trees → IsSpelled text all x tree
    → AreSpelled text all (xs ++ x ∷ []) (trees ++ tree ∷ [])
pushed none_spelled a = more_spelled a none_spelled
pushed (more_spelled b h) a = more_spelled b (pushed h a)

-- what is made of the trees is what the tokens spell
pub made_spelled : {text : List ℕ} {tokens : List Token} {trees : List PlainDecl} {made : PlainSpec} → AreSpelled text tokens (declarations_of tokens) trees
    → ((x : List ℕ) (spec : PlainSpec) → SpellsSpec x spec tokens → trees ≡ declarations_in spec.sections → made ≡ spec) → SpellsSpec text made tokens
made_spelled {text = text} {tokens = tokens} {trees = trees} {made = made} w h =
    let found = spelled_as text tokens trees w in
    let spec : PlainSpec = record { sections = found.sections } in
    let spells : SpellsSpec text spec tokens = record { all_sections = found.spelled } in
    subst (λ (x : PlainSpec). SpellsSpec text x tokens) (sym (h text spec spells found.trees_are)) spells

-- what equal tokens of an equal text spell
pub moved_spelled : {text others : List ℕ} {tokens us : List Token} {made : PlainSpec} → text ≡ others → tokens ≡ us → SpellsSpec text made tokens → SpellsSpec others made us
moved_spelled {text = text} {us = us} {made = made} e f h = subst (λ (x : List ℕ). SpellsSpec x made us) e (subst (λ (x : List Token). SpellsSpec text made x) f h)
