-- The copied sections of a text spell its declarations.
use Rattle.std.proofs.Common.{◌≡◌, ◌-◌, ◌&&◌, ◌++◌, ℕ, suc, Bool, true, false, cond, List, [], ◌∷◌, All, map, get_or, length, take, drop, refl, sym, ap, ap₂, ◌∙◌, subst}
use Rattle.std.specs.Prelude.{None}
use Rattle.std.specs.List.{list_all, AllByRecursion, flat_map}
use Rattle.std.proofs.lemmas.Grind.{flat_map-append}
use Rattle.std.proofs.lemmas.List.Elements.{All-head, All-tail}
use Rattle.mcrl2_lexer.specs.declared.kind.Kind.{Kind}
use Rattle.mcrl2_lexer.specs.declared.kind.Kind.TheVariants as kind_
use Rattle.mcrl2_lexer.specs.declared.token.Token.{Token}
use Rattle.mcrl2_lexer.specs.Words.{is_space}
use Rattle.mcrl2_lexer.specs.Tokens.{IsToken, IsAccepted}
use Rattle.mcrl2_lexer.specs.Lexing.{Lexes, nothing, after_space, after_comment, after_token}
use Rattle.mcrl2_syntax.specs.declared.declaration.SectionWord.{SectionWord}
use Rattle.mcrl2_syntax.specs.declared.declaration.SectionWord.TheVariants as sections
use Rattle.mcrl2_syntax.specs.Words.{span_of}
use Rattle.mcrl2_syntax.specs.Declarations as trees
use Rattle.mcrl2_syntax.specs.Declarations.{PlainDecl, PlainSection, PlainSpec}
use Rattle.mcrl2_syntax.specs.Copied.{has_declarations, word_is_copied, is_copied}
use Rattle.mcrl2_syntax.specs.SpelledDeclarations.{SpellsDecl, section_word, IsInside, SpellsDecls, no_decls, more_decls, no_sections, more_sections, SpellsSpec}
use Rattle.mcrl2_syntax.specs.SpelledDeclarations as spelled
use Rattle.sort_table.specs.BareDeclarations.{Declaration, bare_declaration, bare_section, declarations_in}
use Rattle.sort_table.specs.PlacedSections.{word_of_declaration, IsPlacedSection}
use Rattle.sort_table.proofs.SpelledPlaces.{spelled_specs_are_placed}
use Rattle.sort_table.specs.BareProcesses.{Process}
use Rattle.sort_checker.specs.FullVocabularies.{Written, process_by, processes_in}
use Rattle.sort_checker.specs.Systems.{initial_by}
use Rattle.lps_printer.specs.Pieces.{bytes_of, is_quiet, StandApart, Says, says_none, says_more}
use Rattle.lps_printer.specs.CopiedTokens.{Copied, AreCopied, copied_behind, copied}
use Rattle.lps_printer.specs.CopyLaws.{Alike, alike_none, alike_more, declares_data}
use Rattle.lps_printer.specs.TextSections.{IsDeclared, inside_kind, all_inside, Declares, DeclareAll, no_declarations, one_declaration, AreSections, no_sections_left, one_section}
use Rattle.lps_printer.specs.CopiedSections.{further_line, copied_declaration, copied_declarations, copied_section, kept_sections, copied_sections}
use Rattle.lps_printer.specs.WholeTexts.{HaveNoProcess}
use Rattle.lps_printer.specs.SpelledSections.{CopiedSectionsSpellBack}
use Rattle.lps_printer.proofs.SpelledTokens.{said}
use Rattle.lps_printer.proofs.SpelledDeclarationTokens.{declaration_said}
use Rattle.lps_printer.proofs.CopiedTokens.{copied_apart}
use Rattle.lps_printer.proofs.CopiedDeclarations.{declaration_copies_spell_the_same}

-- ---- the tokens of a text can be copied
lexed_are_copied : (text : List ℕ) (at to : ℕ) (tokens : List Token) → Lexes text at tokens to → All (IsAccepted text) tokens → AreCopied (said text tokens)
lexed_are_copied text at to tokens nothing all = tt
lexed_are_copied text at to tokens (after_space inside white more) all = lexed_are_copied text (suc at) to tokens more all
lexed_are_copied text at to tokens (after_comment {next = next} further comment more) all = lexed_are_copied text next to tokens more all
lexed_are_copied text at to tokens (after_token {first = first} {others = others} start some longest more) all =
    let accepted = All-head (IsAccepted text) first others all in (
      record { token = subst (λ (from : ℕ). IsToken (take (first.end - from) (drop from text)) first.kind) (sym start) longest.token; kept = accepted.kept; fits = accepted.fits },
      lexed_are_copied text first.end to others more (All-tail (IsAccepted text) first others all),
    )

-- so can a front of them, and what stands behind it
said_front : (text : List ℕ) (front rest : List Token) → AreCopied (said text (front ++ rest)) → AreCopied (said text front)
said_front text [] rest h = tt
said_front text (t ∷ front) rest h = (h.0, said_front text front rest h.1)

said_back : (text : List ℕ) (front rest : List Token) → AreCopied (said text (front ++ rest)) → AreCopied (said text rest)
said_back text [] rest h = h
said_back text (t ∷ front) rest h = said_back text front rest h.1

-- ---- a declaration
all_apart : (gap : List ℕ) → list_all is_space gap ≡ true → (ts : List Copied) → AreCopied ts → StandApart (copied gap ts) (10 ∷ [])
all_apart gap g [] h = refl
all_apart gap g (t ∷ ts) h = copied_apart gap t ts (10 ∷ []) g h.0 h.1 refl refl

begins_quiet : (b : ℕ) (gap : List ℕ) → is_quiet b ≡ true → (ts : List Copied) → is_quiet (get_or (bytes_of (copied (b ∷ gap) ts) (10 ∷ [])) 0 0) ≡ true
begins_quiet b gap q [] = refl
begins_quiet b gap q (t ∷ ts) = q

kind_inside : (k : Kind) → (k ≡ kind_.Semicolon → ⊥) → section_word k ≡ None → inside_kind k ≡ true
kind_inside kind_.Semicolon s n = absurd (s refl)
kind_inside kind_.Sort s n = absurd cc
kind_inside kind_.Cons s n = absurd cc
kind_inside kind_.Map s n = absurd cc
kind_inside kind_.Var s n = absurd cc
kind_inside kind_.Eqn s n = absurd cc
kind_inside kind_.Act s n = absurd cc
kind_inside kind_.Proc s n = absurd cc
kind_inside kind_.Init s n = absurd cc
kind_inside _ s n = refl

token_inside : (t : Token) → IsInside t → inside_kind t.kind ≡ true
token_inside t h = kind_inside t.kind h.no_semicolon h.no_section

behind_inside : (text : List ℕ) (k : Kind) (ts : List Token) → All IsInside ts → all_inside (copied_behind k (said text ts)) ≡ true
behind_inside text k [] h = refl
behind_inside text k (t ∷ ts) h = ap₂ (λ (a b : Bool). a && b) (token_inside t (All-head IsInside t ts h)) (behind_inside text t.kind ts (All-tail IsInside t ts h))

said_inside : (text : List ℕ) (gap : List ℕ) (ts : List Token) → All IsInside ts → all_inside (copied gap (said text ts)) ≡ true
said_inside text gap [] h = refl
said_inside text gap (t ∷ ts) h = ap₂ (λ (a b : Bool). a && b) (token_inside t (All-head IsInside t ts h)) (behind_inside text t.kind ts (All-tail IsInside t ts h))

-- tokens that say what is copied are alike
behind_alike : (text other : List ℕ) (k : Kind) (ts us : List Token) → Says other (copied_behind k (said text ts)) us → Alike text other ts us
behind_alike text other k [] us says_none = alike_none
behind_alike text other k (t ∷ ts) us (says_more {ts = vs} h s more) = alike_more (sym h) (sym s) (behind_alike text other t.kind ts vs more)

said_alike : (text other : List ℕ) (gap : List ℕ) (ts us : List Token) → Says other (copied gap (said text ts)) us → Alike text other ts us
said_alike text other gap [] us says_none = alike_none
said_alike text other gap (t ∷ ts) us (says_more {ts = vs} h s more) = alike_more (sym h) (sym s) (behind_alike text other t.kind ts vs more)

copy_reads : (text : List ℕ) (word : SectionWord) (d : PlainDecl) (ts : List Token) (gap : List ℕ) → declares_data word ≡ true → SpellsDecl text word d ts → (other : List ℕ) (us : List Token) → Says other (copied gap (said text ts)) us → IsDeclared other word us (bare_declaration d)
copy_reads text word d ts gap g spells other us says =
    let c = declaration_copies_spell_the_same text other word ts us d g spells (said_alike text other gap ts us says) in record { tree = c.tree; spells = c.spells; is = c.is }

-- behind white space
copy_declares : (text : List ℕ) (word : SectionWord) (d : PlainDecl) (ts : List Token) (b : ℕ) (gap : List ℕ) → is_quiet b ≡ true → list_all is_space (b ∷ gap) ≡ true → declares_data word ≡ true → SpellsDecl text word d ts → AreCopied (said text ts) → All IsInside ts
    → Declares word (copied_declaration (b ∷ gap) d) (bare_declaration d)
copy_declares text word d ts b gap q white g spells h inside = subst (λ (xs : List Copied). Declares word (copied (b ∷ gap) xs) (bare_declaration d)) (sym (declaration_said text word d ts g spells h)) (record {
  apart = all_apart (b ∷ gap) white (said text ts) h;
  spaced = begins_quiet b gap q (said text ts);
  inside = said_inside text (b ∷ gap) ts inside;
  reads = λ other us says. copy_reads text word d ts (b ∷ gap) g spells other us says;
})

-- ---- the declarations of a section
rest_copied : (text : List ℕ) (word : SectionWord) (ds : List PlainDecl) (ts r : List Token) → SpellsDecls text word ds ts r → AreCopied (said text ts) → AreCopied (said text r)
rest_copied text word ds ts r no_decls h = h
rest_copied text word ds ts r (more_decls {ds = es} {front = front} {us = us} cut spells more) h =
    rest_copied text word es us r more (said_back text front (cut.sign ∷ us) (subst (λ (xs : List Token). AreCopied (said text xs)) cut.is h)).1

further_declare : (text : List ℕ) (word : SectionWord) (ds : List PlainDecl) (ts r : List Token) → declares_data word ≡ true → SpellsDecls text word ds ts r → AreCopied (said text ts) → DeclareAll word (map (copied_declaration further_line) ds) (map bare_declaration ds)
further_declare text word ds ts r g no_decls h = no_declarations
further_declare text word ds ts r g (more_decls {d = d} {ds = es} {front = front} {us = us} cut spells more) h =
    let parted = subst (λ (xs : List Token). AreCopied (said text xs)) cut.is h in
    one_declaration (copy_declares text word d front 10 (32 ∷ 32 ∷ []) refl refl g spells (said_front text front (cut.sign ∷ us) parted) cut.inside) (further_declare text word es us r g more (said_back text front (cut.sign ∷ us) parted).1)

all_declare : (text : List ℕ) (word : SectionWord) (ds : List PlainDecl) (ts r : List Token) → declares_data word ≡ true → SpellsDecls text word ds ts r → AreCopied (said text ts) → DeclareAll word (copied_declarations ds) (map bare_declaration ds)
all_declare text word ds ts r g no_decls h = no_declarations
all_declare text word ds ts r g (more_decls {d = d} {ds = es} {front = front} {us = us} cut spells more) h =
    let parted = subst (λ (xs : List Token). AreCopied (said text xs)) cut.is h in
    one_declaration (copy_declares text word d front 32 [] refl refl g spells (said_front text front (cut.sign ∷ us) parted) cut.inside) (further_declare text word es us r g more (said_back text front (cut.sign ∷ us) parted).1)

-- ---- the sections
second_true : (a b : Bool) → (a && b) ≡ true → b ≡ true
second_true true b h = h
second_true false b h = absurd cc

word_declares : (word : SectionWord) (behind : List PlainSection) → word_is_copied word behind ≡ true → declares_data word ≡ true
word_declares sections.Sort behind h = refl
word_declares sections.Cons behind h = refl
word_declares sections.Map behind h = refl
word_declares sections.Var behind h = refl
word_declares sections.Eqn behind h = refl
word_declares sections.Act behind h = refl
word_declares sections.Proc behind h = absurd cc
word_declares sections.Init behind h = absurd cc

-- a section that is copied declares data
kept_declares : (s : PlainSection) (behind : List PlainSection) → is_copied (s ∷ behind) ≡ true → declares_data s.word ≡ true
kept_declares s behind h = word_declares s.word behind (second_true (has_declarations s) (word_is_copied s.word behind) h)

one_copied : (b : Bool) (s : PlainSection) (behind : List PlainSection) → (b ≡ true → DeclareAll s.word (copied_declarations s.declarations) (map bare_declaration s.declarations)) → AreSections (copied_sections behind) (map bare_section (kept_sections behind))
    → AreSections (map copied_section (cond b (s ∷ kept_sections behind) (kept_sections behind))) (map bare_section (cond b (s ∷ kept_sections behind) (kept_sections behind)))
one_copied true s behind h more = one_section refl (h refl) more
one_copied false s behind h more = more

sections_are_copied : (text : List ℕ) (ss : List PlainSection) (ts : List Token) → spelled.SpellsSections text ss ts → AreCopied (said text ts) → AreSections (copied_sections ss) (map bare_section (kept_sections ss))
sections_are_copied text ss ts no_sections h = no_sections_left
sections_are_copied text ss ts (more_sections {t = t} {word = word} {ds = ds} {sections = behind} {ts = us} {r = r} k decls more) h =
    let s : PlainSection = record { span = span_of t t; word = word; declarations = ds } in
    one_copied (is_copied (s ∷ behind)) s behind (λ e. all_declare text word ds us r (kept_declares s behind e) decls h.1) (sections_are_copied text behind r more (rest_copied text word ds us r decls h.1))

-- ---- none of them is a process
-- no process and no start stands among these
pub record NoProcessAmong (ds : List Declaration) : Type 0 where
  pub definitions : processes_in ds ≡ []
  pub starts : flat_map initial_by ds ≡ []

other_word : (v w : SectionWord) → v ≡ w → declares_data w ≡ true → declares_data v ≡ false → ⊥
other_word v w e h k = let f : declares_data v ≡ true = ap declares_data e ∙ h in let never : true ≡ false = sym f ∙ k in cc

no_process_by : (d : PlainDecl) (w : SectionWord) → word_of_declaration d ≡ w → declares_data w ≡ true → (process_by (bare_declaration d) ≡ []) × (initial_by (bare_declaration d) ≡ [])
no_process_by (trees.sorts_decl span ns) w e h = (refl, refl)
no_process_by (trees.alias_decl span n s) w e h = (refl, refl)
no_process_by (trees.struct_decl span n cs) w e h = (refl, refl)
no_process_by (trees.cons_decl span ns ss to) w e h = (refl, refl)
no_process_by (trees.map_decl span ns ss to) w e h = (refl, refl)
no_process_by (trees.vars_decl span gs) w e h = (refl, refl)
no_process_by (trees.equation_decl span c l r) w e h = (refl, refl)
no_process_by (trees.act_decl span ns ss) w e h = (refl, refl)
no_process_by (trees.proc_decl span p gs body) w e h = absurd (other_word sections.Proc w e h refl)
no_process_by (trees.init_decl span body) w e h = absurd (other_word sections.Init w e h refl)

no_process_there : (ds : List PlainDecl) (w : SectionWord) → AllByRecursion (λ (d : PlainDecl). word_of_declaration d ≡ w) ds → declares_data w ≡ true → NoProcessAmong (map bare_declaration ds)
no_process_there [] w p h = record { definitions = refl; starts = refl }
no_process_there (d ∷ ds) w p h =
    let one = no_process_by d w p.0 h in
    let more = no_process_there ds w p.1 h in
    record { definitions = ap₂ (λ (xs ys : List Written). xs ++ ys) one.0 more.definitions; starts = ap₂ (λ (xs ys : List Process). xs ++ ys) one.1 more.starts }

none_behind : {B : Type 0} (f : Declaration → List B) (xs ys : List Declaration) → flat_map f xs ≡ [] → flat_map f ys ≡ [] → flat_map f (xs ++ ys) ≡ []
none_behind {B = B} f xs ys h k = flat_map-append f xs ys ∙ ap₂ (λ (as_ bs : List B). as_ ++ bs) h k

one_kept : (b : Bool) (s : PlainSection) (behind : List PlainSection) → (b ≡ true → NoProcessAmong (map bare_declaration s.declarations)) → HaveNoProcess (map bare_section (kept_sections behind)) → HaveNoProcess (map bare_section (cond b (s ∷ kept_sections behind) (kept_sections behind)))
one_kept true s behind h more =
    let one = h refl in
    let ds = declarations_in (map bare_section (kept_sections behind)) in
    record { no_definition = none_behind process_by (map bare_declaration s.declarations) ds one.definitions more.no_definition; no_start = none_behind initial_by (map bare_declaration s.declarations) ds one.starts more.no_start }
one_kept false s behind h more = more

none_copied : (ss : List PlainSection) → AllByRecursion IsPlacedSection ss → HaveNoProcess (map bare_section (kept_sections ss))
none_copied [] p = record { no_definition = refl; no_start = refl }
none_copied (s ∷ ss) p = one_kept (is_copied (s ∷ ss)) s ss (λ e. no_process_there s.declarations s.word p.0 (kept_declares s ss e)) (none_copied ss p.1)

pub copied_sections_spell_back : CopiedSectionsSpellBack
copied_sections_spell_back text spec tokens has spells = record {
  are_sections = sections_are_copied text spec.sections tokens spells.all_sections (lexed_are_copied text 0 (length text) tokens has.lexes has.accepted);
  no_process = none_copied spec.sections (spelled_specs_are_placed text spec tokens spells);
}
