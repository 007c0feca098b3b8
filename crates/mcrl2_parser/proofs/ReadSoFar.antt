-- What has been read of a text's tokens up to a place.
use Rattle.std.proofs.Common.{◌≡◌, ℕ, ◌+◌, ◌<◌, ◌≤◌, Bool, true, false, Option, Some, None, List, [], ◌∷◌, ◌++◌, All, if◌then◌else◌, nat_lt, length, drop, get_or, refl, ap, sym, ◌∙◌, subst, append_assoc, append-nil, arith}
use Rattle.std.proofs.Math.Seq.{drop-length}
use Rattle.std.proofs.lemmas.Grind.{common_steps}
use Rattle.std.proofs.lemmas.List.Elements.{All-nil, All-push}
use borrow.Author.Tests.{ltb-false}
use Rattle.mcrl2_lexer.specs.declared.token.Token.{Token}
use Rattle.mcrl2_syntax.specs.declared.declaration.SectionWord.{SectionWord}
use Rattle.mcrl2_syntax.specs.Declarations.{PlainDecl, PlainSection}
use Rattle.mcrl2_syntax.specs.SpelledDeclarations.{section_word, SpellsSpec}
use Rattle.mcrl2_parser.specs.declared.declaring.Declaration.{Declaration}
use Rattle.mcrl2_parser.specs.declared.faults.ParseFault.{ParseFault}
use Rattle.mcrl2_parser.specs.Sections.{is_semicolon, with_last, having}
use Rattle.mcrl2_parser.specs.Declarations.{left_over, ended_at, section_past, start_past, parts_of, declarations_of}
use Rattle.mcrl2_parser.specs.Faults.{IsSpelled, AreSpelled, none_spelled, IsSound, IsRefused, HasFault, is_init, init_number, init_numbers}
use Rattle.mcrl2_parser.proofs.BuiltSections.{IsFilled, nothing_filled, filled_word, filled_end, filled_other, all_filled}
use Rattle.mcrl2_parser.proofs.CutSoFar.{CutSoFar, begin, drop_at, passed, rest_of, all_cut}
use Rattle.mcrl2_parser.proofs.Refused.{has_fault, numbers_more}
use Rattle.mcrl2_parser.proofs.SpelledByDeclarations.{pushed, made_spelled}

-- The declarations that end in front of the place are read, and their trees stand in their sections. In front of the first section
-- the latter is told while nothing stands there: what does is refused.
pub record ReadSoFar (text : List ℕ) (tokens : List Token) (sections : List PlainSection) (inits : List ℕ) (section : Option SectionWord) (start at number : ℕ) : Type 0 where
  pub front : List Declaration
  pub trees : List PlainDecl
  pub cut : CutSoFar tokens front section start at
  pub spelled : AreSpelled text tokens front trees
  pub sound : All (IsSound text tokens) front
  pub numbered : number ≡ length front + 1
  pub few : number ≤ at + 1
  pub inits_are : inits ≡ init_numbers 1 front
  pub filled : (section ≡ None → start ≡ at) → IsFilled tokens trees (drop at tokens) sections

pub nothing_read : (text : List ℕ) (tokens : List Token) → ReadSoFar text tokens [] [] None 0 0 1
nothing_read text tokens = record {
  front = [];
  trees = [];
  cut = begin tokens;
  spelled = none_spelled;
  sound = All-nil (IsSound text tokens);
  numbered = refl;
  few = omega arith;
  inits_are = refl;
  filled = λ e. nothing_filled tokens;
}

nothing_left : (section : Option SectionWord) (start end : ℕ) → [] ≡ left_over section start end → nat_lt start end ≡ false
nothing_left section start end e = by_test (nat_lt start end) refl e
  where
    by_test : (b : Bool) → nat_lt start end ≡ b → ◌≡◌ {A = List Declaration} [] (if b then record { section = section; start = start; end = end; is_ended = false } ∷ [] else []) → nat_lt start end ≡ false
    by_test true t f = absurd cc
    by_test false t f = t

-- the declaration begins here where nothing is left over in front of this place
begins_here : {tokens : List Token} {front : List Declaration} {section : Option SectionWord} {start at : ℕ} → CutSoFar tokens front section start at → [] ≡ left_over section start at → start ≡ at
begins_here {section = section} {start = start} {at = at} cut e =
    let over : at ≤ start = ltb-false start at (nothing_left section start at e) in
    omega (arith, cut.place, over)

-- past a token that ends nothing and begins no section
pub past_plain : {text : List ℕ} {tokens : List Token} {sections : List PlainSection} {inits : List ℕ} {next : Option SectionWord} {m at number : ℕ} (section : Option SectionWord) (start : ℕ) (d : Token) (ends : Bool)
    → ReadSoFar text tokens sections inits section start at number → at < length tokens → None ≡ section_word (get_or tokens at d).kind → ends ≡ is_semicolon (get_or tokens at d).kind
    → [] ≡ ended_at None ends section start at → next ≡ section → m ≡ start_past None ends section start at → ReadSoFar text tokens sections inits next m (at + 1) number
past_plain {tokens = tokens} {sections = sections} {next = next} {m = m} {at = at} section start d ends read inside word semi none e f = record {
  front = read.front;
  trees = read.trees;
  cut = passed section d None ends read.cut inside word semi (sym (append-nil read.front) ∙ ap (λ (xs : List Declaration). read.front ++ xs) none) e f;
  spelled = read.spelled;
  sound = read.sound;
  numbered = read.numbered;
  few = omega (arith, read.few);
  inits_are = read.inits_are;
  filled = λ unbegun. by_section section ends read.filled read.cut.place none e f unbegun semi;
}
  where
    token : Token
    token = get_or tokens at d

    by_section : (s : Option SectionWord) (b : Bool) → ((s ≡ None → start ≡ at) → IsFilled tokens read.trees (drop at tokens) sections) → start + length read.cut.piece ≡ at → [] ≡ ended_at None b s start at
        → next ≡ s → m ≡ start_past None b s start at → (next ≡ None → m ≡ at + 1) → b ≡ is_semicolon token.kind → IsFilled tokens read.trees (drop (at + 1) tokens) sections
    by_section None true filled place none e f unbegun semi = absurd (omega (arith, unbegun e, f, place))
    by_section None false filled place none e f unbegun semi = absurd (omega (arith, unbegun e, f, place))
    by_section (Some s) true filled place none e f unbegun semi = absurd cc
    by_section (Some s) false filled place none e f unbegun semi =
        filled_other token (sym word) (sym semi) (subst (λ (xs : List Token). IsFilled tokens read.trees xs sections) (drop_at tokens at d inside) (filled (λ x. absurd cc)))

-- past the word of a section, in front of which nothing is left over
pub past_word : {text : List ℕ} {tokens : List Token} {sections were made : List PlainSection} {inits : List ℕ} {next : Option SectionWord} {m at number : ℕ} (section : Option SectionWord) (start : ℕ) (d : Token) (word : SectionWord) (ends : Bool)
    → ReadSoFar text tokens sections inits section start at number → at < length tokens → Some word ≡ section_word (get_or tokens at d).kind → ends ≡ is_semicolon (get_or tokens at d).kind
    → [] ≡ left_over section start at → made ≡ were ++ having (get_or tokens at d) word [] ∷ [] → were ≡ sections → next ≡ Some word → m ≡ at + 1 → ReadSoFar text tokens made inits next m (at + 1) number
past_word {tokens = tokens} {sections = sections} {at = at} section start d word ends read inside is semi none begun same e f = record {
  front = read.front;
  trees = read.trees;
  cut = passed section d (Some word) ends read.cut inside is semi (sym (append-nil read.front) ∙ ap (λ (xs : List Declaration). read.front ++ xs) none) e f;
  spelled = read.spelled;
  sound = read.sound;
  numbered = read.numbered;
  few = omega (arith, read.few);
  inits_are = read.inits_are;
  filled = λ unbegun. filled_word (get_or tokens at d) word (sym is) (begun ∙ ap (λ (xs : List PlainSection). xs ++ having (get_or tokens at d) word [] ∷ []) same)
      (subst (λ (xs : List Token). IsFilled tokens read.trees xs sections) (drop_at tokens at d inside) (read.filled (λ x. begins_here read.cut none)));
}

-- past the `;` of a declaration
pub past_end : {text : List ℕ} {tokens : List Token} {sections made : List PlainSection} {inits noted : List ℕ} {next : Option SectionWord} {m at number : ℕ} (section : Option SectionWord) (start : ℕ) (d : Token) (ends : Bool) (declaration : Declaration) (tree : PlainDecl)
    → ReadSoFar text tokens sections inits section start at number → at < length tokens → None ≡ section_word (get_or tokens at d).kind → ends ≡ is_semicolon (get_or tokens at d).kind
    → declaration ∷ [] ≡ ended_at None ends section start at → IsSpelled text tokens declaration tree → IsSound text tokens declaration
    → made ≡ with_last tree sections → noted ≡ inits ++ init_number number (is_init declaration) → next ≡ section → m ≡ start_past None ends section start at
    → ReadSoFar text tokens made noted next m (at + 1) (number + 1)
past_end {text = text} {tokens = tokens} {sections = sections} {made = made} {inits = inits} {at = at} {number = number} section start d ends declaration tree read inside word semi one spelled sound put noted_is e f = record {
  front = read.front ++ declaration ∷ [];
  trees = read.trees ++ tree ∷ [];
  cut = passed section d None ends read.cut inside word semi (ap (λ (xs : List Declaration). read.front ++ xs) one) e f;
  spelled = pushed read.spelled spelled;
  sound = All-push (IsSound text tokens) read.front declaration read.sound sound;
  numbered = grind (arith, common_steps, read.numbered);
  few = omega (arith, read.few);
  inits_are =
      let here : number ≡ 1 + length read.front = omega (arith, read.numbered) in
      noted_is ∙ (ap (λ (ns : List ℕ). ns ++ init_number number (is_init declaration)) read.inits_are
      ∙ (ap (λ (n : ℕ). init_numbers 1 read.front ++ init_number n (is_init declaration)) here ∙ sym (numbers_more 1 read.front declaration)));
  filled = λ unbegun. by_section section ends read.filled one semi;
}
  where
    token : Token
    token = get_or tokens at d

    by_section : (s : Option SectionWord) (b : Bool) → ((s ≡ None → start ≡ at) → IsFilled tokens read.trees (drop at tokens) sections) → declaration ∷ [] ≡ ended_at None b s start at → b ≡ is_semicolon token.kind
        → IsFilled tokens (read.trees ++ tree ∷ []) (drop (at + 1) tokens) made
    by_section None true filled one semi = absurd cc
    by_section None false filled one semi = absurd cc
    by_section (Some s) false filled one semi = absurd cc
    by_section (Some s) true filled one semi =
        filled_end token tree (sym word) (sym semi) put (subst (λ (xs : List Token). IsFilled tokens read.trees xs sections) (drop_at tokens at d inside) (filled (λ x. absurd cc)))

-- what is left over is spelled by no declaration
pub never_spelled : {text : List ℕ} {tokens : List Token} {tree : PlainDecl} (section : Option SectionWord) (start end : ℕ) (declaration : Declaration) → declaration ∷ [] ≡ left_over section start end
    → IsSpelled text tokens declaration tree → ⊥
never_spelled section start end declaration one spelled = by_test (nat_lt start end) one
  where
    by_test : (b : Bool) → ◌≡◌ {A = List Declaration} (declaration ∷ []) (if b then record { section = section; start = start; end = end; is_ended = false } ∷ [] else []) → ⊥
    by_test true e =
        let same : declaration ≡ record { section = section; start = start; end = end; is_ended = false } = cc in
        let not : false ≡ true = sym (ap (λ (x : Declaration). x.is_ended) same) ∙ spelled.ended in
        absurd cc
    by_test false e = absurd cc

-- the declaration that a token ends is refused
pub refused_there : {text : List ℕ} {tokens : List Token} {sections : List PlainSection} {inits : List ℕ} {at number : ℕ} (section : Option SectionWord) (start : ℕ) (d : Token) (word : Option SectionWord) (ends : Bool) (declaration : Declaration) (fault : ParseFault)
    → ReadSoFar text tokens sections inits section start at number → at < length tokens → word ≡ section_word (get_or tokens at d).kind → ends ≡ is_semicolon (get_or tokens at d).kind
    → declaration ∷ [] ≡ ended_at word ends section start at → IsRefused text tokens number declaration fault → HasFault text tokens fault
refused_there {text = text} {tokens = tokens} {at = at} {number = number} section start d word ends declaration fault read inside is semi one cause =
    let next : CutSoFar tokens (read.front ++ declaration ∷ []) (section_past word section) (start_past word ends section start at) (at + 1)
    = passed section d word ends read.cut inside is semi (ap (λ (xs : List Declaration). read.front ++ xs) one) refl refl in
    let behind : List Declaration = rest_of (section_past word section) (start_past word ends section start at) next.piece (parts_of (drop (at + 1) tokens)) in
    has_fault text tokens read.front declaration behind number fault (sym next.whole ∙ append_assoc read.front (declaration ∷ []) behind) read.sound read.numbered cause

-- ---- behind all tokens
at_length : {text : List ℕ} {tokens : List Token} {sections : List PlainSection} {inits : List ℕ} {section : Option SectionWord} {start at number : ℕ} → length tokens ≤ at → at ≤ length tokens
    → ReadSoFar text tokens sections inits section start at number → ReadSoFar text tokens sections inits section start (length tokens) number
at_length {text = text} {tokens = tokens} {sections = sections} {inits = inits} {section = section} {start = start} {at = at} {number = number} over under read =
    let last : at ≡ length tokens = omega arith in
    subst (λ (n : ℕ). ReadSoFar text tokens sections inits section start n number) last read

-- what is left over there is refused
pub refused_last : {text : List ℕ} {tokens : List Token} {sections : List PlainSection} {inits : List ℕ} {section : Option SectionWord} {start at number : ℕ} (declaration : Declaration) (fault : ParseFault)
    → ReadSoFar text tokens sections inits section start at number → length tokens ≤ at → at ≤ length tokens → declaration ∷ [] ≡ left_over section start (length tokens)
    → IsRefused text tokens number declaration fault → HasFault text tokens fault
refused_last {text = text} {tokens = tokens} {section = section} {start = start} {number = number} declaration fault read over under one cause =
    let last = at_length over under read in
    let whole : last.front ++ declaration ∷ [] ≡ declarations_of tokens
    = ap (λ (xs : List Declaration). last.front ++ xs) one ∙ all_cut tokens last.front section start (length tokens) last.cut (drop-length tokens) in
    has_fault text tokens last.front declaration [] number fault (sym whole) last.sound last.numbered cause

-- all declarations are read, where nothing is left over
pub record AllRead (text : List ℕ) (tokens : List Token) (sections : List PlainSection) (inits : List ℕ) : Type 0 where
  pub spelled : SpellsSpec text (record { sections = sections }) tokens
  pub inits_are : inits ≡ init_numbers 1 (declarations_of tokens)
  pub sound : All (IsSound text tokens) (declarations_of tokens)

pub all_read : {text : List ℕ} {tokens : List Token} {sections : List PlainSection} {inits : List ℕ} {section : Option SectionWord} {start at number : ℕ} → ReadSoFar text tokens sections inits section start at number
    → length tokens ≤ at → at ≤ length tokens → [] ≡ left_over section start (length tokens) → AllRead text tokens sections inits
all_read {text = text} {tokens = tokens} {sections = sections} {inits = inits} {section = section} {start = start} read over under none =
    let last = at_length over under read in
    let whole : last.front ≡ declarations_of tokens
    = sym (append-nil last.front) ∙ (ap (λ (xs : List Declaration). last.front ++ xs) none ∙ all_cut tokens last.front section start (length tokens) last.cut (drop-length tokens)) in
    let filled : IsFilled tokens last.trees [] sections = subst (λ (xs : List Token). IsFilled tokens last.trees xs sections) (drop-length tokens) (last.filled (λ e. begins_here last.cut none)) in
    record {
      spelled = made_spelled (subst (λ (xs : List Declaration). AreSpelled text tokens xs last.trees) whole last.spelled) (all_filled filled);
      inits_are = last.inits_are ∙ ap (init_numbers 1) whole;
      sound = subst (λ (xs : List Declaration). All (IsSound text tokens) xs) whole last.sound;
    }
