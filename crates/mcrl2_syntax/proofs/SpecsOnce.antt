-- The tokens of a text are cut into declarations in one way, and spell one specification.
use Rattle.std.proofs.Common.{◌≡◌, ℕ, List, [], ◌∷◌, ◌++◌, Some, None, All, refl, ap, sym, ◌∙◌, subst}
use Rattle.std.proofs.lemmas.List.Elements.{All-head, All-tail}
use Rattle.mcrl2_lexer.specs.declared.kind.Kind.TheVariants.{Semicolon}
use Rattle.mcrl2_lexer.specs.declared.token.Token.{Token}
use Rattle.mcrl2_syntax.specs.declared.declaration.SectionWord.{SectionWord}
use Rattle.mcrl2_syntax.specs.Words.{span_of}
use Rattle.mcrl2_syntax.specs.Declarations.{PlainDecl, PlainSection, PlainSpec}
use Rattle.mcrl2_syntax.specs.SpelledDeclarations.{SpellsDecl, section_word, IsInside, SpellsDecls, no_decls, more_decls, SpellsSections, no_sections, more_sections, SpellsSpec}
use Rattle.mcrl2_syntax.proofs.Lists.{heads, tails}
use Rattle.mcrl2_syntax.proofs.DataOnce.{same_sign}
use Rattle.mcrl2_syntax.proofs.DeclarationsOnce.{decl_once}

record SameCut (f g us vs : List Token) : Type 0 where
  pub front : f ≡ g
  pub rest : us ≡ vs

-- the first semicolon is where a declaration ends
cut_once : (f g us vs : List Token) (s t : Token) → f ++ s ∷ us ≡ g ++ t ∷ vs → s.kind ≡ Semicolon → t.kind ≡ Semicolon → All IsInside f → All IsInside g → SameCut f g us vs
cut_once [] [] us vs s t e h k a b = record { front = refl; rest = tails e }
cut_once [] (x ∷ g) us vs s t e h k a b = absurd ((All-head IsInside x g b).no_semicolon (sym (ap (λ (y : Token). y.kind) (heads e)) ∙ h))
cut_once (x ∷ f) [] us vs s t e h k a b = absurd ((All-head IsInside x f a).no_semicolon (ap (λ (y : Token). y.kind) (heads e) ∙ k))
cut_once (x ∷ f) (y ∷ g) us vs s t e h k a b =
    let same = cut_once f g us vs s t (tails e) h k (All-tail IsInside x f a) (All-tail IsInside y g b) in
    record { front = ap (λ (z : Token). z ∷ f) (heads e) ∙ ap (λ (z : List Token). y ∷ z) same.front; rest = same.rest }

-- nothing, or the word of a section
abbrev AtSection : List Token → Type 0
AtSection [] = Unit {0}
AtSection (t ∷ ts) = (word : SectionWord) × (section_word t.kind ≡ Some word)

sections_at : {text : List ℕ} {sections : List PlainSection} {ts : List Token} → SpellsSections text sections ts → AtSection ts
sections_at no_sections = tt
sections_at (more_sections {word = word} h a b) = (word, h)

-- where a section begins no declaration does
uncut : (f r us : List Token) (s : Token) → r ≡ f ++ s ∷ us → s.kind ≡ Semicolon → All IsInside f → AtSection r → ⊥
uncut [] [] us s e h a c = cc
uncut (x ∷ f) [] us s e h a c = cc
uncut [] (t ∷ r) us s e h a c = let g : Some c.0 ≡ None = sym c.1 ∙ ap (λ (y : Token). section_word y.kind) (heads e) ∙ ap section_word h in cc
uncut (x ∷ f) (t ∷ r) us s e h a c = let g : Some c.0 ≡ None = sym c.1 ∙ ap (λ (y : Token). section_word y.kind) (heads e) ∙ (All-head IsInside x f a).no_section in cc

decl_from : {text : List ℕ} {word : SectionWord} {d : PlainDecl} {ts us : List Token} → ts ≡ us → SpellsDecl text word d us → SpellsDecl text word d ts
decl_from {text = text} {word = word} {d = d} e a = subst (λ (x : List Token). SpellsDecl text word d x) (sym e) a

decls_from : {text : List ℕ} {word : SectionWord} {ds : List PlainDecl} {ts us r : List Token} → ts ≡ us → SpellsDecls text word ds us r → SpellsDecls text word ds ts r
decls_from {text = text} {word = word} {ds = ds} {r = r} e a = subst (λ (x : List Token). SpellsDecls text word ds x r) (sym e) a

decls_word : {text : List ℕ} {word other : SectionWord} {ds : List PlainDecl} {ts r : List Token} → word ≡ other → SpellsDecls text other ds ts r → SpellsDecls text word ds ts r
decls_word {text = text} {ds = ds} {ts = ts} {r = r} e a = subst (λ (x : SectionWord). SpellsDecls text x ds ts r) (sym e) a

decls_once : {text : List ℕ} {word : SectionWord} {ds es : List PlainDecl} {ts q r : List Token} → SpellsDecls text word ds ts q → SpellsDecls text word es ts r → AtSection q → AtSection r → (ds ≡ es) × (q ≡ r)
decls_once no_decls no_decls m n = (refl, refl)
decls_once {q = q} no_decls (more_decls {front = f} {us = us} c a b) m n = absurd (uncut f q us c.sign c.is c.semicolon c.inside m)
decls_once {r = r} (more_decls {front = f} {us = us} c a b) no_decls m n = absurd (uncut f r us c.sign c.is c.semicolon c.inside n)
decls_once (more_decls {ds = ds} {front = f} {us = us} c a b) (more_decls {d = y} {front = g} {us = vs} d e i) m n =
    let same = cut_once f g us vs c.sign d.sign (sym c.is ∙ d.is) c.semicolon d.semicolon c.inside d.inside in
    let first = decl_once a (decl_from same.front e) in
    let rest = decls_once b (decls_from same.rest i) m n in
    (ap (λ (x : PlainDecl). x ∷ ds) first ∙ ap (λ (x : List PlainDecl). y ∷ x) rest.0, rest.1)

sections_from : {text : List ℕ} {xs : List PlainSection} {ts us : List Token} → ts ≡ us → SpellsSections text xs us → SpellsSections text xs ts
sections_from {text = text} {xs = xs} e a = subst (λ (x : List Token). SpellsSections text xs x) (sym e) a

sections_once : {text : List ℕ} {xs ys : List PlainSection} {ts : List Token} → SpellsSections text xs ts → SpellsSections text ys ts → xs ≡ ys
sections_once no_sections no_sections = refl
sections_once (more_sections {t = t} {word = w} {ds = ds} {sections = xs} h a b) (more_sections {word = v} {ds = es} {sections = ys} k c d) =
    let word = same_sign h k in
    let e = decls_once a (decls_word word c) (sections_at b) (sections_at d) in
    let f = sections_once b (sections_from e.1 d) in
    let made : SectionWord → List PlainDecl → PlainSection = λ x y. record { span = span_of t t; word = x; declarations = y } in
    ap (λ (x : SectionWord). made x ds ∷ xs) word ∙ ap (λ (x : List PlainDecl). made v x ∷ xs) e.0 ∙ ap (λ (x : List PlainSection). made v es ∷ x) f

pub spec_once : {text : List ℕ} {x y : PlainSpec} {ts : List Token} → SpellsSpec text x ts → SpellsSpec text y ts → x ≡ y
spec_once a b = let e = sections_once a.all_sections b.all_sections in ap (λ z. record { sections = z }) e
