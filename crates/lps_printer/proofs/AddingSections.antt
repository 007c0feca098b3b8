-- Bytes that go on section by section.
use Rattle.std.proofs.Common.{◌≡◌, ◌<◌, ◌≤◌, ◌+◌, ◌-◌, ℕ, Bool, true, false, cond, List, [], ◌∷◌, ◌++◌, length, get_or, take, map, drop, refl, sym, ap, ◌∙◌, subst, arith, append_assoc, drop-drop}
use Rattle.std.proofs.Math.Seq.{drop-length}
use Rattle.mcrl2_lexer.specs.declared.kind.Kind.{Kind}
use Rattle.mcrl2_syntax.specs.declared.declaration.SectionWord.{SectionWord}
use Rattle.mcrl2_syntax.specs.declared.declaration.Section.{Section}
use Rattle.mcrl2_syntax.specs.Declarations.{PlainSection, section_of}
use Rattle.mcrl2_syntax.specs.Copied.{is_copied}
use Rattle.sort_table.proofs.IdentifierSteps.{from_place}
use Rattle.lps_printer.specs.Pieces.{Piece, bytes_of}
use Rattle.lps_printer.specs.DataLayout.{piece}
use Rattle.lps_printer.specs.TextSections.{PrintedSection, section_kind, section_text, print_declarations, print_sections}
use Rattle.lps_printer.specs.Adding.{Adds}
use Rattle.lps_printer.specs.AddingSections.{AddsSections}
use Rattle.lps_printer.specs.CopiedSections.{copied_section, copied_first, kept_sections, copied_sections}

abbrev pub section_with : SectionWord → List (List Piece) → PrintedSection
section_with word pss = record { word = word; declarations = pss }

pub sections_none : (a gap : List ℕ) → AddsSections a a gap gap []
sections_none a gap = record { bytes = λ more end. refl }

pub sections_both : {a b c g h k : List ℕ} {ss tt_ : List PrintedSection} → AddsSections a b g h ss → AddsSections b c h k tt_ → AddsSections a c g k (ss ++ tt_)
sections_both {a = a} {g = g} {ss = ss} {tt_ = tt_} p q = record { bytes = λ more end. ap (λ xs. a ++ bytes_of (print_sections g xs) end) (append_assoc ss tt_ more) ∙ p.bytes (tt_ ++ more) end ∙ q.bytes more end }

pub sections_of : {a b g h : List ℕ} {ss ts : List PrintedSection} → ss ≡ ts → AddsSections a b g h ss → AddsSections a b g h ts
sections_of {a = a} {b = b} {g = g} {h = h} e p = subst (λ xs. AddsSections a b g h xs) e p

-- a word, and declarations behind it
pub section_added : {a b c : List ℕ} (gap : List ℕ) (word : SectionWord) (pss : List (List Piece)) (text : List ℕ) → text ≡ section_text word → ((kind : Kind) → Adds a b (λ rest. piece gap kind text ∷ rest)) → Adds b c (λ rest. print_declarations pss rest)
    → AddsSections a c gap (10 ∷ []) (section_with word pss ∷ [])
section_added {a = a} {b = b} gap word pss text e p q =
    let front : Adds a b (λ rest. piece gap (section_kind word) (section_text word) ∷ rest) = subst (λ t. Adds a b (λ rest. piece gap (section_kind word) t ∷ rest)) e (p (section_kind word)) in
    record { bytes = λ more end. front.bytes (print_declarations pss (print_sections (10 ∷ []) more)) end ∙ q.bytes (print_sections (10 ∷ []) more) end }

-- ---- copied sections
pub none_copied : (ss : List PlainSection) → is_copied ss ≡ false → [] ≡ copied_first ss
none_copied [] e = refl
none_copied (s ∷ ss) e = ap (λ b. cond b (copied_section s ∷ []) []) (sym e)

pub some_copied : (ss : List Section) → is_copied (map section_of ss) ≡ true → 0 < length ss
some_copied [] e = absurd cc
some_copied (s ∷ ss) e = omega arith

pub one_copied : (ss : List Section) (s : Section) → is_copied (map section_of ss) ≡ true → s ≡ get_or ss 0 s → copied_section (section_of s) ∷ [] ≡ copied_first (map section_of ss)
one_copied [] s e is = absurd cc
one_copied (t ∷ ss) s e is = ap (λ x. copied_section (section_of x) ∷ []) is ∙ ap (λ b. cond b (copied_section (section_of t) ∷ []) []) (sym e)

first_and_others : (b : Bool) (s : PlainSection) (ss : List PlainSection) → cond b (copied_section s ∷ []) [] ++ map copied_section ss ≡ map copied_section (cond b (s ∷ ss) ss)
first_and_others true s ss = refl
first_and_others false s ss = refl

one_by_one : (ss : List Section) → copied_first (map section_of ss) ++ copied_sections (map section_of (drop 1 ss)) ≡ copied_sections (map section_of ss)
one_by_one [] = refl
one_by_one (s ∷ ss) = first_and_others (is_copied (map section_of (s ∷ ss))) (section_of s) (kept_sections (map section_of ss))

module _ (ss : List Section) (i : ℕ) where
  pub sections_step : {a b c g h k : List ℕ} → AddsSections a b g h (copied_first (map section_of (take (length ss - i) (drop i ss)))) → AddsSections b c h k (copied_sections (map section_of (drop (i + 1) ss))) → AddsSections a c g k (copied_sections (map section_of (drop i ss)))
  sections_step p q =
      sections_of (one_by_one (drop i ss)) (sections_both (sections_of (ap (λ xs. copied_first (map section_of xs)) (from_place ss i)) p) (sections_of (ap (λ xs. copied_sections (map section_of xs)) (sym (drop-drop 1 i ss))) q))

  pub sections_end : length ss ≤ i → i ≤ length ss → (a g : List ℕ) → AddsSections a a g g (copied_sections (map section_of (drop i ss)))
  sections_end above below a g = let end : i ≡ length ss = omega arith in sections_of (ap (λ xs. copied_sections (map section_of xs)) (sym (ap (λ k. drop k ss) end ∙ drop-length ss))) (sections_none a g)
