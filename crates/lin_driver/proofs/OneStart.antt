-- A text with one declaration in an `init` section starts with one process.
use Rattle.std.proofs.Common.{◌≡◌, ◌+◌, ℕ, cond, List, [], ◌∷◌, ◌++◌, map, length, Some, refl, sym, ap, ap₂, ◌∙◌}
use Rattle.std.specs.List.{All, count_by, flat_map}
use Rattle.std.proofs.lemmas.Grind.{flat_map-append}
use Rattle.std.proofs.lemmas.List.{length-append}
use Rattle.std.proofs.lemmas.List.Sums.{sum_by-cons}
use Rattle.std.proofs.lemmas.List.Elements.{All-head, All-tail}
use Rattle.mcrl2_lexer.specs.declared.token.Token.{Token}
use Rattle.mcrl2_syntax.specs.declared.declaration.SectionWord.{SectionWord}
use Rattle.mcrl2_syntax.specs.Declarations.{PlainDecl, PlainSection, PlainSpec}
use Rattle.mcrl2_syntax.specs.SpelledDeclarations.{SpellsDecl, decl_sorts, decl_alias, decl_struct, decl_cons, decl_map, decl_vars, decl_equation, decl_conditional, decl_acts, decl_acts_over, decl_proc, decl_proc_over, decl_init, SpellsSpec}
use Rattle.mcrl2_syntax.proofs.SpecsOnce.{spec_once}
use Rattle.mcrl2_parser.specs.Declarations.{declarations_of}
use Rattle.mcrl2_parser.specs.declared.declaring.Declaration.{Declaration}
use Rattle.mcrl2_parser.specs.Faults.{AreSpelled, none_spelled, more_spelled, IsSound, is_init, is_init_section}
use Rattle.mcrl2_parser.specs.Sections as parsed
use Rattle.mcrl2_parser.proofs.SpelledByDeclarations.{spelled_as}
use Rattle.sort_table.specs.BareProcesses.{Process}
use Rattle.sort_table.specs.BareDeclarations.{bare_declaration, bare_section, bare_sections, declarations_in}
use Rattle.sort_checker.specs.Systems.{initial_by}

abbrev starts_of : PlainDecl → List Process
starts_of d = initial_by (bare_declaration d)

-- a tree has a start where its section is one of `init`
starts_by_section : (text : List ℕ) (word : SectionWord) (d : PlainDecl) (ts : List Token) → SpellsDecl text word d ts → cond (is_init_section (Some word)) 1 0 ≡ length (starts_of d)
starts_by_section text _ _ _ (decl_sorts names) = refl
starts_by_section text _ _ _ (decl_alias t e sort) = refl
starts_by_section text _ _ _ (decl_struct t e w list) = refl
starts_by_section text _ _ _ (decl_cons signature) = refl
starts_by_section text _ _ _ (decl_map signature) = refl
starts_by_section text _ _ _ (decl_vars groups) = refl
starts_by_section text _ _ _ (decl_equation left e right) = refl
starts_by_section text _ _ _ (decl_conditional condition a left e right) = refl
starts_by_section text _ _ _ (decl_acts names) = refl
starts_by_section text _ _ _ (decl_acts_over names c domain) = refl
starts_by_section text _ _ _ (decl_proc t e body) = refl
starts_by_section text _ _ _ (decl_proc_over t u vars v e body) = refl
starts_by_section text _ _ _ (decl_init body) = refl

starts_counted : (text : List ℕ) (tokens : List Token) (xs : List Declaration) (trees : List PlainDecl) → AreSpelled text tokens xs trees → count_by is_init xs ≡ length (flat_map starts_of trees)
starts_counted text tokens _ _ none_spelled = refl
starts_counted text tokens _ _ (more_spelled {declaration = x} {tree = d} {declarations = xs} {trees = trees} first rest) =
    let its : cond (is_init x) 1 0 ≡ length (starts_of d) = ap (λ s. cond (is_init_section s) 1 0) first.in_section ∙ starts_by_section text first.word d _ first.spells in
    sum_by-cons (λ (y : Declaration). cond (is_init y) 1 0) x xs ∙ (ap₂ (λ (m n : ℕ). m + n) its (starts_counted text tokens xs trees rest) ∙ sym (length-append (starts_of d) (flat_map starts_of trees)))

-- the starts of a specification are those of its trees
section_starts : (ds : List PlainDecl) → flat_map initial_by (map bare_declaration ds) ≡ flat_map starts_of ds
section_starts [] = refl
section_starts (d ∷ ds) = ap (λ (ps : List Process). starts_of d ++ ps) (section_starts ds)

spec_starts : (ss : List PlainSection) → flat_map initial_by (declarations_in (map bare_section ss)) ≡ flat_map starts_of (parsed.declarations_in ss)
spec_starts [] = refl
spec_starts (s ∷ ss) =
    flat_map-append initial_by (map bare_declaration s.declarations) (declarations_in (map bare_section ss))
    ∙ ap₂ (λ (ps qs : List Process). ps ++ qs) (section_starts s.declarations) (spec_starts ss)
    ∙ sym (flat_map-append starts_of s.declarations (parsed.declarations_in ss))

trees_of_sound : (text : List ℕ) (tokens : List Token) (xs : List Declaration) → All (IsSound text tokens) xs → (trees : List PlainDecl) × AreSpelled text tokens xs trees
trees_of_sound text tokens [] sound = ([], none_spelled)
trees_of_sound text tokens (x ∷ xs) sound =
    let first = All-head (IsSound text tokens) x xs sound in
    let more = trees_of_sound text tokens xs (All-tail (IsSound text tokens) x xs sound) in
    (first.whole.tree ∷ more.0, more_spelled first.whole.spelled more.1)

the_only_one : (ps : List Process) → length ps ≡ 1 → (p : Process) × (ps ≡ p ∷ [])
the_only_one [] is = cc
the_only_one (p ∷ []) is = (p, refl)
the_only_one (p ∷ q ∷ ps) is = cc

-- a text that tokens spell, with all its declarations sound and one of them in an `init` section
pub has_one_start : (text : List ℕ) (spec : PlainSpec) (tokens : List Token) → SpellsSpec text spec tokens → All (IsSound text tokens) (declarations_of tokens) → count_by is_init (declarations_of tokens) ≡ 1
    → (p : Process) × (flat_map initial_by (declarations_in (bare_sections spec)) ≡ p ∷ [])
has_one_start text spec tokens spells sound one =
    let trees = trees_of_sound text tokens (declarations_of tokens) sound in
    let found = spelled_as text tokens trees.0 trees.1 in
    let same : record { sections = found.sections } ≡ spec = spec_once (record { all_sections = found.spelled }) spells in
    let starts : flat_map initial_by (declarations_in (bare_sections spec)) ≡ flat_map starts_of trees.0 =
    ap (λ (s : PlainSpec). flat_map initial_by (declarations_in (bare_sections s))) (sym same) ∙ (spec_starts found.sections ∙ ap (flat_map starts_of) (sym found.trees_are)) in
    the_only_one (flat_map initial_by (declarations_in (bare_sections spec))) (ap length starts ∙ (sym (starts_counted text tokens (declarations_of tokens) trees.0 trees.1) ∙ one))
