-- The declarations of sections, with the variables of the section in front.
use Rattle.std.proofs.Common.{◌≡◌, ◌<◌, ◌+◌, ℕ, suc, List, ◌∷◌, ◌++◌, length, map, drop, get_or, ap, ap₂, sym, ◌∙◌, append_assoc, arith}
use Rattle.std.specs.List.{flat_map}
use Rattle.std.proofs.lemmas.Simd.{map-map}
use Rattle.std.proofs.Math.Seq.{drop-cons}
use Rattle.mcrl2_syntax.specs.declared.declaration.Decl.{Decl}
use Rattle.mcrl2_syntax.specs.declared.declaration.Section.{Section}
use Rattle.mcrl2_syntax.specs.Declarations.{section_of, plain_decl}
use Rattle.sort_table.specs.BareProcesses.{Variables}
use Rattle.sort_table.specs.BareDeclarations as bare
use Rattle.sort_table.specs.BareDeclarations.{Declaration, bare_section, bare_declaration}
use Rattle.sort_table.specs.DeclarationTrees.{declaration_of}
use Rattle.sort_checker.specs.Parts.{ScopedDeclaration, variables_by, scoped_behind}
use Rattle.sort_checker.specs.ScopedTrees.{variables_under, scoped_under}

abbrev pub bare_of : List Section → List bare.Section
bare_of ss = map bare_section (map section_of ss)

declarations_are : (s : Section) → map bare_declaration (map plain_decl s.declarations.items) ≡ map declaration_of s.declarations.items
declarations_are s = map-map bare_declaration plain_decl s.declarations.items

abbrev pub under : Variables → Declaration → ScopedDeclaration
under xs d = record { variables = xs; declaration = d }

abbrev pub tree_under : Variables → Decl → ScopedDeclaration
tree_under xs d = record { variables = xs; declaration = declaration_of d }

under_are : (xs : Variables) (ds : List Decl) → map (under xs) (map declaration_of ds) ≡ map (tree_under xs) ds
under_are xs ds = map-map (under xs) declaration_of ds

one_section : (xs : Variables) (s : Section) (ss : List Section) → scoped_behind xs (bare_of (s ∷ ss)) ≡ map (tree_under xs) s.declarations.items ++ scoped_behind (variables_under s.declarations.items) (bare_of ss)
one_section xs s ss =
    ap (λ (ds : List Declaration). map (under xs) ds ++ scoped_behind (flat_map variables_by ds) (bare_of ss)) (declarations_are s)
    ∙ ap (λ (ds : List ScopedDeclaration). ds ++ scoped_behind (variables_under s.declarations.items) (bare_of ss)) (under_are xs s.declarations.items)

-- the declarations of the section at a place, and what is behind
pub scoped_cut : (before : List Decl) (ss : List Section) (i : ℕ) (s : Section) → i < length ss → s ≡ get_or ss i s
    → scoped_behind (variables_under before) (bare_of (drop i ss)) ≡ scoped_under before s.declarations.items ++ scoped_behind (variables_under s.declarations.items) (bare_of (drop (i + 1) ss))
scoped_cut before ss i s l e =
    let next : suc i ≡ i + 1 = omega arith in
    let cut : drop i ss ≡ s ∷ drop (i + 1) ss = drop-cons ss i s l ∙ ap₂ (λ (x : Section) (n : ℕ). x ∷ drop n ss) (sym e) next in
    ap (λ (rest : List Section). scoped_behind (variables_under before) (bare_of rest)) cut ∙ one_section (variables_under before) s (drop (i + 1) ss)

-- what is listed, with what is left
pub scoped_step : (done all : List ScopedDeclaration) (before : List Decl) (ss : List Section) (i : ℕ) (s : Section) → i < length ss → s ≡ get_or ss i s
    → done ++ scoped_behind (variables_under before) (bare_of (drop i ss)) ≡ all
    → (done ++ scoped_under before s.declarations.items) ++ scoped_behind (variables_under s.declarations.items) (bare_of (drop (i + 1) ss)) ≡ all
scoped_step done all before ss i s l e h =
    append_assoc done (scoped_under before s.declarations.items) (scoped_behind (variables_under s.declarations.items) (bare_of (drop (i + 1) ss)))
    ∙ (ap (λ (ds : List ScopedDeclaration). done ++ ds) (sym (scoped_cut before ss i s l e)) ∙ h)
