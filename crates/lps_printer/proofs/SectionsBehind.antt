-- Sections behind others: their declarations, and their equations with the variables in scope.
use Rattle.std.proofs.Common.{◌≡◌, ◌⊎◌, inl, ⊎_elim, Bool, true, false, cond, List, [], ◌∷◌, ◌++◌, map, refl, sym, ap, ap₂, ◌∙◌, append_assoc, append-nil}
use Rattle.std.specs.List.{AllByRecursion, flat_map}
use Rattle.mcrl2_syntax.specs.declared.declaration.SectionWord.TheVariants as sections
use Rattle.mcrl2_syntax.specs.Declarations.{PlainSection, PlainSpec}
use Rattle.mcrl2_syntax.specs.Copied.{gives_scope, is_copied}
use Rattle.data_theory.specs.Terms.{Term}
use Rattle.bisim_laws.specs.LinearProcesses.{Linear}
use Rattle.sort_table.specs.BareProcesses.{Variables}
use Rattle.sort_table.specs.BareDeclarations.{Declaration, process, initial, Section, bare_section, bare_sections, declarations_in}
use Rattle.sort_table.specs.PlacedSections.{IsPlacedSection, IsPlaced}
use Rattle.sort_checker.specs.Elaborations.{WrittenEquation}
use Rattle.sort_checker.specs.Parts.{ScopedDeclaration, variables_by, scoped_behind}
use Rattle.sort_checker.specs.Systems.{equations_in}
use Rattle.lps_printer.specs.WrittenProcesses.{TextNames, body_written, start_written, parameters_written, plain_process}
use Rattle.lps_printer.specs.WholeTexts.{linear_declared}
use Rattle.lps_printer.specs.CopiedSections.{kept_sections}
use Rattle.lps_printer.specs.CopiedParts.{data_by, data_in}
use Rattle.lps_printer.proofs.CopiedParts.{flat_append, under, vars_of, kept, dropped, what_is_copied_has_all_parts}

-- ---- sections behind others
pub declarations_append : (as_ bs : List Section) → declarations_in (as_ ++ bs) ≡ declarations_in as_ ++ declarations_in bs
declarations_append as_ bs = flat_append (λ (s : Section). s.declarations) as_ bs

pub data_append : (as_ bs : List Section) → data_in (as_ ++ bs) ≡ data_in as_ ++ data_in bs
data_append as_ bs = ap (flat_map data_by) (declarations_append as_ bs) ∙ flat_append data_by (declarations_in as_) (declarations_in bs)

-- the variables that are in scope behind these sections
abbrev pub last_vars : Variables → List Section → Variables
last_vars xs [] = xs
last_vars xs (s ∷ ss) = last_vars (flat_map variables_by s.declarations) ss

abbrev pub eqs : Variables → List Section → List WrittenEquation
eqs xs ss = flat_map under (scoped_behind xs ss)

pub eqs_append : (xs : Variables) (as_ bs : List Section) → eqs xs (as_ ++ bs) ≡ eqs xs as_ ++ eqs (last_vars xs as_) bs
eqs_append xs [] bs = refl
eqs_append xs (s ∷ as_) bs =
    let here : List ScopedDeclaration = map (λ (d : Declaration). record { variables = xs; declaration = d }) s.declarations in
    let vs = flat_map variables_by s.declarations in
    flat_append under here (scoped_behind vs (as_ ++ bs))
    ∙ ap (λ zs. flat_map under here ++ zs) (eqs_append vs as_ bs)
    ∙ sym (append_assoc (flat_map under here) (eqs vs as_) (eqs (last_vars vs as_) bs))
    ∙ ap (λ zs. zs ++ eqs (last_vars vs as_) bs) (sym (flat_append under here (scoped_behind vs as_)))

-- behind the copied sections there are none
pub no_last_vars : (ss : List PlainSection) → AllByRecursion IsPlacedSection ss → (xs : Variables) → (xs ≡ []) ⊎ (gives_scope ss ≡ true) → last_vars xs (map bare_section (kept_sections ss)) ≡ []
no_last_vars [] h xs w = ⊎_elim (λ q. q) (λ g. let never : false ≡ true = g in absurd cc) w
no_last_vars (s ∷ ss) h xs w = by_test (is_copied (s ∷ ss)) refl (λ us v. no_last_vars ss h.1 us v)
  where
    by_test : (b : Bool) → is_copied (s ∷ ss) ≡ b → ((us : Variables) → (us ≡ []) ⊎ (gives_scope ss ≡ true) → last_vars us (map bare_section (kept_sections ss)) ≡ [])
        → last_vars xs (map bare_section (cond b (s ∷ kept_sections ss) (kept_sections ss))) ≡ []
    by_test true e rest = rest (vars_of s.declarations) (kept s.word s.declarations ss h.0 e).vars_or_scope
    by_test false e rest = rest xs (inl (⊎_elim (λ q. q) (λ g. absurd ((dropped s.word s.declarations ss h.0 e).no_scope g)) w))

-- ---- of a linear process
abbrev pub behind_all : TextNames → Linear → List Term → List Section
behind_all n l ts = record { word = sections.Proc; declarations = process n.process (parameters_written n l.params) (plain_process (body_written n l)) ∷ [] } ∷ record { word = sections.Init; declarations = initial (start_written n ts) ∷ [] } ∷ []

-- the process and its start have neither data nor equations
pub printed_data : (own : PlainSpec) (added : List Section) (n : TextNames) (l : Linear) (ts : List Term) → IsPlaced own
    → data_in (linear_declared (map bare_section (kept_sections own.sections) ++ added) n l ts) ≡ data_in (bare_sections own) ++ data_in added
printed_data own added n l ts placed =
    let copied = map bare_section (kept_sections own.sections) in
    data_append (copied ++ added) (behind_all n l ts) ∙ append-nil (data_in (copied ++ added)) ∙ data_append copied added ∙ ap (λ zs. zs ++ data_in added) (what_is_copied_has_all_parts own.sections placed).data_stays

pub printed_equations : (own : PlainSpec) (added : List Section) (n : TextNames) (l : Linear) (ts : List Term) → IsPlaced own
    → equations_in (linear_declared (map bare_section (kept_sections own.sections) ++ added) n l ts) ≡ equations_in (bare_sections own) ++ equations_in added
printed_equations own added n l ts placed =
    let copied = map bare_section (kept_sections own.sections) in
    eqs_append [] (copied ++ added) (behind_all n l ts) ∙ append-nil (eqs [] (copied ++ added)) ∙ eqs_append [] copied added
    ∙ ap₂ (λ zs us. zs ++ eqs us added) (what_is_copied_has_all_parts own.sections placed).equations_stay (no_last_vars own.sections placed [] (inl refl))
