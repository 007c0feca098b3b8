use Rattle.std.proofs.Common.{◌≡◌, ◌∙◌, ℕ, List, ap, sym, subst}
use Rattle.std.proofs.lemmas.List.{length-map}
use denote.Ref.{Bor}
use Rattle.mcrl2_syntax.specs.declared.declaration.Decl.{Decl}
use Rattle.std.specs.Prelude.{Option}
use Rattle.sort_table.specs.declared.flat_sorts.FlatSort.{FlatSort}
use Rattle.sort_table.specs.declared.repeats.Entry.{Entry}
use Rattle.sort_table.specs.Expressions.{Name}
use Rattle.sort_table.specs.BareDeclarations.{Declaration, Section, declarations_in}
use Rattle.sort_table.specs.SortMeanings.{Kind, kinds_in}
use Rattle.sort_table.specs.DeclarationTrees.{declarations_under, declarations_of_text}
use Rattle.sort_table.specs.IndexedKinds.{kinds_of_index}
use Rattle.sort_table.specs.FlatSorts.{flats_in}
use Rattle.sort_table.specs.Domains.{number_under, domain_in, flats_by, domains_in, HaveNumbers}
use Rattle.sort_table.specs.Repeats.{mark_of, marks_of, IsLeastPair}
use Rattle.sort_table.specs.ItemMarks.{marks_from}
use Rattle.sort_table.specs.RepeatedVariables.{VariableAgain}
use Rattle.sort_table.specs.PlacedDeclarations.{all_placed, sections_of_text}
use Rattle.sort_table.proofs.DomainLemmas.{tells_apart}
use Rattle.sort_table.proofs.DeclaredAgain.{first_declared_again}
use Rattle.sort_table.proofs.duplicates.first_duplicate.Goals as goal

pub flat_table-requires : goal.flat_table-requires
flat_table-requires c = (
  declarations_of_text c.args.spec.now,
  c.in_ok-index.ensures ∙ (ap (λ (ds : List (Bor Decl)). kinds_in (declarations_under ds)) c.as_slice.ensures.value ∙ ap kinds_in c.in_ok-declarations.ensures),
  c.requires.known,
  c.requires.no_cycle,
)

pub returns : goal.returns
returns c =
    let sections : List Section = sections_of_text c.args.spec.now in
    let ks : List (Name × Kind) = kinds_of_index c.in_ok-index.index in
    let table : List FlatSort = c.in_ok-flats.flats.sorts.items in
    let by : List FlatSort → Option ℕ = number_under c.in_ok-table.table.numbers in
    let kinds : ks ≡ kinds_in (declarations_of_text c.args.spec.now) =
    c.in_ok-index.ensures ∙ (ap (λ (ds : List (Bor Decl)). kinds_in (declarations_under ds)) c.as_slice.ensures.value ∙ ap kinds_in c.in_ok-declarations.ensures) in
    let have : HaveNumbers by (flats_in ks table) (domains_in (declarations_in sections)) =
    subst (λ (rs : List (Name × Kind)). HaveNumbers by (flats_in rs table) (domains_in (declarations_in sections))) c.in_ok-flats.ensures.kinds
    (subst (λ (ds : List Declaration). HaveNumbers by (flats_by c.in_ok-flats.flats) (domains_in ds)) (ap (λ (ds : List (Bor Decl)). declarations_under ds) c.as_slice-2.ensures.value ∙ c.in_ok-declarations.ensures) c.in_ok-table.ensures.all) in
    first_declared_again sections ks table by (marks_of c.as_slice-4.result.now) _ c.in_ok-items.items c.in_ok-variables.variables c.lesser.result kinds c.in_ok-flats.ensures.settled
    (tells_apart c.in_ok-table.table.numbers c.in_ok-table.ensures.numbers) have
    (ap (λ (es : List Entry). marks_of es) c.as_slice-4.ensures.value
    ∙ (c.in_ok-entries.ensures
    ∙ ((λ j. marks_from (domain_in by ((c.in_ok-table.ensures.kinds ∙ c.in_ok-flats.ensures.kinds) j) (c.in_ok-table.ensures.sorts j)) 1 (all_placed c.as_slice-3.result.now))
    ∙ (ap (λ (ps : List (ℕ × Bor Decl)). marks_from (domain_in by ks table) 1 (all_placed ps)) c.as_slice-3.ensures.value
    ∙ ap (marks_from (domain_in by ks table) 1) c.in_ok-placed.ensures))))
    (sym (length-map c.as_slice-4.result.now mark_of)) c.in_ok-items.ensures
    (subst (λ (ds : List Declaration). IsLeastPair (VariableAgain ds) c.in_ok-variables.variables) (ap (λ (ds : List (Bor Decl)). declarations_under ds) c.as_slice-5.ensures.value ∙ c.in_ok-declarations.ensures) c.in_ok-variables.ensures)
    c.lesser.ensures
