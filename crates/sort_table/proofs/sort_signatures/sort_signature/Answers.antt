use Rattle.std.proofs.Common.{◌≡◌, ◌∙◌, List, sym, ap, subst}
use denote.Ref.{Bor}
use Rattle.std.specs.List.{All}
use Rattle.std.specs.Str.{IsUtf8}
use Rattle.mcrl2_syntax.specs.declared.declaration.Decl.{Decl}
use Rattle.data_theory.specs.Signature.{Sig}
use Rattle.sort_table.specs.Expressions.{Name}
use Rattle.sort_table.specs.SortMeanings.{Kind, kinds_in}
use Rattle.sort_table.specs.DeclarationTrees.{declarations_under, declarations_of_text}
use Rattle.sort_table.specs.NamedSorts.{AreIdsOf, sort_count}
use Rattle.sort_table.specs.IndexedKinds.{kinds_of_index}
use Rattle.sort_table.proofs.NamedSignatures.{first_ids, first_has_no_names, first_has_no_sorts}
use Rattle.sort_table.proofs.sort_signatures.sort_signature.Goals as goal

pub enter_sort_names-requires : goal.enter_sort_names-requires
enter_sort_names-requires c =
    let kinds : kinds_of_index c.in_ok-index.index ≡ kinds_in (declarations_of_text c.args.spec.now) =
    c.in_ok-index.ensures ∙ (ap (λ (l : List (Bor Decl)). kinds_in (declarations_under l)) c.as_slice.ensures.value ∙ ap kinds_in c.in_ok-declarations.ensures) in
    subst (λ (rs : List (Name × Kind)). All (λ (r : Name × Kind). IsUtf8 r.0) rs) (sym kinds) c.requires.text

pub declare-requires-clause-ids : goal.declare-requires-clause-ids
declare-requires-clause-ids c =
    subst (λ (g : Sig). AreIdsOf g.texts (kinds_of_index c.in_ok-sorts.sorts.index) c.in_ok-sorts.sorts.ids.items) (sym c.in_ok-signature.ensures)
    (first_ids c.enter_sort_names.new.names (kinds_of_index c.in_ok-sorts.sorts.index) c.in_ok-sorts.sorts.ids.items
    (subst (λ (rs : List (Name × Kind)). AreIdsOf c.enter_sort_names.new.names rs c.in_ok-sorts.sorts.ids.items) (sym c.in_ok-sorts.ensures.index) c.in_ok-sorts.ensures.ids))

pub declare-requires-clause-no_names : goal.declare-requires-clause-no_names
declare-requires-clause-no_names c = ap (λ (g : Sig). g.sort_names) c.in_ok-signature.ensures ∙ first_has_no_names c.enter_sort_names.new.names

pub declare-requires-clause-no_sorts : goal.declare-requires-clause-no_sorts
declare-requires-clause-no_sorts c = ap sort_count c.in_ok-signature.ensures ∙ first_has_no_sorts c.enter_sort_names.new.names

pub declare-requires-clause-sound : goal.declare-requires-clause-sound
declare-requires-clause-sound c =
    let kinds : kinds_of_index c.in_ok-index.index ≡ kinds_in (declarations_of_text c.args.spec.now) =
    c.in_ok-index.ensures ∙ (ap (λ (l : List (Bor Decl)). kinds_in (declarations_under l)) c.as_slice.ensures.value ∙ ap kinds_in c.in_ok-declarations.ensures) in
    (declarations_of_text c.args.spec.now, c.in_ok-sorts.ensures.index ∙ kinds, c.requires.known, c.requires.no_cycle)

pub returns : goal.returns
returns c =
    let kinds : kinds_of_index c.in_ok-index.index ≡ kinds_in (declarations_of_text c.args.spec.now) =
    c.in_ok-index.ensures ∙ (ap (λ (l : List (Bor Decl)). kinds_in (declarations_under l)) c.as_slice.ensures.value ∙ ap kinds_in c.in_ok-declarations.ensures) in
    c.in_ok-declare.ensures.sorts (declarations_of_text c.args.spec.now) (c.in_ok-sorts.ensures.index ∙ kinds)
