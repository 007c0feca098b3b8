use Rattle.std.proofs.Common.{◌∙◌, List, sym, subst, ap}
use Rattle.std.specs.Prelude.{slice_get}
use Rattle.data_theory.specs.declared.ids.NameId.{NameId}
use Rattle.data_theory.proofs.PlaceLemmas.{read_contained}
use Rattle.sort_table.specs.SortMeanings.{kinds_in, under_names}
use Rattle.sort_table.specs.SignatureVocabularies.{text_under}
use Rattle.sort_table.specs.DeclaredNames.{own_among, AreNamesOf}
use Rattle.sort_table.specs.DeclarationTrees.{declarations_of_text}
use Rattle.sort_table.proofs.FirstEmpty.{text_within}
use Rattle.sort_table.proofs.NamedSignatures.{text_read}
use Rattle.sort_table.proofs.building.inhabited_signature.Goals as goal

pub declared_signature-requires : goal.declared_signature-requires
declared_signature-requires c = record { placed = c.requires.placed; text = c.requires.text; known = c.requires.known; round = c.requires.no_cycle; once = c.requires.once }

pub returns-in-Ok-None-clause-built : goal.returns-in-Ok-None-clause-built
returns-in-Ok-None-clause-built c =
    let ds = declarations_of_text c.args.spec.now in
    let g = c.in_ok-signature.signature in
    let names = subst (λ (ids : List NameId). AreNamesOf g ids ds) (sym c.as_slice.ensures.value) c.in_ok-signature.ensures.names in
    let found = rw c.in-Ok-None.field-0-is at c.in-Ok-None.ensures.found ds c.in_ok-signature.ensures.declared.vocabulary names in
    let inhabited = rw c.in-Ok-None.field-0-is at c.in-Ok-None.ensures.inhabited ds c.in_ok-signature.ensures.declared.vocabulary names in
    record {
      sound = record { known = c.requires.known; no_cycle = c.requires.no_cycle; once = c.requires.once; inhabited = found };
      declared = c.in_ok-signature.ensures.declared;
      inhabited = inhabited;
    }

pub returns-in-Ok-Some-clause-refused : goal.returns-in-Ok-Some-clause-refused
returns-in-Ok-Some-clause-refused c =
    let ds = declarations_of_text c.args.spec.now in
    let g = c.in_ok-signature.signature in
    let names = subst (λ (ids : List NameId). AreNamesOf g ids ds) (sym c.as_slice.ensures.value) c.in_ok-signature.ensures.names in
    let among = rw c.in-Ok-Some.field-0-is at c.in-Ok-Some.ensures.among in
    let found = rw c.in-Ok-Some.field-0-is at c.in-Ok-Some.ensures.found ds c.in_ok-signature.ensures.declared.vocabulary names in
    let at = read_contained c.as_slice.result.now c.in-Ok-Some.name among in
    let within = text_within g c.as_slice.result.now (own_among (under_names ds).sort (kinds_in ds)) names at.0 c.in-Ok-Some.name at.1 in (
      text_under g c.in-Ok-Some.name,
      ap (λ ts. slice_get ts c.in-Ok-Some.name.0) c.into_names.ensures ∙ text_read g.texts c.in-Ok-Some.name.0 within,
      (c.requires.known, c.requires.no_cycle, c.requires.once, found),
    )
