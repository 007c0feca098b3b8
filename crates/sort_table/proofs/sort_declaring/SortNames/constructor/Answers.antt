use Rattle.std.proofs.Common.{map, subst}
use Rattle.mcrl2_syntax.specs.Declarations.{field_of}
use Rattle.sort_table.specs.BareDeclarations.{bare_field}
use Rattle.sort_table.specs.Vocabularies.{EachPair}
use Rattle.sort_table.specs.EnteredFunctions.{IsNameId, IsFieldOf}
use Rattle.sort_table.proofs.sort_declaring.SortNames.constructor.Goals as goal

pub returns : goal.returns
returns c =
    let g = c.args.signature.now in
    record {
      name = subst (λ n. IsNameId g n c.name_id-name.result) c.as_slice.ensures.value c.name_id-name.ensures;
      fields = subst (λ fs. EachPair (IsFieldOf g) (map bare_field (map field_of fs)) c.in_ok-fields.fields.items) c.as_slice-2.ensures.value c.in_ok-fields.ensures;
      recogniser = c.optional_id-test.ensures;
    }
