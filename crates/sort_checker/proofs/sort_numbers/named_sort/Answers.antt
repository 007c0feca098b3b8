use Rattle.std.proofs.Common.{◌≡◌, sym, subst, ap, ◌∙◌}
use Rattle.std.specs.Prelude.{Some, Contains, slice_get}
use Rattle.std.specs.Str.{IsUtf8}
use Rattle.mcrl2_lexer.proofs.NameTokens.{identifier_is_text}
use Rattle.sort_table.proofs.NamedSignatures.{named_is_name, name_is_named}
use Rattle.sort_checker.proofs.NamedNumbers.{sort_name_stands, sort_there}
use Rattle.sort_checker.proofs.sort_numbers.named_sort.Goals as goal

pub text_of-text-requires : goal.text_of-text-requires
text_of-text-requires c = subst IsUtf8 (sym c.as_slice.ensures.value) (identifier_is_text c.requires.name)

pub unreachable-requires : goal.unreachable-requires
unreachable-requires c =
    c.in_default.ensures.found (subst (λ ts. Contains ts c.text_of-text.result.now) (sym c.names.ensures.texts) (subst (Contains c.args.sig.now.texts) (sym (c.text_of-text.ensures ∙ c.as_slice.ensures.value))
    (sort_name_stands c.args.sig.now c.next_sort.ensures.stands c.args.name.now.bytes.items c.requires.sort.0 c.requires.sort.1)))

pub unreachable-requires-in_default-sort : goal.unreachable-requires-in_default-sort
unreachable-requires-in_default-sort c =
    let text : slice_get c.args.sig.now.texts c.in-Some.number.0 ≡ Some c.args.name.now.bytes.items = ap (λ ts. slice_get ts c.in-Some.number.0) (sym c.names.ensures.texts) ∙ (c.in-Some.ensures.found ∙ ap Some (c.text_of-text.ensures ∙ c.as_slice.ensures.value)) in
    c.in_default-sort.ensures (named_is_name c.args.sig.now c.next_sort.ensures.stands c.in-Some.number c.args.name.now.bytes.items text c.requires.sort)

pub returns-clause-means : goal.returns-clause-means
returns-clause-means c =
    let text : slice_get c.args.sig.now.texts c.in-Some.number.0 ≡ Some c.args.name.now.bytes.items = ap (λ ts. slice_get ts c.in-Some.number.0) (sym c.names.ensures.texts) ∙ (c.in-Some.ensures.found ∙ ap Some (c.text_of-text.ensures ∙ c.as_slice.ensures.value)) in
    name_is_named c.args.sig.now c.next_sort.ensures.stands c.in-Some.number c.args.name.now.bytes.items text c.in-Some-sort.sort c.in-Some-sort.ensures

pub returns-clause-within : goal.returns-clause-within
returns-clause-within c = sort_there c.args.sig.now c.next_sort.ensures.stands c.in-Some.number c.in-Some-sort.sort c.in-Some-sort.ensures
