use Rattle.std.proofs.Common.{◌∙◌, sym, ap, subst}
use Rattle.std.specs.Prelude.{Some, slice_get}
use Rattle.std.specs.List.{Contains}
use Rattle.std.specs.Str.{IsUtf8}
use Rattle.mcrl2_lexer.proofs.NameTokens.{identifier_is_text}
use Rattle.sort_checker.proofs.SortsByName.{no_text}
use Rattle.sort_checker.proofs.variable_sorts.named_sort.Goals as goal

pub text_of-text-requires : goal.text_of-text-requires
text_of-text-requires c = subst IsUtf8 (sym c.as_slice.ensures.value) (identifier_is_text c.requires.name)

pub returns-in-Some-clause-means : goal.returns-in-Some-clause-means
returns-in-Some-clause-means c =
    c.numbered_sort.ensures.means c.args.name.now.bytes.items (ap (λ ts. slice_get ts c.in-Some.number.0) (sym c.names.ensures.texts) ∙ (c.in-Some.ensures.found ∙ ap (λ n. Some n) (c.text_of-text.ensures ∙ c.as_slice.ensures.value)))

pub returns-in-None-clause-means : goal.returns-in-None-clause-means
returns-in-None-clause-means c =
    sym (no_text c.args.sig.now c.next_sort.ensures.stands c.args.name.now.bytes.items
    (λ there. c.in-None.ensures.found (subst (λ ts. Contains ts c.text_of-text.result.now) (sym c.names.ensures.texts) (subst (Contains c.args.sig.now.texts) (sym (c.text_of-text.ensures ∙ c.as_slice.ensures.value)) there))))
