use Rattle.std.proofs.Common.{◌≡◌, ap, ◌∙◌, subst, Some}
use Rattle.std.specs.Prelude.{slice_get}
use Rattle.std.proofs.lemmas.Result.{on_ok_weaker}
use Rattle.mcrl2_lexer.specs.declared.kind.Kind.TheVariants.{Identifier}
use Rattle.sort_table.specs.BareSorts.{a_name}
use Rattle.lps_printer.proofs.CodeSorts.{adds_sort, sort_named}
use Rattle.lps_printer.proofs.sorts.push_sort_name.Goals as goal

pub returns : goal.returns
returns c =
    let text = subst (λ ts. slice_get ts c.sort_name.result.0 ≡ Some c.text.result.now) c.names-names.ensures.texts c.text.ensures in
    on_ok_weaker c.push_token.result (λ p n k. adds_sort c.args.gap.now
    (ap a_name (c.as_bytes.ensures.value ∙ sort_named c.args.sig.now n k c.args.sort c.sort_name.result c.text.result.now c.requires.within c.requires.declared c.sort_name.ensures text)) (p Identifier)) c.push_token.ensures
