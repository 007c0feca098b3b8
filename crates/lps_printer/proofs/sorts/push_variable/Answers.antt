use Rattle.std.proofs.Common.{◌≡◌, sym, ◌∙◌, subst, Some}
use Rattle.std.specs.Prelude.{slice_get}
use Rattle.std.proofs.lemmas.Result.{on_ok_weaker}
use Rattle.mcrl2_lexer.specs.declared.kind.Kind.TheVariants.{Identifier, Colon}
use Rattle.lps_printer.proofs.CodeSorts.{variable_named, variable_sorted, variable_added}
use Rattle.lps_printer.proofs.sorts.push_variable.Goals as goal

pub returns : goal.returns
returns c =
    let sig = c.args.sig.now in
    let text = subst (λ ts. slice_get ts c.var_name.result.0 ≡ Some c.text.result.now) c.names-names.ensures.texts c.text.ensures in
    on_ok_weaker c.push_sort.result (λ p n k v.
    variable_added sig n c.args.var c.args.gap.now c.as_bytes.result.now c.var_sort.result
    (c.as_bytes.ensures.value ∙ sym (variable_named sig n v c.args.var c.var_name.result c.text.result.now c.requires c.var_name.ensures text)) (variable_sorted sig c.args.var c.var_sort.result c.requires c.var_sort.ensures)
    Identifier Colon (c.in_ok-push_token.ensures Identifier) (c.in_ok-push_token-2.ensures Colon) (p n k)) c.push_sort.ensures
