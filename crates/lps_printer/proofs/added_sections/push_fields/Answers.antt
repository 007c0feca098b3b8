use Rattle.std.proofs.Common.{sym, ◌∙◌}
use Rattle.std.proofs.lemmas.Result.{on_ok_weaker}
use Rattle.lps_printer.proofs.AddedSections.{no_fields, some_fields}
use Rattle.lps_printer.proofs.added_sections.push_fields.Goals as goal

pub returns-then-is_empty : goal.returns-then-is_empty
returns-then-is_empty c = λ n k. no_fields c.args.sig.now n c.args.projections.now c.args.sorts.now (sym c.is_empty.ensures ∙ c.if-is_empty.true) c.args.out.now.items

pub returns : goal.returns
returns c =
    on_ok_weaker c.push_token-2.result (λ p n k. some_fields c.args.sig.now n c.args.projections.now c.args.sorts.now (sym c.is_empty.ensures ∙ c.if-is_empty.false) c.projection_at.result c.projection_at.ensures c.in_ok-push_token.ensures (c.in_ok-push_field.ensures n k) (c.in_ok-push_further_fields.ensures n k) p) c.push_token-2.ensures
