use Rattle.std.proofs.Common.{◌||◌, sym, ap, ◌∙◌}
use Rattle.std.specs.List.{list_any}
use Rattle.summand_expander.specs.KeptDrafts.{step_ends}
use Rattle.summand_expander.specs.Drafts.{PlainMove, plain_side}
use Rattle.summand_expander.proofs.KeptDrafts.{plain_steps_end}
use Rattle.summand_expander.proofs.kept_drafts.can_stop.Goals as goal

pub returns-then-is_some : goal.returns-then-is_some
returns-then-is_some c = ap (λ b. b || list_any (λ (m : PlainMove). m.ends) (plain_side c.args.side.now).moves) (sym c.if-is_some.true ∙ c.is_some.ensures)

pub returns : goal.returns
returns c =
    c.some_step_ends.ensures ∙ ap (λ ms. list_any step_ends ms) c.as_slice.ensures.value ∙ plain_steps_end c.args.side.now.moves.items
    ∙ ap (λ b. b || list_any (λ (m : PlainMove). m.ends) (plain_side c.args.side.now).moves) (sym c.if-is_some.false ∙ c.is_some.ensures)
