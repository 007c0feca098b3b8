use Rattle.std.proofs.Common.{◌∙◌}
use Rattle.std.proofs.lemmas.Result.{err_from_is_err_and}
use Rattle.mcrl2_syntax.specs.ProcessParts.{plain_action, action_span}
use Rattle.mcrl2_parser.proofs.Names.{same_span}
use Rattle.mcrl2_parser.proofs.Actions.{by_label, labelled, label_only}
use Rattle.mcrl2_parser.proofs.parts.label.Goals as goal

pub returns-in_err-actions-clause-only : goal.returns-in_err-actions-clause-only
returns-in_err-actions-clause-only c = λ l r d s. let e = err_from_is_err_and c.from_residual.result c.from_residual.ensures.1 in
    let g = labelled d in
    rw e.1 (e.2 ∙ c.in_err-actions.ensures.only g.actions r g.read s)

pub returns-clause-found : goal.returns-clause-found
returns-clause-found c = by_label c.new.ensures (same_span action_span plain_action c.actions_span.ensures c.deref.ensures.value) c.in_ok-actions.ensures.found

pub returns-clause-only : goal.returns-clause-only
returns-clause-only c = λ l r d s. let g = labelled d in label_only c.new.ensures (same_span action_span plain_action c.actions_span.ensures c.deref.ensures.value) g (c.in_ok-actions.ensures.only g.actions r g.read s)
