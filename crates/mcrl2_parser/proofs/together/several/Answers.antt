use Rattle.std.proofs.Common.{map, ap, ◌∙◌}
use Rattle.mcrl2_syntax.specs.Words.{spanned}
use Rattle.mcrl2_syntax.specs.ProcessParts.{action_span, plain_action}
use Rattle.mcrl2_syntax.specs.ProcessTrees.{plain_process, process_span}
use Rattle.mcrl2_parser.specs.AtOnce.{are_acts}
use Rattle.mcrl2_parser.proofs.AtOnceLemmas.{multi_at_once, not_one, sync_at_once}
use Rattle.mcrl2_parser.proofs.together.several.Goals as goal

pub returns-then-not-are_actions-clause-tree : goal.returns-then-not-are_actions-clause-tree
returns-then-not-are_actions-clause-tree c =
    sync_at_once (map plain_process c.args.parts.items) (not_one c.args.parts.items c.requires) (c.if-not-are_actions.ensures ∙ ap (λ ps. are_acts (map plain_process ps)) c.deref.ensures.value) c.sync_at.ensures
    (c.parts_span-span.ensures ∙ ap (λ ps. spanned process_span (map plain_process ps)) c.deref-then-not-are_actions.ensures.value)

pub returns-clause-tree : goal.returns-clause-tree
returns-clause-tree c =
    multi_at_once (map plain_process c.args.parts.items) (not_one c.args.parts.items c.requires) (c.if-not-are_actions.ensures ∙ ap (λ ps. are_acts (map plain_process ps)) c.deref.ensures.value) c.in_ok-actions.ensures.among c.multi_at.ensures
    (c.actions_span-span.ensures ∙ ap (λ as_. spanned action_span (map plain_action as_)) c.deref-2.ensures.value)
