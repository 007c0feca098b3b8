use Rattle.std.proofs.Common.{◌++◌, ap, ◌∙◌, map}
use Rattle.std.specs.Prelude.{flat_map}
use Rattle.std.proofs.lemmas.List.{take_all}
use Rattle.process_terms.specs.PlainProcesses.{plain_rule}
use Rattle.communication.specs.Places.{joining_of, placed, plain_draft, plain_start}
use Rattle.communication.specs.Rounds.{drafts, if_whole}
use Rattle.communication.proofs.Rounds.{starts_of_drafts}
use Rattle.communication.proofs.starts.add_starts_by.Goals as goal

pub returns : goal.returns
returns c =
    c.loop-draft.invariant
    ∙ ap (λ l. map plain_start c.args.found.now.items ++ l)
    (ap (λ ds. flat_map (if_whole c.args.rule.now.result c.args.first) (map plain_draft ds)) (take_all c.loop-draft.draft-index c.deref-draft-items.result.now c.loop-draft-test.false)
    ∙ starts_of_drafts placed c.args.first c.args.later.now (joining_of (plain_rule c.args.rule.now)) (map plain_draft c.deref-draft-items.result.now) (ap (map plain_draft) c.deref-draft-items.ensures.value ∙ c.in_ok-drafts.ensures ∙ ap (λ l. drafts placed l c.args.first c.args.later.now) c.as_slice.ensures.value))
