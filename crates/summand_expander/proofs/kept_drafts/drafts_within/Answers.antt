use Rattle.std.proofs.Common.{◌≡◌, true, map, sym, ap, ◌∙◌}
use Rattle.std.specs.Prelude.{Vec}
use Rattle.std.specs.Global.{Global}
use Rattle.std.specs.List.{list_any}
use Rattle.action_filters.proofs.Loops.{if_ok}
use Rattle.summand_expander.specs.declared.sides.Draft.{Draft}
use Rattle.summand_expander.specs.Drafts.{all_drafts, plain_draft, plain_side}
use Rattle.summand_expander.specs.KeptDrafts.{draft_ends, draft_stays, is_last}
use Rattle.summand_expander.specs.PlainAllowed.{plain_allowed}
use Rattle.summand_expander.specs.Pruned.{kept, pruned}
use Rattle.summand_expander.proofs.KeptDrafts.{endless_pruned, left_never_ends, no_end_passes, plain_drafts_end, right_never_ends, some_end_passes}
use Rattle.summand_expander.proofs.kept_drafts.drafts_within.Goals as goal

pub returns-then-not-can_stop : goal.returns-then-not-can_stop
returns-then-not-can_stop c =
    let passes = draft_stays c.args.sig.now (plain_allowed c.args.allowed.now) in
    let all = all_drafts (plain_side c.args.left.now) (plain_side c.args.right.now) in
    endless_pruned passes is_last all (map plain_draft c.in_ok-drafts.drafts.items) (left_never_ends (plain_side c.args.left.now) (plain_side c.args.right.now) (sym c.can_stop.ensures ∙ c.if-not-can_stop.true)) c.in_ok-drafts.ensures.drafts

pub returns-then-not-can_stop-2 : goal.returns-then-not-can_stop-2
returns-then-not-can_stop-2 c =
    let passes = draft_stays c.args.sig.now (plain_allowed c.args.allowed.now) in
    let all = all_drafts (plain_side c.args.left.now) (plain_side c.args.right.now) in
    endless_pruned passes is_last all (map plain_draft c.in_ok-drafts.drafts.items) (right_never_ends (plain_side c.args.left.now) (plain_side c.args.right.now) (sym c.can_stop-2.ensures ∙ c.if-not-can_stop-2.true)) c.in_ok-drafts.ensures.drafts

pub returns-then-some_end : goal.returns-then-some_end
returns-then-some_end c =
    let passes = draft_stays c.args.sig.now (plain_allowed c.args.allowed.now) in
    let all = all_drafts (plain_side c.args.left.now) (plain_side c.args.right.now) in
    some_end_passes passes is_last all (map plain_draft c.in_ok-drafts.drafts.items) c.in_ok-drafts.ensures.drafts
    (sym (plain_drafts_end c.in_ok-drafts.drafts.items) ∙ ap (λ ds. list_any draft_ends ds) (sym c.as_slice.ensures.value) ∙ sym c.some_end.ensures ∙ c.if-some_end.true)

pub returns : goal.returns
returns c =
    let passes = draft_stays c.args.sig.now (plain_allowed c.args.allowed.now) in
    let all = all_drafts (plain_side c.args.left.now) (plain_side c.args.right.now) in
    let none = sym (plain_drafts_end c.in_ok-drafts.drafts.items) ∙ ap (λ ds. list_any draft_ends ds) (sym c.as_slice.ensures.value) ∙ sym c.some_end.ensures ∙ c.if-some_end.false in
    if_ok c.drafts_kept-2.result (λ (found : Vec Draft Global). map plain_draft found.items ≡ kept passes is_last true all) (λ (found : Vec Draft Global). map plain_draft found.items ≡ pruned passes is_last all)
    (λ found e. e ∙ no_end_passes passes is_last all (map plain_draft c.in_ok-drafts.drafts.items) c.in_ok-drafts.ensures.drafts none) c.drafts_kept-2.ensures.drafts
