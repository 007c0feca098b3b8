use Rattle.std.proofs.Common.{◌≡◌, [], map, ap, rules}
use Rattle.summand_expander.specs.Drafts.{plain_draft, plain_side}
use Rattle.summand_expander.specs.KeptDrafts.{draft_stays}
use Rattle.summand_expander.specs.PlainAllowed.{plain_allowed}
use Rattle.summand_expander.proofs.KeptDrafts.{keeps_all}
use Rattle.summand_expander.proofs.kept_drafts.drafts_kept.Goals as goal

pub returns-clause-drafts : goal.returns-clause-drafts
returns-clause-drafts c =
    let empty : c.new-drafts.result.items ≡ [] = search rules in
    keeps_all (draft_stays c.args.sig.now (plain_allowed c.args.allowed.now)) (plain_side c.args.left.now) (plain_side c.args.right.now) c.args.spare _ _ _ _ _ _ _ (ap (map plain_draft) empty) c.in_ok-add_all_alone_within.ensures.added c.in_ok-add_all_alone_within-2.ensures.added c.in_ok-add_pairs_within.ensures.added
