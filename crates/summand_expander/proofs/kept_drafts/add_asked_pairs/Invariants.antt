use Rattle.std.proofs.Common.{map, take}
use Rattle.summand_expander.specs.Answers.{AreAnswers}
use Rattle.summand_expander.specs.Drafts.{both_moves, plain_draft, plain_move, plain_side}
use Rattle.summand_expander.specs.KeptDrafts.{draft_stays, is_last, Keeps}
use Rattle.summand_expander.specs.PlainAllowed.{plain_allowed}
use Rattle.summand_expander.proofs.kept_drafts.add_asked_pairs.Given as goal

abbrev pub invariant-loop-second : goal.invariant-loop-second
invariant-loop-second l = record {
  answers : AreAnswers (plain_allowed l.allowed) l.answers;
  keeps : Keeps (draft_stays l.sig (plain_allowed l.allowed)) is_last (map (both_moves (plain_side l.left) (plain_side l.right) (plain_move l.first)) (map plain_move (take l.second-index l.second-items))) l.fn.spare l.spare (map plain_draft l.fn.drafts.items) (map plain_draft l.drafts.items);
}
