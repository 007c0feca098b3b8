use Rattle.std.proofs.Common.{map, take}
use Rattle.std.specs.Prelude.{flat_map}
use Rattle.summand_expander.specs.Answers.{AreAnswers}
use Rattle.summand_expander.specs.Drafts.{lone_drafts, plain_draft, plain_move, plain_side}
use Rattle.summand_expander.specs.KeptDrafts.{draft_stays, is_last, Keeps}
use Rattle.summand_expander.specs.PlainAllowed.{plain_allowed}
use Rattle.summand_expander.proofs.kept_drafts.add_all_alone_within.Given as goal

abbrev pub invariant-loop-step : goal.invariant-loop-step
invariant-loop-step l = record {
  answers : AreAnswers (plain_allowed l.allowed) l.answers;
  keeps : Keeps (draft_stays l.sig (plain_allowed l.allowed)) is_last (flat_map (lone_drafts l.own_first (plain_side l.own) (plain_side l.other)) (map plain_move (take l.step-index l.step-items))) l.fn.spare l.spare (map plain_draft l.fn.drafts.items) (map plain_draft l.drafts.items);
}
