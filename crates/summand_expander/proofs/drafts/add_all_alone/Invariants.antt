use Rattle.std.proofs.Common.{◌≡◌, ◌++◌, map, take}
use Rattle.std.specs.Prelude.{flat_map}
use Rattle.summand_expander.specs.Drafts.{lone_drafts, plain_draft, plain_move, plain_side}
use Rattle.summand_expander.proofs.drafts.add_all_alone.Given as goal

abbrev pub invariant-loop-step : goal.invariant-loop-step
invariant-loop-step l = map plain_draft l.drafts.items ≡ map plain_draft l.fn.drafts.items ++ flat_map (lone_drafts l.own_first (plain_side l.own) (plain_side l.other)) (map plain_move (take l.step-index l.step-items))
