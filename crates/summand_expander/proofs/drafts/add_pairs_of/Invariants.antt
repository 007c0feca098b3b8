use Rattle.std.proofs.Common.{◌≡◌, ◌++◌, map, take}
use Rattle.summand_expander.specs.Drafts.{both_moves, plain_draft, plain_move, plain_side}
use Rattle.summand_expander.proofs.drafts.add_pairs_of.Given as goal

abbrev pub invariant-loop-second : goal.invariant-loop-second
invariant-loop-second l = map plain_draft l.drafts.items ≡ map plain_draft l.fn.drafts.items ++ map (both_moves (plain_side l.left) (plain_side l.right) (plain_move l.first)) (map plain_move (take l.second-index l.second-items))
