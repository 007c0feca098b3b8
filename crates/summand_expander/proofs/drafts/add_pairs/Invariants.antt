use Rattle.std.proofs.Common.{◌≡◌, ◌++◌, map, take}
use Rattle.std.specs.Prelude.{flat_map}
use Rattle.summand_expander.specs.Drafts.{both_moves, plain_draft, plain_move, plain_side}
use Rattle.summand_expander.proofs.drafts.add_pairs.Given as goal

abbrev pub invariant-loop-first : goal.invariant-loop-first
invariant-loop-first l = map plain_draft l.drafts.items ≡ map plain_draft l.fn.drafts.items ++ flat_map (λ m. map (both_moves (plain_side l.left) (plain_side l.right) m) (map plain_move l.right.moves.items)) (map plain_move (take l.first-index l.first-items))
