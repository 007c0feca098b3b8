use Rattle.std.proofs.Common.{◌≡◌, ◌++◌, map, take}
use Rattle.lps_simulator.specs.OptionsInCode.{meant_move, plain_move}
use Rattle.lin_tasks.specs.Shown.{move_lines}
use Rattle.lin_tasks.proofs.option_texts.push_moves.Given as goal

abbrev pub invariant-loop-index : goal.invariant-loop-index
invariant-loop-index l = l.text.items ≡ l.initial.text.items ++ move_lines l.sig 1 (map (meant_move l.sig l.pool.trees) (map plain_move (take l.index l.moves)))
