use Rattle.std.proofs.Common.{◌≡◌, map}
use Rattle.mcrl2_syntax.specs.ProcessParts.{plain_action}
use Rattle.mcrl2_syntax.specs.ProcessTrees.{plain_process}
use Rattle.mcrl2_parser.specs.AtOnce.{acts_among}
use Rattle.mcrl2_parser.proofs.together.actions_among.Given as goal

abbrev pub invariant-loop-part : goal.invariant-loop-part
invariant-loop-part l = map plain_action l.actions.items ≡ acts_among (map plain_process l.yielded)
