use Rattle.std.proofs.Common.{◌+◌, ◌*◌, length, map}
use Rattle.mcrl2_syntax.specs.ProcessTrees.{plain_process}
use Rattle.mcrl2_parser.specs.Arrows.{HasArrows}
use Rattle.mcrl2_parser.proofs.ProcessChains.{ChoicesLeft, MergeLeft, PartsLeft}
use Rattle.mcrl2_parser.proofs.MultiChains.{MultiLeft}
use Rattle.mcrl2_parser.proofs.processes.+process.Given as goal

abbrev pub decreases-atom : goal.decreases-atom
decreases-atom l = length l.tokens.now * 8

abbrev pub decreases-sum : goal.decreases-sum
decreases-sum l = length l.tokens.now * 8

abbrev pub decreases-multi : goal.decreases-multi
decreases-multi l = length l.tokens.now * 8 + 1

abbrev pub decreases-part : goal.decreases-part
decreases-part l = length l.tokens.now * 8 + 2

abbrev pub decreases-operand : goal.decreases-operand
decreases-operand l = length l.tokens.now * 8 + 3

abbrev pub decreases-condition : goal.decreases-condition
decreases-condition l = length l.tokens.now * 8 + 4

abbrev pub decreases-left : goal.decreases-left
decreases-left l = length l.tokens.now * 8 + 4

abbrev pub decreases-merge : goal.decreases-merge
decreases-merge l = length l.tokens.now * 8 + 5

abbrev pub decreases-process : goal.decreases-process
decreases-process l = length l.tokens.now * 8 + 6

abbrev pub invariant-process-parts : goal.invariant-process-parts
invariant-process-parts l = ChoicesLeft l.text l.tokens (map plain_process l.parts.items) l.rest × HasArrows l.arrows l.rest

abbrev pub decreases-process-parts : goal.decreases-process-parts
decreases-process-parts l = length l.rest

abbrev pub invariant-merge-parts : goal.invariant-merge-parts
invariant-merge-parts l = MergeLeft l.text l.tokens (map plain_process l.parts.items) l.rest × HasArrows l.arrows l.rest

abbrev pub decreases-merge-parts : goal.decreases-merge-parts
decreases-merge-parts l = length l.rest

abbrev pub invariant-operand-parts : goal.invariant-operand-parts
invariant-operand-parts l = PartsLeft l.text l.tokens (map plain_process l.parts.items) l.rest × HasArrows l.arrows l.rest

abbrev pub decreases-operand-parts : goal.decreases-operand-parts
decreases-operand-parts l = length l.rest

abbrev pub invariant-multi-parts : goal.invariant-multi-parts
invariant-multi-parts l = MultiLeft l.text l.tokens (map plain_process l.parts.items) l.rest × HasArrows l.arrows l.rest

abbrev pub decreases-multi-parts : goal.decreases-multi-parts
decreases-multi-parts l = length l.rest
