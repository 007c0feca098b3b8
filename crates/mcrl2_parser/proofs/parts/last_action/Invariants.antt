use Rattle.std.proofs.Common.{◌≡◌, drop, map}
use Rattle.mcrl2_syntax.specs.Words.{last_of}
use Rattle.mcrl2_syntax.specs.ProcessParts.{plain_action, action_span}
use Rattle.mcrl2_parser.proofs.parts.last_action.Given as goal

abbrev pub invariant-loop-action : goal.invariant-loop-action
invariant-loop-action l = last_of action_span l.span (map plain_action (drop l.action-index l.actions)) ≡ last_of action_span l.fn.here (map plain_action l.actions)
