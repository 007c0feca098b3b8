use Rattle.std.proofs.Common.{◌≡◌, ◌&&◌, ◌||◌, drop}
use Rattle.mcrl2_parser.specs.Arrows.{begins_arrow, closes_at_arrow}
use Rattle.mcrl2_parser.proofs.arrows.closes_at_arrow.Given as goal

abbrev pub invariant-loop-token : goal.invariant-loop-token
invariant-loop-token l = l.closes && begins_arrow (drop l.token-index l.tokens) || closes_at_arrow (drop l.token-index l.tokens) ≡ closes_at_arrow l.tokens
