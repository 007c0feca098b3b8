use Rattle.std.proofs.Common.{◌≡◌, ◌+◌, ◌≤◌, drop}
use Rattle.std.specs.Prelude.{max, sum, reverse}
use Rattle.mcrl2_parser.specs.Levels.{counts, level_from, level_of}
use Rattle.mcrl2_parser.proofs.levels.level.Given as goal

abbrev pub invariant-loop-token : goal.invariant-loop-token
invariant-loop-token l =
    (max l.most (level_from (counts l.inner (reverse l.outer.items)) (drop l.token-index l.tokens)) ≡ level_of l.tokens)
    × (l.total ≡ l.inner + sum (reverse l.outer.items)) × (l.total ≤ 1000) × (l.most ≤ 1000)
