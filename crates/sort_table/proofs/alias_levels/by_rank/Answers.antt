use Rattle.std.proofs.Common.{◌≡◌, ℕ, length, subst, arith}
use Rattle.sort_table.specs.DeclaringSorts.{AreByRank}
use Rattle.sort_table.proofs.FirstPlaces.{rank_none, rank_more}
use Rattle.sort_table.proofs.alias_levels.by_rank.Goals as goal

pub loop-place-init : goal.loop-place-init
loop-place-init c = rank_none c.args.ranks.now c.in_ok-levels.levels.items c.in_ok-levels.ensures.size c.in_ok-levels.ensures.none

pub add_edge-requires : goal.add_edge-requires
add_edge-requires c = omega (arith, c.requires c.loop-place.place (omega arith), c.loop-place.invariant.size)

pub loop-place-preserved : goal.loop-place-preserved
loop-place-preserved c = rank_more c.args.ranks.now c.loop-place.place c.loop-place.levels.items c.add_edge.new.edges.items c.loop-place.invariant c.in_ok-add_edge.ensures

pub returns : goal.returns
returns c = let end : c.loop-place.place ≡ length c.args.ranks.now = omega arith in subst (λ (n : ℕ). AreByRank c.args.ranks.now n c.loop-place.levels.items) end c.loop-place.invariant
