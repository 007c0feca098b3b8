use Rattle.std.proofs.Common.{◌≡◌, ◌<◌, ◌+◌, [], List, ℕ, subst, arith, length}
use Rattle.std.specs.List.{Contains}
use Rattle.graphs.specs.Distances.{ReachesLevel}
use Rattle.graphs.proofs.Marks.{none_left}
use Rattle.graphs.proofs.Distances.{level_next, level_ended, at_below, some_left, nothing_left}
use Rattle.graphs.proofs.cycles.distances_to.Goals as goal

pub next_level-requires-clause-level : goal.next_level-requires-clause-level
next_level-requires-clause-level c =
    λ a stands. omega (arith, at_below c.levels.distances.items a c.levels.distance (c.levels.invariant.on_level a (subst (λ (l : List ℕ). Contains l a) c.as_slice.ensures.value stands)), c.levels.invariant.size)

pub levels-preserved : goal.levels-preserved
levels-preserved c =
    let some : 0 < length c.levels.level.items = omega (arith, some_left _ c.levels-test.ensures, c.levels.level.ok.0) in
    level_next _ _ _ _ _ _ _ c.levels.invariant some (subst (λ (l : List ℕ). ReachesLevel c.args.back.now l (c.levels.distance + 1) c.levels.distances.items c.next_level.new.distances.items c.in_ok-level.level.items) c.as_slice.ensures.value c.in_ok-level.ensures)

pub returns-clause-distances : goal.returns-clause-distances
returns-clause-distances c =
    let none : c.levels.level.items ≡ [] = none_left c.levels.level.items (λ some. omega (arith, some, nothing_left _ c.levels-test.ensures, c.levels.level.ok.0)) in
    level_ended _ _ _ _ _ none c.levels.invariant
