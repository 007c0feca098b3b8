use Rattle.std.proofs.Common.{[], ◌∷◌, map, length}
use Rattle.std.specs.List.{All}
use Rattle.data_theory.specs.Terms.{Term}
use Rattle.term_pool.specs.HeadTrees.{IsIn}
use Rattle.term_pool.specs.Pools.{Extends}
use Rattle.data_typing.specs.Making.{Make}
use Rattle.data_typing.specs.CodeParts.{part_items, term_at, IsPartWithin, KeepTrees}
use Rattle.std.proofs.Common.{◌≡◌}
use Rattle.data_typing.proofs.making.made_term.Given as goal

abbrev pub invariant-loop-part : goal.invariant-loop-part
invariant-loop-part l = record {
  within : All (IsIn l.pool.trees) l.made.items;
  makes : (t : Term) → Make (part_items l.sig l.fn.parts.items) [] (t ∷ []) → Make (part_items l.sig l.parts.items) (map (term_at l.sig l.pool.trees) l.made.items) (t ∷ []);
  there : All (IsPartWithin l.sig) l.parts.items;
  trees : KeepTrees l.sig l.fn.pool.trees l.sig l.pool.trees;
  kept : Extends l.fn.pool.trees l.pool.trees;
  constants : l.pool.constants ≡ l.fn.pool.constants;
}

abbrev pub decreases-loop-part : goal.decreases-loop-part
decreases-loop-part l = length l.parts.items
