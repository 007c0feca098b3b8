use Rattle.std.proofs.Common.{◌≡◌, IfOk, subst}
use Rattle.term_pool.specs.HeadTrees.{tree_at}
use Rattle.lps_core.specs.TreeConditions.{conjunction_tree}
use Rattle.stack_encoder.proofs.FrameTrees.{condition_made}
use Rattle.stack_encoder.proofs.frames.encode_condition.Goals as goal

pub returns-clause-tree : goal.returns-clause-tree
returns-clause-tree c =
    subst (λ z. IfOk c.conjoined.result (λ id. tree_at c.conjoined.new.pool.trees id ≡ conjunction_tree z))
    (condition_made c.args.pool.now.trees c.own_parts.new.pool.trees _ c.args.own c.in_ok-conditions.conditions.items c.parts_of.new.found.items c.extend_from_slice.new.self.items c.args.further.now
    c.own_parts.ensures.kept c.requires.within c.requires.further c.in_ok-conditions.ensures.trees c.in_ok-parts_of.ensures.parts c.in_ok-extend_from_slice.ensures.items)
    c.conjoined.ensures.tree
