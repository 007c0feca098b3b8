use Rattle.std.proofs.Common.{◌≡◌, IfOk, subst, refl, ◌∙◌, Some, [], ◌∷◌}
use Rattle.lps_core.specs.PlainLinears.{plain_summand}
use Rattle.lps_core.specs.TreeSummands.{trees_of_summand}
use Rattle.lps_core.proofs.PoolTrees.{extends_on, tree_kept}
use Rattle.greibach.specs.PlainForms.{plain_form_summand}
use Rattle.stack_encoder.specs.Frames.{plain_symbols}
use Rattle.stack_encoder.proofs.StackedTrees.{way_along, way_read}
use Rattle.stack_encoder.proofs.encoding.encode_down.Goals as goal

pub returns-clause-summand : goal.returns-clause-summand
returns-clause-summand c =
    subst (λ z. IfOk c.encode_way.result (λ made. trees_of_summand c.encode_way.new.pool.trees (plain_summand made) ≡ z))
    (way_along (plain_symbols c.args.symbols.now) c.args.symbols.now.stack c.args.number c.args.by.now (plain_form_summand c.args.summand.now) c.args.pool.now.trees c.of_stack.new.pool.trees _ _
    (extends_on c.args.pool.now.trees c.more_part.new.pool.trees c.of_stack.new.pool.trees c.more_part.ensures.kept c.of_stack.ensures.kept) c.requires.listed c.requires.within
    (way_read c.of_stack.new.pool.trees (c.in_ok-more.more ∷ []) c.in_ok-next.next.items (Some c.in_ok-next.next.items) c.in_ok-more.more c.in_ok-rest.rest _ _ refl refl c.in_ok-next.ensures.items
    ((tree_kept c.more_part.new.pool.trees c.of_stack.new.pool.trees c.in_ok-more.more c.of_stack.ensures.kept c.in_ok-more.ensures.within).0 ∙ c.in_ok-more.ensures.tree) c.in_ok-rest.ensures.tree))
    c.encode_way.ensures.summand
