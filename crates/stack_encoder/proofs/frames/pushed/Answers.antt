use Rattle.std.proofs.Common.{◌≡◌, ◌∙◌, ◌∷◌, ◌++◌, [], IfOk, ap, subst}
use Rattle.term_pool.specs.HeadTrees.{tree_at}
use Rattle.stack_encoder.specs.Frames.{plain_symbols}
use Rattle.stack_encoder.proofs.FrameTrees.{frame_made}
use Rattle.stack_encoder.proofs.frames.pushed.Goals as goal

pub returns-clause-tree : goal.returns-clause-tree
returns-clause-tree c =
    let first : c.push.new.self.items ≡ c.in_ok-first.first ∷ [] = c.in_ok-push.ensures.items ∙ ap (λ l. l ++ c.in_ok-first.first ∷ []) c.new-list.ensures.items in
    subst (λ z. IfOk c.intern.result (λ id. tree_at c.intern.new.self.trees id ≡ z))
    (frame_made (plain_symbols c.args.symbols.now) c.args.layout.now c.args.number c.args.pool.now.trees c.numeral.new.pool.trees c.args.args.now c.args.below c.in_ok-first.first
    c.push.new.self.items c.add_columns.new.found.items c.push-2.new.self.items c.as_slice-2.result.now c.as_slice.result.now c.as_slice-place.result.now _ c.requires.number c.requires.place
    c.numeral.ensures.kept c.requires.args c.requires.defaults c.requires.below c.in_ok-first.ensures.tree first c.as_slice.ensures.value (c.as_slice-place.ensures.value ∙ ap (λ v. v.items) c.index.ensures)
    (c.in_ok-add_columns.ensures.trees c.numeral.new.pool.trees) c.in_ok-push-2.ensures.items c.as_slice-2.ensures.value)
    c.intern.ensures.tree
