use Rattle.std.proofs.Common.{◌∙◌, ap, ◌++◌, ◌∷◌, []}
use Rattle.std.proofs.lemmas.List.{append_assoc}
use Rattle.greibach.specs.PlainForms.{plain_form_summand}
use Rattle.regular_encoder.specs.WholeEncoding.{trees_of_summands}
use Rattle.lps_core.specs.TreeSummands.{TreeSummand}
use Rattle.stack_encoder.specs.Frames.{plain_symbols}
use Rattle.term_pool.specs.Bindings.{listed}
use Rattle.stack_encoder.specs.TreeStack.{tree_stacked, tree_way_down, tree_way_out}
use Rattle.stack_encoder.proofs.StackedTrees.{AreMade, summands_in_pushed, summands_pushed, way_along}
use Rattle.stack_encoder.proofs.encoding.encode_last.Goals as goal
use Rattle.std.proofs.Common.{refl}

first_in : (c : goal.In_ok-push-2) → AreMade c.encode_down.new.pool.trees c.push.new.self.items
first_in c = summands_in_pushed c.args.pool.now.trees c.encode_down.new.pool.trees c.args.summands.now.items c.push.new.self.items c.in_ok-encode_down.field-0 c.encode_down.ensures.kept c.requires.made c.in_ok-push.ensures.items c.in_ok-encode_down.ensures.within

pub returns-clause-within : goal.returns-clause-within
returns-clause-within c = summands_in_pushed c.encode_down.new.pool.trees c.encode_out.new.pool.trees c.push.new.self.items c.push-2.new.self.items c.in_ok-encode_out.field-0 c.encode_out.ensures.kept (first_in c) c.in_ok-push-2.ensures.items c.in_ok-encode_out.ensures.within

pub returns-clause-summands : goal.returns-clause-summands
returns-clause-summands c =
    let y = plain_symbols c.args.symbols.now in
    let q = c.args.symbols.now.stack in
    let s = plain_form_summand c.args.summand.now in
    let down : TreeSummand = tree_stacked y q c.args.number (listed c.args.pool.now.trees c.args.by.now) c.args.pool.now.trees s (tree_way_down y q) in
    let out : TreeSummand = tree_stacked y q c.args.number (listed c.args.pool.now.trees c.args.by.now) c.args.pool.now.trees s (tree_way_out y q) in
    summands_pushed c.encode_down.new.pool.trees c.encode_out.new.pool.trees c.push.new.self.items c.push-2.new.self.items c.in_ok-encode_out.field-0 out c.encode_out.ensures.kept (first_in c) c.in_ok-push-2.ensures.items
    (c.in_ok-encode_out.ensures.summand ∙ way_along y q c.args.number c.args.by.now s c.args.pool.now.trees c.encode_down.new.pool.trees (tree_way_out y q) (tree_way_out y q) c.encode_down.ensures.kept c.requires.listed c.requires.within refl)
    ∙ ap (λ z. z ++ out ∷ []) (summands_pushed c.args.pool.now.trees c.encode_down.new.pool.trees c.args.summands.now.items c.push.new.self.items c.in_ok-encode_down.field-0 down c.encode_down.ensures.kept c.requires.made c.in_ok-push.ensures.items c.in_ok-encode_down.ensures.summand)
    ∙ append_assoc (trees_of_summands c.args.pool.now.trees c.args.summands.now.items) (down ∷ []) (out ∷ [])
