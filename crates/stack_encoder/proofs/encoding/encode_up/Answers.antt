use Rattle.std.proofs.Common.{ap, ◌∙◌, map, Some, []}
use Rattle.std.proofs.lemmas.Result.{IfOk-weaker}
use Rattle.lps_core.specs.PlainLinears.{plain_summand}
use Rattle.lps_core.specs.TreeSummands.{trees_of_summand}
use Rattle.term_pool.specs.Bindings.{listed}
use Rattle.term_pool.specs.HeadTrees.{tree_at}
use Rattle.greibach.specs.PlainForms.{plain_call, plain_form_summand}
use Rattle.stack_encoder.specs.Frames.{frame_layout, plain_symbols}
use Rattle.stack_encoder.specs.TreeStack.{pushed_trees, tree_stacked}
use Rattle.stack_encoder.specs.WholeStack.{way_of}
use Rattle.stack_encoder.proofs.FrameTrees.{layout_along}
use Rattle.stack_encoder.proofs.StackedTrees.{up_made}
use Rattle.stack_encoder.proofs.encoding.encode_up.Goals as goal

pub returns-clause-summand : goal.returns-clause-summand
returns-clause-summand c =
    let y = plain_symbols c.args.symbols.now in
    let q = c.args.symbols.now.stack in
    let s = plain_form_summand c.args.summand.now in
    let ts = c.args.pool.now.trees in
    let t1 = c.of_stack.new.pool.trees in
    let t2 = c.pushed_on.new.pool.trees in
    IfOk-weaker c.encode_way.result _ _
    (λ made h. up_made y (frame_layout ts c.args.layout.now) (frame_layout t1 c.args.layout.now) q c.args.number c.args.by.now s ts t1 t2 (trees_of_summand c.encode_way.new.pool.trees (plain_summand made)) c.in_ok-rest.rest c.in_ok-top.top
    (layout_along ts t1 c.args.layout.now c.of_stack.ensures.kept c.requires.defaults) c.of_stack.ensures.kept c.pushed_on.ensures.kept c.requires.listed c.requires.within c.in_ok-rest.ensures.tree
    (c.in_ok-top.ensures.tree ∙ ap (λ z. pushed_trees y (frame_layout t1 c.args.layout.now) (listed t1 c.args.by.now) t1 (map plain_call z) (tree_at t1 c.in_ok-rest.rest)) c.as_slice-calls.ensures.value)
    (h ∙ ap (λ z. tree_stacked y q c.args.number (listed t2 c.args.by.now) t2 s (way_of t2 [] (Some z))) c.in_ok-next.ensures.items))
    c.encode_way.ensures.summand
