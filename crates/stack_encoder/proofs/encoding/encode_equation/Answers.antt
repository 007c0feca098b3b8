use Rattle.std.proofs.Common.{◌≡◌, ◌-◌, ◌++◌, map, ap, ap₂, sym, ◌∙◌, subst, refl, arith}
use Rattle.std.proofs.lemmas.List.{length-map}
use Rattle.regular_encoder.specs.WholeEncoding.{trees_of_summands}
use Rattle.std.specs.List.{All}
use Rattle.data_theory.specs.declared.ids.VarId.{VarId}
use Rattle.term_pool.specs.Bindings.{listed}
use Rattle.greibach.specs.PlainForms.{plain_form_summand}
use Rattle.lps_core.specs.TreeSummands.{bound_tree}
use Rattle.lps_core.proofs.PoolTrees.{extends_itself, extends_on}
use Rattle.stack_encoder.specs.Frames.{frame_layout, plain_symbols}
use Rattle.stack_encoder.specs.TreeStack.{field_tree, fields_for, place_at, IsFormSummandIn}
use Rattle.stack_encoder.specs.WholeStack.{summand_stacked}
use Rattle.stack_encoder.proofs.FrameTrees.{place_read, layout_along}
use Rattle.stack_encoder.proofs.StackedTrees.{stacking_none, stacking_more, item_in, summand_in}
use Rattle.stack_encoder.proofs.encoding.encode_equation.Goals as goal

pub loop-summand-init : goal.loop-summand-init
loop-summand-init c = (stacking_none _ _ _ _ _ _ _ _ _ c.to_fields.ensures.kept c.requires.made, c.to_fields.ensures.constants, extends_itself _)

pub encode_summand-requires-clause-within : goal.encode_summand-requires-clause-within
encode_summand-requires-clause-within c =
    summand_in c.args.pool.now.trees c.loop-summand.pool.trees (frame_layout c.args.pool.now.trees c.args.layout.now) (frame_layout c.loop-summand.pool.trees c.args.layout.now) (plain_form_summand c.summand-item.result) refl c.loop-summand.invariant.0.kept
    (item_in (IsFormSummandIn c.args.pool.now.trees (frame_layout c.args.pool.now.trees c.args.layout.now)) c.deref-summand-items.result.now c.loop-summand.summand-index c.summand-item.result c.loop-summand-test.true c.summand-item.is
    (subst (λ z. All (IsFormSummandIn c.args.pool.now.trees (frame_layout c.args.pool.now.trees c.args.layout.now)) (map plain_form_summand z)) (sym c.deref-summand-items.ensures.value) c.requires.equation.summands))

pub loop-summand-preserved : goal.loop-summand-preserved
loop-summand-preserved c =
    let y = plain_symbols c.args.symbols.now in
    let l = frame_layout c.args.pool.now.trees c.args.layout.now in
    let q = c.args.symbols.now.stack in
    let place : c.as_slice-place.result.now ≡ place_at l c.args.number = c.as_slice-place.ensures.value ∙ ap (λ v. v.items) c.index.ensures ∙ sym (place_read c.args.layout.now.places.items (c.args.number - 1) _ (let a = c.requires.number in let b = c.requires.equation.place in let e = length-map c.args.layout.now.places.items (λ v. v.items) in omega (arith, a, b, e))) in
    let moves : (v : VarId) → listed c.to_fields.new.pool.trees c.in_ok-by.by.items v ≡ fields_for y l q c.args.number c.args.equation.now.params.items v =
    λ v. c.in_ok-by.ensures.moves v ∙ ap₂ (λ xs ps. bound_tree xs (map (field_tree y q) ps) v) c.as_slice.ensures.value place in
    let within = subst (λ z. All (IsFormSummandIn c.args.pool.now.trees l) (map plain_form_summand z)) (sym c.deref-summand-items.ensures.value) c.requires.equation.summands in (
      stacking_more y l (frame_layout c.loop-summand.pool.trees c.args.layout.now) q c.args.number (fields_for y l q c.args.number c.args.equation.now.params.items) c.args.pool.now.trees c.to_fields.new.pool.trees c.in_ok-by.by.items c.args.summands.now.items
          c.deref-summand-items.result.now c.loop-summand.summand-index c.loop-summand.pool.trees c.loop-summand.summands.items c.summand-item.result c.loop-summand.invariant.0
          (layout_along c.args.pool.now.trees c.loop-summand.pool.trees c.args.layout.now c.loop-summand.invariant.0.kept c.requires.defaults) c.loop-summand-test.true c.summand-item.is within c.loop-summand.invariant.2 c.in_ok-by.ensures.within moves
          c.encode_summand.new.pool.trees c.encode_summand.new.summands.items c.encode_summand.ensures.kept c.in_ok-encode_summand.ensures.within
          (c.in_ok-encode_summand.ensures.summands
          ∙ ap (λ z. trees_of_summands c.loop-summand.pool.trees c.loop-summand.summands.items ++ summand_stacked y (frame_layout c.loop-summand.pool.trees c.args.layout.now) q c.args.number (listed c.loop-summand.pool.trees z) c.loop-summand.pool.trees (plain_form_summand c.summand-item.result)) c.as_slice-in-loop-summand.ensures.value),
      c.encode_summand.ensures.constants ∙ c.loop-summand.invariant.1,
      extends_on c.to_fields.new.pool.trees c.loop-summand.pool.trees c.encode_summand.new.pool.trees c.loop-summand.invariant.2 c.encode_summand.ensures.kept,
    )
