use Rattle.lps_core.specs.TreeSummands.{bound_tree}
use Rattle.std.proofs.Common.{◌≡◌, ◌+◌, map, ap, ap₂, sym, ◌∙◌, subst}
use Rattle.std.specs.List.{All}
use Rattle.data_theory.specs.declared.ids.VarId.{VarId}
use Rattle.data_theory.specs.IdTrees.{variable}
use Rattle.term_pool.specs.Bindings.{listed}
use Rattle.greibach.specs.PlainForms.{plain_equation, plain_form_summand}
use Rattle.lps_core.proofs.PoolTrees.{extends_itself, extends_on}
use Rattle.regular_encoder.specs.TreeEncoding.{plain_layout, place_at, tree_encoded, IsFormSummandIn}
use Rattle.regular_encoder.specs.WholeEncoding.{moves_of}
use Rattle.regular_encoder.proofs.ColumnTrees.{place_read}
use Rattle.regular_encoder.proofs.EncodedSummands.{IsEncoding, encoding_none, encoding_more, item_in, form_summand_in_kept}
use Rattle.regular_encoder.proofs.encoding.encode_equation.Goals as goal

pub loop-summand-init : goal.loop-summand-init
loop-summand-init c = (encoding_none _ _ _ _ _ _ _ c.renaming.ensures.kept c.requires.made, c.renaming.ensures.constants, extends_itself _)

pub encode_summand-requires-clause-within : goal.encode_summand-requires-clause-within
encode_summand-requires-clause-within c =
    form_summand_in_kept c.args.pool.now.trees c.loop-summand.pool.trees _ (plain_form_summand c.summand-item.result) c.loop-summand.invariant.0.kept
    (item_in _ _ c.deref-summand-items.result.now _ _ c.loop-summand-test.true c.summand-item.is
    (subst (λ z. All (IsFormSummandIn c.args.pool.now.trees (plain_layout c.args.layout.now)) (map plain_form_summand z)) (sym c.deref-summand-items.ensures.value) c.requires.within))

pub loop-summand-preserved : goal.loop-summand-preserved
loop-summand-preserved c =
    let place : c.as_slice-place.result.now ≡ place_at (plain_layout c.args.layout.now) c.args.number = c.as_slice-place.ensures.value ∙ ap (λ v. v.items) c.index.ensures ∙ sym (place_read c.args.layout.now c.args.number _ c.requires.number c.requires.place) in
    let moves : (v : VarId) → listed c.renaming.new.pool.trees c.in_ok-by.by.items v ≡ moves_of (plain_layout c.args.layout.now) c.args.number (plain_equation c.args.equation.now) v =
    λ v. c.in_ok-by.ensures.moves v ∙ ap₂ (λ xs ys. bound_tree xs (map variable ys) v) c.as_slice.ensures.value place in
    let within = subst (λ z. All (IsFormSummandIn c.args.pool.now.trees (plain_layout c.args.layout.now)) (map plain_form_summand z)) (sym c.deref-summand-items.ensures.value) c.requires.within in (
      subst (λ z. IsEncoding (plain_layout c.args.layout.now) c.args.number (moves_of (plain_layout c.args.layout.now) c.args.number (plain_equation c.args.equation.now)) c.args.pool.now.trees c.args.summands.now.items c.deref-summand-items.result.now (c.loop-summand.summand-index + 1) c.encode_summand.new.pool.trees z) (sym c.in_ok-push.ensures.items)
          (encoding_more _ _ _ c.args.pool.now.trees c.renaming.new.pool.trees c.in_ok-by.by.items _ _ _ c.loop-summand.pool.trees _ c.summand-item.result c.loop-summand.invariant.0 c.loop-summand-test.true c.summand-item.is within
          c.loop-summand.invariant.2 c.in_ok-by.ensures.within moves _ _ c.encode_summand.ensures.kept c.in_ok-made.ensures.within
          (c.in_ok-made.ensures.summand ∙ ap (λ z. tree_encoded (plain_layout c.args.layout.now) c.args.number (listed c.loop-summand.pool.trees z) c.loop-summand.pool.trees (plain_form_summand c.summand-item.result)) c.as_slice-in-loop-summand.ensures.value)),
      c.encode_summand.ensures.constants ∙ c.loop-summand.invariant.1,
      extends_on c.renaming.new.pool.trees c.loop-summand.pool.trees c.encode_summand.new.pool.trees c.loop-summand.invariant.2 c.encode_summand.ensures.kept,
    )
