use Rattle.std.proofs.Common.{◌≡◌, ◌∷◌, length, arith, sym, subst, ap, ◌∙◌, []}
use Rattle.std.specs.Prelude.{slice_get}
use Rattle.std.proofs.lemmas.List.{length-append}
use Rattle.stack_encoder.specs.StackColumns.{default_at}
use Rattle.stack_encoder.proofs.NeededColumns.{default_there, default_more}
use Rattle.stack_encoder.proofs.layouts.all_defaults.Goals as goal

pub unreachable-requires : goal.unreachable-requires
unreachable-requires c =
    default_there c.args.needed.now c.args.closed.now c.args.place.now c.args.init.now c.loop-column.column c.requires.needed c.requires.place (c.requires.each c.loop-column.column c.loop-column-test.true) (sym c.in_default.is ∙ c.default_of.ensures)

pub loop-column-preserved : goal.loop-column-preserved
loop-column-preserved c =
    let e = ap length c.in_ok-push.ensures.items ∙ length-append c.loop-column.found.items (c.in-Some.term ∷ []) in
    let l = c.loop-column.invariant.0 in (
      omega (arith, e, l),
      λ x w. subst (λ z. slice_get z x ≡ default_at c.args.needed.now c.args.closed.now c.args.place.now c.args.init.now x) (sym c.in_ok-push.ensures.items)
          (default_more (default_at c.args.needed.now c.args.closed.now c.args.place.now c.args.init.now) c.loop-column.found.items c.loop-column.column c.in-Some.term l c.loop-column.invariant.1 (sym c.in-Some.is ∙ c.default_of.ensures) x w),
    )
