use Rattle.std.proofs.Common.{◌+◌, map, sym, ap, subst, ◌∙◌}
use Rattle.std.specs.List.{All}
use Rattle.greibach.specs.PlainForms.{PlainEquation}
use Rattle.lps_core.specs.Fitting.{IsVariable}
use Rattle.regular_encoder.specs.FormColumns.{kind_of, with_kinds, AreKindsAt}
use Rattle.regular_encoder.proofs.FoundKinds.{IsFindingAll, finding_all_more, equation_at}
use Rattle.regular_encoder.proofs.layouts.add_all_kinds.Goals as goal

pub add_kinds-requires : goal.add_kinds-requires
add_kinds-requires c =
    subst (λ z. All (IsVariable c.args.sig.now) z) (sym c.as_slice.ensures.value)
    (equation_at (λ (q : PlainEquation). All (IsVariable c.args.sig.now) q.params) c.args.equations.now c.loop-equation.equation-index c.equation-item.result c.loop-equation-test.true c.equation-item.is c.requires)

pub loop-equation-preserved : goal.loop-equation-preserved
loop-equation-preserved c =
    subst (λ z. IsFindingAll c.args.sig.now c.args.equations.now c.args.kinds.now.keys (c.loop-equation.equation-index + 1) c.add_kinds.new.kinds.keys z) (sym c.in_ok-push.ensures.items)
    (finding_all_more c.args.sig.now c.args.equations.now c.args.kinds.now.keys c.loop-equation.equation-index c.loop-equation.kinds.keys c.loop-equation.places.items c.equation-item.result c.loop-equation.invariant c.loop-equation-test.true c.equation-item.is
    c.add_kinds.new.kinds.keys c.in_ok-add_kinds.field-0
    (c.in_ok-add_kinds.ensures.kinds ∙ ap (λ z. with_kinds c.loop-equation.kinds.keys (map (kind_of c.args.sig.now) z)) c.as_slice.ensures.value)
    (subst (λ z. AreKindsAt c.args.sig.now c.add_kinds.new.kinds.keys z c.in_ok-add_kinds.field-0.items) c.as_slice.ensures.value c.in_ok-add_kinds.ensures.places))
