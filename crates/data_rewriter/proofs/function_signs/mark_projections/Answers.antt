use Rattle.std.proofs.Common.{◌+◌, arith}
use Rattle.std.specs.Prelude.{Option, IfSome}
use Rattle.data_theory.specs.declared.ids.FunId.{FunId}
use Rattle.data_rewriter.specs.Marking.{IsMarked}
use Rattle.data_rewriter.proofs.ListFacts.{all_whole}
use Rattle.data_rewriter.proofs.Markings.{places_next, places_passed}
use Rattle.data_rewriter.proofs.function_signs.mark_projections.Goals as goal

pub loop-place-preserved-in_default : goal.loop-place-preserved-in_default
loop-place-preserved-in_default c = places_passed c.args.constructor c.args.signs.now.items c.loop-place.signs.items c.args.projections.now c.loop-place.place (c.loop-place.place + 1) _ (omega arith) c.loop-place-test.true c.in_default.is c.loop-place.invariant

pub loop-place-preserved : goal.loop-place-preserved
loop-place-preserved c = places_next c.args.constructor c.args.signs.now.items c.loop-place.signs.items c.args.projections.now c.loop-place.place (c.loop-place.place + 1) _ c.in-Some.projection (omega arith) c.loop-place-test.true c.in-Some.is c.requires c.loop-place.invariant

pub returns-clause-marked : goal.returns-clause-marked
returns-clause-marked c = all_whole (λ (o : Option FunId). IfSome o (IsMarked c.loop-place.signs.items)) c.args.projections.now c.loop-place.place c.loop-place-test.false c.loop-place.invariant.2
