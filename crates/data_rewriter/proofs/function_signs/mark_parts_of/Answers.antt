use Rattle.std.proofs.Common.{arith}
use Rattle.data_rewriter.specs.declared.signs.Sign.TheVariants.{Recogniser}
use Rattle.data_rewriter.proofs.Markings.{projections_marks, test_within, test_mark, then_marks, marks_one}
use Rattle.data_rewriter.proofs.function_signs.mark_parts_of.Goals as goal

pub index_mut-requires : goal.index_mut-requires
index_mut-requires c =
    let marks = c.mark_projections.ensures.marks c.args.sig.now (projections_marks c.args.sig.now c.requires.stands c.args.constructor c.projections.result.now c.requires.function c.projections.ensures) in
    let inside = test_within c.args.sig.now c.requires.stands c.args.constructor c.test.result c.in-Some.recogniser c.requires.function c.test.ensures c.in-Some.is in
    let n = marks.count in
    let m = c.requires.count in
    omega (arith, inside, n, m)

pub returns-in-Some-clause-marks : goal.returns-in-Some-clause-marks
returns-in-Some-clause-marks c =
    let marks = c.mark_projections.ensures.marks c.args.sig.now (projections_marks c.args.sig.now c.requires.stands c.args.constructor c.projections.result.now c.requires.function c.projections.ensures) in
    let inside = test_within c.args.sig.now c.requires.stands c.args.constructor c.test.result c.in-Some.recogniser c.requires.function c.test.ensures c.in-Some.is in
    let n = marks.count in
    let m = c.requires.count in
    let mark = test_mark c.args.sig.now c.requires.stands c.args.constructor c.test.result c.in-Some.recogniser c.requires.function c.test.ensures c.in-Some.is in
    then_marks c.args.sig.now c.args.signs.now.items c.mark_projections.new.signs.items _ marks (marks_one c.args.sig.now c.mark_projections.new.signs.items c.in-Some.recogniser (Recogniser c.args.constructor) (omega (arith, inside, n, m)) mark)

pub returns-in_default-clause-marks : goal.returns-in_default-clause-marks
returns-in_default-clause-marks c = c.mark_projections.ensures.marks c.args.sig.now (projections_marks c.args.sig.now c.requires.stands c.args.constructor c.projections.result.now c.requires.function c.projections.ensures)
