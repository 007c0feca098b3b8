use Rattle.std.proofs.Common.{◌∙◌}
use Rattle.regular_encoder.specs.TreeEncoding.{plain_layout}
use Rattle.regular_encoder.proofs.EncodedEquations.{equation_there, one_equation_encoded, summands_in_kept}
use Rattle.regular_encoder.proofs.linear.encode_equations.Goals as goal

pub encode_equation-requires-clause-place : goal.encode_equation-requires-clause-place
encode_equation-requires-clause-place c =
    (equation_there c.args.pool.now.trees (plain_layout c.args.layout.now) c.args.equations.now c.loop-number.number c.index-equations-number.result c.loop-number-test.true c.index-equations-number.is c.requires).place

pub encode_equation-requires-clause-long : goal.encode_equation-requires-clause-long
encode_equation-requires-clause-long c =
    (equation_there c.args.pool.now.trees (plain_layout c.args.layout.now) c.args.equations.now c.loop-number.number c.index-equations-number.result c.loop-number-test.true c.index-equations-number.is c.requires).long

pub encode_equation-requires-clause-within : goal.encode_equation-requires-clause-within
encode_equation-requires-clause-within c =
    summands_in_kept c.args.pool.now.trees c.loop-number.pool.trees (plain_layout c.args.layout.now) _ c.loop-number.invariant.0.kept
    (equation_there c.args.pool.now.trees (plain_layout c.args.layout.now) c.args.equations.now c.loop-number.number c.index-equations-number.result c.loop-number-test.true c.index-equations-number.is c.requires).summands

pub loop-number-preserved : goal.loop-number-preserved
loop-number-preserved c = (
  one_equation_encoded (plain_layout c.args.layout.now) c.args.pool.now.trees c.args.equations.now c.loop-number.number c.loop-number.pool.trees c.loop-number.summands.items c.index-equations-number.result
      c.loop-number.invariant.0 c.loop-number-test.true c.index-equations-number.is c.requires c.encode_equation.new.pool.trees c.encode_equation.new.summands.items c.encode_equation.ensures.kept c.in_ok-encode_equation.ensures.within c.in_ok-encode_equation.ensures.summands,
  c.encode_equation.ensures.constants ∙ c.loop-number.invariant.1,
)
