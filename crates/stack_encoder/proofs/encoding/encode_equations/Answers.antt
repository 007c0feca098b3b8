use Rattle.std.proofs.Common.{◌+◌, ◌∙◌, length}
use Rattle.greibach.specs.PlainForms.{plain_equation}
use Rattle.stack_encoder.specs.Frames.{frame_layout, plain_symbols}
use Rattle.stack_encoder.proofs.FrameTrees.{layout_along}
use Rattle.stack_encoder.proofs.StackedTrees.{equation_there, equation_in_kept, one_equation_stacked}
use Rattle.stack_encoder.proofs.encoding.encode_equations.Goals as goal

pub encode_equation-requires-clause-equation : goal.encode_equation-requires-clause-equation
encode_equation-requires-clause-equation c =
    let l = frame_layout c.args.pool.now.trees c.args.layout.now in
    equation_in_kept c.args.pool.now.trees c.loop-number.pool.trees (length c.args.symbols.now.fields.items) l (frame_layout c.loop-number.pool.trees c.args.layout.now) (c.loop-number.number + 1) (plain_equation c.index-equations-number.result)
    (layout_along c.args.pool.now.trees c.loop-number.pool.trees c.args.layout.now c.loop-number.invariant.0.kept c.requires.defaults) c.loop-number.invariant.0.kept
    (equation_there c.args.pool.now.trees (length c.args.symbols.now.fields.items) l c.args.equations.now c.loop-number.number c.index-equations-number.result c.loop-number-test.true c.index-equations-number.is c.requires.equations)

pub loop-number-preserved : goal.loop-number-preserved
loop-number-preserved c = (
  one_equation_stacked (plain_symbols c.args.symbols.now) (frame_layout c.args.pool.now.trees c.args.layout.now) (frame_layout c.loop-number.pool.trees c.args.layout.now) c.args.symbols.now.stack c.args.pool.now.trees (length c.args.symbols.now.fields.items)
      c.args.equations.now c.loop-number.number c.loop-number.pool.trees c.loop-number.summands.items c.index-equations-number.result c.loop-number.invariant.0
      (layout_along c.args.pool.now.trees c.loop-number.pool.trees c.args.layout.now c.loop-number.invariant.0.kept c.requires.defaults) c.loop-number-test.true c.index-equations-number.is c.requires.equations
      c.encode_equation.new.pool.trees c.encode_equation.new.summands.items c.encode_equation.ensures.kept c.in_ok-encode_equation.ensures.within c.in_ok-encode_equation.ensures.summands,
  c.encode_equation.ensures.constants ∙ c.loop-number.invariant.1,
)
