use Rattle.std.proofs.Common.{arith}
use Rattle.data_theory.proofs.StructLemmas.{projections_fit, recognisers_fit, one_more_projections, one_more_recogniser, constructor_step}
use Rattle.data_theory.proofs.structs.constructors.Goals as goal

pub constructor-requires-clause-projections : goal.constructor-requires-clause-projections
constructor-requires-clause-projections c =
    omega (arith, projections_fit c.args.sort c.args.cons.now c.loop-con.con-index c.con-item.result c.loop-con-test.true c.con-item.is, c.loop-con.invariant.projection, c.requires.projections)

pub constructor-requires-clause-tests : goal.constructor-requires-clause-tests
constructor-requires-clause-tests c =
    omega (arith, recognisers_fit c.args.sort c.args.cons.now c.loop-con.con-index c.con-item.result c.loop-con-test.true c.con-item.is, c.loop-con.invariant.test, c.requires.tests)

pub loop-con-preserved : goal.loop-con-preserved
loop-con-preserved c = record {
  made =
      constructor_step c.args.sort c.args.projection c.args.test c.loop-con.next_projection c.loop-con.next_test c.args.cons.now c.loop-con.con-index c.con-item.result c.loop-con.entries.items c.push.new.self.items c.in_ok-constructor.field-0 c.loop-con-test.true c.con-item.is
      c.loop-con.invariant.made c.loop-con.invariant.projection c.loop-con.invariant.test c.in_ok-constructor.ensures.constructor c.in_ok-push.ensures.items;
  projection = omega (arith, one_more_projections c.args.sort c.args.cons.now c.loop-con.con-index c.con-item.result c.loop-con-test.true c.con-item.is, c.loop-con.invariant.projection, c.in_ok-constructor.ensures.projections);
  test = omega (arith, one_more_recogniser c.args.sort c.args.cons.now c.loop-con.con-index c.con-item.result c.loop-con-test.true c.con-item.is, c.loop-con.invariant.test, c.in_ok-constructor.ensures.tests);
}
