use Rattle.std.proofs.Common.{map}
use Rattle.mcrl2_syntax.specs.Declarations.{constructor_of}
use Rattle.lps_printer.specs.AddedDeclarations.{behind_all, behind_constructor}
use Rattle.lps_printer.proofs.AddedFunctions.{behind_step, behind_end}
use Rattle.lps_printer.proofs.added_functions.behind_constructors.Goals as goal

pub loop-constructor-preserved : goal.loop-constructor-preserved
loop-constructor-preserved c =
    behind_step behind_constructor constructor_of c.args.constructors.now c.loop-constructor.constructor-index c.loop-constructor.rest.now (behind_all behind_constructor (map constructor_of c.args.constructors.now) c.args.funs.now) c.constructor-item.result c.loop-constructor-test.true c.constructor-item.is c.behind_constructor-rest.result.now c.behind_constructor-rest.ensures c.loop-constructor.invariant

pub returns : goal.returns
returns c = behind_end behind_constructor constructor_of c.args.constructors.now c.loop-constructor.constructor-index c.loop-constructor.rest.now (behind_all behind_constructor (map constructor_of c.args.constructors.now) c.args.funs.now) c.loop-constructor-test.false c.loop-constructor.auto.constructor-index-end c.loop-constructor.invariant
