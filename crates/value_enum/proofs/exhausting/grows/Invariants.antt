use Rattle.std.proofs.Common.{take}
use Rattle.std.specs.List.{Contains}
use Rattle.value_enum.specs.declared.shapes.Constructor.{Constructor}
use Rattle.value_enum.specs.Shapes.{arguments_at}
use Rattle.value_enum.specs.Levels.{MakeNoHeavier}
use Rattle.value_enum.proofs.exhausting.grows.Given as goal

abbrev pub invariant-loop-constructor : goal.invariant-loop-constructor
invariant-loop-constructor l =
    (c : Constructor) → Contains (take l.constructor-index l.constructors) c → MakeNoHeavier l.heaviest l.unbounded (arguments_at l.shapes.arguments.items c.first) l.weight
