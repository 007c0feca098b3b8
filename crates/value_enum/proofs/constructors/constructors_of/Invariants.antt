use Rattle.value_enum.proofs.ConstructorLists.{AreFound}
use Rattle.value_enum.proofs.constructors.constructors_of.Given as goal

abbrev pub invariant-loop-place : goal.invariant-loop-place
invariant-loop-place l = AreFound l.sig l.fn.sort l.place-index l.funs.items
