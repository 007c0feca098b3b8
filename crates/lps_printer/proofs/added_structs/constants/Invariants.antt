use Rattle.std.proofs.Common.{◌≡◌, ◌++◌, drop}
use Rattle.lps_printer.specs.AddedDeclarations.{constants_among}
use Rattle.lps_printer.proofs.added_structs.constants.Given as goal

abbrev pub invariant-loop-fun : goal.invariant-loop-fun
invariant-loop-fun l = l.list.items ++ constants_among l.sig (drop l.fun-index l.added) ≡ constants_among l.sig l.added
