use Rattle.std.proofs.Common.{◌≡◌, false, take}
use Rattle.std.specs.List.{list_any}
use Rattle.sort_table.specs.SignatureVocabularies.{vocabulary_of}
use Rattle.sort_checker.specs.CommTrees.{fault_at}
use Rattle.sort_checker.proofs.comm_shapes.fault_along.Given as goal

abbrev pub invariant-loop-stop : goal.invariant-loop-stop
invariant-loop-stop l = list_any (fault_at (vocabulary_of l.sig)) (take l.stop-index l.stops) ≡ false
