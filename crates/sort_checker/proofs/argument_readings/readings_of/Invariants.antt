use Rattle.std.proofs.Common.{map, take}
use Rattle.sort_table.specs.SignatureVocabularies.{vocabulary_of}
use Rattle.data_typing.specs.CodeWords.{scope_of}
use Rattle.data_typing.specs.Meanings.{typing_in}
use Rattle.data_typing.specs.Readings.{bare_trees}
use Rattle.sort_checker.specs.TypedTrees.{AreReadings}
use Rattle.sort_checker.proofs.argument_readings.readings_of.Given as goal

abbrev pub invariant-loop-tree : goal.invariant-loop-tree
invariant-loop-tree l = AreReadings l.sig l.list.items (map (typing_in (vocabulary_of l.sig) (scope_of l.sig.texts l.scope)) (bare_trees (take l.tree-index l.trees)))
