use Rattle.std.proofs.Common.{◌≡◌, true, map, take}
use Rattle.std.specs.List.{list_all}
use Rattle.sort_table.specs.SignatureVocabularies.{vocabulary_of}
use Rattle.sort_checker.specs.Operators.{renaming_fits}
use Rattle.sort_checker.specs.TypedTrees.{renaming_at}
use Rattle.sort_checker.proofs.typed_parts.renamings_fit.Given as goal

abbrev pub invariant-loop-renaming : goal.invariant-loop-renaming
invariant-loop-renaming l = list_all (renaming_fits (vocabulary_of l.sig)) (map renaming_at (take l.renaming-index l.renamings)) ≡ true
