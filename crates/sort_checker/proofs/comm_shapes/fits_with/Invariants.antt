use Rattle.std.proofs.Common.{◌≡◌, true, map, take}
use Rattle.std.specs.List.{list_all}
use Rattle.sort_table.specs.SignatureVocabularies.{vocabulary_of}
use Rattle.sort_checker.specs.Operators.{rule_fits_at}
use Rattle.sort_checker.specs.ActionTables.{key_of}
use Rattle.sort_checker.specs.CommTrees.{rule_at}
use Rattle.sort_checker.proofs.CommRules.{sorts_at}
use Rattle.sort_checker.proofs.comm_shapes.fits_with.Given as goal

abbrev pub invariant-loop-action : goal.invariant-loop-action
invariant-loop-action l = list_all (rule_fits_at (vocabulary_of l.sig) (rule_at l.rule)) (map (sorts_at l.sig) (map key_of (take l.action-index l.actions))) ≡ true
