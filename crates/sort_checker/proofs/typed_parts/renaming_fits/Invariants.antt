use Rattle.std.proofs.Common.{◌≡◌, true, map, take}
use Rattle.std.specs.List.{list_all}
use Rattle.sort_table.specs.SignatureVocabularies.{vocabulary_of}
use Rattle.sort_checker.specs.ActionTables.{key_of}
use Rattle.sort_checker.specs.Operators.{has_action}
use Rattle.sort_checker.proofs.CommRules.{sorts_at}
use Rattle.sort_checker.proofs.typed_parts.renaming_fits.Given as goal

abbrev pub invariant-loop-action : goal.invariant-loop-action
invariant-loop-action l = list_all (has_action (vocabulary_of l.sig) l.new) (map (sorts_at l.sig) (map key_of (take l.action-index l.actions))) ≡ true
