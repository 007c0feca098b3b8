use Rattle.std.proofs.Common.{◌≡◌, true, List, map, take}
use Rattle.std.specs.List.{list_all}
use Rattle.data_theory.specs.Terms.{Sort}
use Rattle.data_theory.specs.Actions.{actions_of}
use Rattle.sort_table.specs.Expressions.{Name}
use Rattle.sort_table.specs.SignatureVocabularies.{vocabulary_of, action_under}
use Rattle.sort_checker.specs.Operators.{rule_fits_at}
use Rattle.sort_checker.specs.CommTrees.{rule_at}
use Rattle.sort_checker.proofs.comm_shapes.fits_everywhere.Given as goal

abbrev pub invariant-loop-action : goal.invariant-loop-action
invariant-loop-action l = list_all (λ (a : Name × List Sort). rule_fits_at (vocabulary_of l.sig) (rule_at l.rule) a.1) (map (action_under l.sig) (actions_of (take l.action-index l.action-items))) ≡ true
