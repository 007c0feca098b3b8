use Rattle.std.proofs.Common.{◌⊎◌, map, take}
use Rattle.std.specs.Prelude.{◌↔◌}
use Rattle.std.specs.List.{Contains}
use Rattle.data_theory.specs.declared.ids.VarId.{VarId}
use Rattle.process_terms.specs.PlainProcesses.{plain_action}
use Rattle.lps_sumelm.specs.OccurringVariables.{terms_of_label, OccursIn}
use Rattle.lps_sumelm.proofs.variables.add_label.Given as goal

abbrev pub invariant-loop-action : goal.invariant-loop-action
invariant-loop-action l = (v : VarId) → Contains l.set.keys v ↔ (Contains l.fn.set.keys v ⊎ OccursIn l.pool.trees (terms_of_label (map plain_action (take l.action-index l.action-items))) v)
