use Rattle.std.proofs.Common.{◌≡◌, map, take}
use Rattle.data_theory.specs.Keys.{Key}
use Rattle.lps_printer.specs.SignatureNames.{is_action_once}
use Rattle.lps_printer.proofs.tables.once_actions.Given as goal

abbrev pub invariant-loop-action : goal.invariant-loop-action
invariant-loop-action l = l.once.items ≡ map (λ (a : Key). is_action_once l.sig a.name) (take l.action-index l.sig.actions)
