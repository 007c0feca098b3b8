use Rattle.std.proofs.Common.{take}
use Rattle.lps_printer.specs.SignatureNames.{Counts}
use Rattle.lps_printer.proofs.tables.count_actions.Given as goal

abbrev pub invariant-loop-action : goal.invariant-loop-action
invariant-loop-action l = Counts (take l.action-index l.sig.actions) l.counts.items
