use Rattle.std.proofs.Common.{List, drop, map}
use Rattle.data_theory.specs.declared.ids.FunId.{FunId}
use Rattle.process_terms.specs.Meanings.{label_of}
use Rattle.process_terms.specs.PlainProcesses.{plain_action}
use Rattle.lps_printer.specs.CodeProcesses.{entries_by}
use Rattle.lps_printer.specs.NeededConstants.{label_nils, FindsText}
use Rattle.lps_printer.proofs.process_writer.ProcessWriter.label_nils.Given as goal

abbrev pub invariant-loop-action : goal.invariant-loop-action
invariant-loop-action l =
    (final : List FunId) → FindsText l.self l.found.keys final (λ t. label_nils t.names (label_of (entries_by l.self) (map plain_action (drop l.action-index l.actions))))
    → FindsText l.self l.initial.found.keys final (λ t. label_nils t.names (label_of (entries_by l.self) (map plain_action l.actions)))
