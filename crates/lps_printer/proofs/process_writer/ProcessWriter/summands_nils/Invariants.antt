use Rattle.std.proofs.Common.{List, drop, map}
use Rattle.std.specs.List.{flat_map}
use Rattle.data_theory.specs.declared.ids.FunId.{FunId}
use Rattle.lps_core.specs.PlainLinears.{plain_summand, summand_of}
use Rattle.lps_printer.specs.CodeProcesses.{entries_by}
use Rattle.lps_printer.specs.NeededConstants.{summand_nils, FindsText}
use Rattle.lps_printer.proofs.process_writer.ProcessWriter.summands_nils.Given as goal

abbrev pub invariant-loop-summand : goal.invariant-loop-summand
invariant-loop-summand l =
    (final : List FunId) → FindsText l.self l.found.keys final (λ t. flat_map (summand_nils t.names) (map (summand_of (entries_by l.self)) (map plain_summand (drop l.summand-index l.summands))))
    → FindsText l.self l.initial.found.keys final (λ t. flat_map (summand_nils t.names) (map (summand_of (entries_by l.self)) (map plain_summand l.summands)))
