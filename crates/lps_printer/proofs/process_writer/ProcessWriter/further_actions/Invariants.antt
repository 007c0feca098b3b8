use Rattle.std.proofs.Common.{ℕ, List, drop, map}
use Rattle.process_terms.specs.PlainProcesses.{plain_action}
use Rattle.lps_printer.specs.Adding.{Adds}
use Rattle.lps_printer.specs.SummandLayout.{print_bars}
use Rattle.lps_printer.specs.TextWordings.{TextWording}
use Rattle.lps_printer.specs.CodeProcesses.{action_by, IsTextWording}
use Rattle.lps_printer.proofs.process_writer.ProcessWriter.further_actions.Given as goal

abbrev pub invariant-loop-action : goal.invariant-loop-action
invariant-loop-action l =
    (t : TextWording) → IsTextWording l.self t → (final : List ℕ) → Adds l.out.items final (λ rest. print_bars (map (action_by l.self t) (map plain_action (drop l.action-index l.actions))) rest)
    → Adds l.initial.out.items final (λ rest. print_bars (map (action_by l.self t) (map plain_action l.actions)) rest)
