use Rattle.std.proofs.Common.{◌≡◌, ℕ, List, drop}
use Rattle.lps_printer.specs.Adding.{Adds}
use Rattle.lps_printer.specs.SummandLayout.{print_summands}
use Rattle.lps_printer.specs.TextWordings.{TextWording}
use Rattle.lps_printer.specs.CodeProcesses.{summands_by, IsTextWording}
use Rattle.lps_printer.proofs.process_writer.ProcessWriter.further_summands.Given as goal

abbrev pub invariant-loop-summand : goal.invariant-loop-summand
invariant-loop-summand l =
    (t : TextWording) → IsTextWording l.self t → t.names.process ≡ l.self.process.now → (final : List ℕ) → Adds l.out.items final (λ rest. print_summands (summands_by l.self t (drop l.summand-index l.summands)) rest)
    → Adds l.initial.out.items final (λ rest. print_summands (summands_by l.self t l.summands) rest)
