use Rattle.std.proofs.Common.{ℕ, List, true}
use Rattle.lps_printer.specs.Adding.{Adds}
use Rattle.lps_printer.specs.TextWordings.{TextWording}
use Rattle.lps_printer.specs.CodeProcesses.{assignments_from, print_listed, IsTextWording}
use Rattle.lps_printer.proofs.process_writer.ProcessWriter.assignments.Given as goal

abbrev pub invariant-loop-place : goal.invariant-loop-place
invariant-loop-place l =
    (t : TextWording) → IsTextWording l.self t → (final : List ℕ) → Adds l.out.items final (λ rest. print_listed l.is_first (assignments_from l.self t l.next l.place) rest)
    → Adds l.initial.out.items final (λ rest. print_listed true (assignments_from l.self t l.next 0) rest)
