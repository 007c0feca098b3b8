use Rattle.std.proofs.Common.{ℕ, List}
use Rattle.std.specs.List.{All}
use Rattle.lps_printer.specs.Adding.{Adds}
use Rattle.lps_printer.specs.Wordings.{Wording}
use Rattle.lps_printer.specs.CodeWordings.{IsWording}
use Rattle.lps_printer.specs.PendingParts.{pieces_left, weight_left, PartStands}
use Rattle.lps_printer.proofs.term_writer.TermWriter.finish.Given as goal

abbrev pub invariant-loop-part : goal.invariant-loop-part
invariant-loop-part l =
    All (PartStands l.self) l.left.items
    × ((w : Wording) → IsWording l.self w → (final : List ℕ) → Adds l.out.items final (λ rest. pieces_left l.self w l.left.items rest) → Adds l.fn.out.items final (λ rest. pieces_left l.self w l.fn.left.items rest))

abbrev pub decreases-loop-part : goal.decreases-loop-part
decreases-loop-part l = weight_left l.self l.left.items
