use Rattle.std.proofs.Common.{◌≡◌}
use Rattle.lps_printer.specs.TermParts.{ends_in_empty}
use Rattle.lps_printer.specs.CodeWordings.{term_by, IsTermBy}
use Rattle.lps_printer.proofs.term_writer.TermWriter.ends_in_empty.Given as goal

abbrev pub invariant-loop-behind : goal.invariant-loop-behind
invariant-loop-behind l = IsTermBy l.self l.rest × (ends_in_empty (term_by l.self l.rest) ≡ ends_in_empty (term_by l.self l.fn.id))

abbrev pub decreases-loop-behind : goal.decreases-loop-behind
decreases-loop-behind l = l.rest.0
