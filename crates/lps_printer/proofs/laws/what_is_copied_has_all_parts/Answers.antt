use Rattle.lps_printer.proofs.CopiedParts.{what_is_copied_has_all_parts}
use Rattle.lps_printer.proofs.laws.what_is_copied_has_all_parts.Goals as goal

pub returns : goal.returns
returns c = what_is_copied_has_all_parts
