use Rattle.lps_printer.proofs.EmptyLists.{filled_terms_are_writable}
use Rattle.lps_printer.proofs.laws.filled_terms_are_writable.Goals as goal

pub returns : goal.returns
returns c = filled_terms_are_writable
