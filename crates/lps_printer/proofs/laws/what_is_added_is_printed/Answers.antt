use Rattle.lps_printer.proofs.DeclaredAdditions.{what_is_added_is_printed, empty_lists_are_added}
use Rattle.lps_printer.proofs.NamedAdditions.{what_is_added_is_named}
use Rattle.lps_printer.proofs.laws.what_is_added_is_printed.Goals as goal

pub returns-clause-printed : goal.returns-clause-printed
returns-clause-printed c = what_is_added_is_printed

pub returns-clause-empty_lists : goal.returns-clause-empty_lists
returns-clause-empty_lists c = empty_lists_are_added

pub returns-clause-named : goal.returns-clause-named
returns-clause-named c = what_is_added_is_named
