use Rattle.lps_printer.proofs.ListedVariables.{variables_that_read_can_be_listed}
use Rattle.lps_printer.proofs.PrintedDeclarations.{printed_declarations_are_sound, what_is_added_is_declared}
use Rattle.lps_printer.proofs.laws.printed_declarations_are_sound.Goals as goal

pub returns-clause-sound : goal.returns-clause-sound
returns-clause-sound c = printed_declarations_are_sound

pub returns-clause-additions : goal.returns-clause-additions
returns-clause-additions c = what_is_added_is_declared

pub returns-clause-variables : goal.returns-clause-variables
returns-clause-variables c = variables_that_read_can_be_listed
