use Rattle.lps_printer.proofs.NilsAmong.{listed_nils_are_those, what_is_met_is_found}
use Rattle.lps_printer.proofs.laws.needed_constants_are_found.Goals as goal

pub returns-clause-listed : goal.returns-clause-listed
returns-clause-listed c = listed_nils_are_those

pub returns-clause-found : goal.returns-clause-found
returns-clause-found c = what_is_met_is_found
