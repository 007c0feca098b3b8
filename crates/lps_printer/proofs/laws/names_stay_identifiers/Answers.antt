use Rattle.lps_printer.proofs.GrownIdentifiers.{declared_still, names_still, written_sorts_read}
use Rattle.lps_printer.proofs.laws.names_stay_identifiers.Goals as goal

pub returns-clause-stay : goal.returns-clause-stay
returns-clause-stay c = names_still

pub returns-clause-declared : goal.returns-clause-declared
returns-clause-declared c = declared_still

pub returns-clause-sorts : goal.returns-clause-sorts
returns-clause-sorts c = written_sorts_read
