use Rattle.lps_printer.proofs.FreshIdentifiers.{fresh_names_are_identifiers, constant_names_are_identifiers}
use Rattle.lps_printer.proofs.laws.fresh_names_are_identifiers.Goals as goal

pub returns-clause-fresh : goal.returns-clause-fresh
returns-clause-fresh c = fresh_names_are_identifiers

pub returns-clause-constants : goal.returns-clause-constants
returns-clause-constants c = constant_names_are_identifiers
