use Rattle.data_typing.proofs.Contexts.{tables_stay, scope_stays, wanted_stays, reading_stays}
use Rattle.data_typing.proofs.laws.contexts_stay.Goals as goal

pub returns-clause-tables : goal.returns-clause-tables
returns-clause-tables c = tables_stay

pub returns-clause-scopes : goal.returns-clause-scopes
returns-clause-scopes c = scope_stays

pub returns-clause-wishes : goal.returns-clause-wishes
returns-clause-wishes c = wanted_stays

pub returns-clause-readings : goal.returns-clause-readings
returns-clause-readings c = reading_stays
