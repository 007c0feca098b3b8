use Rattle.summand_expander.proofs.AllowedStays.{allowed_fits_still, scopes_stay}
use Rattle.summand_expander.proofs.laws.what_is_allowed_stays.Goals as goal

pub returns-clause-scopes : goal.returns-clause-scopes
returns-clause-scopes c = scopes_stay

pub returns-clause-fits : goal.returns-clause-fits
returns-clause-fits c = allowed_fits_still
