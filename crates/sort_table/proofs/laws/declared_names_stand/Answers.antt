use Rattle.sort_table.proofs.StandingNames.{declared_names_stand}
use Rattle.sort_table.proofs.laws.declared_names_stand.Goals as goal

pub returns : goal.returns
returns c = declared_names_stand
