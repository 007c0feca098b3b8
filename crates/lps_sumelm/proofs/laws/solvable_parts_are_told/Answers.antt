use Rattle.lps_sumelm.proofs.SolvableParts.{given_is_solvable, gives_nothing}
use Rattle.lps_sumelm.proofs.laws.solvable_parts_are_told.Goals as goal

pub returns : goal.returns
returns c = record { given = given_is_solvable; nothing = gives_nothing }
