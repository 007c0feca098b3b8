use Rattle.bisim_laws.proofs.Completing.{goes_to_parts, under_allow, under_allow_alone, under_comm}
use Rattle.bisim_laws.proofs.within.what_matters_below.Goals as goal

pub returns-clause-parts : goal.returns-clause-parts
returns-clause-parts c = goes_to_parts

pub returns-clause-allowed : goal.returns-clause-allowed
returns-clause-allowed c = under_allow

pub returns-clause-alone : goal.returns-clause-alone
returns-clause-alone c = under_allow_alone

pub returns-clause-comm : goal.returns-clause-comm
returns-clause-comm c = under_comm
