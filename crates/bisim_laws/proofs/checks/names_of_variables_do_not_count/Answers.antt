use Rattle.bisim_laws.proofs.NamesOfVariables.{parameters_free, sums_free}
use Rattle.bisim_laws.proofs.checks.names_of_variables_do_not_count.Goals as goal

pub returns : goal.returns
returns c = record { parameters = parameters_free; sums = sums_free }
