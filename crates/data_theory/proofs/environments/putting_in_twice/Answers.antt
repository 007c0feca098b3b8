use Rattle.data_theory.proofs.EnvironmentLemmas.{putting_in_twice, arguments_put_in_first, arguments_put_in_behind_sums}
use Rattle.data_theory.proofs.environments.putting_in_twice.Goals as goal

pub returns : goal.returns
returns c = record { once = putting_in_twice; arguments = arguments_put_in_first; behind_sums = arguments_put_in_behind_sums }
