use Rattle.data_theory.proofs.EnvironmentLemmas.{applications_have_sorts, putting_in_keeps_sorts}
use Rattle.data_theory.proofs.environments.putting_in_keeps_sorts.Goals as goal

pub returns : goal.returns
returns c = record { application = applications_have_sorts; term = putting_in_keeps_sorts }
