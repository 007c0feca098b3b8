use Rattle.data_theory.proofs.EnvironmentLemmas.{front_is_read, front_is_skipped, middle_is_skipped, unbound_stay}
use Rattle.data_theory.proofs.environments.joined_environments.Goals as goal

pub returns : goal.returns
returns c = record { front = front_is_read; behind = front_is_skipped; around = middle_is_skipped; unbound = unbound_stay }
