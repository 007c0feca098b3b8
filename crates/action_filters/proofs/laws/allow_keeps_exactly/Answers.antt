use Rattle.action_filters.proofs.AllowedExactly.{keeps_exactly}
use Rattle.action_filters.proofs.laws.allow_keeps_exactly.Goals as goal

pub returns : goal.returns
returns c = keeps_exactly
