use Rattle.communication.proofs.MeantPlans.{ways_serve, plans_mean_ways}
use Rattle.communication.proofs.laws.plans_mean_ways.Goals as goal

pub returns : goal.returns
returns c = record { serve = ways_serve; means = plans_mean_ways }
