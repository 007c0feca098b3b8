use Rattle.communication.proofs.MeantWays.{ways_mean_ways, further_groups_mean_further_groups}
use Rattle.communication.proofs.laws.ways_mean_ways.Goals as goal

pub returns : goal.returns
returns c = record { ways = ways_mean_ways; further = further_groups_mean_further_groups }
