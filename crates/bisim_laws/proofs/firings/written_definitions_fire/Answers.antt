use Rattle.bisim_laws.proofs.Firing.{fired_at, fire_at, table_written}
use Rattle.bisim_laws.proofs.firings.written_definitions_fire.Goals as goal

pub returns : goal.returns
returns c = record { steps = fired_at; firings = fire_at; printed = table_written }
