use Rattle.lps_core.specs.PlainLinears.{plain_next}
use Rattle.trace_replay.proofs.EnteredTerms.{mapped_at}
use Rattle.aut_check.specs.EnteredSystems.{StateHasPlaces}
use Rattle.aut_check.proofs.entering.entered_states.Goals as goal

pub entered_state-requires : goal.entered_state-requires
entered_state-requires c = mapped_at (StateHasPlaces c.args.ids.now) plain_next c.args.states.now c.loop-state.state-index c.state-item.result c.loop-state-test.true c.state-item.is c.requires
