use Rattle.std.proofs.Common.{◌≡◌, map, take}
use Rattle.lps_core.specs.PlainLinears.{plain_next}
use Rattle.aut_check.specs.EnteredSystems.{entered_state}
use Rattle.aut_check.proofs.entering.entered_states.Given as goal

abbrev pub invariant-loop-state : goal.invariant-loop-state
invariant-loop-state l = map plain_next l.made.items ≡ map (entered_state l.ids) (map plain_next (take l.state-index l.states))
