use Rattle.std.proofs.Common.{◌≡◌, ◌≤◌, ◌+◌, ◌*◌, map, take, false}
use Rattle.std.specs.List.{list_any}
use Rattle.process_terms.specs.PlainProcesses.{plain_rule}
use Rattle.summand_expander.specs.Completions.{completes_behind, members, opens_behind, plain_completion}
use Rattle.summand_expander.specs.PlainAllowed.{joinings}
use Rattle.summand_expander.proofs.completing.+completes.Given as goal

abbrev pub decreases-completes_behind : goal.decreases-completes_behind
decreases-completes_behind l = 4 * members (plain_completion l.state) + 3

abbrev pub decreases-next_opened : goal.decreases-next_opened
decreases-next_opened l = 4 * members (plain_completion l.state.now) + 2

abbrev pub decreases-some_opens_behind : goal.decreases-some_opens_behind
decreases-some_opens_behind l = 4 * members (plain_completion l.state.now) + 1

abbrev pub decreases-opens_behind : goal.decreases-opens_behind
decreases-opens_behind l = 4 * members (plain_completion l.state.now)

abbrev pub invariant-some_opens_behind-loop-rule : goal.invariant-some_opens_behind-loop-rule
invariant-some_opens_behind-loop-rule l = list_any (opens_behind (joinings (map plain_rule l.rules)) (plain_completion l.state)) (joinings (map plain_rule (take l.rule-index l.candidates))) ≡ false

abbrev pub invariant-completes_behind-loop-state : goal.invariant-completes_behind-loop-state
invariant-completes_behind-loop-state l =
    (completes_behind (joinings (map plain_rule l.rules)) (plain_completion l.state) ≡ completes_behind (joinings (map plain_rule l.rules)) (plain_completion l.fn.state)) × (members (plain_completion l.state) ≤ members (plain_completion l.fn.state))

abbrev pub decreases-completes_behind-loop-state : goal.decreases-completes_behind-loop-state
decreases-completes_behind-loop-state l = members (plain_completion l.state)
