use Rattle.std.proofs.Common.{◌≡◌, List, length}
use Rattle.data_theory.specs.declared.ids.NameId.{NameId}
use Rattle.communication.specs.Ways.{Joining}
use Rattle.summand_expander.specs.Completions.{completes_behind, members, plain_completion}
use Rattle.summand_expander.proofs.completions.next_missing.Given as goal

abbrev pub invariant-loop-name : goal.invariant-loop-name
invariant-loop-name l = ((rules : List (Joining NameId)) → completes_behind rules (plain_completion l.state) ≡ completes_behind rules (plain_completion l.fn.state)) × (members (plain_completion l.state) ≡ members (plain_completion l.fn.state))

abbrev pub decreases-loop-name : goal.decreases-loop-name
decreases-loop-name l = length l.state.wanted.items
