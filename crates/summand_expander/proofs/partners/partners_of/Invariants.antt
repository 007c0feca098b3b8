use Rattle.std.proofs.Common.{map, take}
use Rattle.std.specs.List.{All}
use Rattle.summand_expander.specs.Drafts.{plain_move}
use Rattle.summand_expander.specs.Nearby.{IsPartnerOf}
use Rattle.summand_expander.specs.PlainAllowed.{plain_allowed}
use Rattle.summand_expander.proofs.partners.partners_of.Given as goal

abbrev pub invariant-loop-step : goal.invariant-loop-step
invariant-loop-step l = All (IsPartnerOf l.sig (plain_allowed l.allowed) l.found.keys) (map plain_move (take l.step-index l.step-items))
