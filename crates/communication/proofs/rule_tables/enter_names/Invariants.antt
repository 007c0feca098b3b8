use Rattle.std.proofs.Common.{take}
use Rattle.communication.specs.RuleTables.{AreEntered}
use Rattle.communication.proofs.rule_tables.enter_names.Given as goal

abbrev pub invariant-loop-name : goal.invariant-loop-name
invariant-loop-name l = AreEntered (take l.name-index l.names) l.place l.fn.places.entries l.places.entries
