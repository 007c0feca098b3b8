use Rattle.std.proofs.Common.{◌≡◌, map, take}
use Rattle.trace_replay.specs.Entering.{number_in}
use Rattle.trace_replay.proofs.entering.numbers_in.Given as goal

abbrev pub invariant-loop-term : goal.invariant-loop-term
invariant-loop-term l = l.numbers.items ≡ map (number_in l.ids) (take l.term-index l.terms)
