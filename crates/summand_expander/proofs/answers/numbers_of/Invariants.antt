use Rattle.std.proofs.Common.{◌≡◌, take}
use Rattle.summand_expander.specs.Answers.{name_numbers}
use Rattle.summand_expander.proofs.answers.numbers_of.Given as goal

abbrev pub invariant-loop-name : goal.invariant-loop-name
invariant-loop-name l = l.numbers.items ≡ name_numbers (take l.name-index l.names)
