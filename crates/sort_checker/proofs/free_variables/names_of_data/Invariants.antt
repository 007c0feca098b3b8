use Rattle.std.proofs.Common.{◌≡◌, take}
use Rattle.sort_table.specs.Expressions.{Name}
use Rattle.sort_table.specs.LentTexts.{texts_of}
use Rattle.sort_checker.specs.NameNumbers.{has_name}
use Rattle.sort_checker.specs.Operators.{stands_in}
use Rattle.sort_checker.proofs.free_variables.names_of_data.Given as goal

abbrev pub invariant-loop-name : goal.invariant-loop-name
invariant-loop-name l = (n : Name) → has_name l.names n ≡ stands_in n (texts_of (take l.name-index l.name-items))
