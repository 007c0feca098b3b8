use Rattle.std.proofs.Common.{◌≡◌, None, take}
use Rattle.sort_table.specs.LentTexts.{texts_of}
use Rattle.sort_checker.specs.FreeTrees.{first_free}
use Rattle.sort_checker.proofs.free_variables.free_in_data.Given as goal

abbrev pub invariant-loop-name : goal.invariant-loop-name
invariant-loop-name l = first_free l.variables l.left (texts_of (take l.name-index l.name-items)) ≡ None
