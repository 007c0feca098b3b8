use Rattle.std.proofs.Common.{◌≡◌, ◌++◌, take}
use Rattle.std.specs.List.{flat_map}
use Rattle.lin_tasks.specs.Shown.{open_line}
use Rattle.lin_tasks.proofs.option_texts.push_undecided.Given as goal

abbrev pub invariant-loop-entry : goal.invariant-loop-entry
invariant-loop-entry l = l.text.items ≡ l.initial.text.items ++ flat_map open_line (take l.entry-index l.undecided)
