use Rattle.std.proofs.Common.{◌≡◌, ◌++◌, take}
use Rattle.std.specs.List.{flat_map}
use Rattle.lin_tasks.specs.Shown.{cut_line}
use Rattle.lin_tasks.proofs.option_texts.push_cuts.Given as goal

abbrev pub invariant-loop-summand : goal.invariant-loop-summand
invariant-loop-summand l = l.text.items ≡ l.initial.text.items ++ flat_map cut_line (take l.summand-index l.cut)
