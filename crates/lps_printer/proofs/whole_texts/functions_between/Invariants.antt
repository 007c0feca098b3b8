use Rattle.std.proofs.Common.{◌≡◌, ◌≤◌, ◌-◌}
use Rattle.data_theory.specs.Structs.{numbers_from}
use Rattle.lps_printer.proofs.whole_texts.functions_between.Given as goal

abbrev pub invariant-loop-number : goal.invariant-loop-number
invariant-loop-number l = (l.functions.items ≡ numbers_from l.first (l.number - l.first)) × (l.number ≤ l.last)
