use Rattle.std.proofs.Common.{◌≡◌, take}
use Rattle.sort_table.specs.Domains.{sorts_code}
use Rattle.sort_table.proofs.domains.code_of.Given as goal

abbrev pub invariant-loop-sort : goal.invariant-loop-sort
invariant-loop-sort l = l.code.items ≡ sorts_code (take l.sort-index l.sorts)
