use Rattle.std.proofs.Common.{◌≡◌, None, take}
use Rattle.sort_checker.specs.RenamedTrees.{rename_fault_from}
use Rattle.sort_checker.specs.ScopedTrees.{scoped_items}
use Rattle.sort_checker.proofs.renamings.first_renamed.Given as goal

abbrev pub invariant-loop-declaration : goal.invariant-loop-declaration
invariant-loop-declaration l = record {
  counted : l.number ≡ l.declaration-index;
  none : rename_fault_from 1 (scoped_items (take l.declaration-index l.declarations)) ≡ None;
}
