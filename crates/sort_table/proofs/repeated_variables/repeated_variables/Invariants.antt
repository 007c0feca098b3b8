use Rattle.std.proofs.Common.{◌≡◌}
use Rattle.sort_table.specs.DeclarationTrees.{declarations_under}
use Rattle.sort_table.proofs.TwiceLemmas.{NoneTwiceBelow}
use Rattle.sort_table.proofs.repeated_variables.repeated_variables.Given as goal

abbrev pub invariant-loop-declaration : goal.invariant-loop-declaration
invariant-loop-declaration l = record {
  counted : l.number ≡ l.declaration-index;
  none : NoneTwiceBelow (declarations_under l.declarations) l.declaration-index;
}
