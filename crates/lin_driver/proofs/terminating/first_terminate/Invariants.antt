use Rattle.std.proofs.Common.{◌≡◌, take}
use Rattle.bisim_laws.specs.Terminations.{terminate_name}
use Rattle.sort_table.specs.DeclarationTrees.{declarations_under}
use Rattle.lin_driver.specs.Headline.{DeclareNoAction}
use Rattle.lin_driver.proofs.terminating.first_terminate.Given as goal

abbrev pub invariant-loop-declaration : goal.invariant-loop-declaration
invariant-loop-declaration l = record {
  counted : l.number ≡ l.declaration-index;
  others : DeclareNoAction terminate_name (declarations_under (take l.declaration-index l.declarations));
}
