use Rattle.std.proofs.Common.{◌≡◌, None, take}
use Rattle.sort_table.specs.SignatureVocabularies.{vocabulary_of}
use Rattle.sort_checker.specs.Parts.{ScopedDeclaration}
use Rattle.sort_checker.specs.Faults.{operators_of}
use Rattle.sort_checker.specs.Refusals.{number_from}
use Rattle.sort_checker.specs.ScopedTrees.{scoped_items}
use Rattle.sort_checker.specs.CommTrees.{fault_among}
use Rattle.sort_checker.proofs.comm_shapes.comm_shape.Given as goal

abbrev pub invariant-loop-declaration : goal.invariant-loop-declaration
invariant-loop-declaration l = record {
  counted : l.number ≡ l.declaration-index;
  none : number_from (λ (d : ScopedDeclaration). fault_among (vocabulary_of l.sig) (operators_of d.declaration)) 1 (scoped_items (take l.declaration-index l.declaration-items)) ≡ None;
}
