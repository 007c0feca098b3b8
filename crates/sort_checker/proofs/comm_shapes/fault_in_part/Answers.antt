use Rattle.std.proofs.Common.{sym, ap, ◌∙◌}
use Rattle.sort_table.specs.SignatureVocabularies.{vocabulary_of}
use Rattle.sort_checker.specs.CommTrees.{fault_at}
use Rattle.sort_checker.specs.declared.stops.PartTree.{PartTree}
use Rattle.sort_checker.specs.declared.stops.StopTree.TheVariants.{At}
use Rattle.sort_checker.proofs.ActionGroups.{fault_of_rules}
use Rattle.sort_checker.proofs.comm_shapes.fault_in_part.Goals as goal

pub returns-in_ok-fit-in-Comm : goal.returns-in_ok-fit-in-Comm
returns-in_ok-fit-in-Comm c =
    fault_of_rules (vocabulary_of c.args.sig.now) c.in-Comm.rules c.in_ok-fit-in-Comm.fit c.in_ok-fit-in-Comm.ensures
    ∙ ap (λ (p : PartTree). fault_at (vocabulary_of c.args.sig.now) (At p)) (sym c.in-Comm.is)
