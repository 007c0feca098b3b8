use Rattle.std.proofs.Common.{List, ap, ◌∙◌}
use Rattle.std.specs.List.{flat_map}
use Rattle.sort_table.specs.BareProcesses.{bare_process}
use Rattle.mcrl2_syntax.specs.ProcessTrees.{plain_process}
use Rattle.sort_table.specs.SignatureVocabularies.{vocabulary_of}
use Rattle.sort_checker.specs.declared.stops.StopTree.{StopTree}
use Rattle.sort_checker.specs.Stops.{Stop, operators_by}
use Rattle.sort_checker.specs.CommTrees.{fault_among, fault_along}
use Rattle.sort_checker.proofs.Firsts.{ok_then}
use Rattle.sort_checker.proofs.StopParts.{operators_along}
use Rattle.sort_checker.proofs.comm_shapes.fault_in_process.Goals as goal

pub returns : goal.returns
returns c =
    ok_then c.fault_along.result c.fault_along.ensures
    (λ found h. h ∙ (ap (λ (ss : List StopTree). fault_along (vocabulary_of c.args.sig.now) ss) c.as_slice.ensures.value
    ∙ (ap (λ (ss : List Stop). fault_among (vocabulary_of c.args.sig.now) (flat_map operators_by ss)) c.in_ok-list.ensures.stops
    ∙ ap (fault_among (vocabulary_of c.args.sig.now)) (operators_along (bare_process (plain_process c.args.process.now))))))
