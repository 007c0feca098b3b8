use Rattle.std.proofs.Common.{sym, ◌∙◌}
use Rattle.sort_table.specs.SignatureVocabularies.{vocabulary_of}
use Rattle.sort_checker.specs.CommTrees.{fault_at}
use Rattle.sort_checker.proofs.NameLists.{one_any, none_any, none_at_all}
use Rattle.sort_checker.proofs.ActionGroups.{fault_by_stops}
use Rattle.sort_checker.proofs.comm_shapes.fault_along.Goals as goal

pub returns-then-branch : goal.returns-then-branch
returns-then-branch c =
    sym (fault_by_stops (vocabulary_of c.args.sig.now) c.args.stops.now ∙ one_any (fault_at (vocabulary_of c.args.sig.now)) c.args.stops.now c.loop-stop.stop-index c.stop-item.result c.loop-stop-test.true c.stop-item.is (sym c.in_ok-fault_at.ensures ∙ c.if-branch.true))

pub loop-stop-preserved : goal.loop-stop-preserved
loop-stop-preserved c = none_any (fault_at (vocabulary_of c.args.sig.now)) c.args.stops.now c.loop-stop.stop-index c.stop-item.result c.loop-stop-test.true c.stop-item.is c.loop-stop.invariant (sym c.in_ok-fault_at.ensures ∙ c.if-branch.false)

pub returns : goal.returns
returns c = sym (fault_by_stops (vocabulary_of c.args.sig.now) c.args.stops.now ∙ none_at_all (fault_at (vocabulary_of c.args.sig.now)) c.args.stops.now c.loop-stop.stop-index c.loop-stop-test.false c.loop-stop.invariant)
