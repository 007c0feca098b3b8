use Rattle.std.proofs.Common.{sym, subst}
use Rattle.process_terms.specs.Meanings.{label_of}
use Rattle.process_terms.specs.PlainProcesses.{plain_label}
use Rattle.process_terms.specs.SignatureEntries.{entries_of}
use Rattle.lps_core.specs.PlainLinears.{plain_linear, plain_next}
use Rattle.lps_simulator.specs.OptionsInCode.{meant_move, plain_move}
use Rattle.lps_simulator.proofs.SessionLemmas.{linear_stays, next_state_stays}
use Rattle.trace_replay.specs.DecidedConditions.{answer_of}
use Rattle.trace_replay.specs.Decidings.{Answer}
use Rattle.trace_replay.proofs.Keepings.{keeps_then, known_on}
use Rattle.aut_check.specs.Comparing.{setting, LabelsCome, PairComes}
use Rattle.aut_check.specs.PlainSystems.{meant_state, plain_edge}
use Rattle.aut_check.specs.Verdicts.{sorts_in}
use Rattle.aut_check.proofs.ClosedTerms.{label_closed}
use Rattle.aut_check.proofs.ComparedPairs.{next_settled}
use Rattle.aut_check.proofs.MoveRows.{labels_fail, pair_comes}
use Rattle.aut_check.proofs.pairs.compare_pair.Goals as goal

pub compare_labels-requires-clause-left : goal.compare_labels-requires-clause-left
compare_labels-requires-clause-left g c = label_closed c.args.sig.now c.args.pool.now.trees (plain_label c.args.step.now.label) c.requires.step.label c.requires.step.closed

pub compare_labels-requires-clause-right : goal.compare_labels-requires-clause-right
compare_labels-requires-clause-right g c = label_closed c.args.sig.now c.args.pool.now.trees (plain_label c.args.edge.now.label) c.requires.edge.1.label c.requires.edge.1.closed

pub returns-then-fails-clause-pair : goal.returns-then-fails-clause-pair
returns-then-fails-clause-pair g c = λ own h.
    labels_fail (setting c.args.sig.now own c.args.fuel) (sorts_in (setting c.args.sig.now own c.args.fuel) c.args.pool.now.trees (plain_linear c.args.lin.now)) (meant_move c.args.sig.now c.args.pool.now.trees (plain_move c.args.step.now)) (label_of (entries_of c.args.sig.now c.args.pool.now.trees) (plain_edge c.args.edge.now).label) (meant_state c.args.sig.now c.args.pool.now.trees (plain_next c.args.state.now))
    (subst (LabelsCome (setting c.args.sig.now own c.args.fuel) (label_of (entries_of c.args.sig.now c.args.pool.now.trees) (plain_label c.args.step.now.label)) (label_of (entries_of c.args.sig.now c.args.pool.now.trees) (plain_label c.args.edge.now.label))) (c.fails.ensures.0 c.if-fails.true) (c.in_ok-labels.ensures.labels own h))

pub compare_next-requires-clause-known : goal.compare_next-requires-clause-known
compare_next-requires-clause-known g c = known_on c.args.sig.now c.args.pool.now.trees c.compare_labels.new.pool.trees c.args.rewriter.now c.compare_labels.new.rewriter c.compare_labels.ensures.kept c.requires.known

pub compare_next-requires-clause-rules : goal.compare_next-requires-clause-rules
compare_next-requires-clause-rules g c = rw c.compare_labels.ensures.kept.rules c.requires.rules

pub compare_next-requires-clause-lin : goal.compare_next-requires-clause-lin
compare_next-requires-clause-lin g c = linear_stays c.args.sig.now c.signature_stands.ensures c.args.pool.now.trees c.compare_labels.new.pool.trees (plain_linear c.args.lin.now) c.compare_labels.ensures.kept.pool c.requires.lin

pub compare_next-requires-clause-next : goal.compare_next-requires-clause-next
compare_next-requires-clause-next g c = next_state_stays c.args.sig.now c.args.pool.now.trees c.compare_labels.new.pool.trees c.args.lin.now.params.items (plain_next c.args.step.now.next) c.compare_labels.ensures.kept.pool c.requires.step.next

pub compare_next-requires-clause-state : goal.compare_next-requires-clause-state
compare_next-requires-clause-state g c = next_state_stays c.args.sig.now c.args.pool.now.trees c.compare_labels.new.pool.trees c.args.lin.now.params.items (plain_next c.args.state.now) c.compare_labels.ensures.kept.pool c.requires.state

pub returns-in_err-next-clause-kept : goal.returns-in_err-next-clause-kept
returns-in_err-next-clause-kept g c = keeps_then c.args.sig.now c.args.pool.now.trees c.compare_labels.new.pool.trees c.compare_next.new.pool.trees c.args.rewriter.now c.compare_labels.new.rewriter c.compare_next.new.rewriter c.compare_labels.ensures.kept c.compare_next.ensures.kept

pub returns-clause-kept : goal.returns-clause-kept
returns-clause-kept g c = keeps_then c.args.sig.now c.args.pool.now.trees c.compare_labels.new.pool.trees c.compare_next.new.pool.trees c.args.rewriter.now c.compare_labels.new.rewriter c.compare_next.new.rewriter c.compare_labels.ensures.kept c.compare_next.ensures.kept

pub returns-clause-pair : goal.returns-clause-pair
returns-clause-pair g c = λ own h.
    let s = (setting c.args.sig.now own c.args.fuel) in
    let ss = sorts_in s c.args.pool.now.trees (plain_linear c.args.lin.now) in
    let m = meant_move c.args.sig.now c.args.pool.now.trees (plain_move c.args.step.now) in
    let n = label_of (entries_of c.args.sig.now c.args.pool.now.trees) (plain_edge c.args.edge.now).label in
    let o = meant_state c.args.sig.now c.args.pool.now.trees (plain_next c.args.state.now) in
    subst (λ (z : Answer). PairComes s ss m n o z) (sym c.both.ensures)
    (pair_comes s ss m n o (answer_of c.in_ok-labels.labels) (answer_of c.in_ok-next.next) (c.in_ok-labels.ensures.labels own h)
    (next_settled c.args.sig.now c.signature_stands.ensures own c.args.fuel c.args.pool.now.trees c.compare_labels.new.pool.trees c.compare_labels.ensures.kept.pool (plain_linear c.args.lin.now) c.requires.lin (plain_next c.args.step.now.next) (plain_next c.args.state.now) c.requires.step.next c.requires.state (answer_of c.in_ok-next.next)
    (c.in_ok-next.ensures.next own (c.compare_labels.ensures.kept.fits own h))))
