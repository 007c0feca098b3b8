use Rattle.std.proofs.Common.{◌≡◌, ◌∙◌, List, arith, length, map, sym, subst}
use Rattle.std.specs.Global.{Vec}
use Rattle.std.specs.List.{All}
use Rattle.process_terms.specs.declared.labels.Action.{Action as CodeAction}
use Rattle.process_terms.specs.Meanings.{label_of}
use Rattle.process_terms.specs.PlainProcesses.{plain_action, plain_label}
use Rattle.process_terms.specs.SignatureEntries.{entries_of}
use Rattle.trace_replay.specs.declared.deciding.Answer.{Answer as CodeAnswer}
use Rattle.trace_replay.specs.DecidedConditions.{answer_of}
use Rattle.trace_replay.proofs.Keepings.{keeps_itself}
use Rattle.aut_check.specs.Comparing.{setting, AreActionRows, IsClosedIn}
use Rattle.aut_check.specs.Matchings.{IsSquare}
use Rattle.aut_check.specs.Tables.{marked, tables_of, TableComes}
use Rattle.aut_check.proofs.ComparedLabels.{label_length, same_length, sliced}
use Rattle.aut_check.proofs.PairedTables.{are_square, labels_come, labels_differ}
use Rattle.aut_check.proofs.labels.compare_labels.Goals as goal

pub returns-then-len-clause-kept : goal.returns-then-len-clause-kept
returns-then-len-clause-kept g c = keeps_itself c.args.sig.now c.args.pool.now.trees c.args.rewriter.now

pub returns-then-len-clause-labels : goal.returns-then-len-clause-labels
returns-then-len-clause-labels g c = λ own h.
    labels_differ (setting c.args.sig.now own c.args.fuel) (label_of (entries_of c.args.sig.now c.args.pool.now.trees) (plain_label c.args.left.now)) (label_of (entries_of c.args.sig.now c.args.pool.now.trees) (plain_label c.args.right.now))
    (λ e. let same : length c.args.left.now.actions.items ≡ length c.args.right.now.actions.items = same_length c.args.sig.now c.args.pool.now.trees c.args.left.now.actions.items c.args.right.now.actions.items e in
    c.if-len.true (omega (arith, same, c.len.ensures, c.len-2.ensures, c.args.left.now.actions.ok.0, c.args.right.now.actions.ok.0)))

pub compare_each-requires-clause-actions : goal.compare_each-requires-clause-actions
compare_each-requires-clause-actions g c = subst (λ (z : List CodeAction). All (IsClosedIn c.args.sig.now c.args.pool.now.trees) (map plain_action z)) (sym c.as_slice-actions.ensures.value) c.requires.left

pub compare_each-requires-clause-others : goal.compare_each-requires-clause-others
compare_each-requires-clause-others g c = subst (λ (z : List CodeAction). All (IsClosedIn c.args.sig.now c.args.pool.now.trees) (map plain_action z)) (sym c.as_slice-others.ensures.value) c.requires.right

pub table_answer-requires : goal.table_answer-requires
table_answer-requires g c = λ open_too.
    let r = c.requires.known in
    let s = setting c.args.sig.now r.0 c.args.fuel in
    let m = label_of (entries_of c.args.sig.now c.args.pool.now.trees) (plain_label c.args.left.now) in
    let n = label_of (entries_of c.args.sig.now c.args.pool.now.trees) (plain_label c.args.right.now) in
    let same : length m ≡ length n =
    label_length c.args.sig.now c.args.pool.now.trees (plain_label c.args.left.now)
    ∙ sliced c.args.left.now.actions.items c.args.right.now.actions.items (omega (arith, c.if-len.false, c.len.ensures, c.len-2.ensures, c.args.left.now.actions.ok.0, c.args.right.now.actions.ok.0))
    ∙ sym (label_length c.args.sig.now c.args.pool.now.trees (plain_label c.args.right.now)) in
    subst (λ (z : List (Vec CodeAnswer)). IsSquare (marked open_too (tables_of z))) (sym c.as_slice.ensures.value)
    (are_square s m n (tables_of c.in_ok-rows.rows.items)
    (subst (λ (z : List CodeAction). AreActionRows s (label_of (entries_of c.args.sig.now c.args.pool.now.trees) (map plain_action z)) n (tables_of c.in_ok-rows.rows.items)) c.as_slice-actions.ensures.value
    (subst (λ (z : List CodeAction). AreActionRows s (label_of (entries_of c.args.sig.now c.args.pool.now.trees) (map plain_action c.as_slice-actions.result.now)) (label_of (entries_of c.args.sig.now c.args.pool.now.trees) (map plain_action z)) (tables_of c.in_ok-rows.rows.items)) c.as_slice-others.ensures.value (c.in_ok-rows.ensures.rows r.0 r.1)))
    same open_too)

pub returns-clause-labels : goal.returns-clause-labels
returns-clause-labels g c = λ own h.
    let s = setting c.args.sig.now own c.args.fuel in
    let m = label_of (entries_of c.args.sig.now c.args.pool.now.trees) (plain_label c.args.left.now) in
    let n = label_of (entries_of c.args.sig.now c.args.pool.now.trees) (plain_label c.args.right.now) in
    let same : length m ≡ length n =
    label_length c.args.sig.now c.args.pool.now.trees (plain_label c.args.left.now)
    ∙ sliced c.args.left.now.actions.items c.args.right.now.actions.items (omega (arith, c.if-len.false, c.len.ensures, c.len-2.ensures, c.args.left.now.actions.ok.0, c.args.right.now.actions.ok.0))
    ∙ sym (label_length c.args.sig.now c.args.pool.now.trees (plain_label c.args.right.now)) in
    labels_come s m n (tables_of c.in_ok-rows.rows.items)
    (subst (λ (z : List CodeAction). AreActionRows s (label_of (entries_of c.args.sig.now c.args.pool.now.trees) (map plain_action z)) n (tables_of c.in_ok-rows.rows.items)) c.as_slice-actions.ensures.value
    (subst (λ (z : List CodeAction). AreActionRows s (label_of (entries_of c.args.sig.now c.args.pool.now.trees) (map plain_action c.as_slice-actions.result.now)) (label_of (entries_of c.args.sig.now c.args.pool.now.trees) (map plain_action z)) (tables_of c.in_ok-rows.rows.items)) c.as_slice-others.ensures.value (c.in_ok-rows.ensures.rows own h)))
    same (answer_of c.in_ok-answer.answer) (subst (λ (z : List (Vec CodeAnswer)). TableComes (tables_of z) (answer_of c.in_ok-answer.answer)) c.as_slice.ensures.value c.in_ok-answer.ensures)
