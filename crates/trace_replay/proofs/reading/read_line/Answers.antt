use Rattle.std.proofs.Common.{◌≡◌, true, refl}
use Rattle.sort_checker.proofs.Adding.{goes_nowhere}
use Rattle.trace_replay.proofs.ReadLemmas.{not_good}
use Rattle.trace_replay.proofs.reading.read_line.Goals as goal

pub returns-in_err-is_blank-clause-kept : goal.returns-in_err-is_blank-clause-kept
returns-in_err-is_blank-clause-kept c = goes_nowhere c.args.sig.now c.args.pool.now

pub returns-then-branch-clause-kept : goal.returns-then-branch-clause-kept
returns-then-branch-clause-kept c = goes_nowhere c.args.sig.now c.args.pool.now

pub returns-in-Err-NotALabel-clause-fault : goal.returns-in-Err-NotALabel-clause-fault
returns-in-Err-NotALabel-clause-fault c = (
  refl,
  not_good c.args.sig.now c.args.line.now (λ blank. let yes : c.in_ok-is_blank.field-0 ≡ true = c.in_ok-is_blank.ensures.1 blank in cc (yes, c.if-branch.false)) (c.in-Err-NotALabel.ensures.not_a_label (cc)),
)
