use Rattle.std.proofs.Common.{◌∙◌, not, sym, ap}
use Rattle.process_terms.specs.PlainProcesses.{plain_process}
use Rattle.proc_unfold.specs.ParallelTests.{none_marked}
use Rattle.proc_unfold.proofs.LoopLemmas.{names_are, sequential_if_none, not_sequential}
use Rattle.proc_unfold.proofs.places.is_sequential.Goals as goal
use Rattle.proc_unfold.proofs.places.is_sequential.Goals.{then-not-has_parallel, else-not-has_parallel}

pub returns : goal.returns
returns c = elim c.if-not-has_parallel.branch [
  | then-not-has_parallel w ↦ w.result-is ∙ sequential_if_none c.args.marks.now (plain_process c.args.process.now) w.none_marked.result c.in_ok-names.names.items (ap not (sym c.has_parallel.ensures ∙ w.if-not-has_parallel.true)) (names_are (plain_process c.args.process.now) c.in_ok-names.names.items c.in_ok-names.ensures) (w.none_marked.ensures ∙ ap (none_marked c.args.marks.now) w.as_slice.ensures.value)
  | else-not-has_parallel w ↦ w.result-is ∙ (ap not w.if-not-has_parallel.false ∙ not_sequential c.args.marks.now (plain_process c.args.process.now) (ap not (sym c.has_parallel.ensures ∙ w.if-not-has_parallel.false)))
]
