use Rattle.std.proofs.Common.{◌∙◌, sym, ap, subst}
use Rattle.std.specs.List.{Contains}
use Rattle.process_terms.specs.PlainProcesses.{plain_process}
use Rattle.guard_check.specs.declared.calls.Extent.TheVariants.{Everywhere}
use Rattle.guard_check.specs.CallGraphs.{plain_calls}
use Rattle.proc_unfold.proofs.ProcessSteps.{call_step}
use Rattle.proc_unfold.proofs.opening.Opening.entered_once.Goals as goal

pub entered_call-requires-clause-reached : goal.entered_call-requires-clause-reached
entered_call-requires-clause-reached c = λ x i. c.requires.reached x (subst (λ l. Contains l x) (sym (ap (plain_calls Everywhere) (ap plain_process c.in-Call.is ∙ call_step c.in-Call.callee c.in-Call.args))) i)
