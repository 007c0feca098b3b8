use Rattle.std.proofs.Common.{◌∙◌, ap, ◌++◌}
use Rattle.guard_check.proofs.CallLemmas.{same_calls}
use Rattle.process_terms.specs.PlainProcesses.{plain_process}
use Rattle.guard_check.specs.CallGraphs.{plain_calls}
use Rattle.guard_check.proofs.calls.calls_of_term.Goals as goal

pub returns : goal.returns
returns c = λ g. c.in_ok-add_calls.ensures ∙ (ap (λ l. l ++ plain_calls c.args.extent (plain_process c.args.process.now)) c.new-found.ensures.items ∙ same_calls c.args.extent g (plain_process c.args.process.now))
