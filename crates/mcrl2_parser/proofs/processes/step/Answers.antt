use Rattle.std.proofs.Common.{refl, ◌∙◌}
use Rattle.std.proofs.lemmas.Result.{IfOk-weaker, err_from_is_err_and}
use Rattle.mcrl2_parser.specs.ProcessReading.{step_call}
use Rattle.mcrl2_parser.proofs.Atoms.{called, acting, action_found, acting_only}
use Rattle.mcrl2_parser.proofs.processes.step.Goals as goal

pub returns-then-begins_call-clause-found : goal.returns-then-begins_call-clause-found
returns-then-begins_call-clause-found c = IfOk-weaker _ _ _ (λ x a. step_call a) c.call.ensures.found

pub returns-then-begins_call-clause-only : goal.returns-then-begins_call-clause-only
returns-then-begins_call-clause-only c = λ p r a n. c.call.ensures.only p r (called (c.if-begins_call.ensures.call refl) a n)

pub returns-in_err-action-clause-only : goal.returns-in_err-action-clause-only
returns-in_err-action-clause-only c = λ p r a n. let e = err_from_is_err_and c.from_residual.result c.from_residual.ensures.1 in
    let s = acting (c.if-begins_call.ensures.other refl) a in
    rw e.1 (e.2 ∙ c.in_err-action.ensures.only s.action r s.is n)

pub returns-clause-found : goal.returns-clause-found
returns-clause-found c = action_found c.action_at.ensures c.in_ok-action.ensures.found

pub returns-clause-only : goal.returns-clause-only
returns-clause-only c = λ p r a n. acting_only c.action_at.ensures c.in_ok-action.ensures.only (acting (c.if-begins_call.ensures.other refl) a) n
