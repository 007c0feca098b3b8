use Rattle.std.proofs.Common.{List, inl, inr, ⊎_elim, refl, subst}
use Rattle.std.specs.Bool.{Decides}
use Rattle.data_theory.specs.declared.ids.TermId.{TermId}
use Rattle.eqn_check.specs.CallTables.{CallsItself}
use Rattle.eqn_check.proofs.JudgedLemmas.{not_so}
use Rattle.eqn_check.proofs.falling.calls_itself.Goals as goal

pub returns-then-has_call : goal.returns-then-has_call
returns-then-has_call c =
    let first = subst (λ (l : List TermId). Decides c.has_call.result (CallsItself c.args.pool.now.trees c.args.fun l)) c.as_slice.ensures.value c.has_call.ensures in
    ((λ e. inl (first.0 c.if-has_call.true)), (λ k. refl))

pub returns : goal.returns
returns c =
    let first = subst (λ (l : List TermId). Decides c.has_call.result (CallsItself c.args.pool.now.trees c.args.fun l)) c.as_slice.ensures.value c.has_call.ensures in
    let second = subst (λ (l : List TermId). Decides c.has_call-2.result (CallsItself c.args.pool.now.trees c.args.fun l)) c.as_slice-2.ensures.value c.has_call-2.ensures in
    ((λ e. inr (second.0 e)), (λ k. ⊎_elim (λ i. absurd (not_so c.has_call.result first c.if-has_call.false i)) (λ i. second.1 i) k))
