use Rattle.std.proofs.Common.{sym, subst}
use Rattle.data_theory.specs.IdTerms.{IsGrown}
use Rattle.bisim_laws.specs.Terminations.{terminate_name}
use Rattle.lps_core.proofs.GrownSignatures.{grown_same, fresh_named, variable_grown}
use Rattle.lps_core.proofs.AddedPhase.{action_grown, action_and_name, phase_made}
use Rattle.lps_core.proofs.sealing.add_phase.Goals as goal

pub returns-in_err-act-clause-grown : goal.returns-in_err-act-clause-grown
returns-in_err-act-clause-grown c = grown_same _ _ c.in_err-act.ensures.unchanged

pub returns-in_err-name-clause-grown : goal.returns-in_err-name-clause-grown
returns-in_err-name-clause-grown c = subst (λ z. IsGrown c.args.sig.now z) (sym c.in_err-name.ensures.unchanged) (action_grown _ _ terminate_name c.new.result.items c.in_ok-act.ensures.added)

pub add_var-requires-clause-name : goal.add_var-requires-clause-name
add_var-requires-clause-name c = fresh_named _ _ _ _ c.in_ok-name.ensures.fresh

pub returns-in_err-phase-clause-grown : goal.returns-in_err-phase-clause-grown
returns-in_err-phase-clause-grown c = subst (λ z. IsGrown c.args.sig.now z) (sym c.in_err-phase.ensures.unchanged) (action_and_name _ _ _ terminate_name _ c.new.result.items _ c.in_ok-act.ensures.added c.in_ok-name.ensures.fresh)

pub returns-clause-grown : goal.returns-clause-grown
returns-clause-grown c = variable_grown _ _ _ _ (action_and_name _ _ _ terminate_name _ c.new.result.items _ c.in_ok-act.ensures.added c.in_ok-name.ensures.fresh) c.in_ok-phase.ensures.added

pub returns-clause-phase : goal.returns-clause-phase
returns-clause-phase c = phase_made _ _ _ _ c.new.result.items _ _ _ c.in_ok-act.ensures.added c.new.ensures.items c.in_ok-name.ensures.fresh c.in_ok-phase.ensures.added c.in_ok-act.ensures.number c.in_ok-phase.ensures.number
