use Rattle.std.proofs.Common.{sym, subst}
use Rattle.std.specs.Prelude.{IfOk}
use Rattle.std.specs.List.{All, Contains}
use Rattle.lps_core.specs.Fitting.{IsVariable}
use Rattle.lps_core.specs.Naming.{AreNamed}
use Rattle.greibach.proofs.StartedEquations.{renewed_stand, params_ok}
use Rattle.greibach.proofs.normal_forms.parameters.Goals as goal

pub name_all-requires-clause-variables : goal.name_all-requires-clause-variables
name_all-requires-clause-variables c = subst (All (IsVariable c.renewed.new.sig)) (sym c.as_slice.ensures.value) (renewed_stand c.args.sig.now c.requires.stands c.requires.names c.in_ok-others.ensures.renewed c.requires.variables).variables

pub returns-clause-params : goal.returns-clause-params
returns-clause-params c =
    params_ok c.name_all.result c.args.sig.now c.renewed.new.sig c.name_all.new.sig c.args.vars.now c.in_ok-others.others.items c.new-names.result.keys c.requires.stands c.requires.names c.requires.variables c.in_ok-others.ensures.renewed c.name_all.ensures.grown c.new-names.ensures.empty
    (subst (λ l. IfOk c.name_all.result (λ named. AreNamed (λ n. Contains c.new-names.result.keys n) c.renewed.new.sig l c.name_all.new.sig named.items)) c.as_slice.ensures.value c.name_all.ensures.named)
