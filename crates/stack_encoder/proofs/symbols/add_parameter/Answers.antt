use Rattle.std.proofs.Common.{sym, subst, ap}
use Rattle.lps_core.specs.Naming.{GrowsByNames}
use Rattle.lps_core.proofs.NamedSums.{names_then, names_variable}
use Rattle.lps_core.proofs.NamingLoops.{fresh_within}
use Rattle.std.proofs.Common.{length, ◌<◌}
use Rattle.stack_encoder.proofs.symbols.add_parameter.Goals as goal

pub returns-clause-added : goal.returns-clause-added
returns-clause-added c = record { name = c.in_ok-name.name; named = c.fresh_name.new.sig; fresh = c.in_ok-name.ensures.fresh; is = c.in_ok-add_var.ensures.added; number = c.in_ok-add_var.ensures.number }

pub returns-clause-grown : goal.returns-clause-grown
returns-clause-grown c =
    names_then c.args.sig.now c.fresh_name.new.sig c.add_var.new.self c.fresh_name.ensures.grown
    (subst (GrowsByNames c.fresh_name.new.sig) (sym c.in_ok-add_var.ensures.added)
    (names_variable c.fresh_name.new.sig _ c.fresh_name.ensures.grown.stands (fresh_within _ _ _ _ c.in_ok-name.ensures.fresh) (subst (λ n. c.args.sort.0 < n) (sym (ap length c.fresh_name.ensures.grown.sorts)) c.requires)))
