use Rattle.std.proofs.Common.{subst, sym}
use Rattle.lps_core.specs.Naming.{GrowsByNames}
use Rattle.lps_core.proofs.NamedSums.{names_none}
use Rattle.lps_core.proofs.NamingLoops.{fresh_names}
use Rattle.stack_encoder.proofs.symbols.fresh_name.Goals as goal

pub returns-in_err-fresh-clause-grown : goal.returns-in_err-fresh-clause-grown
returns-in_err-fresh-clause-grown c = subst (λ z. GrowsByNames c.args.sig.now z) (sym c.in_err-fresh.ensures.unchanged) (names_none _ c.signature_stands.ensures)

pub returns-clause-grown : goal.returns-clause-grown
returns-clause-grown c = fresh_names _ _ _ _ c.signature_stands.ensures c.in_ok-fresh.ensures.fresh
