use Rattle.lps_sumelm.proofs.Equalities.{found_tells, not_found}
use Rattle.lps_sumelm.proofs.solutions.is_equality_over.Goals as goal

pub returns-in-Some : goal.returns-in-Some
returns-in-Some c = found_tells c.args.sig.now c.signature_stands.ensures c.args.fun c.in-Some.found c.args.sort c.requires.fun c.requires.sort c.in-Some.ensures

pub returns-in-None : goal.returns-in-None
returns-in-None c = absurd (not_found c.args.sig.now c.signature_stands.ensures c.args.sort c.requires.sort c.in-None.ensures)
