use Rattle.data_theory.proofs.SignatureLemmas.{as_fun}
use Rattle.data_theory.proofs.signature.Signature.fun.Goals as goal

pub returns : goal.returns
returns c = rw (← c.self.view_is) (as_fun c.self.inside.functions c.self.inside.names c.args.name.now c.args.args.now c.in_ok-name.name c.in_ok-name.ensures.different c.in_ok-name.ensures.found c.find-2.result c.find-2.ensures)
