use Rattle.data_theory.proofs.SignatureLemmas.{taken_by_name, no_name_no_taken}
use Rattle.data_theory.proofs.signature.Signature.is_taken.Goals as goal

pub returns-in-Some : goal.returns-in-Some
returns-in-Some c = rw (← c.self.view_is) (taken_by_name c.self.inside.names c.self.inside.taken.keys c.args.text.now c.in-Some.name c.contains.result c.in-Some.ensures.different c.in-Some.ensures.found c.contains.ensures)

pub returns-in-None : goal.returns-in-None
returns-in-None c = rw (← c.self.view_is) (no_name_no_taken c.self.inside.names c.self.inside.taken.keys c.args.text.now c.in-None.ensures.found)
