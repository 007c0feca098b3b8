use Rattle.process_terms.specs.PlainProcesses.{plain_model, plain_process}
use Rattle.proc_unfold.proofs.OpeningLemmas.{term_opens}
use Rattle.proc_unfold.proofs.opening.Opening.kept.Goals as goal

pub returns-clause-opens : goal.returns-clause-opens
returns-clause-opens c = term_opens (plain_model c.args.self.now.model.now) c.args.self.now.found.now _ c.args.by.now (plain_process c.args.process.now) _ c.requires.sequential c.in_ok-put_in.ensures.put
