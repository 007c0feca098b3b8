use Rattle.process_terms.proofs.EntryLemmas.{pools_add_entries, signatures_add_entries}
use Rattle.process_terms.proofs.meanings.growth_adds_entries.Goals as goal

pub returns : goal.returns
returns c = record { pools = pools_add_entries; signatures = signatures_add_entries }
