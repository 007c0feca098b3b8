use Rattle.process_terms.proofs.MeaningLemmas.{labels_are_settled, processes_are_settled, definitions_are_settled, models_are_settled, components_are_settled}
use Rattle.process_terms.proofs.meanings.meanings_are_settled.Goals as goal

pub returns : goal.returns
returns c = record { labels = labels_are_settled; processes = processes_are_settled; definitions = definitions_are_settled; models = models_are_settled; components = components_are_settled }
