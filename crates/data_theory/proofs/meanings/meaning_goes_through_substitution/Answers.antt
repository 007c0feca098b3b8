use Rattle.data_theory.proofs.IdTermLemmas.{merging_trees_merges_terms, putting_in_trees_puts_in_terms}
use Rattle.data_theory.proofs.meanings.meaning_goes_through_substitution.Goals as goal

pub returns : goal.returns
returns c = record { merging = merging_trees_merges_terms; putting_in = putting_in_trees_puts_in_terms }
