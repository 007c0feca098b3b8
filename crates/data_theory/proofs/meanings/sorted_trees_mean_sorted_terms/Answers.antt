use Rattle.data_theory.proofs.IdTermLemmas.{sorted_trees_mean_sorted_terms, sorted_trees_are_within}
use Rattle.data_theory.proofs.meanings.sorted_trees_mean_sorted_terms.Goals as goal

pub returns : goal.returns
returns c = record { sorted = sorted_trees_mean_sorted_terms; within = sorted_trees_are_within }
