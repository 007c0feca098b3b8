use Rattle.std.proofs.lemmas.List.Sorted.{IsNonDecreasingBy-from_sort}
use Rattle.data_theory.specs.declared.ids.NameId.{NameId}
use Rattle.action_filters.proofs.indexes.in_order.Goals as goal

pub returns-clause-sorted : goal.returns-clause-sorted
returns-clause-sorted c = IsNonDecreasingBy-from_sort (λ (n : NameId). n.0) _ c.sort_unstable.ensures.sorted
