use Rattle.data_theory.proofs.SameSorts.{same_sorts}
use Rattle.data_theory.proofs.sorts.provably_equal_terms_have_the_same_sort.Goals as goal

pub returns : goal.returns
returns c = same_sorts
