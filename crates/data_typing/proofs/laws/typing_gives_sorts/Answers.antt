use Rattle.data_typing.proofs.MeaningSorts.{inferred_terms_have_their_sorts, checked_terms_have_the_sort}
use Rattle.data_typing.proofs.laws.typing_gives_sorts.Goals as goal

pub returns-clause-inferred : goal.returns-clause-inferred
returns-clause-inferred c = inferred_terms_have_their_sorts

pub returns-clause-checked : goal.returns-clause-checked
returns-clause-checked c = checked_terms_have_the_sort
