use Rattle.std.proofs.Common.{sym, subst}
use Rattle.data_typing.proofs.WithinLemmas.{IsSortWithin, flat_there, flat_back}
use Rattle.data_typing.proofs.steps.list_over.Goals as goal

pub returns-clause-within : goal.returns-clause-within
returns-clause-within c = λ n h. flat_back n c.in_ok-list.list (subst (IsSortWithin n) (sym c.in_ok-list.ensures) (flat_there n c.args.element h))
