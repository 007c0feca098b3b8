use Rattle.std.proofs.lemmas.Result.{IfOk-weaker}
use Rattle.data_typing.specs.FlatSorts.{place_of}
use Rattle.data_typing.proofs.WithinLemmas.{read_off_within}
use Rattle.data_typing.proofs.steps.any_by_result.Goals as goal

pub returns-in-Some-clause-within : goal.returns-in-Some-clause-within
returns-in-Some-clause-within c =
    IfOk-weaker c.any_expansion.result _ _ (λ o k n m h s. k n m h (read_off_within n c.args.sort (place_of c.args.any.now.result) c.read_off.result c.read_off.ensures c.in-Some.over c.in-Some.is s)) c.any_expansion.ensures.within
