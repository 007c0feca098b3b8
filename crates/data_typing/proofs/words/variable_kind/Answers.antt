use Rattle.std.proofs.Common.{refl}
use Rattle.data_typing.proofs.WordLemmas.{variable_means, variable_with_arguments_means}
use Rattle.data_typing.proofs.words.variable_kind.Goals as goal

pub returns-then-alone-clause-means : goal.returns-then-alone-clause-means
returns-then-alone-clause-means c = λ y ts h. variable_means y c.args.bound c.args.alone c.if-alone.true ts h
