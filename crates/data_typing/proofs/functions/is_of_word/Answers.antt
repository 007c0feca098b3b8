use Rattle.std.specs.Prelude.{slice_get}
use Rattle.data_typing.proofs.FoundRowLemmas.{of_word_tells}
use Rattle.data_typing.proofs.functions.is_of_word.Goals as goal

pub returns-else-word_place-clause-tells : goal.returns-else-word_place-clause-tells
returns-else-word_place-clause-tells c = of_word_tells (slice_get c.args.sig.now.functions c.args.fun.0) c.word_of.result c.in-Some.found c.args.word c.args.to c.word_place.result c.word_place-in-Some.result c.word_of.ensures c.in-Some.is c.word_place.ensures c.word_place-in-Some.ensures
