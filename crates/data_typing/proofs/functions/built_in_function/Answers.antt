use Rattle.std.proofs.Common.{sym, ◌∙◌}
use Rattle.data_typing.proofs.FoundRowLemmas.{row_found, row_told, fun_within}
use Rattle.data_typing.proofs.functions.built_in_function.Goals as goal

pub returns-in_err-fun-clause-there : goal.returns-in_err-fun-clause-there
returns-in_err-fun-clause-there c = λ f. absurd (c.in_err-fun.ensures f.stands.0 (row_found c.args.sig.now c.args.word c.args.sorts.now c.args.to f c.text.result.now c.text.ensures))

pub is_of_word-requires : goal.is_of_word-requires
is_of_word-requires c = fun_within c.args.sig.now c.text.result.now c.args.sorts.now c.in_ok-fun.fun.0 c.in_ok-fun.ensures

pub returns-then-is_of_word-clause-within : goal.returns-then-is_of_word-clause-within
returns-then-is_of_word-clause-within c = fun_within c.args.sig.now c.text.result.now c.args.sorts.now c.in_ok-fun.fun.0 c.in_ok-fun.ensures

pub returns-else-is_of_word-clause-there : goal.returns-else-is_of_word-clause-there
returns-else-is_of_word-clause-there c = λ f. sym c.if-is_of_word.false ∙ row_told c.args.sig.now c.args.word c.args.sorts.now c.args.to f c.text.result.now c.text.ensures c.in_ok-fun.fun.0 c.in_ok-fun.ensures c.is_of_word.result c.is_of_word.ensures.tells
