use Rattle.data_rewriter.proofs.Markings.{signed_by_word}
use Rattle.data_rewriter.proofs.function_signs.first_sign.Goals as goal

pub returns-in-Some : goal.returns-in-Some
returns-in-Some c = signed_by_word c.args.sig.now c.requires.stands c.args.fun c.word_of.result c.in-Some.word c.args_of.result.now c.sort_of.result c.sign_of_word.result c.requires.function c.word_of.ensures c.in-Some.is c.args_of.ensures c.sort_of.ensures c.sign_of_word.ensures
