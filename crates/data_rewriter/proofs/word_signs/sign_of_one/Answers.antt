use Rattle.data_rewriter.proofs.WordSigns.{other_of_one_word}
use Rattle.data_rewriter.proofs.word_signs.sign_of_one.Goals as goal

pub returns-in_default : goal.returns-in_default
returns-in_default c = other_of_one_word c.args.sig.now c.args.word c.args.from c.args.to c.in_default.not-Not c.in_default.not-Number c.in_default.not-List
