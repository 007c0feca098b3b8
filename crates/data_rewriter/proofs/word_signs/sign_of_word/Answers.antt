use Rattle.data_rewriter.proofs.WordSigns.{if_of_more}
use Rattle.data_rewriter.proofs.word_signs.sign_of_word.Goals as goal

pub returns : goal.returns
returns c = λ r row is. if_of_more c.args.sig.now r c.args.word c.args.args.now c.args.to is c.if-args-eq0.false c.if-args-eq1.false c.if-args-eq2.false row
