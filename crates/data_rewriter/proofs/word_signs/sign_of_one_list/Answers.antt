use Rattle.data_rewriter.proofs.WordSigns.{sized, tailed, rtailed, headed, rheaded, other_of_one_list}
use Rattle.data_rewriter.proofs.word_signs.sign_of_one_list.Goals as goal

pub returns-in-Size : goal.returns-in-Size
returns-in-Size c = sized c.args.sig.now c.requires.stands.table c.args.word c.in-Size.is c.args.from c.args.to c.element_of.result c.element_of.ensures

pub returns-in-Tail : goal.returns-in-Tail
returns-in-Tail c = tailed c.args.sig.now c.requires.stands.table c.args.word c.in-Tail.is c.args.from c.args.to c.element_of-in-Tail.result c.element_of-in-Tail.ensures

pub returns-in-Rtail : goal.returns-in-Rtail
returns-in-Rtail c = rtailed c.args.sig.now c.requires.stands.table c.args.word c.in-Rtail.is c.args.from c.args.to c.element_of-in-Rtail.result c.element_of-in-Rtail.ensures

pub returns-in-Head : goal.returns-in-Head
returns-in-Head c = λ row. headed c.args.sig.now c.args.word c.in-Head.is c.args.from c.args.to c.requires.to

pub returns-in-Rhead : goal.returns-in-Rhead
returns-in-Rhead c = λ row. rheaded c.args.sig.now c.args.word c.in-Rhead.is c.args.from c.args.to c.requires.to

pub returns-in_default : goal.returns-in_default
returns-in_default c = other_of_one_list c.args.sig.now c.args.word c.args.from c.args.to c.in_default.not-Size c.in_default.not-Head c.in_default.not-Rhead c.in_default.not-Tail c.in_default.not-Rtail
