use Rattle.data_rewriter.proofs.WordSigns.{other_of_two_words}
use Rattle.data_rewriter.proofs.word_signs.sign_of_two.Goals as goal

pub returns-in_default : goal.returns-in_default
returns-in_default c = other_of_two_words c.args.sig.now c.args.word c.args.left c.args.right c.args.to c.in_default.not-And c.in_default.not-Or c.in_default.not-Implies c.in_default.not-Equal c.in_default.not-Different c.in_default.not-Less c.in_default.not-AtMost c.in_default.not-Greater c.in_default.not-AtLeast c.in_default.not-Number c.in_default.not-List c.requires.row
