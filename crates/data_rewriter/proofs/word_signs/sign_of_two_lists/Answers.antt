use Rattle.data_rewriter.proofs.WordSigns.{snoc_list, linked, put_last, joined, placed, inside, other_of_two_lists}
use Rattle.data_rewriter.proofs.word_signs.sign_of_two_lists.Goals as goal

pub cons_of-requires-clause-list : goal.cons_of-requires-clause-list
cons_of-requires-clause-list c = snoc_list c.args.sig.now c.requires.stands.table c.args.word c.in-Snoc.is c.args.left c.args.right c.args.to c.requires.row

pub returns-in-Cons : goal.returns-in-Cons
returns-in-Cons c = linked c.args.sig.now c.requires.stands.table c.args.word c.in-Cons.is c.args.left c.args.right c.args.to c.requires.row

pub returns-in-Snoc : goal.returns-in-Snoc
returns-in-Snoc c = put_last c.args.sig.now c.requires.stands.table c.args.word c.in-Snoc.is c.args.left c.args.right c.args.to c.cons_of.result c.requires.row c.cons_of.ensures

pub returns-in-Concat : goal.returns-in-Concat
returns-in-Concat c = joined c.args.sig.now c.requires.stands.table c.args.word c.in-Concat.is c.args.left c.args.right c.args.to c.element_of.result c.element_of.ensures c.requires.row

pub returns-in-At : goal.returns-in-At
returns-in-At c = placed c.args.sig.now c.args.word c.in-At.is c.args.left c.args.right c.args.to c.requires.to

pub returns-in-In : goal.returns-in-In
returns-in-In c = inside c.args.sig.now c.args.word c.in-In.is c.args.left c.args.right c.args.to c.equality_of.result c.requires.left c.equality_of.ensures

pub returns-in_default : goal.returns-in_default
returns-in_default c = other_of_two_lists c.args.sig.now c.args.word c.args.left c.args.right c.args.to c.in_default.not-Cons c.in_default.not-Snoc c.in_default.not-Concat c.in_default.not-At c.in_default.not-In c.requires.row
