use Rattle.data_rewriter.specs.declared.signs.Sign.TheVariants.{Empty, Other}
use Rattle.data_rewriter.proofs.WordSigns.{no_constant_of_lists, emptied, other_of_constants, other_of_list_constants}
use Rattle.data_rewriter.proofs.word_signs.sign_of_constant.Goals as goal

pub returns-in-List-clause-constant : goal.returns-in-List-clause-constant
returns-in-List-clause-constant c = no_constant_of_lists c.args.sig.now c.args.word c.in-List.field-0 c.in-List.is c.args.to (Empty c.element_of.result)

pub returns-in-List-clause-list : goal.returns-in-List-clause-list
returns-in-List-clause-list c = emptied c.args.sig.now c.requires.stands.table c.args.word c.in-List.field-0 c.in-List.is c.args.to c.element_of.result c.element_of.ensures

pub returns-in_default : goal.returns-in_default
returns-in_default c = record {
  constant = other_of_constants c.args.sig.now c.args.word c.args.to c.in_default.not-True c.in_default.not-False;
  list = other_of_list_constants c.args.sig.now c.args.word c.args.to Other c.in_default.not-List;
}
