use Rattle.data_rewriter.proofs.WordSigns.{looks_at_bool, list_over, element_in, looks_at_list, looks_at_struct, looks_at_other}
use Rattle.data_rewriter.proofs.word_signs.looks_at.Goals as goal

pub returns-in-Bool : goal.returns-in-Bool
returns-in-Bool c = looks_at_bool c.args.sig.now c.requires.stands.table c.args.sort c.kind.result.now c.in-Bool.is c.requires.sort c.kind.ensures.kind

pub equality_of-requires-clause-sort : goal.equality_of-requires-clause-sort
equality_of-requires-clause-sort c = element_in c.args.sig.now c.requires.stands.table c.in-List.element c.args.sort (list_over c.args.sig.now c.requires.stands.table c.args.sort c.kind.result.now c.in-List.element c.in-List.is c.requires.sort c.kind.ensures.kind)

pub returns-in-List : goal.returns-in-List
returns-in-List c = looks_at_list c.args.sig.now c.requires.stands.table c.args.sort c.in-List.element c.equality_of.result (list_over c.args.sig.now c.requires.stands.table c.args.sort c.kind.result.now c.in-List.element c.in-List.is c.requires.sort c.kind.ensures.kind) c.equality_of.ensures

pub returns-in-Struct : goal.returns-in-Struct
returns-in-Struct c = looks_at_struct c.args.sig.now c.requires.stands.table c.args.sort c.kind.result.now _ c.in-Struct.is c.requires.sort c.kind.ensures.kind

pub returns-in_default : goal.returns-in_default
returns-in_default c = looks_at_other c.args.sig.now c.requires.stands.table c.args.sort c.kind.result.now c.in_default.not-Bool c.in_default.not-List c.in_default.not-Struct c.requires.sort c.kind.ensures.kind
