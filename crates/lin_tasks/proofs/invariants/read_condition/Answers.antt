use Rattle.std.proofs.Common.{Err, [], ap, sym, subst}
use Rattle.data_theory.specs.Table.{bool_sort}
use Rattle.mcrl2_parser.specs.declared.term_text.TermFault.{TermFault}
use Rattle.mcrl2_parser.specs.declared.term_text.TermFault.TheVariants.{NotATerm}
use Rattle.mcrl2_syntax.specs.DataTrees.{plain_data, PlainData}
use Rattle.sort_checker.specs.TypedData.{IsTypedData}
use Rattle.trace_replay.proofs.DataWords.{data_are_of_words}
use Rattle.lin_tasks.proofs.JudgedAnswers.{fault_is}
use Rattle.lin_tasks.proofs.invariants.read_condition.Goals as goal

pub returns-in_err-tree-clause-not_a_term : goal.returns-in_err-tree-clause-not_a_term
returns-in_err-tree-clause-not_a_term c = λ is t s. c.in_err-tree.ensures.not_a_term (ap (λ (x : TermFault). Err x) (fault_is c.from_residual.result c.in_err-tree.field-0.0 NotATerm c.from_residual.ensures.1 is)) s.expression s.spelled

pub elaborate_data-requires-clause-words : goal.elaborate_data-requires-clause-words
elaborate_data-requires-clause-words c = let r = c.in_ok-tree.ensures.found in data_are_of_words c.args.condition.now (plain_data c.in_ok-tree.tree) r.tokens [] r.has_tokens r.spelled

pub returns-in_err-term-clause-not_a_term : goal.returns-in_err-term-clause-not_a_term
returns-in_err-term-clause-not_a_term c = λ is t s.
    c.in_err-term.ensures.not_a_term (ap (λ (x : TermFault). Err x) (fault_is c.from_residual-in_err-term.result c.in_err-term.field-0.0 NotATerm c.from_residual-in_err-term.ensures.1 is)) t
    (subst (λ (d : PlainData). IsTypedData c.args.sig.now c.args.params.now bool_sort d t) (sym (c.in_ok-tree.ensures.single s.expression s.spelled)) s.typed)
