use Rattle.std.proofs.Common.{[], Err, refl, ap}
use Rattle.mcrl2_parser.specs.TermTexts.{of_reading}
use Rattle.mcrl2_parser.proofs.ReadableTexts.{syntax_given, memory_given}
use Rattle.mcrl2_parser.proofs.TermTexts.{data_readable, data_read, by_data, differs}
use Rattle.mcrl2_parser.proofs.LabelLines.{given_fault}
use Rattle.mcrl2_parser.proofs.term_text.parse_data.Goals as goal

pub returns-in_err-tokens-clause-not_a_term : goal.returns-in_err-tokens-clause-not_a_term
returns-in_err-tokens-clause-not_a_term c = λ n d is.
    let fault = syntax_given of_reading differs c.in_err-tokens.field-0.0 (given_fault c.from_residual.result c.from_residual.ensures.1 n) in
    c.in_err-tokens.ensures.syntax (ap Err fault) is.tokens (data_readable is)

pub returns-in_err-tree-clause-not_a_term : goal.returns-in_err-tree-clause-not_a_term
returns-in_err-tree-clause-not_a_term c = λ n d is.
    memory_given of_reading differs (c.in_err-tree.ensures.only d [] (data_read c.in_ok-tokens.ensures.found.has_tokens c.list.ensures.list is) tt)
    (given_fault c.from_residual-in_err-tree.result c.from_residual-in_err-tree.ensures.1 n)

pub returns-in_err-end-clause-not_a_term : goal.returns-in_err-end-clause-not_a_term
returns-in_err-end-clause-not_a_term c = λ n d is. c.in_err-end.ensures.none refl (c.in_ok-tree.ensures.only d [] (data_read c.in_ok-tokens.ensures.found.has_tokens c.list.ensures.list is) tt).1

pub returns-clause-found : goal.returns-clause-found
returns-clause-found c = by_data c.in_ok-tokens.ensures.found c.list.ensures.list c.in_ok-tree.ensures.found c.in_ok-end.ensures.found

pub returns-clause-single : goal.returns-clause-single
returns-clause-single c = λ d is. (c.in_ok-tree.ensures.only d [] (data_read c.in_ok-tokens.ensures.found.has_tokens c.list.ensures.list is) tt).0
