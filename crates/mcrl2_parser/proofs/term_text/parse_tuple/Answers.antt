use Rattle.std.proofs.Common.{[], Err, refl, ap}
use Rattle.mcrl2_parser.specs.TermTexts.{of_reading}
use Rattle.mcrl2_parser.proofs.ReadableTexts.{syntax_given, memory_given}
use Rattle.mcrl2_parser.proofs.TermTexts.{tuple_readable, tuple_read, by_tuple, differs}
use Rattle.mcrl2_parser.proofs.LabelLines.{given_fault}
use Rattle.mcrl2_parser.proofs.term_text.parse_tuple.Goals as goal

pub returns-in_err-tokens-clause-not_a_term : goal.returns-in_err-tokens-clause-not_a_term
returns-in_err-tokens-clause-not_a_term c = λ n ds is.
    let fault = syntax_given of_reading differs c.in_err-tokens.field-0.0 (given_fault c.from_residual.result c.from_residual.ensures.1 n) in
    c.in_err-tokens.ensures.syntax (ap Err fault) is.tokens (tuple_readable is)

pub returns-in_err-trees-clause-not_a_term : goal.returns-in_err-trees-clause-not_a_term
returns-in_err-trees-clause-not_a_term c = λ n ds is.
    memory_given of_reading differs (c.in_err-trees.ensures.only ds [] (tuple_read c.in_ok-tokens.ensures.found.has_tokens c.list.ensures.list is))
    (given_fault c.from_residual-in_err-trees.result c.from_residual-in_err-trees.ensures.1 n)

pub returns-in_err-end-clause-not_a_term : goal.returns-in_err-end-clause-not_a_term
returns-in_err-end-clause-not_a_term c = λ n ds is. c.in_err-end.ensures.none refl (c.in_ok-trees.ensures.only ds [] (tuple_read c.in_ok-tokens.ensures.found.has_tokens c.list.ensures.list is)).1

pub returns-clause-found : goal.returns-clause-found
returns-clause-found c = by_tuple c.in_ok-tokens.ensures.found c.list.ensures.list c.in_ok-trees.ensures.found c.in_ok-end.ensures.found

pub returns-clause-single : goal.returns-clause-single
returns-clause-single c = λ ds is. (c.in_ok-trees.ensures.only ds [] (tuple_read c.in_ok-tokens.ensures.found.has_tokens c.list.ensures.list is)).0
